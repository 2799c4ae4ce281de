-- How far a history was told of.
use Rattle.std.proofs.Common.{◌≡◌, ℕ, zero, suc, ◌≤◌, if◌then◌else◌, List, [], ◌∷◌, ◌++◌, take, Some, slice_get, arith, refl, ap, append-nil}
use Rattle.std.proofs.lemmas.List.{append_assoc}
use Rattle.std.proofs.lemmas.Option.{none-some, same_Some}
use Rattle.pf_entry.specs.Lists.{Every}
use Rattle.pf_law_movers.specs.pf_world_moments.specs.Moments.{Carries, Hands, Heard, Moment, Moves as MovesTo, Writes, Acts}
use Rattle.pf_law_movers.specs.Handing.{reach_at, reached, reached_from}
use Rattle.pf_move.specs.declared.mover.MoveNext.{MoveNext}
use Rattle.pf_law_movers.specs.Carrying.{group_asked}
use Rattle.pf_law_movers.proofs.Lives.{its_own}
use Rattle.pf_law_movers.proofs.PortTraces.{IsWithin, at_same}

module _ (k : ℕ) where
  at_moment : (before told : List Moment) (p : ℕ) (x : Moment) → slice_get told p ≡ Some x → reach_at k (before ++ take p told) x ≤ reached_from k before told
  at_moment before [] p x at = absurd (none-some x at)
  at_moment before (y ∷ told) zero x at =
      let is = ap (reach_at k before) (same_Some y x at) in
      let front = ap (λ (b : List Moment). reach_at k b x) (append-nil before) in omega (arith, is, front)
  at_moment before (y ∷ told) (suc p) x at =
      let rest = at_moment (before ++ y ∷ []) told p x at in
      let front = ap (λ (b : List Moment). reach_at k b x) (append_assoc before (y ∷ []) (take p told)) in omega (arith, rest, front)

  -- a history reaches past what a moment tells of it
  pub reaches : (told : List Moment) (p : ℕ) (x : Moment) → slice_get told p ≡ Some x → reach_at k (take p told) x ≤ reached k told
  reaches told p x at = at_moment [] told p x at

  pub hands_reach : (before : List Moment) (m place : ℕ) → reach_at k before (Hands m k place) ≡ suc place
  hands_reach before m place = its_own k k (suc place) 0 refl

  pub carried_reaches : (before : List Moment) (chunk : ℕ) (heard : Heard) (next : MoveNext) → group_asked before chunk heard.reply ≡ Some k → reach_at k before (Carries chunk (Some heard) next) ≡ heard.by
  carried_reaches before chunk heard next of = ap (λ b. if b then heard.by else 0) (at_same (group_asked before chunk heard.reply) k of)

  more_reaches : (before told more : List Moment) → reached_from k before told ≤ reached_from k before (told ++ more)
  more_reaches before [] more = omega arith
  more_reaches before (y ∷ told) more = let rest = more_reaches (before ++ y ∷ []) told more in omega (arith, rest)

  pub reached_more : (told more : List Moment) → reached k told ≤ reached k (told ++ more)
  reached_more told more = more_reaches [] told more

  -- places of a history that were told lie within what was reached
  within_one : (before : List Moment) (n : ℕ) (y : Moment) → reach_at k before y ≤ n → IsWithin k n y
  within_one before n (Hands m chunk place) low = λ same. let is = its_own chunk k (suc place) 0 same in omega (arith, low, is)
  within_one before n (Writes text) low = tt
  within_one before n (Acts who act) low = tt
  within_one before n (MovesTo moved to) low = tt
  within_one before n (Carries moved back wants) low = tt

  within_from : (before told : List Moment) (n : ℕ) → reached_from k before told ≤ n → Every (IsWithin k n) told
  within_from before [] n low = tt
  within_from before (y ∷ told) n low = (within_one before n y (omega (arith, low)), within_from (before ++ y ∷ []) told n (omega (arith, low)))

  pub all_within : (told : List Moment) (n : ℕ) → reached k told ≤ n → Every (IsWithin k n) told
  all_within told n low = within_from [] told n low
