-- How far the histories of groups are told of.
use Rattle.std.proofs.Common.{◌≡◌, ℕ, ◌≤◌, List, [], ◌∷◌, ◌++◌, arith, refl, sym, ◌∙◌}
use Rattle.std.proofs.lemmas.List.{append_assoc}
use Rattle.pf_law_movers.specs.pf_world_moments.specs.Moments.{Moment}
use Rattle.pf_law_movers.specs.Handing.{reach_at, reached, reached_from}
use Rattle.pf_law_movers.proofs.Each.{AreEach, each_at}

module _ (k n : ℕ) (told : List Moment) (low : AreEach (λ before y. reach_at k before y ≤ n) told) where
  from_here : (before rest : List Moment) → told ≡ before ++ rest → reached_from k before rest ≤ n
  from_here before [] same = omega arith
  from_here before (y ∷ rest) same =
      let here = each_at (λ first x. reach_at k first x ≤ n) told before y rest low same in
      let later = from_here (before ++ y ∷ []) rest (same ∙ sym (append_assoc before (y ∷ []) rest)) in
      omega (arith, here, later)

  -- no further than each moment tells
  pub reached_low : reached k told ≤ n
  reached_low = from_here [] told refl
