-- What holds of each moment that was told, after those before it.
use Rattle.std.proofs.Common.{◌≡◌, ℕ, ◌≤◌, inl, inr, List, [], ◌∷◌, ◌++◌, length, Some, slice_get, take, arith, sym, ap, subst, ◌∙◌, append-nil}
use Rattle.std.proofs.lemmas.List.{append_assoc, take-append-le}
use Rattle.std.proofs.lemmas.Option.{none-some, slice_get_within}
use Rattle.std.proofs.Math.Seq.{take-append_seam}
use Rattle.pf_entry.specs.Lists.{Every}
use Rattle.pf_world_moments.specs.pf_group_network.proofs.Lists.{at_end, at_front, end_cases}
use Rattle.pf_world_moments.specs.Moments.{Moment}

abbrev pub AreEach : (Q : (before : List Moment) → Moment → Type 0) → List Moment → Type 0
AreEach Q told = (place : ℕ) (y : Moment) → slice_get told place ≡ Some y → Q (take place told) y

module _ (Q : (before : List Moment) → Moment → Type 0) where
  pub none_told : AreEach Q []
  none_told place y at = absurd (none-some y at)

  pub one_more : (told : List Moment) (y : Moment) → AreEach Q told → Q told y → AreEach Q (told ++ y ∷ [])
  one_more told y are new place x at = elim (end_cases told y place x at) [
    | inl old ↦
        let low : place ≤ length told = omega (arith, slice_get_within told place x old) in
        subst (λ (before : List Moment). Q before x) (sym (take-append-le place told (y ∷ []) low)) (are place x old)
    | inr last ↦
        let before : take place (told ++ y ∷ []) ≡ told = ap (λ i. take i (told ++ y ∷ [])) last.0 ∙ take-append_seam told (y ∷ []) in
        subst (λ (part : List Moment). Q part x) (sym before) (subst (Q told) last.1 new)
  ]

  -- moments of which it always holds
  pub all_more : (R : Moment → Type 0) → ((before : List Moment) (y : Moment) → R y → Q before y) → (told more : List Moment) → AreEach Q told → Every R more → AreEach Q (told ++ more)
  all_more R always told [] are new = subst (AreEach Q) (sym (append-nil told)) are
  all_more R always told (y ∷ more) are new =
      subst (AreEach Q) (append_assoc told (y ∷ []) more) (all_more R always (told ++ y ∷ []) more (one_more told y are (always told y new.0)) new.1)

  -- it holds of this one
  pub each_at : (told before : List Moment) (y : Moment) (after : List Moment) → AreEach Q told → told ≡ before ++ y ∷ after → Q before y
  each_at told before y after are same =
      let front : slice_get ((before ++ y ∷ []) ++ after) (length before) ≡ Some y = at_front (before ++ y ∷ []) after (length before) y (at_end before y) in
      let there = ap (λ (all : List Moment). slice_get all (length before)) (same ∙ sym (append_assoc before (y ∷ []) after)) ∙ front in
      let part : take (length before) told ≡ before = ap (take (length before)) same ∙ take-append_seam before (y ∷ after) in
      subst (λ (first : List Moment). Q first y) part (are (length before) y there)
