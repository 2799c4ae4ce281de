-- One more sector of a run.
use Rattle.std.proofs.Common.{◌≡◌, ◌+◌, ◌<◌, ◌++◌, [], ◌∷◌, List, map, ℕ, ap, subst, sym, ◌∙◌, refl, arith, inl, inr}
use Rattle.std.proofs.Math.Nat.{eq-or-lt_of_le}
use Rattle.std.proofs.lemmas.List.FromFn.{map-range_with_len_more}
use Rattle.std.specs.List.{range_with_len}
use Rattle.pf_volume.specs.declared.places.Place.{Place}
use Rattle.pf_volume.specs.Volumes.{Extent, place_of}

pub one_more_place : (v : Extent) (first k : ℕ) (places : List Place) (place : Place) → places ≡ map (place_of v) (range_with_len first k) → place ≡ place_of v (first + k) → places ++ place ∷ [] ≡ map (place_of v) (range_with_len first (k + 1))
one_more_place v first k places place e p =
    ap (λ xs. xs ++ place ∷ []) e ∙ ap (λ x. map (place_of v) (range_with_len first k) ++ x ∷ []) p ∙ sym (map-range_with_len_more (place_of v) first k (first + k) refl)

pub one_more_below : (first k size : ℕ) → ((j : ℕ) → j < k → first + j < size) → first + k < size → (j : ℕ) → j < k + 1 → first + j < size
one_more_below first k size before here j low =
    elim (eq-or-lt_of_le {n = j} {m = k} (omega (arith, low))) [ inl e ↦ (let P : ℕ → Type 0 = λ n. first + n < size in subst P (sym e) here) | inr l ↦ before j l ]
