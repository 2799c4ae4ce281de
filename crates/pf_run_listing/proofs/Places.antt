-- Two elements of a list that are taken out and put back.
use Rattle.std.proofs.Common.{◌≡◌, ℕ, zero, suc, ◌+◌, ◌<◌, List, [], ◌∷◌, length, Some, refl, ap, ◌∙◌, sym, arith, add-one, slice_get, slice_set}
use Rattle.std.specs.List.{insert, remove, slice_index_or}
use Rattle.std.proofs.lemmas.List.Edits.{get_or-remove_above}
use Rattle.std.proofs.lemmas.Option.{slice_get_read}

behind : {X : Type 0} (xs : List X) (p : ℕ) (a b : X) → suc p < length xs → insert (insert (remove (remove xs p) p) p b) p a ≡ slice_set (slice_set xs p a) (suc p) b
behind [] p a b low = absurd (omega (arith, low))
behind (x ∷ []) zero a b low = absurd (omega (arith, low))
behind (x ∷ y ∷ rest) zero a b low = refl
behind (x ∷ xs) (suc p) a b low = ap (λ l. x ∷ l) (behind xs p a b (omega (arith, low)))

pub put_back : {X : Type 0} (xs : List X) (p : ℕ) (a b : X) → p + 1 < length xs → insert (insert (remove (remove xs p) p) p b) p a ≡ slice_set (slice_set xs p a) (p + 1) b
put_back xs p a b low = behind xs p a b (omega (arith, low)) ∙ ap (λ (k : ℕ). slice_set (slice_set xs p a) k b) (sym (add-one p))

pub taken_first : {X : Type 0} (xs : List X) (p : ℕ) (x : X) → p + 1 < length xs → x ≡ slice_index_or xs p x → slice_get xs p ≡ Some x
taken_first xs p x low is = slice_get_read xs (length xs) p x refl (omega (arith, low)) is

pub taken_second : {X : Type 0} (xs : List X) (p : ℕ) (x : X) → p + 1 < length xs → x ≡ slice_index_or (remove xs p) p x → slice_get xs (p + 1) ≡ Some x
taken_second xs p x low is = slice_get_read xs (length xs) (p + 1) x refl low (is ∙ get_or-remove_above xs p x p (omega arith) (omega (arith, low)))
