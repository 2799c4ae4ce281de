-- Paths that are the same, and paths below others.
use Rattle.std.proofs.Common.{◌≡◌, ◌≢◌, ◌⊎◌, inl, inr, true, false, [], ◌∷◌, ◌++◌, length, Option, Some, None, refl, sym, ap, ◌∙◌, arith}
use Rattle.std.specs.Bool.{Decides}
use Rattle.std.specs.Option.{option_map}
use Rattle.std.specs.Str.{bytes_eq}
use Rattle.std.proofs.lemmas.Bool.{cases_Bool, cond-true, cond-false, false_from_ne_true, false≢true}
use Rattle.std.proofs.lemmas.Option.{none-some, same_Some}
use Rattle.std.proofs.lemmas.Slice.Eq.{bytes_eq-Decides, slice_eq-Decides}
use Rattle.std.proofs.lemmas.List.{length-append}
use Rattle.pf_tree_tables.specs.Names.{Name, Path}
use Rattle.pf_tree.specs.Paths.{is_same, below}

pub same_decides : (p q : Path) → Decides (is_same p q) (p ≡ q)
same_decides p q = slice_eq-Decides bytes_eq-Decides p q (is_same p q) refl

pub is_same_true : (p q : Path) → p ≡ q → is_same p q ≡ true
is_same_true p q e = (same_decides p q).1 e

pub is_same_false : (p q : Path) → p ≢ q → is_same p q ≡ false
is_same_false p q apart = false_from_ne_true _ (λ e. apart ((same_decides p q).0 e))

pub cases_path : (p q : Path) → (p ≡ q) ⊎ (p ≢ q)
cases_path p q =
    elim (cases_Bool (is_same p q)) [
      | inl same ↦ inl ((same_decides p q).0 same)
      | inr apart ↦ inr (λ e. false≢true (sym apart ∙ is_same_true p q e))
    ]

pub cases_name : (n m : Name) → (n ≡ m) ⊎ (n ≢ m)
cases_name n m =
    elim (cases_Bool (bytes_eq n m)) [
      | inl same ↦ inl ((bytes_eq-Decides n m).0 same)
      | inr apart ↦ inr (λ e. false≢true (sym apart ∙ (bytes_eq-Decides n m).1 e))
    ]

longer : (n : Name) (x top : Path) → n ∷ (x ++ top) ≢ top
longer n x top e = let k = ap length e in let h = length-append x top in omega (arith, k, h)

pub below_itself : (top : Path) → below top top ≡ Some []
below_itself [] = refl
below_itself (n ∷ p) = cond-true _ _ _ (is_same_true (n ∷ p) (n ∷ p) refl)

-- what a path is below another
pub below_of : (top x : Path) → below top (x ++ top) ≡ Some x
below_of top [] = below_itself top
below_of top (n ∷ x) =
    cond-false _ _ _ (is_same_false (n ∷ (x ++ top)) top (longer n x top)) ∙ ap (option_map (λ z. n ∷ z)) (below_of top x)

mapped_is : (n : Name) (o : Option Path) (x : Path) → option_map (λ z. n ∷ z) o ≡ Some x → (y : Path) × (o ≡ Some y) × (x ≡ n ∷ y)
mapped_is n None x e = absurd (none-some x e)
mapped_is n (Some y) x e = (y, refl, sym (same_Some (n ∷ y) x e))

pub below_is : (top p x : Path) → below top p ≡ Some x → p ≡ x ++ top
below_is top [] x e =
    elim (cases_path [] top) [
      | inl same ↦ let e2 = same_Some [] x (sym (cond-true (is_same [] top) (Some []) None (is_same_true [] top same)) ∙ e) in same ∙ ap (λ z. z ++ top) e2
      | inr apart ↦ absurd (none-some x (sym (cond-false (is_same [] top) (Some []) None (is_same_false [] top apart)) ∙ e))
    ]
below_is top (n ∷ p) x e =
    elim (cases_path (n ∷ p) top) [
      | inl same ↦
          let e2 = same_Some [] x (sym (cond-true (is_same (n ∷ p) top) (Some []) (option_map (λ z. n ∷ z) (below top p)) (is_same_true _ _ same)) ∙ e) in
          same ∙ ap (λ z. z ++ top) e2
      | inr apart ↦
          let m = mapped_is n (below top p) x (sym (cond-false (is_same (n ∷ p) top) (Some []) (option_map (λ z. n ∷ z) (below top p)) (is_same_false _ _ apart)) ∙ e) in
          ap (λ z. n ∷ z) (below_is top p m.0 m.1) ∙ ap (λ z. z ++ top) (sym m.2)
    ]

-- one name further, below or not
pub below_step : (top p : Path) (n : Name) → n ∷ p ≢ top → below top (n ∷ p) ≡ option_map (λ z. n ∷ z) (below top p)
below_step top p n apart = cond-false _ _ _ (is_same_false _ _ apart)

pub below_root : (n : Name) (p : Path) → below (n ∷ p) [] ≡ None
below_root n p = refl
