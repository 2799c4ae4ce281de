-- Filters of lists of halts.
use Rattle.std.proofs.Common.{◌≡◌, Bool, true, false, cond, ◌||◌, List, [], ◌∷◌, ◌++◌, filter, Option, Some, refl, sym, ap, ◌∙◌}
use Rattle.std.specs.List.{last_or, list_any}
use Rattle.pf_entry.specs.Lists.{Every}

module _ {X : Type 0} where
  pub last_or_append : (last : Option X) (xs ys : List X) → last_or last (xs ++ ys) ≡ last_or (last_or last xs) ys
  last_or_append last [] ys = refl
  last_or_append last (x ∷ xs) ys = last_or_append (Some x) xs ys

  pub filter_all : (p : X → Bool) (xs : List X) → Every (λ x. p x ≡ true) xs → filter p xs ≡ xs
  filter_all p [] all = refl
  filter_all p (x ∷ xs) all = ap (λ b. cond b (x ∷ filter p xs) (filter p xs)) all.0 ∙ ap (λ rest. x ∷ rest) (filter_all p xs all.1)

  pub filter_none : (p : X → Bool) (xs : List X) → Every (λ x. p x ≡ false) xs → filter p xs ≡ []
  filter_none p [] none = refl
  filter_none p (x ∷ xs) none = ap (λ b. cond b (x ∷ filter p xs) (filter p xs)) none.0 ∙ filter_none p xs none.1

  pub any_none : (p : X → Bool) (xs : List X) → Every (λ x. p x ≡ false) xs → list_any p xs ≡ false
  any_none p [] none = refl
  any_none p (x ∷ xs) none = ap (λ b. b || list_any p xs) none.0 ∙ any_none p xs none.1

  module _ (outer : X → Bool) where
    every_by : (P : X → Type 0) (b : Bool) (x : X) (xs : List X) → outer x ≡ b → ((y : X) → outer y ≡ false → P y) → (Every P (filter outer xs) → Every P xs) → Every P (cond b (x ∷ filter outer xs) (filter outer xs)) → Every P (x ∷ xs)
    every_by P true x xs is others rest all = (all.0, rest all.1)
    every_by P false x xs is others rest all = (others x is, rest all)

    -- what holds of those that pass, and of all others, holds of each
    pub every_within : (P : X → Type 0) → ((x : X) → outer x ≡ false → P x) → (xs : List X) → Every P (filter outer xs) → Every P xs
    every_within P others [] all = tt
    every_within P others (x ∷ xs) all = every_by P (outer x) x xs refl others (every_within P others xs) all

  -- what passes the second test passes the first
  module _ (outer inner : X → Bool) (within : (x : X) → outer x ≡ false → inner x ≡ false) where
    filter_by : (b : Bool) (x : X) (xs : List X) → outer x ≡ b → filter inner (filter outer xs) ≡ filter inner xs → filter inner (cond b (x ∷ filter outer xs) (filter outer xs)) ≡ filter inner (x ∷ xs)
    filter_by true x xs is same = ap (λ rest. cond (inner x) (x ∷ rest) rest) same
    filter_by false x xs is same = same ∙ sym (ap (λ b. cond b (x ∷ filter inner xs) (filter inner xs)) (within x is))

    pub filter_within : (xs : List X) → filter inner (filter outer xs) ≡ filter inner xs
    filter_within [] = refl
    filter_within (x ∷ xs) = filter_by (outer x) x xs refl (filter_within xs)

    any_by : (b : Bool) (x : X) (xs : List X) → outer x ≡ b → list_any inner (filter outer xs) ≡ list_any inner xs → list_any inner (cond b (x ∷ filter outer xs) (filter outer xs)) ≡ list_any inner (x ∷ xs)
    any_by true x xs is same = ap (λ rest. inner x || rest) same
    any_by false x xs is same = same ∙ sym (ap (λ b. b || list_any inner xs) (within x is))

    pub any_within : (xs : List X) → list_any inner (filter outer xs) ≡ list_any inner xs
    any_within [] = refl
    any_within (x ∷ xs) = any_by (outer x) x xs refl (any_within xs)
