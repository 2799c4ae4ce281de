-- Lists that ascend: where an item stands, what is left without it and with another, and the least and the greatest from an item on.
use Rattle.std.proofs.Common.{◌≡◌, ◌≢◌, ℕ, ◌+◌, ◌-◌, ◌<◌, ◌≤◌, inl, inr, ◌⊎◌, false, AllPairs, List, length, get_or, Err, refl, sym, ap, ◌∙◌, subst, arith}
use Rattle.std.specs.Cmp.{IsTotalOrder}
use Rattle.std.specs.List.{Contains, HoldsAt, insert, remove}
use Rattle.std.specs.List.Sorted.{IsBinarySearchResult}
use Rattle.std.specs.Ordering.{is_lt, ordering_reverse}
use Rattle.std.specs.declared.cmp.Ordering.{Ordering}
use Rattle.std.specs.declared.cmp.Ordering.TheVariants.{Less, Equal, Greater}
use Rattle.std.proofs.lemmas.Bool.{cases_lt, cases_order}
use Rattle.std.proofs.lemmas.Cmp.{alike_right, tied_itself}
use Rattle.std.proofs.lemmas.List.{get_or_default}
use Rattle.std.proofs.lemmas.List.Edits.{get_or-insert_at, get_or-insert_below, get_or-insert_above, get_or-remove_below, get_or-remove_above, length-insert, length-remove}
use Rattle.std.proofs.lemmas.List.Quantifiers.{all_pairs_remove}
use Rattle.std.proofs.lemmas.List.Sorted.{searchable_from_sorted}
use Rattle.pf_tree_tables.specs.Ordered.{TiesWithNone, AreAscending, IsFirstNotBefore, IsLeastOf, Puts, TakesItem}

greater : (o : Ordering) → is_lt o ≡ false → o ≢ Equal → o ≡ Greater
greater Less e other = cc
greater Equal e other = absurd (other refl)
greater Greater e other = refl

along : {X : Type 0} (S : X → X → Type 0) (a a2 b b2 : X) → a2 ≡ a → b2 ≡ b → S a b → S a2 b2
along S a a2 b b2 e f h = subst (λ x. S x b2) (sym e) (subst (λ x. S a x) (sym f) h)

-- one element more
module _ {X : Type 0} (xs : List X) (q : ℕ) (y : X) (within : q ≤ length xs) where
  past : (k : ℕ) (d : X) → q < k → get_or (insert xs q y) k d ≡ get_or xs (k - 1) d
  past k d high =
      let e : k ≡ (k - 1) + 1 = omega (arith, high) in
      ap (λ (n : ℕ). get_or (insert xs q y) n d) e ∙ get_or-insert_above xs q y d (k - 1) (omega (arith, high)) within

  -- each place is that of an element before, or that of the new one
  inserted : (k : ℕ) (d : X) → k < length (insert xs q y) → (get_or (insert xs q y) k d ≡ y) ⊎ ((j : ℕ) × (j < length xs) × (get_or (insert xs q y) k d ≡ get_or xs j d))
  inserted k d low =
      let n = length-insert xs q y within in
      elim (cases_order k q) [
        | inl same ↦ inl (ap (λ (i : ℕ). get_or (insert xs q y) i d) same ∙ get_or-insert_at xs q y d within)
        | inr (inl left) ↦ inr (k, omega (arith, left, within), get_or-insert_below xs q y d k left within)
        | inr (inr right) ↦ inr (k - 1, omega (arith, low, n, right), past k d right)
      ]

  stays : (k : ℕ) (d : X) → k < length xs → (i : ℕ) × (i < length (insert xs q y)) × (get_or (insert xs q y) i d ≡ get_or xs k d)
  stays k d low =
      let n = length-insert xs q y within in
      elim (cases_lt k q) [
        | inl left ↦ (k, omega (arith, n, low), get_or-insert_below xs q y d k left within)
        | inr right ↦ (k + 1, omega (arith, n, low), get_or-insert_above xs q y d k right within)
      ]

  all_pairs_insert : (S : X → X → Type 0) → AllPairs S xs → ((k : ℕ) (d : X) → k < q → S (get_or xs k d) y) → ((k : ℕ) (d : X) → q ≤ k → k < length xs → S y (get_or xs k d)) → AllPairs S (insert xs q y)
  all_pairs_insert S up before after i j d low short =
      let n = length-insert xs q y within in
      elim (cases_order j q) [
        | inl same ↦
            along S _ _ _ _ (get_or-insert_below xs q y d i (omega (arith, low, same)) within)
            (ap (λ (k : ℕ). get_or (insert xs q y) k d) same ∙ get_or-insert_at xs q y d within) (before i d (omega (arith, low, same)))
        | inr (inl left) ↦
            along S _ _ _ _ (get_or-insert_below xs q y d i (omega (arith, low, left)) within) (get_or-insert_below xs q y d j left within)
            (up i j d low (omega (arith, left, within)))
        | inr (inr right) ↦
            let last : j - 1 < length xs = omega (arith, short, n, right) in
            elim (cases_order i q) [
              | inl here ↦
                  along S _ _ _ _ (ap (λ (k : ℕ). get_or (insert xs q y) k d) here ∙ get_or-insert_at xs q y d within) (past j d right)
                  (after (j - 1) d (omega (arith, right)) last)
              | inr (inl first) ↦
                  along S _ _ _ _ (get_or-insert_below xs q y d i first within) (past j d right) (up i (j - 1) d (omega (arith, first, right)) last)
              | inr (inr later) ↦ along S _ _ _ _ (past i d later) (past j d right) (up (i - 1) (j - 1) d (omega (arith, later, low)) last)
            ]
      ]

-- one element fewer
module _ {X : Type 0} (xs : List X) (p : ℕ) (within : p < length xs) where
  left : (k : ℕ) (d : X) → k < length (remove xs p) → (j : ℕ) × (j < length xs) × (j ≢ p) × (get_or (remove xs p) k d ≡ get_or xs j d)
  left k d low =
      let n = length-remove xs p within in
      elim (cases_lt k p) [
        | inl below ↦ (k, omega (arith, n, low), λ e. omega (arith, below, e), get_or-remove_below xs p d k below within)
        | inr above ↦ (k + 1, omega (arith, n, low), λ e. omega (arith, above, e), get_or-remove_above xs p d k above within)
      ]

  kept : (j : ℕ) (d : X) → j < length xs → j ≢ p → (k : ℕ) × (k < length (remove xs p)) × (get_or (remove xs p) k d ≡ get_or xs j d)
  kept j d low other =
      let n = length-remove xs p within in
      elim (cases_lt j p) [
        | inl below ↦ (j, omega (arith, n, below, within), get_or-remove_below xs p d j below within)
        | inr above ↦
            let high : p < j = omega (arith, above, other) in
            (j - 1, omega (arith, n, low, high), get_or-remove_above xs p d (j - 1) (omega (arith, high)) within ∙ ap (λ (k : ℕ). get_or xs k d) (omega (arith, high)))
      ]

module _ {K : Type 0} {R : K → K → Ordering} (o : IsTotalOrder R) where
  pub back : (a b : K) → R a b ≡ Less → R b a ≡ Greater
  back a b e = o.antisymm b a ∙ ap ordering_reverse e

  pub forth : (a b : K) → R a b ≡ Greater → R b a ≡ Less
  forth a b e = o.antisymm b a ∙ ap ordering_reverse e

  same_place : (items : List K) (i j : ℕ) (a b : K) → i < length items → i ≡ j → get_or items i a ≡ a → get_or items j b ≡ b → a ≡ b
  same_place items i j a b low e f g = sym f ∙ get_or_default items i a b low ∙ ap (λ (k : ℕ). get_or items k b) e ∙ g

  module _ (items : List K) (x : K) (up : AreAscending R items) where
    -- what a binary search finds
    pub first_found : (i : ℕ) → i < length items → HoldsAt (λ y. R y x ≡ Equal) items i → IsFirstNotBefore R items x i
    first_found i bound at = record {
      bound = omega (arith, bound);
      before = λ k d low. sym (alike_right o (get_or items i d) x (get_or items k d) (at d)) ∙ up k i d low bound;
      after =
          λ k d high short. elim (cases_lt i k) [
            | inl later ↦ ap is_lt (sym (alike_right o (get_or items i d) x (get_or items k d) (at d)) ∙ back (get_or items i d) (get_or items k d) (up i k d later short))
            | inr here ↦ let same : i ≡ k = omega (arith, high, here) in ap is_lt (subst (λ (n : ℕ). R (get_or items n d) x ≡ Equal) same (at d))
          ];
    }

    gap : (i : ℕ) → IsBinarySearchResult (λ y. R y x) items (Err i) → ((k : ℕ) (d : K) → k < i → R (get_or items k d) x ≡ Less) × ((k : ℕ) (d : K) → i ≤ k → k < length items → R (get_or items k d) x ≡ Greater)
    gap i at =
        let p = at (searchable_from_sorted o (λ (y : K). y) items x (λ k d low within. ap is_lt (back (get_or items k d) (get_or items (k + 1) d) (up k (k + 1) d (omega arith) within)))) in
        (λ k d low. p.0 k d (omega arith) low, λ k d high short. p.1 k d high short)

    pub first_gap : (i : ℕ) → i ≤ length items → IsBinarySearchResult (λ y. R y x) items (Err i) → IsFirstNotBefore R items x i
    first_gap i bound at = let p = gap i at in record { bound = bound; before = p.0; after = λ k d high short. ap is_lt (p.1 k d high short) }

    -- an item that is there is the first that is not before it
    place_is : (c : Contains items x) (p : ℕ) → IsFirstNotBefore R items x p → p ≡ c.0
    place_is c p first =
        elim (cases_order p c.0) [
          | inl same ↦ same
          | inr (inl early) ↦
              let less : R (get_or items p x) x ≡ Less = ap (λ (z : K). R (get_or items p x) z) (sym c.2) ∙ up p c.0 x early c.1 in
              let not = first.after p x (omega arith) (let w = c.1 in omega (arith, w, early)) in
              absurd (let e = ap is_lt less in cc)
          | inr (inr late) ↦
              let less = first.before c.0 x late in
              let same : R (get_or items c.0 x) x ≡ Equal = ap (λ (z : K). R z x) c.2 ∙ tied_itself o x in
              absurd cc
        ]

    pub place_within : Contains items x → (p : ℕ) → IsFirstNotBefore R items x p → p < length items
    place_within c p first = let l = c.1 in let e = place_is c p first in omega (arith, l, e)

    rise : (a b : K) (i j : ℕ) → i < j → j < length items → get_or items i a ≡ a → get_or items j b ≡ b → R a b ≡ Less
    rise a b i j low high e f =
        ap (λ (z : K). R z b) (sym e ∙ get_or_default items i a b (omega (arith, low, high))) ∙ ap (λ (z : K). R (get_or items i b) z) (sym f) ∙ up i j b low high

    -- the least from an item on
    pub least_there : (p : ℕ) (item : K) → IsFirstNotBefore R items x p → p < length items → item ≡ get_or items p item → IsLeastOf R items x item
    least_there p item first here is = record {
      there = (p, here, sym is);
      behind = ap (λ (z : K). is_lt (R z x)) is ∙ first.after p item (omega arith) here;
      least =
          λ other c behind. elim (cases_order c.0 p) [
            | inl same ↦ ap (λ (z : K). is_lt (R z item)) (same_place items c.0 p other item c.1 same c.2 (sym is)) ∙ ap is_lt (tied_itself o item)
            | inr (inl early) ↦
                let less = ap (λ (z : K). is_lt (R z x)) (sym c.2) ∙ ap is_lt (first.before c.0 other early) in
                absurd cc
            | inr (inr late) ↦ ap is_lt (back item other (rise item other p c.0 late c.1 (sym is) c.2))
          ];
    }

    -- the greatest up to an item that is not there
    pub greatest_before : (p : ℕ) (item : K) → 0 < p → p ≤ length items → item ≡ get_or items (p - 1) item → IsBinarySearchResult (λ y. R y x) items (Err p) → IsLeastOf (λ a b. R b a) items x item
    greatest_before p item some bound is at =
        let sides = gap p at in
        let here : p - 1 < length items = omega (arith, some, bound) in record {
          there = (p - 1, here, sym is);
          behind = ap is_lt (back item x (ap (λ (z : K). R z x) is ∙ sides.0 (p - 1) item (omega (arith, some))));
          least =
              λ other c behind. elim (cases_order c.0 (p - 1)) [
                | inl same ↦ ap (λ (z : K). is_lt (R item z)) (same_place items c.0 (p - 1) other item c.1 same c.2 (sym is)) ∙ ap is_lt (tied_itself o item)
                | inr (inl early) ↦ ap is_lt (back other item (rise other item c.0 (p - 1) early here c.2 (sym is)))
                | inr (inr late) ↦
                    let less = ap is_lt (forth other x (ap (λ (z : K). R z x) (sym c.2) ∙ sides.1 c.0 other (omega (arith, late)) c.1)) in
                    absurd cc
              ];
        }

    -- without an item, and with one more
    pub taken : Contains items x → (p : ℕ) → IsFirstNotBefore R items x p → TakesItem R items x (remove items p)
    taken c p first =
        let within = place_within c p first in
        let x_is : get_or items p x ≡ x = ap (λ (k : ℕ). get_or items k x) (place_is c p first) ∙ c.2 in record {
          ascend = all_pairs_remove (λ item later. R item later ≡ Less) items p within up;
          kept =
              λ other at apart.
              let k = kept items p within at.0 other at.1 (λ e. apart (same_place items at.0 p other x at.1 e at.2 x_is)) in
              (k.0, k.1, k.2 ∙ at.2);
          only =
              λ other at.
              let j = left items p within at.0 other at.1 in
              let there : get_or items j.0 other ≡ other = sym j.3 ∙ at.2 in (
                (j.0, j.1, there),
                λ same.
                    let tie : R other x ≡ Equal = ap (λ (z : K). R z x) same ∙ tied_itself o x in
                    elim (cases_order j.0 p) [
                      | inl here ↦ j.2 here
                      | inr (inl early) ↦ let less = rise other x j.0 p early within there x_is in absurd cc
                      | inr (inr late) ↦ let less = back x other (rise x other p j.0 late j.1 x_is there) in absurd cc
                    ],
              );
          fewer = length-remove items p within;
        }

    pub put_there : TiesWithNone R items x → (p : ℕ) → IsFirstNotBefore R items x p → Puts R items x (insert items p x)
    put_there apart p first =
        let n = length-insert items p x first.bound in
        let low = first.bound in record {
          ascend =
              all_pairs_insert items p x first.bound (λ item later. R item later ≡ Less) up first.before
              (λ k d high short. forth (get_or items k d) x (greater (R (get_or items k d) x) (first.after k d high short) (apart (get_or items k d) (k, short, get_or_default items k (get_or items k d) d short))));
          there = (p, omega (arith, n, low), get_or-insert_at items p x x first.bound);
          kept = λ other c. let i = stays items p x first.bound c.0 other c.1 in (i.0, i.1, i.2 ∙ c.2);
          only =
              λ other c. elim (inserted items p x first.bound c.0 other c.1) [
                | inl new ↦ inl (sym c.2 ∙ new)
                | inr old ↦ inr (old.0, old.1, sym old.2 ∙ c.2)
              ];
          more = n;
        }
