-- A stable sort by a test gives the elements put in one by one, each before the first one that comes after it.
use Rattle.std.proofs.Common.{◌≡◌, ◌∙◌, ℕ, suc, ◌+◌, zero, ◌<◌, ◌≤◌, inl, inr, Bool, true, false, cond, not, List, [], ◌∷◌, ◌++◌, length, get_or, refl, sym, ap, subst, append_assoc, arith}
use Rattle.std.specs.Cmp.{IsStrictWeakOrder}
use Rattle.std.specs.List.{AllPairs, filter, fold, insert, position_or_len}
use Rattle.std.specs.List.Sorted.{IsPermutation, IsSortedBy, IsStableBy, ties}
use Rattle.std.proofs.lemmas.Bool.{and_from, and_left, and_parts, cases_Bool, cond-true, cond-false, false_from_ne_true, not-true, true_from_ne_false, true≢false}
use Rattle.std.proofs.lemmas.List.{append-nil}
use Rattle.std.proofs.lemmas.List.Sorted.{IsPermutation-append_left, IsPermutation-insert, IsPermutation-middle, IsPermutation-refl, IsPermutation-trans, sorted_far}

joined : {X : Type 0} (b : Bool) (x : X) (xs ys : List X) → cond b (x ∷ (xs ++ ys)) (xs ++ ys) ≡ cond b (x ∷ xs) xs ++ ys
joined true x xs ys = refl
joined false x xs ys = refl

one_joined : {X : Type 0} (b : Bool) (x : X) (xs : List X) → cond b (x ∷ []) [] ++ xs ≡ cond b (x ∷ xs) xs
one_joined true x xs = refl
one_joined false x xs = refl

module _ {X : Type 0} (lt : X → X → Bool) where
  -- none of them comes before x
  abbrev NoneBefore : X → List X → Type 0
  NoneBefore x [] = Unit {0}
  NoneBefore x (y ∷ ys) = (lt y x ≡ false) × NoneBefore x ys

  -- none comes before an earlier one
  abbrev Rises : List X → Type 0
  Rises [] = Unit {0}
  Rises (x ∷ xs) = NoneBefore x xs × Rises xs

  abbrev put : List X → X → List X
  put xs x = insert xs (position_or_len (λ y. lt x y) xs) x

  kept : (x y : X) (ys : List X) → ties lt x y ≡ true → filter (ties lt x) (y ∷ ys) ≡ y ∷ filter (ties lt x) ys
  kept x y ys tie = cond-true (ties lt x y) (y ∷ filter (ties lt x) ys) (filter (ties lt x) ys) tie

  dropped : (x y : X) (ys : List X) → ties lt x y ≡ false → filter (ties lt x) (y ∷ ys) ≡ filter (ties lt x) ys
  dropped x y ys apart = cond-false (ties lt x y) (y ∷ filter (ties lt x) ys) (filter (ties lt x) ys) apart

  none_before_each : (x : X) (xs : List X) → ((k : ℕ) → k < length xs → lt (get_or xs k x) x ≡ false) → NoneBefore x xs
  none_before_each x [] h = tt
  none_before_each x (y ∷ ys) h = (h 0 (omega arith), none_before_each x ys (λ k low. h (suc k) (omega (arith, low))))

  rises_throughout : (xs : List X) → ((i j : ℕ) (d : X) → i ≤ j → j < length xs → lt (get_or xs j d) (get_or xs i d) ≡ false) → Rises xs
  rises_throughout [] h = tt
  rises_throughout (x ∷ xs) h = (
    none_before_each x xs (λ k low. h 0 (suc k) x (omega arith) (omega (arith, low))),
    rises_throughout xs (λ i j d le low. h (suc i) (suc j) d (omega (arith, le)) (omega (arith, low))),
  )

  none_before_at : (x : X) (xs : List X) → NoneBefore x xs → (k : ℕ) (d : X) → k < length xs → lt (get_or xs k d) x ≡ false
  none_before_at x [] h k d low = absurd (omega (arith, low))
  none_before_at x (y ∷ ys) h zero d low = h.0
  none_before_at x (y ∷ ys) h (suc k) d low = none_before_at x ys h.1 k d (omega (arith, low))

  in_rising : (xs : List X) → Rises xs → AllPairs (λ x later. lt later x ≡ false) xs
  in_rising [] r i j d before low = absurd (omega (arith, low))
  in_rising (x ∷ xs) r zero zero d before low = absurd (omega (arith, before))
  in_rising (x ∷ xs) r zero (suc j) d before low = none_before_at x xs r.0 j d (omega (arith, low))
  in_rising (x ∷ xs) r (suc i) zero d before low = absurd (omega (arith, before))
  in_rising (x ∷ xs) r (suc i) (suc j) d before low = in_rising xs r.1 i j d (omega (arith, before)) (omega (arith, low))

  permuted_fold : (done xs : List X) → IsPermutation (done ++ xs) (fold put done xs)
  permuted_fold done [] = subst (λ ys. IsPermutation ys done) (sym (append-nil done)) (IsPermutation-refl done)
  permuted_fold done (x ∷ xs) =
      let place = position_or_len (λ y. lt x y) done in
      IsPermutation-trans (done ++ x ∷ xs) (x ∷ (done ++ xs)) (fold put (put done x) xs) (IsPermutation-middle done x xs)
      (IsPermutation-trans (x ∷ (done ++ xs)) (put done x ++ xs) (fold put (put done x) xs)
      (IsPermutation-append_left xs (x ∷ done) (put done x) (IsPermutation-insert done place x))
      (permuted_fold (put done x) xs))

  pub put_all : (xs : List X) → IsPermutation xs (fold put [] xs)
  put_all xs = permuted_fold [] xs

  put_first : (x y : X) (ys : List X) → lt x y ≡ true → put (y ∷ ys) x ≡ x ∷ y ∷ ys
  put_first x y ys e = ap (λ (n : ℕ). insert (y ∷ ys) n x) (cond-false (not (lt x y)) (1 + position_or_len (λ z. lt x z) ys) 0 (ap not e))

  put_later : (x y : X) (ys : List X) → lt x y ≡ false → put (y ∷ ys) x ≡ y ∷ put ys x
  put_later x y ys e =
      let next : 1 + position_or_len (λ z. lt x z) ys ≡ suc (position_or_len (λ z. lt x z) ys) = omega arith in
      ap (λ (n : ℕ). insert (y ∷ ys) n x) (cond-true (not (lt x y)) (1 + position_or_len (λ z. lt x z) ys) 0 (ap not e) ∙ next)

  module _ (o : IsStrictWeakOrder lt) where
    tied_itself : (x : X) → ties lt x x ≡ true
    tied_itself x =
        let level : lt x x ≡ false = false_from_ne_true (lt x x) (λ e. true≢false (sym e ∙ o.one_way x x e)) in
        and_from (not (lt x x)) (not (lt x x)) (ap not level) (ap not level)

    -- what comes before the first ties with none
    none_tied : (x y : X) (ys : List X) → lt x y ≡ true → NoneBefore y ys → filter (ties lt x) (y ∷ ys) ≡ []
    none_tied x y [] e h = dropped x y [] (and_left (not (lt x y)) (not (lt y x)) (ap not e))
    none_tied x y (z ∷ zs) e h =
        let past : lt x z ≡ true = true_from_ne_false (lt x z) (λ f. true≢false (sym e ∙ o.chain x z y f h.0)) in
        let rest : filter (ties lt x) (y ∷ zs) ≡ [] = none_tied x y zs e h.1 in
        dropped x y (z ∷ zs) (and_left (not (lt x y)) (not (lt y x)) (ap not e))
        ∙ dropped x z zs (and_left (not (lt x z)) (not (lt z x)) (ap not past))
        ∙ sym (dropped x y zs (and_left (not (lt x y)) (not (lt y x)) (ap not e)))
        ∙ rest

    -- the first of what ties with z does not come after it
    not_past : (z y : X) (zs ys : List X) → NoneBefore y ys → filter (ties lt z) (y ∷ ys) ≡ filter (ties lt z) (z ∷ zs) → lt z y ≡ false
    not_past z y zs ys h same =
        false_from_ne_true (lt z y) (λ e.
        let clash : [] ≡ z ∷ filter (ties lt z) zs = sym (none_tied z y ys e h) ∙ same ∙ kept z z zs (tied_itself z) in
        cc)

    -- lists that rise are one if those that tie stand in one order in both
    only_one : (ys zs : List X) → Rises ys → Rises zs → ((x : X) → filter (ties lt x) ys ≡ filter (ties lt x) zs) → ys ≡ zs
    only_one [] [] r s same = refl
    only_one [] (z ∷ zs) r s same =
        let clash : [] ≡ z ∷ filter (ties lt z) zs = same z ∙ kept z z zs (tied_itself z) in
        absurd (cc)
    only_one (y ∷ ys) [] r s same =
        let clash : y ∷ filter (ties lt y) ys ≡ [] = sym (kept y y ys (tied_itself y)) ∙ same y in
        absurd (cc)
    only_one (y ∷ ys) (z ∷ zs) r s same =
        let tie : ties lt y z ≡ true =
        and_from (not (lt y z)) (not (lt z y)) (ap not (not_past y z ys zs s.0 (sym (same y)))) (ap not (not_past z y zs ys r.0 (same z))) in
        let fronts : y ∷ filter (ties lt y) ys ≡ z ∷ filter (ties lt y) zs = sym (kept y y ys (tied_itself y)) ∙ same y ∙ kept y z zs tie in
        let head : y ≡ z = cc in
        let rest : ys ≡ zs =
        only_one ys zs r.1 s.1 (λ x. elim (cases_Bool (ties lt x y)) [
          | inl tied ↦
              let both : y ∷ filter (ties lt x) ys ≡ z ∷ filter (ties lt x) zs =
              sym (kept x y ys tied) ∙ same x ∙ kept x z zs (ap (ties lt x) (sym head) ∙ tied) in
              cc
          | inr apart ↦ sym (dropped x y ys apart) ∙ same x ∙ dropped x z zs (ap (ties lt x) (sym head) ∙ apart)
        ]) in
        cc

    none_before_put : (x y : X) (ys : List X) → NoneBefore x ys → lt y x ≡ false → NoneBefore x (put ys y)
    none_before_put x y [] h e = (e, tt)
    none_before_put x y (z ∷ zs) h e =
        elim (cases_Bool (lt y z)) [
          | inl first ↦ subst (NoneBefore x) (sym (put_first y z zs first)) (e, h)
          | inr later ↦ subst (NoneBefore x) (sym (put_later y z zs later)) (h.0, none_before_put x y zs h.1 e)
        ]

    none_before_either : (x y : X) (ys : List X) → lt y x ≡ false → NoneBefore y ys → NoneBefore x ys
    none_before_either x y [] e h = tt
    none_before_either x y (z ∷ zs) e h = (o.chain z y x h.0 e, none_before_either x y zs e h.1)

    rises_put : (xs : List X) (x : X) → Rises xs → Rises (put xs x)
    rises_put [] x r = (tt, tt)
    rises_put (y ∷ ys) x r =
        elim (cases_Bool (lt x y)) [
          | inl first ↦
              let behind = o.one_way x y first in
              subst Rises (sym (put_first x y ys first)) ((behind, none_before_either x y ys behind r.0), r)
          | inr later ↦ subst Rises (sym (put_later x y ys later)) (none_before_put y x ys r.0 later, rises_put ys x r.1)
        ]

    -- one that is put in stands behind those that it ties with
    tied_put : (x : X) (ys : List X) (y : X) → Rises ys → filter (ties lt x) (put ys y) ≡ filter (ties lt x) ys ++ filter (ties lt x) (y ∷ [])
    tied_put x [] y r = refl
    tied_put x (z ∷ zs) y r =
        let p = ties lt x in
        elim (cases_Bool (lt y z)) [
          | inl first ↦
              ap (filter p) (put_first y z zs first)
              ∙ elim (cases_Bool (ties lt x y)) [
                | inl tied ↦
                    let level = not-true (lt y x) (and_parts (not (lt x y)) (not (lt y x)) tied).1 in
                    let past : lt x z ≡ true = true_from_ne_false (lt x z) (λ f. true≢false (sym first ∙ o.chain y x z level f)) in
                    let none = none_tied x z zs past r.0 in
                    kept x y (z ∷ zs) tied ∙ ap (λ ws. y ∷ ws) none ∙ sym (kept x y [] tied)
                    ∙ ap (λ ws. ws ++ filter p (y ∷ [])) (sym none)
                | inr apart ↦
                    dropped x y (z ∷ zs) apart ∙ sym (append-nil (filter p (z ∷ zs))) ∙ ap (λ ws. filter p (z ∷ zs) ++ ws) (sym (dropped x y [] apart))
              ]
          | inr later ↦
              ap (filter p) (put_later y z zs later)
              ∙ ap (λ ws. cond (ties lt x z) (z ∷ ws) ws) (tied_put x zs y r.1)
              ∙ joined (ties lt x z) z (filter p zs) (filter p (y ∷ []))
        ]

    rises_fold : (done xs : List X) → Rises done → Rises (fold put done xs)
    rises_fold done [] r = r
    rises_fold done (x ∷ xs) r = rises_fold (put done x) xs (rises_put done x r)

    tied_fold : (x : X) (done ys : List X) → Rises done → filter (ties lt x) (fold put done ys) ≡ filter (ties lt x) done ++ filter (ties lt x) ys
    tied_fold x done [] r = sym (append-nil (filter (ties lt x) done))
    tied_fold x done (y ∷ ys) r =
        let p = ties lt x in
        tied_fold x (put done y) ys (rises_put done y r)
        ∙ ap (λ ws. ws ++ filter p ys) (tied_put x done y r)
        ∙ append_assoc (filter p done) (filter p (y ∷ [])) (filter p ys)
        ∙ ap (λ ws. filter p done ++ ws) (one_joined (ties lt x y) y (filter p ys))

    pub stable_sort_is : (xs ys : List X) → IsSortedBy lt ys → IsStableBy lt xs ys → ys ≡ fold put [] xs
    stable_sort_is xs ys up stable =
        only_one ys (fold put [] xs) (rises_throughout ys (sorted_far lt o ys up)) (rises_fold [] xs tt) (λ x. stable x ∙ sym (tied_fold x [] xs tt))

    pub put_in_order : (xs : List X) → AllPairs (λ x later. lt later x ≡ false) (fold put [] xs)
    put_in_order xs = in_rising (fold put [] xs) (rises_fold [] xs tt)
