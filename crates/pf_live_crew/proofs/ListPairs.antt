-- Two lists, whose members fit one by one.
use Rattle.std.proofs.Common.{◌≡◌, ℕ, zero, suc, ◌<◌, List, [], ◌∷◌, ◌++◌, length, slice_index_or, slice_set, refl, subst, sym, ap, ◌∙◌, append_assoc, append-nil, arith}
use Rattle.pf_live_crew.specs.Places.{Pairs}

module _ {A B : Type 0} (P : A → B → Type 0) where
  -- each member of the second list has one of the first
  pub pair_at : (xs : List A) (ys : List B) → Pairs P xs ys → (k : ℕ) (e : B) → k < length ys → (x : A) × P x (slice_index_or ys k e)
  pair_at [] [] h k e low = absurd (omega arith)
  pair_at [] (y ∷ ys) h k e low = absurd h
  pair_at (x ∷ xs) [] h k e low = absurd h
  pair_at (x ∷ xs) (y ∷ ys) h zero e low = (x, h.0)
  pair_at (x ∷ xs) (y ∷ ys) h (suc k) e low = pair_at xs ys h.1 k e (omega arith)

  pub pair_set : (xs : List A) (ys : List B) (i : ℕ) (e z : B) → Pairs P xs ys → i < length ys → ((x : A) → P x (slice_index_or ys i e) → P x z) → Pairs P xs (slice_set ys i z)
  pair_set [] [] i e z h low f = absurd (omega arith)
  pair_set [] (y ∷ ys) i e z h low f = absurd h
  pair_set (x ∷ xs) [] i e z h low f = absurd h
  pair_set (x ∷ xs) (y ∷ ys) zero e z h low f = (f x h.0, h.1)
  pair_set (x ∷ xs) (y ∷ ys) (suc i) e z h low f = (h.0, pair_set xs ys i e z h.1 (omega arith) f)

  pub pair_snoc : (xs : List A) (ys : List B) (x : A) (y : B) → Pairs P xs ys → P x y → Pairs P (xs ++ x ∷ []) (ys ++ y ∷ [])
  pair_snoc [] [] x y h p = (p, tt)
  pair_snoc [] (b ∷ ys) x y h p = absurd h
  pair_snoc (a ∷ xs) [] x y h p = absurd h
  pair_snoc (a ∷ xs) (b ∷ ys) x y h p = (h.0, pair_snoc xs ys x y h.1 p)

  pub pair_first : (xs : List A) (y : B) (ys : List B) → Pairs P xs (y ∷ ys) → (x : A) × (rest : List A) × (x ∷ rest ≡ xs) × P x y × Pairs P rest ys
  pair_first [] y ys h = absurd h
  pair_first (x ∷ xs) y ys h = (x, xs, refl, h.0, h.1)

  pub pair_none : (xs : List A) → Pairs P xs [] → [] ≡ xs
  pair_none [] h = refl
  pair_none (x ∷ xs) h = absurd h

  pub pair_length : (xs : List A) (ys : List B) → Pairs P xs ys → length ys ≡ length xs
  pair_length [] [] h = refl
  pair_length [] (y ∷ ys) h = absurd h
  pair_length (x ∷ xs) [] h = absurd h
  pair_length (x ∷ xs) (y ∷ ys) h = let l = pair_length xs ys h.1 in omega arith

module _ {A B C : Type 0} (P : A → B → Type 0) (Q : A → C → Type 0) where
  -- the first of xs have become the members of done, and the others fit those of rest
  abbrev pub Divides : List A → List C → List B → Type 0
  Divides xs done rest = (front : List A) × (back : List A) × (front ++ back ≡ xs) × Pairs Q front done × Pairs P back rest

  pub one_more : (xs : List A) (done : List C) (y : B) (rest : List B) (z : C) → ((x : A) → P x y → Q x z) → Divides xs done (y ∷ rest) → Divides xs (done ++ z ∷ []) rest
  one_more xs done y rest z f d = let first = pair_first P d.1 y rest d.4 in (
    d.0 ++ first.0 ∷ [],
    first.1,
    append_assoc d.0 (first.0 ∷ []) first.1 ∙ (ap (λ l. d.0 ++ l) first.2 ∙ d.2),
    pair_snoc Q d.0 done first.0 z d.3 (f first.0 first.3),
    first.4,
  )

  pub all_done : (xs : List A) (done : List C) → Divides xs done [] → Pairs Q xs done
  all_done xs done d = subst (λ l. Pairs Q l done) (sym (append-nil d.0) ∙ (ap (λ l. d.0 ++ l) (pair_none P d.1 d.4) ∙ d.2)) d.3
