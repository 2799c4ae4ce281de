-- What a ring has at a slot is in its place.
use Rattle.std.proofs.Common.{◌≡◌, ℕ, zero, suc, ◌+◌, ◌%◌, ◌<◌, ◌≢◌, ◌⊎◌, inl, inr, Bool, true, false, cond, List, [], ◌∷◌, ◌++◌, length, Option, Some, None, is_some, ◌==◌, slice_get, slice_set, get_or, nat_lt, length-append, length-set, arith, refl, sym, ap, subst, ◌∙◌}
use Rattle.std.proofs.lemmas.Option.{same_Some, slice_get_past, slice_get_read}
use Rattle.std.specs.Ordering.{nat_cmp, eq_by_cmp}
use Rattle.std.specs.Cmp.{nat_cmp_total}
use Rattle.std.specs.FinMap
use Rattle.std.specs.FinMap.{FinMap, get-empty, get-insert, get-remove, same_map, nat_cmp-IsAntisymmetric}
use Rattle.std.proofs.lemmas.Bool.Decides.{nat_tests}
use Rattle.std.proofs.lemmas.Bool.{cases_eq, cases_lt, ltb-true, ltb-false, eq-eqb, ne_eqb, cond-true, cond-false}
use Rattle.pf_holes.specs.Places.{place_in, ring_of, IsRing}
use Rattle.pf_holes.specs.Windows.{IsNear}

pub same_number : (q k : ℕ) → eq_by_cmp nat_cmp q k ≡ (q == k)
same_number q k = grind (arith, nat_tests)

get_set_same : {X : Type 0} → (xs : List X) (i : ℕ) (x : X) → i < length xs → slice_get (slice_set xs i x) i ≡ Some x
get_set_same [] i x lt = absurd (omega arith)
get_set_same (y ∷ ys) zero x lt = refl
get_set_same (y ∷ ys) (suc i) x lt = get_set_same ys i x (omega arith)

get_set_apart : {X : Type 0} → (xs : List X) (i j : ℕ) (x : X) → j ≢ i → slice_get (slice_set xs i x) j ≡ slice_get xs j
get_set_apart [] i j x apart = refl
get_set_apart (y ∷ ys) zero zero x apart = absurd (apart refl)
get_set_apart (y ∷ ys) zero (suc j) x apart = refl
get_set_apart (y ∷ ys) (suc i) zero x apart = refl
get_set_apart (y ∷ ys) (suc i) (suc j) x apart = get_set_apart ys i j x (λ e. apart (ap suc e))

module _ {V : Type 0} where
  -- what a place has of a slot
  abbrev pub here : ℕ → Option (Option (ℕ × V)) → Option V
  here q None = None
  here q (Some None) = None
  here q (Some (Some p)) = cond (q == p.0) (Some p.1) None

  abbrev found : ℕ → Option (ℕ × V) → Option V → Option V
  found q None rest = rest
  found q (Some p) rest = cond (q == p.0) (Some p.1) rest

  get-place_in : (p : Option (ℕ × V)) (m : FinMap nat_cmp V) (q : ℕ) → FinMap.get (place_in p m) q ≡ found q p (FinMap.get m q)
  get-place_in None m q = refl
  get-place_in (Some p) m q = get-insert nat_cmp_total m p.0 p.1 q ∙ ap (λ b. cond b (Some p.1) (FinMap.get m q)) (same_number q p.0)

  abbrev PlacedFrom : ℕ → List (Option (ℕ × V)) → Type 0
  PlacedFrom k ps = (j : ℕ) (p : ℕ × V) → slice_get ps j ≡ Some (Some p) → p.0 % 4096 ≡ k + j

  later : (k : ℕ) (x : Option (ℕ × V)) (ps : List (Option (ℕ × V))) → PlacedFrom k (x ∷ ps) → PlacedFrom (suc k) ps
  later k x ps placed j p is = let e : p.0 % 4096 ≡ k + suc j = placed (suc j) p is in omega arith

  not_there : (k q : ℕ) (x : Option (ℕ × V)) (rest : Option V) → ((p : ℕ × V) → x ≡ Some p → p.0 % 4096 ≡ k) → q % 4096 ≢ k → found q x rest ≡ rest
  not_there k q None rest placed apart = refl
  not_there k q (Some p) rest placed apart =
      cond-false _ _ _ (ne_eqb q p.0 (λ e. apart (ap (λ n. n % 4096) e ∙ placed p refl)))

  -- no place from k on has a slot of an earlier class
  none_below : (k q : ℕ) (ps : List (Option (ℕ × V))) → PlacedFrom k ps → q % 4096 < k → FinMap.get (ring_of ps) q ≡ None
  none_below k q [] placed lt = get-empty nat_cmp q
  none_below k q (x ∷ ps) placed lt =
      get-place_in x (ring_of ps) q
      ∙ not_there k q x _ (λ p is. let e : p.0 % 4096 ≡ k + 0 = placed 0 p (ap Some is) in omega arith) (λ e. omega arith)
      ∙ none_below (suc k) q ps (later k x ps placed) (omega arith)

  here_first : (k q : ℕ) (x : Option (ℕ × V)) (rest : Option V) → rest ≡ None → found q x rest ≡ here q (Some x)
  here_first k q None rest none = none
  here_first k q (Some p) rest none = ap (cond (q == p.0) (Some p.1)) none

  get_from : (k j q : ℕ) (ps : List (Option (ℕ × V))) → PlacedFrom k ps → q % 4096 ≡ k + j → FinMap.get (ring_of ps) q ≡ here q (slice_get ps j)
  get_from k j q [] placed at = get-empty nat_cmp q
  get_from k zero q (x ∷ ps) placed at =
      get-place_in x (ring_of ps) q ∙ here_first k q x _ (none_below (suc k) q ps (later k x ps placed) (omega arith))
  get_from k (suc j) q (x ∷ ps) placed at =
      get-place_in x (ring_of ps) q
      ∙ not_there k q x _ (λ p is. let e : p.0 % 4096 ≡ k + 0 = placed 0 p (ap Some is) in omega arith) (λ e. omega arith)
      ∙ get_from (suc k) j q ps (later k x ps placed) (omega arith)

  -- what a ring has at a slot is what its place has
  pub get-ring_of : (ps : List (Option (ℕ × V))) (q : ℕ) → IsRing ps → FinMap.get (ring_of ps) q ≡ here q (slice_get ps (q % 4096))
  get-ring_of ps q r = get_from 0 (q % 4096) q ps (λ j p is. let e : p.0 % 4096 ≡ j = r.placed j p is in omega arith) (omega arith)

  -- one more place, without a value
  pub ring_of-more : (ps : List (Option (ℕ × V))) → ring_of (ps ++ None ∷ []) ≡ ring_of ps
  ring_of-more [] = refl
  ring_of-more (x ∷ ps) = ap (place_in x) (ring_of-more ps)

  not_new : (ps : List (Option (ℕ × V))) (k : ℕ) (p : ℕ × V) → slice_get (ps ++ None ∷ []) k ≡ Some (Some p) → slice_get ps k ≡ Some (Some p)
  not_new [] zero p is = absurd (grind arith)
  not_new [] (suc k) p is = absurd (grind arith)
  not_new (x ∷ ps) zero p is = is
  not_new (x ∷ ps) (suc k) p is = not_new ps k p is

  pub ring_more : (ps : List (Option (ℕ × V))) → IsRing ps → length ps < 4096 → IsRing (ps ++ None ∷ [])
  ring_more ps r lt = record {
    count = omega (arith, length-append ps (None ∷ []));
    placed = λ k p is. r.placed k p (not_new ps k p is);
  }

  pub ring_set : (ps : List (Option (ℕ × V))) (i : ℕ) (x : Option (ℕ × V)) → IsRing ps → i < length ps → ((p : ℕ × V) → x ≡ Some p → p.0 % 4096 ≡ i) → IsRing (slice_set ps i x)
  ring_set ps i x r lt placed = record {
    count = omega (arith, length-set ps i x, r.count);
    placed = λ k p is. elim (cases_eq k i) [
      | inl same ↦ placed p (same_Some _ _ (sym (get_set_same ps i x lt) ∙ subst (λ n. slice_get (slice_set ps i x) n ≡ Some (Some p)) same is)) ∙ sym same
      | inr apart ↦ r.placed k p (sym (get_set_apart ps i k x apart) ∙ is)
    ];
  }

  pub none_or : (o : Option V) → (is_some o ≡ true → ⊥) → o ≡ None
  none_or None absent = refl
  none_or (Some v) absent = absurd (absent refl)

  -- a slot of the same class that is near is the same
  pub put_at : (ps : List (Option (ℕ × V))) (m : FinMap nat_cmp V) (slot : ℕ) (v : V) → ring_of ps ≡ m → IsRing ps → slot % 4096 < length ps → IsNear m slot → ring_of (slice_set ps (slot % 4096) (Some (slot, v))) ≡ FinMap.insert m slot v
  put_at ps m slot v is r lt near = same_map nat_cmp_total nat_cmp-IsAntisymmetric _ _ (λ q.
      get-ring_of _ q (ring_set ps (slot % 4096) (Some (slot, v)) r lt (λ p e. ap (λ (t : ℕ × V). t.0 % 4096) (sym (same_Some _ _ e))))
      ∙ placed_value q (cases_eq (q % 4096) (slot % 4096))
      ∙ sym (get-insert nat_cmp_total m slot v q ∙ ap (λ b. cond b (Some v) (FinMap.get m q)) (same_number q slot)))
    where
      placed_value : (q : ℕ) → (q % 4096 ≡ slot % 4096) ⊎ (q % 4096 ≢ slot % 4096) → here q (slice_get (slice_set ps (slot % 4096) (Some (slot, v))) (q % 4096)) ≡ cond (q == slot) (Some v) (FinMap.get m q)
      placed_value q (inl same) =
          ap (here q) (ap (slice_get (slice_set ps (slot % 4096) (Some (slot, v)))) same ∙ get_set_same ps (slot % 4096) (Some (slot, v)) lt)
          ∙ elim (cases_eq q slot) [
            | inl e ↦ cond-true _ _ _ (eq-eqb q slot e) ∙ sym (cond-true _ _ _ (eq-eqb q slot e))
            | inr n ↦ ap (cond (q == slot) (Some v)) (sym (none_or (FinMap.get m q) (λ has. n (let both : (q < slot + 4096) × (slot < q + 4096) = near q has in omega (arith, both.0, both.1)))))
          ]
      placed_value q (inr apart) =
          ap (here q) (get_set_apart ps (slot % 4096) (q % 4096) (Some (slot, v)) apart)
          ∙ sym (get-ring_of ps q r) ∙ ap (λ n. FinMap.get n q) is
          ∙ sym (cond-false _ _ _ (ne_eqb q slot (λ e. apart (ap (λ n. n % 4096) e))))

  -- what a place has of a slot
  pub got : (ps : List (Option (ℕ × V))) (m : FinMap nat_cmp V) (slot : ℕ) (o : Option (Option (ℕ × V))) → ring_of ps ≡ m → IsRing ps → o ≡ slice_get ps (slot % 4096) → FinMap.get m slot ≡ here slot o
  got ps m slot o is r read = ap (λ n. FinMap.get n slot) (sym is) ∙ get-ring_of ps slot r ∙ ap (here slot) (sym read)

  looked_up : (ps seen : List (Option (ℕ × V))) (k : ℕ) (p : Option (ℕ × V)) → seen ≡ ps → true ≡ nat_lt k (length seen) → p ≡ get_or seen k p → Some p ≡ slice_get ps k
  looked_up ps seen k p same made read =
      sym (slice_get_read seen (length seen) k p refl (ltb-true k (length seen) (sym made)) read) ∙ ap (λ xs. slice_get xs k) same

  not_made : (ps seen : List (Option (ℕ × V))) (k : ℕ) → seen ≡ ps → false ≡ nat_lt k (length seen) → None ≡ slice_get ps k
  not_made ps seen k same past = sym (slice_get_past seen k (ltb-false k (length seen) (sym past))) ∙ ap (λ xs. slice_get xs k) same

  -- what a look at a place tells
  pub seen_there : (ps seen : List (Option (ℕ × V))) (m : FinMap nat_cmp V) (slot : ℕ) (p : Option (ℕ × V)) → ring_of ps ≡ m → IsRing ps → seen ≡ ps → true ≡ nat_lt (slot % 4096) (length seen) → p ≡ get_or seen (slot % 4096) p → FinMap.get m slot ≡ here slot (Some p)
  seen_there ps seen m slot p is r same made read = got ps m slot (Some p) is r (looked_up ps seen (slot % 4096) p same made read)

  pub seen_none : (ps seen : List (Option (ℕ × V))) (m : FinMap nat_cmp V) (slot : ℕ) → ring_of ps ≡ m → IsRing ps → seen ≡ ps → false ≡ nat_lt (slot % 4096) (length seen) → FinMap.get m slot ≡ None
  seen_none ps seen m slot is r same past = got ps m slot None is r (not_made ps seen (slot % 4096) same past)

  -- a slot that has a value has a place
  pub is_made : (ps : List (Option (ℕ × V))) (m : FinMap nat_cmp V) (slot : ℕ) → ring_of ps ≡ m → IsRing ps → FinMap.contains_key m slot ≡ true → slot % 4096 < length ps
  is_made ps m slot is r has =
      elim (cases_lt (slot % 4096) (length ps)) [
        | inl made ↦ made
        | inr past ↦
            let none : FinMap.get m slot ≡ None = got ps m slot None is r (sym (slice_get_past ps (slot % 4096) past)) in
            absurd (none_some_key (FinMap.get m slot) none has)
      ]
    where
      none_some_key : (o : Option V) → o ≡ None → is_some o ≡ true → ⊥
      none_some_key None none has = grind arith
      none_some_key (Some v) none has = grind arith

  -- a place that has the slot is emptied
  pub emptied : (ps : List (Option (ℕ × V))) (m : FinMap nat_cmp V) (slot : ℕ) → ring_of ps ≡ m → IsRing ps → FinMap.contains_key m slot ≡ true → ring_of (slice_set ps (slot % 4096) None) ≡ FinMap.remove m slot
  emptied ps m slot is r has = same_map nat_cmp_total nat_cmp-IsAntisymmetric _ _ (λ q.
      get-ring_of _ q (ring_set ps (slot % 4096) None r (is_made ps m slot is r has) (λ p e. absurd (grind arith)))
      ∙ emptied_value q (cases_eq (q % 4096) (slot % 4096))
      ∙ sym (get-remove nat_cmp_total m slot q ∙ ap (λ b. cond b None (FinMap.get m q)) (same_number q slot)))
    where
      not_here : (v : V) (b : Bool) → b ≡ false → is_some (cond b (Some v) None) ≡ true → ⊥
      not_here v true e has = grind arith
      not_here v false e has = grind arith

      in_place : (q : ℕ) (o : Option (Option (ℕ × V))) → is_some (here slot o) ≡ true → q ≢ slot → here q o ≡ None
      in_place q None has apart = absurd (grind arith)
      in_place q (Some None) has apart = absurd (grind arith)
      in_place q (Some (Some p)) has apart =
          elim (cases_eq slot p.0) [
            | inl e ↦ cond-false _ _ _ (ne_eqb q p.0 (λ h. apart (h ∙ sym e)))
            | inr n ↦ absurd (not_here p.1 (slot == p.0) (ne_eqb slot p.0 n) has)
          ]

      emptied_value : (q : ℕ) → (q % 4096 ≡ slot % 4096) ⊎ (q % 4096 ≢ slot % 4096) → here q (slice_get (slice_set ps (slot % 4096) None) (q % 4096)) ≡ cond (q == slot) None (FinMap.get m q)
      emptied_value q (inl same) =
          ap (here q) (ap (slice_get (slice_set ps (slot % 4096) None)) same ∙ get_set_same ps (slot % 4096) None (is_made ps m slot is r has))
          ∙ elim (cases_eq q slot) [
            | inl e ↦ sym (cond-true _ _ _ (eq-eqb q slot e))
            | inr n ↦ sym (cond-false _ _ _ (ne_eqb q slot n) ∙ ap (λ w. FinMap.get w q) (sym is) ∙ get-ring_of ps q r
                ∙ ap (λ k. here q (slice_get ps k)) same
                ∙ in_place q (slice_get ps (slot % 4096)) (ap is_some (sym (get-ring_of ps slot r) ∙ ap (λ w. FinMap.get w slot) is) ∙ has) n)
          ]
      emptied_value q (inr apart) =
          ap (here q) (get_set_apart ps (slot % 4096) (q % 4096) None apart)
          ∙ sym (get-ring_of ps q r) ∙ ap (λ n. FinMap.get n q) is
          ∙ sym (cond-false _ _ _ (ne_eqb q slot (λ e. apart (ap (λ n. n % 4096) e))))

  -- nothing is taken away
  pub remove_none : (m : FinMap nat_cmp V) (slot : ℕ) → FinMap.contains_key m slot ≡ false → m ≡ FinMap.remove m slot
  remove_none m slot absent = same_map nat_cmp_total nat_cmp-IsAntisymmetric _ _ (λ q. sym (get-remove nat_cmp_total m slot q ∙ ap (λ b. cond b None (FinMap.get m q)) (same_number q slot)
      ∙ elim (cases_eq q slot) [
        | inl e ↦ cond-true _ _ _ (eq-eqb q slot e) ∙ sym (ap (FinMap.get m) e ∙ none_or (FinMap.get m slot) (λ has. let both : true ≡ false = sym has ∙ absent in grind arith))
        | inr n ↦ cond-false _ _ _ (ne_eqb q slot n)
      ]))

  -- no places yet
  pub empty_ring : (ps : List (Option (ℕ × V))) → ps ≡ [] → IsRing ps
  empty_ring ps none = record {
    count = omega (arith, ap length none);
    placed = λ k p is. absurd (let gone : None ≡ Some (Some p) = ap (λ xs. slice_get xs k) (sym none) ∙ is in grind arith);
  }
