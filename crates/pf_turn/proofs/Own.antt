-- What holds of a seat's own entries stays while others add theirs.
use Rattle.std.proofs.Common.{◌≡◌, ◌≢◌, ℕ, zero, suc, ◌≤◌, ◌<◌, Bool, true, false, cond, eqb, eq-eqb, nat_le, leb-true, leb-false, List, [], ◌∷◌, ◌++◌, sym, refl, ap, ◌∙◌, subst, append_assoc, append-nil, arith}
use mathlib.Core.Logic.{dite}
use native.Mathlib.Decide.{ℕ_discrete}
use Rattle.pf_turn.specs.declared.log.Stamped.{Stamped}
use Rattle.pf_turn.specs.Lists.{Begins, Every, SameOf, entries_of}
use Rattle.pf_turn.proofs.Lists.{each_both, each_map, entries-append, nothing_more}
use Rattle.pf_turn.specs.Own.{AllAfter, AllOfSeats, AreKnown, EachAfter, EachOf, down_from}

module _ {E : Type 0} (n : ℕ) (P : List (Stamped E) → E → Type 0) where
  no_first : (e : Stamped E) (es : List (Stamped E)) → entries_of n (e ∷ es) ≡ [] → e.seat ≢ n
  no_first e es none_there is = by (eqb e.seat n) (eq-eqb e.seat n is) none_there
    where
      by : (b : Bool) → b ≡ true → cond b (e ∷ entries_of n es) (entries_of n es) ≡ [] → ⊥
      by true t h = cc
      by false t h = cc

  no_more : (e : Stamped E) (es : List (Stamped E)) → entries_of n (e ∷ es) ≡ [] → entries_of n es ≡ []
  no_more e es none_there = by (eqb e.seat n) none_there
    where
      by : (b : Bool) → cond b (e ∷ entries_of n es) (entries_of n es) ≡ [] → entries_of n es ≡ []
      by true h = cc
      by false h = h

  pub each_none : (before list : List (Stamped E)) → entries_of n list ≡ [] → EachAfter n P before list
  each_none before [] none_there = tt
  each_none before (e ∷ es) none_there = (λ is. absurd (no_first e es none_there is), each_none (before ++ e ∷ []) es (no_more e es none_there))

  pub each_append : (before xs ys : List (Stamped E)) → EachAfter n P before xs → EachAfter n P (before ++ xs) ys → EachAfter n P before (xs ++ ys)
  each_append before [] ys h k = subst (λ b. EachAfter n P b ys) (append-nil before) k
  each_append before (x ∷ xs) ys h k = (h.0, each_append (before ++ x ∷ []) xs ys h.1 (subst (λ b. EachAfter n P b ys) (sym (append_assoc before (x ∷ []) xs)) k))

  -- others added their entries
  pub each_longer : (xs ys : List (Stamped E)) → Begins xs ys → entries_of n ys ≡ entries_of n xs → EachOf n P xs → EachOf n P ys
  each_longer xs ys p same h = let none_there : entries_of n p.0 ≡ [] = nothing_more (entries_of n xs) (entries_of n p.0) (sym (entries-append n xs p.0) ∙ (ap (entries_of n) p.1 ∙ same)) in
      subst (EachOf n P) p.1 (each_append [] xs p.0 h (each_none xs p.0 none_there))

  -- and then the seat its own
  pub each_snoc : (xs : List (Stamped E)) (e : E) → EachOf n P xs → P xs e → EachOf n P (xs ++ record { seat = n; what = e } ∷ [])
  each_snoc xs e h p = each_append [] xs (record { seat = n; what = e } ∷ []) h (λ is. p, tt)

-- each seat has its own rule
module _ {E : Type 0} (P : ℕ → List (Stamped E) → E → Type 0) where
  -- another seat is joined: what was known of those before stays known, and what is known of it comes to it
  pub known_more : (m : ℕ) (gone : List ℕ) (old other new : List (Stamped E)) → AreKnown P gone old → Begins old new → Every (SameOf new old) gone → EachOf m (P m) other → Begins other new → entries_of m new ≡ entries_of m other
      → AreKnown P (m ∷ gone) new
  known_more m gone old other new known on same own on' brought = (
    each_longer m (P m) other new on' brought own,
    each_both (λ n. EachOf n (P n) old) (SameOf new old) (λ n. EachOf n (P n) new) gone (λ n h s. each_longer n (P n) old new on s h) known same,
  )

  -- the members of such a list are the numbers from 1 up to its first
  pub down_has : (Q : ℕ → Type 0) (k n : ℕ) → Every Q (down_from k) → 0 < n → n ≤ k → Q n
  down_has Q zero n h some low = absurd (omega arith)
  down_has Q (suc k) n h some low = dite (ℕ_discrete n (suc k)) (λ is. subst Q (sym is) h.0) (λ other. down_has Q k n h.1 some (omega arith))

  all_of : (before list : List (Stamped E)) → ((n : ℕ) → EachAfter n (P n) before list) → AllAfter P before list
  all_of before [] each = tt
  all_of before (e ∷ es) each = ((each e.seat).0 refl, all_of (before ++ e ∷ []) es (λ n. (each n).1))

  -- every entry is one of a seat that is known
  pub all_known : (k : ℕ) (list : List (Stamped E)) → EachOf 0 (P 0) list → AreKnown P (down_from k) list → ((n : ℕ) → k < n → entries_of n list ≡ []) → AllOfSeats P list
  all_known k list first known strangers = all_of [] list (λ n. by n)
    where
      by : (n : ℕ) → EachOf n (P n) list
      by zero = first
      by (suc n) = side (nat_le (suc n) k) refl
        where
          side : (b : Bool) → nat_le (suc n) k ≡ b → EachOf (suc n) (P (suc n)) list
          side true e = down_has (λ m. EachOf m (P m) list) k (suc n) known (omega arith) (leb-true (suc n) k e)
          side false e = each_none (suc n) (P (suc n)) [] list (strangers (suc n) (leb-false (suc n) k e))
