-- Inserts into a finite map, one after the other.
use Rattle.std.proofs.Common.{◌≡◌, ℕ, ◌≢◌, Bool, true, false, cond, Option, Some, None, ◌==◌, refl, sym, ap, ◌∙◌}
use Rattle.std.specs.Cmp.{nat_cmp_total}
use Rattle.std.specs.FinMap
use Rattle.std.specs.FinMap.{get-insert, get-remove, same_map, nat_cmp-IsAntisymmetric}
use Rattle.std.proofs.lemmas.Bool.{false≢true, eq-eqb, ne_eqb, eqb-true}
use Rattle.pf_entry.specs.Maps.{Map}
use Rattle.pf_holes.proofs.Found.{same_number}

module _ {X : Type 0} where
  pub get_insert : (m : Map X) (k : ℕ) (v : X) (q : ℕ) → FinMap.get (FinMap.insert m k v) q ≡ cond (q == k) (Some v) (FinMap.get m q)
  get_insert m k v q = get-insert nat_cmp_total m k v q ∙ ap (λ b. cond b (Some v) (FinMap.get m q)) (same_number q k)

  pub same_gets : (m n : Map X) → ((q : ℕ) → FinMap.get m q ≡ FinMap.get n q) → m ≡ n
  same_gets m n is = same_map nat_cmp_total nat_cmp-IsAntisymmetric m n is

  twice : (b : Bool) (s t o : Option X) → cond b s (cond b t o) ≡ cond b s o
  twice true s t o = refl
  twice false s t o = refl

  crossed : (b c : Bool) (s t o : Option X) → (b ≡ true → c ≡ false) → cond c t (cond b s o) ≡ cond b s (cond c t o)
  crossed true true s t o h = absurd (false≢true (sym (h refl)))
  crossed true false s t o h = refl
  crossed false c s t o h = refl

  -- the later value stays
  pub insert_again : (m : Map X) (k : ℕ) (x v : X) → FinMap.insert (FinMap.insert m k x) k v ≡ FinMap.insert m k v
  insert_again m k x v = same_gets _ _ (λ q.
      get_insert _ k v q ∙ ap (cond (q == k) (Some v)) (get_insert m k x q) ∙ twice (q == k) (Some v) (Some x) (FinMap.get m q) ∙ sym (get_insert m k v q))

  pub insert_swap : (m : Map X) (a : ℕ) (x : X) (b : ℕ) (y : X) → a ≢ b → FinMap.insert (FinMap.insert m a x) b y ≡ FinMap.insert (FinMap.insert m b y) a x
  insert_swap m a x b y apart = same_gets _ _ (λ q.
      get_insert _ b y q ∙ ap (cond (q == b) (Some y)) (get_insert m a x q)
      ∙ crossed (q == a) (q == b) (Some x) (Some y) (FinMap.get m q) (λ same. ne_eqb q b (λ e. apart (sym (eqb-true q a same) ∙ e)))
      ∙ sym (get_insert _ a x q ∙ ap (cond (q == a) (Some x)) (get_insert m b y q)))

  pub get_same : (m : Map X) (k : ℕ) (v : X) → FinMap.get (FinMap.insert m k v) k ≡ Some v
  get_same m k v = get_insert m k v k ∙ ap (λ b. cond b (Some v) (FinMap.get m k)) (eq-eqb k k refl)

  pub get_other : (m : Map X) (k : ℕ) (v : X) (q : ℕ) → q ≢ k → FinMap.get (FinMap.insert m k v) q ≡ FinMap.get m q
  get_other m k v q apart = get_insert m k v q ∙ ap (λ b. cond b (Some v) (FinMap.get m q)) (ne_eqb q k apart)

  get_removed : (m : Map X) (k q : ℕ) → FinMap.get (FinMap.remove m k) q ≡ cond (q == k) None (FinMap.get m q)
  get_removed m k q = get-remove nat_cmp_total m k q ∙ ap (λ b. cond b None (FinMap.get m q)) (same_number q k)

  -- a key is taken away before another is put, or after it
  pub insert_removed : (m : Map X) (a : ℕ) (x : X) (b : ℕ) → a ≢ b → FinMap.insert (FinMap.remove m b) a x ≡ FinMap.remove (FinMap.insert m a x) b
  insert_removed m a x b apart = same_gets _ _ (λ q.
      get_insert _ a x q ∙ ap (cond (q == a) (Some x)) (get_removed m b q)
      ∙ sym (crossed (q == a) (q == b) (Some x) None (FinMap.get m q) (λ same. ne_eqb q b (λ e. apart (sym (eqb-true q a same) ∙ e))))
      ∙ sym (get_removed _ b q ∙ ap (cond (q == b) None) (get_insert m a x q)))

  gone : (b : Bool) (v : X) (o : Option X) → (b ≡ true → o ≡ None) → cond b None (cond b (Some v) o) ≡ o
  gone true v o none = sym (none refl)
  gone false v o none = refl

  -- what is put under a new key and taken away
  pub remove_inserted : (m : Map X) (k : ℕ) (v : X) → FinMap.get m k ≡ None → FinMap.remove (FinMap.insert m k v) k ≡ m
  remove_inserted m k v none = same_gets _ _ (λ q.
      get_removed _ k q
      ∙ ap (cond (q == k) None) (get_insert m k v q)
      ∙ gone (q == k) v (FinMap.get m q) (λ same. ap (FinMap.get m) (eqb-true q k same) ∙ none))
