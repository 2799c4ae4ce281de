-- A map whose keys lie in a range has no more entries than the range.
use Rattle.std.proofs.Common.{◌≡◌, ℕ, zero, suc, ◌+◌, ◌-◌, ◌<◌, ◌≤◌, Bool, true, false, cond, Option, Some, None, arith, refl, sym, ap, ◌∙◌}
use Rattle.std.specs.FinMap
use Rattle.std.specs.FinMap.{get-empty, same_map, len-empty, len-remove, nat_cmp-IsAntisymmetric}
use Rattle.std.specs.Ordering.{nat_cmp}
use Rattle.std.specs.Cmp.{nat_cmp_total}
use Rattle.pf_entry.specs.Maps.{Map}
use Rattle.pf_entry.proofs.Maps.{remove_cases}

nothing_there : {X : Type 0} → (m : Map X) → ((q : ℕ) (x : X) → FinMap.get m q ≡ Some x → ⊥) → FinMap.len m ≡ 0
nothing_there {X = X} m none = ap FinMap.len (same_map nat_cmp_total nat_cmp-IsAntisymmetric m FinMap.empty (λ q. nowhere (FinMap.get m q) q refl ∙ sym (get-empty nat_cmp q))) ∙ len-empty nat_cmp X
  where
    nowhere : (o : Option X) (q : ℕ) → (FinMap.get m q ≡ o) → FinMap.get m q ≡ None
    nowhere None q is = is
    nowhere (Some x) q is = absurd (none q x is)

one_more : (b : Bool) (len less k : ℕ) → less ≡ cond b (len - 1) len → less ≤ k → len ≤ suc k
one_more true len less k is low = omega arith
one_more false len less k is low = omega arith

pub few_keys : {X : Type 0} → (k a : ℕ) (m : Map X) → ((q : ℕ) (x : X) → FinMap.get m q ≡ Some x → (a < q) × (q ≤ a + k)) → FinMap.len m ≤ k
few_keys zero a m within = omega (arith, nothing_there m (λ q x at. let w = within q x at in omega (arith, w.0, w.1)))
few_keys (suc k) a m within =
    let less = FinMap.remove m (a + suc k) in
    one_more (FinMap.contains_key m (a + suc k)) (FinMap.len m) (FinMap.len less) k (len-remove nat_cmp_total m (a + suc k))
    (few_keys k a less (λ q x at.
    let was = remove_cases m (a + suc k) q x at in
    let w = within q x was.1 in
    (w.0, below q w.1 was.0)))
  where
    below : (q : ℕ) → q ≤ a + suc k → (q ≡ a + suc k → ⊥) → q ≤ a + k
    below q low apart = omega (arith, low, apart)
