-- What a set contains after a change, in the words of std's finite sets.
use Rattle.std.proofs.Common.{◌≡◌, ℕ, Bool, true, false, cond, not, ◌&&◌, ◌||◌, Option, Some, None, is_some, Equal, refl, sym, ap, ◌∙◌}
use Rattle.std.specs.Ordering.{nat_cmp, eq_by_cmp}
use Rattle.std.specs.Cmp.{nat_cmp_total}
use Rattle.std.specs.List.{list_any}
use Rattle.std.specs.FinMap
use Rattle.pf_entry.specs.Maps.{Numbers}
use Rattle.pf_entry.specs.Sets

some_or : (b : Bool) (o : Option (Unit {0})) → is_some (cond b (Some tt) o) ≡ (b || is_some o)
some_or true o = refl
some_or false o = refl

none_or : (b : Bool) (o : Option (Unit {0})) → is_some (cond b None o) ≡ (not b && is_some o)
none_or true o = refl
none_or false o = refl

or_none : (b : Bool) (o : Option (Unit {0})) → is_some (cond b o None) ≡ (is_some o && b)
or_none true None = refl
or_none true (Some u) = refl
or_none false None = refl
or_none false (Some u) = refl

pub contains-empty : (q : ℕ) → Sets.contains Sets.empty q ≡ false
contains-empty q = ap is_some (FinMap.get-empty nat_cmp q)

pub contains-insert : (set : Numbers) (n q : ℕ) → Sets.contains (Sets.insert set n) q ≡ (eq_by_cmp nat_cmp q n || Sets.contains set q)
contains-insert set n q = ap is_some (FinMap.get-insert nat_cmp_total set n tt q) ∙ some_or _ _

pub contains-remove : (set : Numbers) (n q : ℕ) → Sets.contains (Sets.remove set n) q ≡ (not (eq_by_cmp nat_cmp q n) && Sets.contains set q)
contains-remove set n q = ap is_some (FinMap.get-remove nat_cmp_total set n q) ∙ none_or _ _

pub contains-retain : (set : Numbers) (p : ℕ → Bool) (q : ℕ) → ((x : ℕ) → nat_cmp q x ≡ Equal → p x ≡ p q) → Sets.contains (Sets.retain set p) q ≡ (Sets.contains set q && p q)
contains-retain set p q alike = ap is_some (FinMap.get-retain_keys set p q alike) ∙ or_none (p q) (FinMap.get set q)

pub contains-items : (set : Numbers) (q : ℕ) → Sets.contains set q ≡ list_any (eq_by_cmp nat_cmp q) (Sets.items set)
contains-items set q = FinMap.contains_key-keys set q

-- two sets with the same members are one
pub same_set : (a b : Numbers) → ((q : ℕ) → Sets.contains a q ≡ Sets.contains b q) → a ≡ b
same_set a b is = FinMap.same_map nat_cmp_total FinMap.nat_cmp-IsAntisymmetric a b (λ q. marks _ ∙ ap (λ c. cond c (Some tt) None) (is q) ∙ sym (marks _))
  where
    marks : (o : Option (Unit {0})) → o ≡ cond (is_some o) (Some tt) None
    marks None = refl
    marks (Some u) = refl
