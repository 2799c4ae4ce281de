-- What look-ups along paths find.
use Rattle.std.proofs.Common.{◌≡◌, ℕ, ◌<◌, [], ◌∷◌, length, arith, true, nat_le, None, Some, is_some, sym, ap, ◌∙◌, le_of_eq}
use Rattle.std.specs.Option.{option_and_then}
use Rattle.std.proofs.lemmas.Bool.{false≢true, lt-leb, le-leb}
use Rattle.pf_tree_tables.specs.Names.{Path}
use Rattle.pf_tree_tables.specs.Tables.{Tables, HasRoot, inode_at, walk}
use Rattle.pf_tree.specs.Trees.{walk_refusal, when}
use Rattle.pf_tree.specs.Plans.{node_in, node_of, node_at}
use Rattle.pf_tree.specs.Held.{IsFileAt}
use Rattle.pf_tree.proofs.Law.{walk_reaches}

-- a walk that is not refused leads to an inode in use
pub led_in_use : (t : Tables) (p : Path) (i : ℕ) → HasRoot t → walk_refusal (node_at t) p ≡ None → walk t.entries p ≡ Some i → inode_at t i ≡ None → ⊥
led_in_use t p i root e w gone =
    let r : is_some (node_at t p) ≡ true = walk_reaches (node_at t) p (ap (λ o. is_some (node_in t.tags 0 o)) root) e in
    false≢true (sym (ap is_some (ap (option_and_then (node_of t)) w ∙ ap (node_in t.tags i) gone)) ∙ r)

-- no file stands at `/`
pub not_at_root : (t : Tables) (p : Path) (i size : ℕ) → length p ≡ 0 → IsFileAt t p i size → ⊥
not_at_root t [] i size none file = file.no_root (let leads = file.leads in cc)
not_at_root t (n ∷ p) i size none file = omega (arith, none)

pub not_full : (n i : ℕ) → i < n → when 87 (nat_le n i) ≡ None
not_full n i low = ap (when 87) (lt-leb n i low)

pub is_full : (n i : ℕ) → n ≡ i → when 87 (nat_le n i) ≡ Some 87
is_full n i e = ap (when 87) (le-leb n i (le_of_eq e))
