-- The changes of a call have a spelling of at most 324 bytes, so a planned transaction has one of at most 330.
use Rattle.std.proofs.Common.{◌≡◌, ◌≢◌, ℕ, ◌+◌, ◌-◌, ◌*◌, ◌<◌, ◌≤◌, inl, inr, ◌==◌, nat_lt, List, [], ◌∷◌, ◌++◌, length, take, drop, true, Option, Some, None, is_some, refl, sym, ap, subst, arith}
use Rattle.std.specs.Option.{option_and_then, unwrap_or}
use Rattle.std.proofs.lemmas.Bool.{cases_Bool, cond-true, cond-false, ltb-false}
use Rattle.std.proofs.lemmas.List.{length-append, length-take, length-drop}
use Rattle.pf_tree.specs.Calls.{FileCall}
use Rattle.pf_base.specs.declared.calls.Call.TheVariants.{Mkdir, Create, Write, Read, Truncate, Rename, Unlink, Rmdir, Stat, List as Lists}
use Rattle.pf_tree_tables.specs.declared.changes.Change.{Change}
use Rattle.pf_tree_tables.specs.declared.changes.Change.TheVariants.{SetInode, AddEntry, DeleteEntry, SetTag}
use Rattle.pf_tree_tables.specs.declared.tables.Inode.{Inode}
use Rattle.pf_tree_tables.specs.declared.tables.Inode.TheVariants.{File as OfFile, Directory}
use Rattle.pf_tree_tables.specs.Names.{Path}
use Rattle.pf_tree.specs.Trees.{Node, Dir, File, Data, block_count, size_at, blocks_at, written_size, file_refusal, step_refusal, walk_refusal, when, refusal}
use Rattle.pf_tree_tables.specs.Tables.{Tables, inode_at, walk}
use Rattle.pf_tree.specs.Plans.{node_in, node_of, node_at, tables_sight, found, untagged, blocks_freed, blocks_given, makes, sizes, resizes, unlinks, removes, renames, changes}
use Rattle.pf_tree.proofs.Tags.{length_blocks}
use Rattle.pf_tree.proofs.Steps.{used_within}
use Rattle.pf_tree.proofs.Law.{first_none, when_none, few_blocks, written_few}
use Rattle.pf_tree_tables.specs.declared.changes.Txn.{Txn}
use Rattle.pf_txn.specs.Spelling.{FitChanges, NameIsShort, IsShortCall, CanSpell, four, spell_changes, spell_txn}
use Rattle.pf_txn.proofs.Sizes.{costs, costs_append, costs_freed, costs_given, fit_append, fit_freed, fit_given, length_changes}

pub record Few (cs : List Change) : Type 0 where
  pub bytes : costs cs ≤ 324
  pub fit : FitChanges cs

nothing : Few []
nothing = record { bytes = omega arith; fit = tt }

makes_few : (t : Tables) (kind : ℕ) (p : Path) → kind ≤ 2 → NameIsShort p → Few (makes t kind p)
makes_few t kind [] low short = nothing
makes_few t kind (n ∷ p) low short = record { bytes = omega arith; fit = (low, (omega arith, tt)) }

removes_few : (t : Tables) (p : Path) → NameIsShort p → Few (removes t p)
removes_few t [] short = nothing
removes_few t (n ∷ p) short = record { bytes = omega arith; fit = (omega arith, (omega arith, tt)) }

renames_few : (t : Tables) (from to : Path) → NameIsShort from → NameIsShort to → Few (renames t from to)
renames_few t [] to short short2 = nothing
renames_few t (n ∷ p) [] short short2 = nothing
renames_few t (n ∷ p) (m ∷ q) short short2 = record { bytes = omega arith; fit = (omega arith, (omega arith, tt)) }

step_some : (before next : Option Node) → step_refusal before next ≡ None → is_some next ≡ true
step_some (Some (File size blocks)) next e = cc
step_some (Some Dir) (Some node) e = refl
step_some (Some Dir) None e = cc
step_some None (Some node) e = refl
step_some None None e = cc

-- of tables with their 1,024 inodes, where no file is larger than the greatest size, as they always are
module _ (d : Data) (t : Tables) (places : length t.inodes ≡ 1024) (low_sizes : (i size : ℕ) → inode_at t i ≡ Some (OfFile size) → size ≤ 196608) where
  in_place : (i : ℕ) (o : Option Inode) → inode_at t i ≡ o → (length (blocks_at (node_in t.tags i o)) ≡ block_count (size_at (node_in t.tags i o))) × (size_at (node_in t.tags i o) ≤ 196608)
  in_place i None e = (refl, omega arith)
  in_place i (Some Directory) e = (refl, omega arith)
  in_place i (Some (OfFile size)) e = (length_blocks t.tags i (block_count size), low_sizes i size e)

  at_walk : (o : Option ℕ) → (length (blocks_at (option_and_then (node_of t) o)) ≡ block_count (size_at (option_and_then (node_of t) o))) × (size_at (option_and_then (node_of t) o) ≤ 196608)
  at_walk None = (refl, omega arith)
  at_walk (Some i) = in_place i (inode_at t i) refl

  used_low : (i : ℕ) (x : Option Inode) → inode_at t i ≡ x → is_some (node_in t.tags i x) ≡ true → i < 1024
  used_low i None e some = cc
  used_low i (Some x) e some = let u = used_within t.inodes i (ap is_some e) in omega (arith, u, places)

  led_low : (o : Option ℕ) → is_some (option_and_then (node_of t) o) ≡ true → unwrap_or o 0 < 1024
  led_low None some = omega arith
  led_low (Some i) some = used_low i (inode_at t i) refl some

  -- a file whose path leads to it
  found_low : (p : Path) → file_refusal (node_at t) p ≡ None → found t p < 1024
  found_low [] e = omega arith
  found_low (n ∷ p) e =
      let f = first_none (walk_refusal (node_at t) (n ∷ p)) _ e in
      let g = first_none (walk_refusal (node_at t) p) (step_refusal (node_at t p) (node_at t (n ∷ p))) f.0 in
      led_low (walk t.entries (n ∷ p)) (step_some (node_at t p) (node_at t (n ∷ p)) g.1)

  resizes_few : (p : Path) (size : ℕ) → found t p < 1024 → size ≤ 196608 → Few (resizes d t (found t p) (node_at t p) size)
  resizes_few p size there low =
      let node : Option Node = node_at t p in
      let w = at_walk (walk t.entries p) in
      let gone : List ℕ = drop (block_count size) (blocks_at node) in
      let fresh : List ℕ = take (block_count size - block_count (size_at node)) (untagged d t.tags) in
      let a = few_blocks size low in
      let b = few_blocks (size_at node) w.1 in
      let w0 : length (blocks_at node) ≡ block_count (size_at node) = w.0 in
      let e1 = length-drop (block_count size) (blocks_at node) in
      let e2 = length-take (block_count size - block_count (size_at node)) (untagged d t.tags) in
      let c1 = costs_append (blocks_freed gone) (blocks_given (found t p) (block_count (size_at node)) fresh) in
      let c2 = costs_freed gone in
      let c3 = costs_given (found t p) (block_count (size_at node)) fresh in
      let other : found t p ≢ 65535 = λ e. omega (arith, e, there) in
      record {
        bytes = omega (arith, a, b, w0, e1, e2, c1, c2, c3);
        fit = (omega arith, fit_append (blocks_freed gone) (blocks_given (found t p) (block_count (size_at node)) fresh) (fit_freed gone) (fit_given (found t p) (block_count (size_at node)) fresh other));
      }

  sizes_few : (p : Path) (size : ℕ) → found t p < 1024 → size ≤ 196608 → Few (sizes d t p size)
  sizes_few p size there low =
      elim (cases_Bool (size == size_at (node_at t p))) [
        | inl same ↦ subst Few (sym (cond-true _ [] (resizes d t (found t p) (node_at t p) size) same)) nothing
        | inr other ↦ subst Few (sym (cond-false _ [] (resizes d t (found t p) (node_at t p) size) other)) (resizes_few p size there low)
      ]

  unlinks_few : (p : Path) → NameIsShort p → Few (unlinks t p)
  unlinks_few [] short = nothing
  unlinks_few (n ∷ p) short =
      let bs : List ℕ = blocks_at (node_at t (n ∷ p)) in
      let w = at_walk (walk t.entries (n ∷ p)) in
      let b = few_blocks (size_at (node_at t (n ∷ p))) w.1 in
      let w0 : length bs ≡ block_count (size_at (node_at t (n ∷ p))) = w.0 in
      let c1 = costs_append (blocks_freed bs) (SetInode (found t (n ∷ p)) 0 0 ∷ []) in
      let c2 = costs_freed bs in
      record {
        bytes = omega (arith, b, w0, c1, c2, short);
        fit = (omega (arith, short), fit_append (blocks_freed bs) (SetInode (found t (n ∷ p)) 0 0 ∷ []) (fit_freed bs) (omega arith, tt));
      }

  -- a call that is not refused
  pub changes_few : (call : FileCall) → IsShortCall call → refusal (tables_sight d t) call ≡ None → Few (changes d t call)
  changes_few (Mkdir p) short e = makes_few t 2 p (omega arith) short
  changes_few (Create p) short e = makes_few t 1 p (omega arith) short
  changes_few (Write p offset byte count) short e =
      let f = first_none (file_refusal (node_at t) p) _ e in
      let g = first_none (when 88 (nat_lt 196608 (offset + count))) _ f.1 in
      let w = at_walk (walk t.entries p) in
      sizes_few p (written_size (size_at (node_at t p)) offset count) (found_low p f.0) (written_few (size_at (node_at t p)) offset count w.1 (ltb-false _ _ (when_none 88 _ g.0)))
  changes_few (Truncate p size) short e =
      let f = first_none (file_refusal (node_at t) p) _ e in
      let g = first_none (when 88 (nat_lt 196608 size)) _ f.1 in
      sizes_few p size (found_low p f.0) (ltb-false _ _ (when_none 88 _ g.0))
  changes_few (Rename from to) short e = renames_few t from to short.0 short.1
  changes_few (Unlink p) short e = unlinks_few p short
  changes_few (Rmdir p) short e = removes_few t p short
  changes_few (Read p offset count) short e = nothing
  changes_few (Stat p) short e = nothing
  changes_few (Lists p) short e = nothing

-- each change has four bytes at least
four_each : (cs : List Change) → 4 * length cs ≤ costs cs
four_each [] = omega arith
four_each (SetInode i kind size ∷ cs) = let a = four_each cs in omega (arith, a)
four_each (AddEntry d i name ∷ cs) = let a = four_each cs in omega (arith, a)
four_each (DeleteEntry d name ∷ cs) = let a = four_each cs in omega (arith, a)
four_each (SetTag b i k ∷ cs) = let a = four_each cs in omega (arith, a)

-- the transaction of a planned call meets the condition of its spelling, which has at most 330 bytes
pub can_spell : (t : Txn) → Few t.changes → CanSpell t × (length (spell_txn t) ≤ 330)
can_spell t f =
    let b = f.bytes in
    let c = four_each t.changes in
    let l = length_changes t.changes in
    let e = length-append (t.mount ∷ [] ++ four t.number ++ length t.changes ∷ []) (spell_changes t.changes) in
    let h : length (t.mount ∷ [] ++ four t.number ++ length t.changes ∷ []) ≡ 6 = refl in
    let few : length (spell_txn t) ≤ 330 = omega (arith, b, l, e, h) in
    (record { changes = f.fit; count = omega (arith, b, c); few = omega (arith, few) }, few)
