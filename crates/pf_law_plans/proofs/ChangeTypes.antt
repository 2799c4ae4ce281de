-- The changes of a planned call are within their types, on tables that stand for a tree.
use Rattle.std.proofs.Common.{◌≡◌, ℕ, suc, ◌+◌, ◌-◌, ◌<◌, ◌≤◌, ◌^◌, ◌==◌, cond, not, nat_lt, true, List, [], ◌∷◌, length, take, drop, Option, Some, None, is_some, arith, refl}
use Rattle.std.specs.List.{range_with_len}
use Rattle.std.specs.Option.{is_none, option_and_then, unwrap_or}
use Rattle.std.proofs.lemmas.Bool.{ltb-false}
use Rattle.std.proofs.lemmas.List.{length-take}
use Rattle.std.proofs.lemmas.List.Sums.{prefix_len-le-length}
use Rattle.std.proofs.lemmas.Option.{none-some, same_Some}
use Rattle.pf_entry.specs.Lists.{Every}
use Rattle.pf_entry.proofs.Cases.{by_test}
use Rattle.pf_entry.proofs.Lists.{every_append, every_filter, every_map, every_range}
use Rattle.pf_tree_tables.specs.declared.changes.Change.TheVariants.{SetInode}
use Rattle.pf_tree_tables.specs.declared.tables.Inode.{Inode}
use Rattle.pf_tree_tables.specs.declared.tables.Inode.TheVariants.{File as OfFile, Directory}
use Rattle.pf_tree_tables.specs.declared.tables.Tag.{Tag}
use Rattle.pf_tree_tables.specs.Names.{Name, Path}
use Rattle.pf_tree_tables.specs.Tables.{Tables, block_of, entry_at, inode_at, is_tag, least_free_inode, tag_at, walk}
use Rattle.pf_tree.specs.Calls.{FileCall}
use Rattle.pf_base.specs.declared.calls.Call.TheVariants.{Mkdir, Create, Write, Read, Truncate, Rename, Unlink, Rmdir, Stat, List as Lists}
use Rattle.pf_tree.specs.Plans.{changes, found, blocks_freed, blocks_given, makes, node_at, node_in, node_of, removes, renames, resizes, sizes, tables_sight, unlinks, untagged}
use Rattle.pf_tree.specs.Standing.{TablesStandFor}
use Rattle.pf_tree.specs.Trees.{Data, Tree, block_count, blocks_at, file_refusal, refusal, size_at, when, written_size}
use Rattle.pf_tree.proofs.Law.{few_blocks, first_none, when_none, written_few}
use Rattle.pf_tree.proofs.Steps.{used_within}
use Rattle.pf_txn.specs.Fields.{IsTypedChange}
use Rattle.pf_law_plans.proofs.Lists.{every_drop, every_take}
use Rattle.pf_law_plans.specs.Spelled.{HasByteName, IsByteCall}

-- Numbers

-- it has two bytes
abbrev IsLow : ℕ → Type 0
IsLow n = n < 2 ^ 16

freed_typed : (blocks : List ℕ) → Every IsLow blocks → Every IsTypedChange (blocks_freed blocks)
freed_typed [] low = tt
freed_typed (b ∷ blocks) low = ((low.0, omega arith, omega arith), freed_typed blocks low.1)

given_typed : (i first : ℕ) (blocks : List ℕ) → IsLow i → first + length blocks ≤ 48 → Every IsLow blocks → Every IsTypedChange (blocks_given i first blocks)
given_typed i first [] inode few low = tt
given_typed i first (b ∷ blocks) inode few low = ((low.0, inode, omega (arith, few)), given_typed i (suc first) blocks inode (omega (arith, few)) low.1)

module _ (d : Data) (t : Tables) (tree : Tree) (stand : TablesStandFor d t tree) (few : length t.tags ≤ 4096) where
  -- Inodes

  entry_low : (n : Name) (i : ℕ) (at : Option ℕ) → option_and_then (λ j. entry_at t.entries j n) at ≡ Some i → i < 1024
  entry_low n i None is = absurd (none-some i is)
  entry_low n i (Some j) is = let low = used_within t.inodes i (stand.names.in_use j n i is) in omega (arith, low, stand.places)

  walk_low : (p : Path) (i : ℕ) → walk t.entries p ≡ Some i → i < 1024
  walk_low [] i is = let same = same_Some 0 i is in omega (arith, same)
  walk_low (n ∷ p) i is = entry_low n i (walk t.entries p) is

  led_low : (p : Path) (at : Option ℕ) → walk t.entries p ≡ at → IsLow (unwrap_or at 0)
  led_low p None is = omega arith
  led_low p (Some i) is = let low = walk_low p i is in omega (arith, low)

  found_low : (p : Path) → IsLow (found t p)
  found_low p = led_low p (walk t.entries p) refl

  least_low : IsLow (least_free_inode t)
  least_low = let most : least_free_inode t ≤ length t.inodes = prefix_len-le-length (λ (x : Option Inode). not (is_none x)) t.inodes in omega (arith, most, stand.places)

  -- Blocks

  block_low : (inode index : ℕ) → IsLow (block_of t.tags inode index)
  block_low inode index =
      let most : block_of t.tags inode index ≤ length t.tags = prefix_len-le-length (λ (tag : Option Tag). not (is_tag inode index tag)) t.tags in
      omega (arith, most, few)

  in_node : (i : ℕ) (x : Option Inode) → Every IsLow (blocks_at (node_in t.tags i x))
  in_node i None = tt
  in_node i (Some Directory) = tt
  in_node i (Some (OfFile size)) =
      every_map IsLow (block_of t.tags i) (range_with_len 0 (block_count size)) (every_range (λ k. IsLow (block_of t.tags i k)) (block_count size) 0 (λ k low high. block_low i k))

  at_walk : (at : Option ℕ) → Every IsLow (blocks_at (option_and_then (node_of t) at))
  at_walk None = tt
  at_walk (Some i) = in_node i (inode_at t i)

  blocks_low : (p : Path) → Every IsLow (blocks_at (node_at t p))
  blocks_low p = at_walk (walk t.entries p)

  untagged_low : Every IsLow (untagged d t.tags)
  untagged_low =
      every_filter IsLow (λ b. not (is_some (tag_at t.tags b))) (range_with_len d.first (d.blocks - d.first))
      (every_range (λ b. not (is_some (tag_at t.tags b)) ≡ true → IsLow b) (d.blocks - d.first) d.first (λ b low high free. let blocks = stand.blocks in omega (arith, high, low, blocks, few)))

  -- Sizes

  size_in_node : (i : ℕ) (x : Option Inode) → inode_at t i ≡ x → size_at (node_in t.tags i x) ≤ 196608
  size_in_node i None is = omega arith
  size_in_node i (Some Directory) is = omega arith
  size_in_node i (Some (OfFile size)) is = stand.sizes i size is

  size_at_walk : (at : Option ℕ) → size_at (option_and_then (node_of t) at) ≤ 196608
  size_at_walk None = omega arith
  size_at_walk (Some i) = size_in_node i (inode_at t i) refl

  size_low : (p : Path) → size_at (node_at t p) ≤ 196608
  size_low p = size_at_walk (walk t.entries p)

  -- Changes

  resizes_typed : (p : Path) (size : ℕ) → size ≤ 196608 → Every IsTypedChange (resizes d t (found t p) (node_at t p) size)
  resizes_typed p size low =
      let first = block_count (size_at (node_at t p)) in
      let gone : List ℕ = drop (block_count size) (blocks_at (node_at t p)) in
      let fresh : List ℕ = take (block_count size - first) (untagged d t.tags) in
      let many = length-take (block_count size - first) (untagged d t.tags) in
      let before = few_blocks (size_at (node_at t p)) (size_low p) in
      let after = few_blocks size low in (
        (found_low p, omega (arith, low)),
        every_append IsTypedChange (blocks_freed gone) (blocks_given (found t p) first fresh) (freed_typed gone (every_drop IsLow (block_count size) (blocks_at (node_at t p)) (blocks_low p)))
            (given_typed (found t p) first fresh (found_low p) (omega (arith, many, before, after)) (every_take IsLow (block_count size - first) (untagged d t.tags) untagged_low)),
      )

  sizes_typed : (p : Path) (size : ℕ) → size ≤ 196608 → Every IsTypedChange (sizes d t p size)
  sizes_typed p size low =
      by_test (size == size_at (node_at t p)) (λ b. Every IsTypedChange (cond b [] (resizes d t (found t p) (node_at t p) size))) (λ _. tt) (λ _. resizes_typed p size low)

  makes_typed : (kind : ℕ) (p : Path) → HasByteName p → Every IsTypedChange (makes t kind p)
  makes_typed kind [] bytes = tt
  makes_typed kind (n ∷ p) bytes = ((least_low, omega arith), ((found_low p, least_low, bytes), tt))

  renames_typed : (from to : Path) → HasByteName from → HasByteName to → Every IsTypedChange (renames t from to)
  renames_typed [] to bytes others = tt
  renames_typed (n ∷ p) [] bytes others = tt
  renames_typed (n ∷ p) (m ∷ q) bytes others = ((found_low p, bytes), ((found_low q, found_low (n ∷ p), others), tt))

  unlinks_typed : (p : Path) → HasByteName p → Every IsTypedChange (unlinks t p)
  unlinks_typed [] bytes = tt
  unlinks_typed (n ∷ p) bytes =
      let gone : List ℕ = blocks_at (node_at t (n ∷ p)) in (
        (found_low p, bytes),
        every_append IsTypedChange (blocks_freed gone) (SetInode (found t (n ∷ p)) 0 0 ∷ []) (freed_typed gone (blocks_low (n ∷ p))) ((found_low (n ∷ p), omega arith), tt),
      )

  removes_typed : (p : Path) → HasByteName p → Every IsTypedChange (removes t p)
  removes_typed [] bytes = tt
  removes_typed (n ∷ p) bytes = ((found_low p, bytes), ((found_low (n ∷ p), omega arith), tt))

  -- of a call that is not refused
  pub changes_typed : (call : FileCall) → IsByteCall call → refusal (tables_sight d t) call ≡ None → Every IsTypedChange (changes d t call)
  changes_typed (Mkdir p) bytes fine = makes_typed 2 p bytes
  changes_typed (Create p) bytes fine = makes_typed 1 p bytes
  changes_typed (Write p offset byte count) bytes fine =
      let file = first_none (file_refusal (node_at t) p) _ fine in
      let large = first_none (when 88 (nat_lt 196608 (offset + count))) _ file.1 in
      sizes_typed p (written_size (size_at (node_at t p)) offset count) (written_few (size_at (node_at t p)) offset count (size_low p) (ltb-false _ _ (when_none 88 _ large.0)))
  changes_typed (Truncate p size) bytes fine =
      let file = first_none (file_refusal (node_at t) p) _ fine in
      let large = first_none (when 88 (nat_lt 196608 size)) _ file.1 in
      sizes_typed p size (ltb-false _ _ (when_none 88 _ large.0))
  changes_typed (Rename from to) bytes fine = renames_typed from to bytes.0 bytes.1
  changes_typed (Unlink p) bytes fine = unlinks_typed p bytes
  changes_typed (Rmdir p) bytes fine = removes_typed p bytes
  changes_typed (Read p offset count) bytes fine = tt
  changes_typed (Stat p) bytes fine = tt
  changes_typed (Lists p) bytes fine = tt
