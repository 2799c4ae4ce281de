-- When tables stand for a tree.
use Rattle.std.specs.Prelude.{◌≡◌, ◌≢◌, true, ℕ, ◌<◌, ◌≤◌, List, [], ◌∷◌, length, count_by, Option, Some, None, is_some}
use Rattle.pf_tree_tables.specs.declared.changes.Change.{Change}
use Rattle.pf_tree_tables.specs.declared.tables.Inode.{Inode}
use Rattle.pf_tree_tables.specs.declared.tables.Inode.TheVariants.{File as OfFile, Directory}
use Rattle.pf_tree_tables.specs.declared.tables.Tag.{Tag}
use Rattle.pf_tree_tables.specs.Names.{Name, Path}
use Rattle.pf_tree.specs.Calls.{FileCall}
use Rattle.pf_base.specs.declared.calls.Call.TheVariants.{Rmdir}
use Rattle.pf_tree.specs.Trees.{Tree, at, Data, block_count, refusal, tree_sight, changed}
use Rattle.pf_base.specs.Sizes.{most_file_bytes}
use Rattle.pf_tree_tables.specs.Tables.{Tables, Entries, inode_at, tag_at, entry_at, walk, applied}
use Rattle.pf_tree.specs.Plans.{node_at, tables_sight, changes}

-- each path stands in one row at most
abbrev pub IsMap : Tree → Type 0
IsMap [] = Unit {0}
IsMap (row ∷ rows) = (at rows row.0 ≡ None) × IsMap rows

-- each name leads from a directory to an inode in use, other than the root; each inode in use has one name, and a walk leads to it
pub record InodesAreNamed (inodes : ℕ → Option Inode) (entries : Entries) : Type 0 where
  pub root : inodes 0 ≡ Some Directory
  pub from_dir : (d : ℕ) (n : Name) (i : ℕ) → entry_at entries d n ≡ Some i → inodes d ≡ Some Directory
  pub in_use : (d : ℕ) (n : Name) (i : ℕ) → entry_at entries d n ≡ Some i → is_some (inodes i) ≡ true
  pub no_root : (d : ℕ) (n : Name) (i : ℕ) → entry_at entries d n ≡ Some i → i ≢ 0
  pub once : (d e : ℕ) (n m : Name) (i : ℕ) → entry_at entries d n ≡ Some i → entry_at entries e m ≡ Some i → (d ≡ e) × (n ≡ m)
  pub reached : (i : ℕ) → is_some (inodes i) ≡ true → (p : Path) × (walk entries p ≡ Some i)

-- each tag is that of an index of a file, and each index of a file has one tag
pub record IndexesAreTagged (inodes : ℕ → Option Inode) (tags : List (Option Tag)) : Type 0 where
  pub of_file : (b : ℕ) (t : Tag) → tag_at tags b ≡ Some t → (size : ℕ) × (inodes t.inode ≡ Some (OfFile size)) × (t.index < block_count size)
  pub once : (b c : ℕ) (t : Tag) → tag_at tags b ≡ Some t → tag_at tags c ≡ Some t → b ≡ c
  pub there : (i size k : ℕ) → inodes i ≡ Some (OfFile size) → k < block_count size → (b : ℕ) × (tag_at tags b ≡ Some (record { inode = i; index = k }))

pub record TablesStandFor (d : Data) (tables : Tables) (tree : Tree) : Type 0 where
  pub places : length tables.inodes ≡ 1024
  pub dirs : length tables.entries ≡ 1024
  pub blocks : length tables.tags ≡ d.blocks
  pub names : InodesAreNamed (inode_at tables) tables.entries
  pub tags : IndexesAreTagged (inode_at tables) tables.tags
  pub sizes : (i size : ℕ) → inode_at tables i ≡ Some (OfFile size) → size ≤ most_file_bytes
  pub nodes : (p : Path) → at tree p ≡ node_at tables p
  pub once : IsMap tree
  pub count : length tree ≡ count_by is_some tables.inodes

-- what a plan does to tables, beside what the call does to the tree
abbrev pub PlanFollows : Data → Tables → List Change → Tree → Option Tree → Type 0
PlanFollows d tables cs tree None = cs ≡ []
PlanFollows d tables cs tree (Some after) = (cs ≢ []) × TablesStandFor d (applied tables cs) after

-- `/` is no directory that can be removed
abbrev pub IsCall : FileCall → Type 0
IsCall (Rmdir []) = ⊥
IsCall call = Unit {0}

-- the law of a call: the tables refuse exactly as the tree does; where neither does, the planned changes give tables that stand
-- for the tree after the call, and there are none exactly where the tree stays
pub record PlansAs (d : Data) (tables : Tables) (tree : Tree) (call : FileCall) : Type 0 where
  pub refuses : refusal (tables_sight d tables) call ≡ refusal (tree_sight d tree) call
  pub follows : refusal (tree_sight d tree) call ≡ None → PlanFollows d tables (changes d tables call) tree (changed d tree call)
