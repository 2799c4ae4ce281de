-- What stands at the paths of the tables, and the changes that a call plans.
use Rattle.std.specs.Prelude.{ℕ, suc, ◌-◌, Bool, true, cond, not, ◌==◌, nat_le, List, [], ◌∷◌, ◌++◌, map, length, take, drop, Option, Some, None, is_some}
use Rattle.std.specs.Option.{option_and_then, unwrap_or}
use Rattle.pf_tree_tables.specs.declared.changes.Change.{Change}
use Rattle.pf_tree_tables.specs.declared.changes.Change.TheVariants.{SetInode, AddEntry, DeleteEntry, SetTag}
use Rattle.pf_tree_tables.specs.declared.tables.Inode.{Inode}
use Rattle.pf_tree_tables.specs.declared.tables.Inode.TheVariants.{File as OfFile, Directory}
use Rattle.pf_tree_tables.specs.declared.tables.Tag.{Tag}
use Rattle.pf_tree_tables.specs.Names.{Path}
use Rattle.pf_tree_tables.specs.Tables.{Tables, Entries, inode_at, tag_at, has_names, walk, blocks_of, least_free_inode, unused}
use Rattle.pf_tree.specs.Calls.{FileCall}
use Rattle.pf_base.specs.declared.calls.Call.TheVariants.{Mkdir, Create, Write, Read, Truncate, Rename, Unlink, Rmdir, Stat, List as Lists}
use Rattle.pf_tree.specs.Trees.{Node, Dir, File, Sight, Data, block_count, written_size, size_at, blocks_at}

abbrev pub node_in : List (Option Tag) → ℕ → Option Inode → Option Node
node_in tags i None = None
node_in tags i (Some Directory) = Some Dir
node_in tags i (Some (OfFile size)) = Some (File size (blocks_of tags i (block_count size)))

abbrev pub node_of : Tables → ℕ → Option Node
node_of tables i = node_in tables.tags i (inode_at tables i)

-- what stands at a path
abbrev pub node_at : Tables → Path → Option Node
node_at tables p = option_and_then (node_of tables) (walk tables.entries p)

-- no names, or no directory
abbrev pub has_no_names : Entries → Option ℕ → Bool
has_no_names entries None = true
has_no_names entries (Some i) = not (has_names entries i)

abbrev pub untagged : Data → List (Option Tag) → List ℕ
untagged d tags = unused d.first d.blocks (λ b. is_some (tag_at tags b))

abbrev pub tables_sight : Data → Tables → Sight
tables_sight d tables = record {
  look = node_at tables;
  is_empty = λ p. has_no_names tables.entries (walk tables.entries p);
  is_full = nat_le (length tables.inodes) (least_free_inode tables);
  room = length (untagged d tables.tags);
}

abbrev pub found : Tables → Path → ℕ
found tables p = unwrap_or (walk tables.entries p) 0

abbrev pub blocks_freed : List ℕ → List Change
blocks_freed blocks = map (λ b. SetTag b 65535 0) blocks

abbrev pub blocks_given : (inode index : ℕ) → List ℕ → List Change
blocks_given i k [] = []
blocks_given i k (b ∷ bs) = SetTag b i k ∷ blocks_given i (suc k) bs

abbrev pub makes : Tables → ℕ → Path → List Change
makes tables kind [] = []
makes tables kind (n ∷ p) = SetInode (least_free_inode tables) kind 0 ∷ AddEntry (found tables p) (least_free_inode tables) n ∷ []

abbrev pub resizes : Data → Tables → ℕ → Option Node → ℕ → List Change
resizes d tables i node size =
    SetInode i 1 size
    ∷ (blocks_freed (drop (block_count size) (blocks_at node))
    ++ blocks_given i (block_count (size_at node)) (take (block_count size - block_count (size_at node)) (untagged d tables.tags)))

-- no change where the size stays
abbrev pub sizes : Data → Tables → Path → ℕ → List Change
sizes d tables p size = cond (size == size_at (node_at tables p)) [] (resizes d tables (found tables p) (node_at tables p) size)

abbrev pub unlinks : Tables → Path → List Change
unlinks tables [] = []
unlinks tables (n ∷ p) =
    DeleteEntry (found tables p) n ∷ (blocks_freed (blocks_at (node_at tables (n ∷ p))) ++ SetInode (found tables (n ∷ p)) 0 0 ∷ [])

abbrev pub removes : Tables → Path → List Change
removes tables [] = []
removes tables (n ∷ p) = DeleteEntry (found tables p) n ∷ SetInode (found tables (n ∷ p)) 0 0 ∷ []

abbrev pub renames : Tables → (from to : Path) → List Change
renames tables [] to = []
renames tables (n ∷ p) [] = []
renames tables (n ∷ p) (m ∷ q) = DeleteEntry (found tables p) n ∷ AddEntry (found tables q) (found tables (n ∷ p)) m ∷ []

-- the changes of a call that is not refused, in order
abbrev pub changes : Data → Tables → FileCall → List Change
changes d tables (Mkdir p) = makes tables 2 p
changes d tables (Create p) = makes tables 1 p
changes d tables (Write p offset byte count) = sizes d tables p (written_size (size_at (node_at tables p)) offset count)
changes d tables (Truncate p size) = sizes d tables p size
changes d tables (Rename from to) = renames tables from to
changes d tables (Unlink p) = unlinks tables p
changes d tables (Rmdir p) = removes tables p
changes d tables (Read p offset count) = []
changes d tables (Stat p) = []
changes d tables (Lists p) = []
