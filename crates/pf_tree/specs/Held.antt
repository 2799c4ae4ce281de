-- What a mount holds: tables, and the first of its data blocks. The words of its look-ups.
use Rattle.std.specs.Prelude.{◌≡◌, ◌≢◌, ℕ, ◌≤◌, List, [], length, ◌∷◌, ◌++◌, ◌-◌, take, drop, Option, Some}
use Rattle.std.specs.Option.{option_and_then}
use Rattle.pf_tree_tables.specs.declared.changes.Change.{Change}
use Rattle.pf_tree_tables.specs.declared.changes.Change.TheVariants.{SetInode}
use Rattle.pf_tree_tables.specs.declared.tables.Inode.TheVariants.{File as OfFile}
use Rattle.pf_tree_tables.specs.declared.tables.Tag.{Tag}
use Rattle.pf_tree_tables.specs.Names.{Name, Path}
use Rattle.pf_base.specs.Sizes.{most_file_bytes}
use Rattle.pf_tree_tables.specs.Tables.{Tables, Entries, inode_at, entry_at, walk, blocks_of, untagged_from}
use Rattle.pf_tree.specs.Trees.{Data, step_refusal, block_count}
use Rattle.pf_tree.specs.Plans.{node_of, blocks_freed, blocks_given}

-- the tables of a mount, and the first of its data blocks
pub record Held : Type 0 where
  pub first : ℕ
  pub tables : Tables

-- the refusal of one name further
abbrev pub refusal_of_step : Tables → ℕ → Name → Option ℕ
refusal_of_step tables d n = step_refusal (node_of tables d) (option_and_then (node_of tables) (entry_at tables.entries d n))

-- where the path's directory is
abbrev pub IsParent : Entries → Path → ℕ → Type 0
IsParent entries [] d = ⊥
IsParent entries (n ∷ p) d = walk entries p ≡ Some d

pub record IsFileAt (tables : Tables) (p : Path) (i size : ℕ) : Type 0 where
  pub leads : walk tables.entries p ≡ Some i
  pub is : inode_at tables i ≡ Some (OfFile size)
  pub no_root : i ≢ 0
  pub low : size ≤ most_file_bytes

-- the changes that give a file another size
abbrev pub size_changes : ℕ → List (Option Tag) → (inode old size : ℕ) → List Change
size_changes first tags i old size =
    SetInode i 1 size
    ∷ (blocks_freed (drop (block_count size) (blocks_of tags i (block_count old)))
    ++ blocks_given i (block_count old) (take (block_count size - block_count old) (untagged_from first tags)))

-- the data blocks of tables, by their first one
abbrev pub data_of : ℕ → Tables → Data
data_of first t = record { first = first; blocks = length t.tags }
