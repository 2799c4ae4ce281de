-- When tables that transactions made stand for a tree: they are the tables of a volume with data blocks from 513 to 4,095.
use Rattle.std.specs.Prelude.{◌≡◌, ℕ, ◌≤◌, Some}
use Rattle.std.specs.Option.{option_map}
use Rattle.pf_tree_tables.specs.declared.tables.Inode.{Inode}
use Rattle.pf_tree_tables.specs.declared.tables.Inode.TheVariants.{File as OfFile, Directory as OfDirectory}
use Rattle.pf_tree_tables.specs.declared.tables.Tag.{Tag}
use Rattle.pf_tree_tables.specs.Names.{Name}
use Rattle.pf_tree_tables.specs.Tables.{Tables, inode_at, entry_at, tag_at}
use Rattle.pf_layout.specs.Paths.{IsName}
use Rattle.pf_tree.specs.Standing.{TablesStandFor}
use Rattle.pf_base.specs.Sizes.{first_data_block}
use Rattle.pf_tree.specs.Trees.{Data, Tree}
use Rattle.pf_check.specs.declared.tables.RawInode.{RawInode}
use Rattle.pf_check.specs.declared.tables.RawInode.TheVariants.{File, Directory}
use Rattle.pf_check.specs.Raw.{RawTables, inode_in}

-- a directory of a volume has size 0
abbrev pub raw_of : Inode → RawInode
raw_of (OfFile size) = File size
raw_of OfDirectory = Directory 0

-- what was read has the inodes, entries and tags of the tables; no tag but those of data blocks, and no name but those that calls can make
pub record AreSame (t : RawTables) (tables : Tables) : Type 0 where
  pub inodes : (i : ℕ) → inode_in t i ≡ option_map raw_of (inode_at tables i)
  pub entries : (d : ℕ) (n : Name) → entry_at t.entries d n ≡ entry_at tables.entries d n
  pub tags : (b : ℕ) → tag_at t.tags b ≡ tag_at tables.tags b
  pub data_blocks : (b : ℕ) (tag : Tag) → tag_at t.tags b ≡ Some tag → first_data_block ≤ b
  pub names : (d : ℕ) (n : Name) (i : ℕ) → entry_at t.entries d n ≡ Some i → IsName n

abbrev pub whole_volume : Data
whole_volume = record { first = first_data_block; blocks = 4096 }

pub record StandsAs (t : RawTables) (tree : Tree) : Type 0 where
  pub tables : Tables
  pub same : AreSame t tables
  pub stands : TablesStandFor whole_volume tables tree
