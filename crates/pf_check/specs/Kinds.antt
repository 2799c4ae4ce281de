-- What tables have to keep to stand for a tree, and where they do not: seven kinds of rules, each kept or broken at a number.
use Rattle.std.specs.Prelude.{◌≡◌, ◌≢◌, ◌<◌, ◌≤◌, ℕ, suc, zero, ◌⊎◌, true, Option, Some, None, is_some}
use Rattle.pf_tree_tables.specs.declared.tables.Tag.{Tag}
use Rattle.pf_tree_tables.specs.Names.{Name, Path}
use Rattle.pf_base.specs.Sizes.{most_file_bytes}
use Rattle.pf_tree_tables.specs.Tables.{entry_at, tag_at, walk}
use Rattle.pf_layout.specs.Paths.{IsName}
use Rattle.pf_base.specs.Sizes.{first_data_block}
use Rattle.pf_tree.specs.Trees.{block_count}
use Rattle.pf_check.specs.declared.tables.RawInode.{RawInode}
use Rattle.pf_check.specs.declared.tables.RawInode.TheVariants.{File, Directory}
use Rattle.pf_check.specs.Raw.{RawTables, inode_in}

abbrev pub IsDirectory : RawTables → ℕ → Type 0
IsDirectory t i = (size : ℕ) × (inode_in t i ≡ Some (Directory size))

abbrev pub IsUsed : RawTables → ℕ → Type 0
IsUsed t i = is_some (inode_in t i) ≡ true

-- an entry stands in a directory, names an inode in use up to 1,023, and has a name
pub record EntryIsSound (t : RawTables) (d : ℕ) (n : Name) (i : ℕ) : Type 0 where
  pub directory : IsDirectory t d
  pub used : IsUsed t i
  pub low : i ≤ 1023
  pub name : IsName n

-- an entry of a directory that is not sound
pub record HasStray (t : RawTables) (d : ℕ) : Type 0 where
  pub name : Name
  pub inode : ℕ
  pub stands : entry_at t.entries d name ≡ Some inode
  pub stray : EntryIsSound t d name inode → ⊥

-- an entry that names the inode
pub record InodeIsNamed (t : RawTables) (i : ℕ) : Type 0 where
  pub directory : ℕ
  pub name : Name
  pub stands : entry_at t.entries directory name ≡ Some i

-- exactly one entry names the inode
pub record IsNamedOnce (t : RawTables) (i : ℕ) : Type 0 where
  pub by : InodeIsNamed t i
  pub only : (d : ℕ) (n : Name) → entry_at t.entries d n ≡ Some i → (d ≡ by.directory) × (n ≡ by.name)

-- names lead from inode 0 to the inode
abbrev pub IsReached : RawTables → ℕ → Type 0
IsReached t i = (p : Path) × (walk t.entries p ≡ Some i)

-- a directory has size 0, and a file at most the greatest size
abbrev pub InodeIsSized : Option RawInode → Type 0
InodeIsSized None = Unit {0}
InodeIsSized (Some (Directory size)) = size ≡ 0
InodeIsSized (Some (File size)) = size ≤ most_file_bytes

-- the block of an index of a file
abbrev pub IsOfFile : RawTables → Tag → Type 0
IsOfFile t tag = (size : ℕ) × (inode_in t tag.inode ≡ Some (File size)) × (tag.index < block_count size)

-- a tag of a data block is that of an index of a file, and of no lesser block
pub record IsTagSound (t : RawTables) (b : ℕ) (tag : Tag) : Type 0 where
  pub low : first_data_block ≤ b
  pub high : b ≤ 4095
  pub of_file : IsOfFile t tag
  pub first : (c : ℕ) → c < b → tag_at t.tags c ≢ Some tag

-- a tag that is not sound
pub record HasStrayTag (t : RawTables) (b : ℕ) : Type 0 where
  pub tag : Tag
  pub stands : tag_at t.tags b ≡ Some tag
  pub stray : IsTagSound t b tag → ⊥

-- some block has the tag
abbrev pub TagIsUsed : RawTables → Tag → Type 0
TagIsUsed t tag = (b : ℕ) × (tag_at t.tags b ≡ Some tag)

-- a file without a block of an index that its size has
pub record HasGap (t : RawTables) (i : ℕ) : Type 0 where
  pub size : ℕ
  pub index : ℕ
  pub is : inode_in t i ≡ Some (File size)
  pub within : index < block_count size
  pub gap : TagIsUsed t (record { inode = i; index = index }) → ⊥

-- the rule of each kind at a number
abbrev pub KeepsRule : (kind : ℕ) → RawTables → ℕ → Type 0
KeepsRule zero t n = Unit {0}
KeepsRule (suc zero) t n = n ≡ 0 → IsDirectory t 0
KeepsRule (suc (suc zero)) t d = (n : Name) (i : ℕ) → entry_at t.entries d n ≡ Some i → EntryIsSound t d n i
KeepsRule (suc (suc (suc zero))) t i = (i ≡ 0 → InodeIsNamed t 0 → ⊥) × (i ≢ 0 → IsUsed t i → IsNamedOnce t i)
KeepsRule (suc (suc (suc (suc zero)))) t i = IsUsed t i → IsReached t i
KeepsRule (suc (suc (suc (suc (suc zero))))) t i = InodeIsSized (inode_in t i)
KeepsRule (suc (suc (suc (suc (suc (suc zero)))))) t b = (tag : Tag) → tag_at t.tags b ≡ Some tag → IsTagSound t b tag
KeepsRule (suc (suc (suc (suc (suc (suc (suc k))))))) t i =
    (size index : ℕ) → inode_in t i ≡ Some (File size) → index < block_count size → TagIsUsed t (record { inode = i; index = index })

-- the number shows that the tables break the rule of the kind:
--   1  inode 0 is not a directory
--   2  the directory has an entry that stands in no directory, names an inode that is free or past 1,023, or has a name that is none
--   3  inode 0 is named, or the inode is another one in use and not named by exactly one entry
--   4  the inode is in use and not reached from inode 0
--   5  the inode is a directory of another size than 0, or a file above the greatest size
--   6  the block has a tag and is no data block, or its tag is of no file, of an index past its size, or that of a lesser block
--   7  the inode is a file that lacks a block of an index that its size has
abbrev pub KindShows : (kind : ℕ) → RawTables → ℕ → Type 0
KindShows zero t n = ⊥
KindShows (suc zero) t n = (n ≡ 0) × (IsDirectory t 0 → ⊥)
KindShows (suc (suc zero)) t d = HasStray t d
KindShows (suc (suc (suc zero))) t i = ((i ≡ 0) × InodeIsNamed t 0) ⊎ ((i ≢ 0) × IsUsed t i × (IsNamedOnce t i → ⊥))
KindShows (suc (suc (suc (suc zero)))) t i = IsUsed t i × (IsReached t i → ⊥)
KindShows (suc (suc (suc (suc (suc zero))))) t i = InodeIsSized (inode_in t i) → ⊥
KindShows (suc (suc (suc (suc (suc (suc zero)))))) t b = HasStrayTag t b
KindShows (suc (suc (suc (suc (suc (suc (suc k))))))) t i = HasGap t i

-- the least number that shows the kind
pub record IsLeastShown (kind : ℕ) (t : RawTables) (number : ℕ) : Type 0 where
  pub shows : KindShows kind t number
  pub before : (m : ℕ) → m < number → KindShows kind t m → ⊥

-- the rule of the kind is kept at each number
abbrev pub AllKeep : (kind : ℕ) → RawTables → Type 0
AllKeep kind t = (n : ℕ) → KeepsRule kind t n
