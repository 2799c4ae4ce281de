-- The tables: inodes and tags by their numbers, entries by directory and name. What is found in them, and what a change does to them.
use Rattle.std.specs.Prelude.{◌≡◌, ◌<◌, ◌≤◌, AllPairs, IsTrue, ℕ, ◌-◌, Bool, true, false, cond, not, ◌&&◌, ◌||◌, ◌==◌, nat_lt, nat_le, List, [], ◌∷◌, map, length, replicate, set, get_or, Option, Some, None, is_some}
use Rattle.std.specs.List.{HoldsAt, filter, insert, range_with_len, position_or_len}
use Rattle.std.specs.List.Sorted.{IsPartitionPoint}
use Rattle.std.specs.Option.{option_and_then, is_none}
use Rattle.std.specs.Str.{bytes_eq}
use Rattle.pf_base.specs.Sizes.{most_file_bytes}
use Rattle.pf_tree_tables.specs.declared.changes.Change.{Change}
use Rattle.pf_tree_tables.specs.declared.changes.Change.TheVariants.{SetInode, AddEntry, DeleteEntry, SetTag}
use Rattle.pf_tree_tables.specs.declared.tables.Inode.{Inode}
use Rattle.pf_tree_tables.specs.declared.tables.Inode.TheVariants.{File as OfFile, Directory}
use Rattle.pf_tree_tables.specs.declared.tables.DirectoryEntry.{DirectoryEntry}
use Rattle.pf_tree_tables.specs.declared.tables.Tag.{Tag}
use Rattle.pf_tree_tables.specs.Names.{Name, Path, is_name_before}

-- the names of each directory, by its inode
abbrev pub Entries : Type 0
Entries = List (List DirectoryEntry)

-- a place for each inode and each block: None where it is free
pub record Tables : Type 0 where
  pub inodes : List (Option Inode)
  pub entries : Entries
  pub tags : List (Option Tag)

abbrev pub inode_at : Tables → ℕ → Option Inode
inode_at tables i = get_or tables.inodes i None

abbrev pub HasRoot : Tables → Type 0
HasRoot tables = inode_at tables 0 ≡ Some Directory

-- the root is a directory, and no file is larger than the greatest size
pub record TablesAreWhole (t : Tables) : Type 0 where
  pub root : HasRoot t
  pub sizes : (i size : ℕ) → inode_at t i ≡ Some (OfFile size) → size ≤ most_file_bytes

-- what every mount's tables are, whatever was decided
pub record TablesAreHeld (t : Tables) : Type 0 where
  pub inodes : length t.inodes ≡ 1024
  pub entries : length t.entries ≡ 1024
  pub tags : length t.tags ≤ 4096
  pub whole : TablesAreWhole t

abbrev pub tag_at : List (Option Tag) → ℕ → Option Tag
tag_at tags b = get_or tags b None

abbrev pub names_in : Entries → ℕ → List DirectoryEntry
names_in entries directory = get_or entries directory []

abbrev pub entry_found : List DirectoryEntry → Name → Option ℕ
entry_found [] name = None
entry_found (row ∷ rows) name = cond (bytes_eq row.name name) (Some row.inode) (entry_found rows name)

-- the inode of a name in a directory
abbrev pub entry_at : Entries → ℕ → Name → Option ℕ
entry_at entries directory name = entry_found (names_in entries directory) name

abbrev pub other_entries : List DirectoryEntry → Name → List DirectoryEntry
other_entries rows name = filter (λ row. not (bytes_eq row.name name)) rows

abbrev pub unnamed : Entries → ℕ → Name → Entries
unnamed entries directory name = set entries directory (other_entries (names_in entries directory) name)

-- an entry more, before the first one whose name comes after its own
abbrev pub put_entry : List DirectoryEntry → DirectoryEntry → List DirectoryEntry
put_entry rows row = insert rows (position_or_len (λ other. is_name_before row.name other.name) rows) row

abbrev pub named : Entries → (directory inode : ℕ) → Name → Entries
named entries directory inode name =
    set entries directory (put_entry (other_entries (names_in entries directory) name) (record { inode = inode; name = name }))

-- each name comes before all later ones
abbrev pub IsAscending : List DirectoryEntry → Type 0
IsAscending rows = AllPairs (λ row later. IsTrue (is_name_before row.name later.name)) rows

-- the name stands at a place
abbrev pub IsThere : List DirectoryEntry → Name → ℕ → Type 0
IsThere rows name place = (place < length rows) × HoldsAt (λ row. row.name ≡ name) rows place

-- the place lies between the names before this one and those after it
abbrev pub IsGap : List DirectoryEntry → Name → ℕ → Type 0
IsGap rows name place =
    (place ≤ length rows) × IsPartitionPoint (λ row. IsTrue (is_name_before row.name name)) (λ row. IsTrue (is_name_before name row.name)) rows place

abbrev pub is_nil : List DirectoryEntry → Bool
is_nil [] = true
is_nil (row ∷ rows) = false

abbrev pub has_names : Entries → ℕ → Bool
has_names entries directory = not (is_nil (names_in entries directory))

-- a walk of names from inode 0
abbrev pub walk : Entries → Path → Option ℕ
walk entries [] = Some 0
walk entries (n ∷ p) = option_and_then (λ i. entry_at entries i n) (walk entries p)

abbrev pub is_tag : (inode index : ℕ) → Option Tag → Bool
is_tag inode index None = false
is_tag inode index (Some tag) = (tag.inode == inode) && (tag.index == index)

-- the block of an index of a file
abbrev pub block_of : List (Option Tag) → (inode index : ℕ) → ℕ
block_of tags inode index = position_or_len (is_tag inode index) tags

-- the blocks of a file in the order of their indices
abbrev pub blocks_of : List (Option Tag) → (inode count : ℕ) → List ℕ
blocks_of tags inode count = map (block_of tags inode) (range_with_len 0 count)

-- what a change does: it is passed over where it names an inode or a block that the tables lack, an index past 47 or a size above
-- the greatest, and where the root would be no directory any more
abbrev pub inode_with : (kind size : ℕ) → Option Inode
inode_with kind size = cond (kind == 0) None (cond (kind == 1) (Some (OfFile size)) (Some Directory))

-- the tables stay whole with this inode
abbrev pub may_set : (inode kind size : ℕ) → Bool
may_set i kind size = nat_le size most_file_bytes && (nat_lt 1 kind || nat_lt 0 i)

abbrev pub tag_with : Tables → (inode index : ℕ) → List (Option Tag) → ℕ → List (Option Tag)
tag_with tables i k tags b =
    cond (i == 65535) (set tags b None)
    (cond (nat_lt i (length tables.inodes) && nat_lt k 48) (set tags b (Some (record { inode = i; index = k }))) tags)

abbrev pub after_change : Tables → Change → Tables
after_change tables (SetInode i kind size) =
    record tables { inodes = cond (may_set i kind size) (set tables.inodes i (inode_with kind size)) tables.inodes }
after_change tables (AddEntry d i n) =
    record tables { entries = cond (nat_lt i (length tables.inodes)) (named tables.entries d i n) tables.entries }
after_change tables (DeleteEntry d n) = record tables { entries = unnamed tables.entries d n }
after_change tables (SetTag b i k) = record tables { tags = tag_with tables i k tables.tags b }

abbrev pub applied : Tables → List Change → Tables
applied tables [] = tables
applied tables (c ∷ cs) = applied (after_change tables c) cs

-- the least free inode; their count where none is free
abbrev pub least_free_inode : Tables → ℕ
least_free_inode tables = position_or_len is_none tables.inodes

-- the numbers from the first one on, below a bound, that are not in use
abbrev pub unused : (first blocks : ℕ) → (ℕ → Bool) → List ℕ
unused first blocks in_use = filter (λ b. not (in_use b)) (range_with_len first (blocks - first))

-- the free blocks from the first one on
abbrev pub untagged_from : ℕ → List (Option Tag) → List ℕ
untagged_from first tags = unused first (length tags) (λ b. is_some (tag_at tags b))

-- the tables of a new volume with so many blocks
unfoldable pub new_inodes : List (Option Inode)
new_inodes = set (replicate 1024 None) 0 (Some Directory)

unfoldable pub new_entries : Entries
new_entries = replicate 1024 []

abbrev pub new_tables : ℕ → Tables
new_tables blocks = record { inodes = new_inodes; entries = new_entries; tags = replicate blocks None }
