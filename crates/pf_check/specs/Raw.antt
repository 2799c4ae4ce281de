-- The tables that transactions make where nothing is refused: inodes and tags by their numbers, entries by directory and name.
use Rattle.std.specs.Prelude.{◌≡◌, ◌<◌, ℕ, cond, ◌==◌, List, [], ◌∷◌, length, replicate, set, get_or, take, Option, Some, None}
use Rattle.std.specs.Str.{bytes_eq}
use Rattle.pf_tree_tables.specs.declared.changes.Change.{Change}
use Rattle.pf_tree_tables.specs.declared.changes.Change.TheVariants.{SetInode, AddEntry, DeleteEntry, SetTag}
use Rattle.pf_tree_tables.specs.declared.changes.Txn.{Txn}
use Rattle.pf_tree_tables.specs.declared.tables.DirectoryEntry.{DirectoryEntry}
use Rattle.pf_tree_tables.specs.declared.tables.Tag.{Tag}
use Rattle.pf_tree_tables.specs.Names.{Name}
use Rattle.pf_tree_tables.specs.Tables.{Entries, names_in, entry_found, unnamed}
use Rattle.pf_check.specs.declared.tables.RawInode.{RawInode}
use Rattle.pf_check.specs.declared.tables.RawInode.TheVariants.{File, Directory}

-- a place for each number below 65,536: None where an inode or a block is free
pub record RawTables : Type 0 where
  pub inodes : List (Option RawInode)
  pub entries : Entries
  pub tags : List (Option Tag)

abbrev pub inode_in : RawTables → ℕ → Option RawInode
inode_in t i = get_or t.inodes i None

-- no name stands in two entries of a directory
abbrev pub AreDistinct : List DirectoryEntry → Type 0
AreDistinct [] = Unit {0}
AreDistinct (row ∷ rows) = (entry_found rows row.name ≡ None) × AreDistinct rows

-- what each list of transactions makes
pub record IsRaw (t : RawTables) : Type 0 where
  pub inodes : length t.inodes ≡ 65536
  pub entries : length t.entries ≡ 65536
  pub tags : length t.tags ≡ 65536
  pub names : (d : ℕ) → AreDistinct (names_in t.entries d)

-- kind 0 frees the inode
abbrev pub raw_inode : (kind size : ℕ) → Option RawInode
raw_inode kind size = cond (kind == 0) None (cond (kind == 1) (Some (File size)) (Some (Directory size)))

-- a name that stands there leads to the inode from now on; another one stands last
abbrev pub put_name : List DirectoryEntry → Name → ℕ → List DirectoryEntry
put_name [] n i = record { inode = i; name = n } ∷ []
put_name (row ∷ rows) n i = cond (bytes_eq row.name n) (record { inode = i; name = n } ∷ rows) (row ∷ put_name rows n i)

abbrev pub with_name : Entries → (directory inode : ℕ) → Name → Entries
with_name entries d i n = set entries d (put_name (names_in entries d) n i)

-- inode 65,535 means that the block is free
abbrev pub raw_tag : (inode index : ℕ) → Option Tag
raw_tag i k = cond (i == 65535) None (Some (record { inode = i; index = k }))

-- each change sets or removes exactly what it names
abbrev pub after_change : RawTables → Change → RawTables
after_change t (SetInode i kind size) = record t { inodes = set t.inodes i (raw_inode kind size) }
after_change t (AddEntry d i n) = record t { entries = with_name t.entries d i n }
after_change t (DeleteEntry d n) = record t { entries = unnamed t.entries d n }
after_change t (SetTag b i k) = record t { tags = set t.tags b (raw_tag i k) }

abbrev pub tables_made : RawTables → List Change → RawTables
tables_made t [] = t
tables_made t (c ∷ cs) = tables_made (after_change t c) cs

-- the changes of transactions, one transaction after another
abbrev pub made_by : RawTables → List Txn → RawTables
made_by t [] = t
made_by t (txn ∷ txns) = made_by (tables_made t txn.changes) txns

-- some of the changes are made, the first ones, and not all
abbrev pub IsPartOf : RawTables → List Change → RawTables → Type 0
IsPartOf before cs t = (k : ℕ) × (k < length cs) × (t ≡ tables_made before (take k cs))

-- inode 0 is a directory of size 0, and nothing else is there
unfoldable pub empty_inodes : List (Option RawInode)
empty_inodes = set (replicate 65536 None) 0 (Some (Directory 0))

unfoldable pub empty_entries : Entries
empty_entries = replicate 65536 []

unfoldable pub empty_tags : List (Option Tag)
empty_tags = replicate 65536 None

abbrev pub empty_tables : RawTables
empty_tables = record { inodes = empty_inodes; entries = empty_entries; tags = empty_tags }
