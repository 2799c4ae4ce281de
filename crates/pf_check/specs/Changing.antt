-- What one change does to tables as maps, and what the empty tables are as maps.
use Rattle.std.specs.Prelude.{◌≡◌, ◌≢◌, ◌<◌, ℕ, Option, Some, None}
use Rattle.pf_tree_tables.specs.declared.changes.Change.{Change}
use Rattle.pf_tree_tables.specs.declared.changes.Change.TheVariants.{SetInode, AddEntry, DeleteEntry, SetTag}
use Rattle.pf_tree_tables.specs.Names.{Name}
use Rattle.pf_tree_tables.specs.Tables.{Entries, entry_at, tag_at}
use Rattle.pf_check.specs.declared.tables.RawInode.TheVariants.{Directory}
use Rattle.pf_check.specs.Raw.{RawTables, inode_in, raw_inode, raw_tag}

-- the value of one number is set, and no other
pub record IsSet {X : Type 0} (before later : ℕ → X) (number : ℕ) (value : X) : Type 0 where
  pub is : later number ≡ value
  pub others : (k : ℕ) → k ≢ number → later k ≡ before k

-- where one name of a directory leads is set, and no other
pub record IsNameSet (before later : Entries) (d : ℕ) (n : Name) (inode : Option ℕ) : Type 0 where
  pub is : entry_at later d n ≡ inode
  pub others : (e : ℕ) (m : Name) → (e ≡ d → m ≡ n → ⊥) → entry_at later e m ≡ entry_at before e m

-- exactly what the change names is set or removed
abbrev pub ChangeDoes : RawTables → Change → RawTables → Type 0
ChangeDoes t (SetInode i kind size) u = IsSet (inode_in t) (inode_in u) i (raw_inode kind size) × (u.entries ≡ t.entries) × (u.tags ≡ t.tags)
ChangeDoes t (AddEntry d i n) u = IsNameSet t.entries u.entries d n (Some i) × (u.inodes ≡ t.inodes) × (u.tags ≡ t.tags)
ChangeDoes t (DeleteEntry d n) u = IsNameSet t.entries u.entries d n None × (u.inodes ≡ t.inodes) × (u.tags ≡ t.tags)
ChangeDoes t (SetTag b i k) u = IsSet (tag_at t.tags) (tag_at u.tags) b (raw_tag i k) × (u.inodes ≡ t.inodes) × (u.entries ≡ t.entries)

-- the numbers have two bytes
abbrev pub ChangeIsPlaced : Change → Type 0
ChangeIsPlaced (SetInode i kind size) = i < 65536
ChangeIsPlaced (AddEntry d i n) = d < 65536
ChangeIsPlaced (DeleteEntry d n) = d < 65536
ChangeIsPlaced (SetTag b i k) = b < 65536

-- inode 0 is a directory of size 0, and nothing else is there
pub record TablesAreEmpty (t : RawTables) : Type 0 where
  pub root : inode_in t 0 ≡ Some (Directory 0)
  pub inodes : (i : ℕ) → i ≢ 0 → inode_in t i ≡ None
  pub entries : (d : ℕ) (n : Name) → entry_at t.entries d n ≡ None
  pub tags : (b : ℕ) → tag_at t.tags b ≡ None
