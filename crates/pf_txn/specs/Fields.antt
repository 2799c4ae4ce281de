-- Fields within their types. A definition speaks of numbers of any size, and two of them that differ by 2^16 may have one spelling.
use Rattle.std.specs.Prelude.{ℕ, ◌<◌, ◌^◌}
use Rattle.pf_entry.specs.Lists.{Every}
use Rattle.pf_tree_tables.specs.declared.changes.Change.{Change}
use Rattle.pf_tree_tables.specs.declared.changes.Change.TheVariants.{SetInode, AddEntry, DeleteEntry, SetTag}
use Rattle.pf_tree_tables.specs.declared.changes.Txn.{Txn}

abbrev pub IsByte : ℕ → Type 0
IsByte n = n < 256

-- a kind that has a spelling is a byte by itself
abbrev pub IsTypedChange : Change → Type 0
IsTypedChange (SetInode i kind size) = (i < 2 ^ 16) × (size < 2 ^ 32)
IsTypedChange (AddEntry d i name) = (d < 2 ^ 16) × (i < 2 ^ 16) × Every IsByte name
IsTypedChange (DeleteEntry d name) = (d < 2 ^ 16) × Every IsByte name
IsTypedChange (SetTag b i k) = (b < 2 ^ 16) × (i < 2 ^ 16) × IsByte k

pub record IsTyped (t : Txn) : Type 0 where
  pub mount : IsByte t.mount
  pub number : t.number < 2 ^ 32
  pub changes : Every IsTypedChange t.changes
