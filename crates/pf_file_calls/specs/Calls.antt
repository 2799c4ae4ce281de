-- A call on the tables: it is refused, it has changes to propose, or it goes on to its data at once.
use Rattle.std.specs.Prelude.{◌≡◌, ℕ, Bool, false, ◌&&◌, ◌==◌, List, [], ◌∷◌, length, Option, Some, None}
use Rattle.pf_volume.specs.Volumes.{Extent}
use Rattle.pf_tree.specs.Calls.{FileCall}
use Rattle.pf_base.specs.declared.calls.Call.TheVariants.{Write, Read, Truncate}
use Rattle.pf_tree_tables.specs.declared.changes.Change.{Change}
use Rattle.pf_tree_tables.specs.declared.changes.Txn.{Txn}
use Rattle.pf_tree_tables.specs.Names.{Path}
use Rattle.pf_tree.specs.Held.{Held}
use Rattle.pf_base.specs.Sizes.{first_data_block}
use Rattle.pf_tree.specs.Trees.{Data, refusal, size_at}
use Rattle.pf_tree_tables.specs.Tables.{Tables, applied}
use Rattle.pf_tree.specs.Plans.{changes, node_at, tables_sight}
use Rattle.pf_file_calls.specs.declared.calls.Pending.{Pending}
use Rattle.pf_file_calls.specs.declared.calls.Planned.{Planned}
use Rattle.pf_file_calls.specs.declared.calls.Planned.TheVariants.{Refuses, Proposes, Goes}
use Rattle.pf_file_calls.specs.declared.spare.SpareTables.{SpareTables}
use Rattle.pf_file_calls.specs.Faults.{call_fault_of}
use Rattle.pf_file_calls.specs.Moving.{AsksInside, data_moves}

-- the file of a call
abbrev pub file_of_call : FileCall → Path
file_of_call (Write p offset byte count) = p
file_of_call (Read p offset count) = p
file_of_call (Truncate p size) = p
file_of_call call = []

-- the size of the call's file
abbrev pub size_in : Tables → FileCall → ℕ
size_in tables call = size_at (node_at tables (file_of_call call))

abbrev pub planned_with : (mount : ℕ) → Extent → Tables → Pending → List Change → Planned
planned_with mount v tables p [] = Goes (data_moves v tables (size_in tables p.call) p.call)
planned_with mount v tables p (c ∷ cs) = Proposes (record { mount = mount; number = p.number; changes = c ∷ cs })

abbrev pub planned_by : (mount : ℕ) → Extent → Data → Tables → Pending → Option ℕ → Planned
planned_by mount v d tables p (Some refused) = Refuses (call_fault_of refused)
planned_by mount v d tables p None = planned_with mount v tables p (changes d tables p.call)

-- the call is planned on the tables as they stand
abbrev pub planned : (mount : ℕ) → Extent → Data → Tables → Pending → Planned
planned mount v d tables p = planned_by mount v d tables p (refusal (tables_sight d tables) p.call)

-- what is asked next is valid, and lies in a chunk of the volume
abbrev pub PlansInside : Extent → Planned → Type 0
PlansInside v (Goes step) = AsksInside v step
PlansInside v p = Unit {0}

-- a decided value that is no transaction changes nothing
abbrev pub value_applied : Tables → Option Txn → Tables
value_applied tables None = tables
value_applied tables (Some txn) = applied tables txn.changes

-- the transaction is that of this call
abbrev pub is_txn_of : (mount number : ℕ) → Option Txn → Bool
is_txn_of mount number None = false
is_txn_of mount number (Some txn) = (txn.mount == mount) && (txn.number == number)

-- what is the same for every mount: the tables, the calls, and the one that is pending
pub record WorkIs : Type 0 where
  pub mount : ℕ
  pub volume : Extent
  pub tables : Tables
  pub calls : ℕ  -- how many were started
  pub pending : Option Pending  -- the call that has not ended

-- what is the same for every mount, with the first block of its file data
pub record FilesIs : Type 0 where
  pub mount : ℕ
  pub volume : Extent
  pub first : ℕ
  pub tables : Tables
  pub calls : ℕ
  pub pending : Option Pending

abbrev pub work_of : FilesIs → WorkIs
work_of f = record { mount = f.mount; volume = f.volume; tables = f.tables; calls = f.calls; pending = f.pending }

-- the journal lies at one place
abbrev pub data_from_513 : Tables → Data
data_from_513 tables = record { first = first_data_block; blocks = length tables.tags }

-- a spare tree with the transaction that it lacks is the tree
abbrev pub IsSpareOf : Held → Option SpareTables → Type 0
IsSpareOf held None = Unit {0}
IsSpareOf held (Some s) = held ≡ record s.before { tables = value_applied s.before.tables s.txn }
