-- What mounts put into one list of transactions, and what it names.
use Rattle.std.specs.Prelude.{◌≡◌, ℕ, ◌<◌, List, ◌++◌, Some}
use Rattle.pf_volume.specs.Volumes.{Extent}
use Rattle.pf_tree_tables.specs.declared.changes.Txn.{Txn}
use Rattle.pf_tree.specs.Held.{data_of}
use Rattle.pf_txn.specs.Spelling.{spell_txn}
use Rattle.pf_file_calls.specs.Calls.{FilesIs, planned}
use Rattle.pf_file_calls.specs.declared.calls.Pending.{Pending}
use Rattle.pf_file_calls.specs.declared.calls.Planned.TheVariants.{Proposes}
use Rattle.pf_law_plans.specs.Lists.{StandsBehind}
use Rattle.pf_journal.specs.declared.layouts.Layout.{Layout}
use Rattle.pf_mount.specs.Mounts.{MountIs}
use Rattle.pf_mount.specs.declared.work.MountWork.TheVariants.{Ballots}
use Rattle.pf_law_calls.specs.Lives.{MountTold, lives, tables_from}
use Rattle.pf_law_calls.specs.Trees.{call_named, calls_of, data_blocks}

-- The value spells the plan of a mount's pending call on the tables that the mount has. That is its last call, by its number and by what was
-- told
pub record IsPlanned (told : List MountTold) (m : ℕ) (files : FilesIs) (value : List ℕ) : Type 0 where
  pub call : Pending
  pub pends : files.pending ≡ Some call
  pub last : call.number ≡ files.calls
  pub named : call_named told m call.number ≡ Some call.call
  pub txn : Txn
  pub plan : planned m files.volume (data_of files.first files.tables) files.tables call ≡ Proposes txn
  pub spells : value ≡ spell_txn txn

-- in what was told, a mount stood at this position and was in a ballot with this input
pub record HasPutIn (layout : Layout) (v : Extent) (told : List MountTold) (position : ℕ) (value : List ℕ) : Type 0 where
  pub first : List MountTold
  pub rest : List MountTold
  pub told_so : told ≡ first ++ rest
  pub mount : ℕ
  pub low : mount < 16
  pub at : (lives layout v first mount).mount.upto ≡ position
  pub works : (lives layout v first mount).mount.task.work ≡ Ballots (Some value)

-- The mount stands behind the first transactions of the list. Its tables are those of a new volume after them, and they stand for the user's tree
-- after the calls that these transactions name
abbrev pub StandsInList : Layout → Extent → List MountTold → (list : List (List ℕ)) → MountIs → Type 0
StandsInList layout v told list mount = StandsBehind (data_blocks layout v) (calls_of told) (tables_from v) list mount.upto mount.files.tables
