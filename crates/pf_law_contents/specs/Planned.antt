-- Calls that are planned one after another, and a run in which they go one by one.
use Rattle.std.specs.Prelude.{◌≡◌, ℕ, List, [], ◌∷◌, map}
use Rattle.pf_entry.specs.Lists.{Every}
use Rattle.pf_volume.specs.Volumes.{Extent}
use Rattle.pf_tree_tables.specs.Tables.{Tables, applied, new_tables}
use Rattle.pf_tree_tables.specs.declared.changes.Txn.{Txn}
use Rattle.pf_tree.specs.Standing.{IsCall}
use Rattle.pf_tree.specs.Trees.{Data}
use Rattle.pf_file_calls.specs.Calls.{planned}
use Rattle.pf_file_calls.specs.declared.calls.Pending.{Pending}
use Rattle.pf_file_calls.specs.declared.calls.Planned.TheVariants.{Proposes, Goes}
use Rattle.pf_file_calls.specs.declared.moving.Moved.{Moved}
use Rattle.pf_law_contents.specs.Going.{AreCalls, GoOneByOne, Went, all_zeros, done_of, exchanges_of}
use Rattle.pf_law_contents.specs.Stored.{TellStored}

-- a call of mount m is planned on tables: it goes on to its data at once, or its changes are applied
pub data IsPlannedSo (v : Extent) (d : Data) (m : ℕ) (p : Pending) (t : Tables) : (after : Tables) → Type 0 where
  Stays : (step : Moved) → planned m v d t p ≡ Goes step → IsPlannedSo v d m p t t
  Changes : (txn : Txn) → planned m v d t p ≡ Proposes txn → IsPlannedSo v d m p t (applied t txn.changes)

-- a call of a mount
pub record PlannedCall : Type 0 where
  pub mount : ℕ
  pub call : Pending

-- these calls are planned one after another, each on the tables that the one before it leaves
abbrev pub ArePlannedInTurn : Extent → Data → (t : Tables) → List PlannedCall → (after : Tables) → Type 0
ArePlannedInTurn v d t [] after = t ≡ after
ArePlannedInTurn v d t (c ∷ calls) after = (next : Tables) × IsPlannedSo v d c.mount c.call t next × ArePlannedInTurn v d next calls after

-- each is a call that can be made
abbrev pub AreAllCalls : List PlannedCall → Type 0
AreAllCalls calls = Every (λ (c : PlannedCall). IsCall c.call.call) calls

abbrev pub call_that_went : Went → PlannedCall
call_that_went went = record { mount = went.mount; call = went.call }

-- these calls go one by one on a new volume, none is refused, and each read of a block is answered what is stored
pub record IsVirtualRun (v : Extent) (d : Data) (calls : List PlannedCall) (t : Tables) : Type 0 where
  pub wents : List Went
  pub goes : GoOneByOne v d (new_tables d.blocks) wents t
  pub are_calls : AreCalls wents
  pub same : map call_that_went wents ≡ calls
  pub done : done_of wents ≡ map (λ (c : PlannedCall). c.call.call) calls
  pub tells : TellStored all_zeros (exchanges_of wents)
