-- What a group shows.
use Rattle.std.specs.Prelude.{◌≡◌, ◌≢◌, ℕ, ◌<◌, Bool, true, false, IsTrue, not, ◌||◌, List, Option, Some, None, Result, Ok, Err, nat_lt, slice_get, slice_set}
use Rattle.std.specs.FinMap
use Rattle.pf_entry.specs.Lists.{Every}
use Rattle.pf_entry.specs.Maps.{Numbers}
use Rattle.pf_entry.specs.Ops.{Sector}
use Rattle.pf_entry.specs.Sets
use Rattle.pf_holes.specs.HoleLogs.{Holes}
use Rattle.pf_protocol.specs.Servers.{Server, Condition, Running, has_applied}
use Rattle.pf_protocol.specs.Groups.{Group, Sent}
use Rattle.pf_group_network.specs.Showing.{HasAnswer}
use Rattle.pf_group.specs.declared.errors.Down.{Down}
use Rattle.pf_group.specs.GroupIs.{GroupIs, state_of}

-- neither delivered nor lost
abbrev pub is_left : Option Sent → Bool
is_left (Some sent) = not (sent.delivered || sent.lost)
is_left None = false

-- server i runs, and this is so of its state
abbrev pub OfRunning : Group → (i : ℕ) → (Server → Type 0) → Type 0
OfRunning g i P = (s : Server) × (slice_get g.servers i ≡ Some (Running s)) × P s

abbrev pub IsDown : Group → (i : ℕ) → Type 0
IsDown g i = (s : Server) → slice_get g.servers i ≡ Some (Running s) → ⊥

-- what is told of server i is so of its state, or it does not run
abbrev pub ServerTells : {A : Type 0} → Group → (i : ℕ) → Result A Down → (A → Server → Type 0) → Type 0
ServerTells g i (Ok told) P = OfRunning g i (P told)
ServerTells g i (Err down) P = IsDown g i

abbrev pub holes_of : Server → Holes
holes_of s = record { base = s.durable.base; entries = s.durable.log; committed = s.committed }

-- the applied slots, with all from 1 up to the checkpoint
pub record IsAppliedOf (slots : Numbers) (s : Server) : Type 0 where
  pub above : Sets.retain slots (nat_lt s.durable.base) ≡ s.applied
  pub each : (slot : ℕ) → 0 < slot → Sets.contains slots slot ≡ has_applied s slot

abbrev pub snapshot_in : Option Condition → (slot : ℕ) → Option (List Sector)
snapshot_in (Some (Running s)) slot = FinMap.get s.snapshots slot
snapshot_in _ slot = None

-- an answer of a read is handed out for the first time
pub record GroupHasTaken (old : GroupIs) (number : ℕ) (bytes : List Sector) (new : GroupIs) : Type 0 where
  pub first : slice_get old.taken number ≡ Some false
  pub answer : IsTrue old.told → HasAnswer (state_of old).answered number bytes
  pub is : new ≡ record old { taken = slice_set old.taken number true }

-- no read has the number, or its answer was handed out, or it waits; where the disks tell their content
abbrev pub LacksAnswer : GroupIs → (number : ℕ) → Type 0
LacksAnswer g number = IsTrue g.told → slice_get g.taken number ≡ Some false → Every (λ a. a.number ≢ number) (state_of g).answered
