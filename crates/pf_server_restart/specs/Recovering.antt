-- What a restart reads from the records of a half.
use Rattle.std.specs.Prelude.{◌≡◌, ℕ, ◌+◌, ◌<◌, ◌≤◌, Bool, true, false, Option, Some, None}
use Rattle.std.specs.FinMap
use Rattle.pf_entry.specs.Sets
use Rattle.pf_entry.specs.Records.{Durable, stored}
use Rattle.pf_entry.specs.declared.records.Record.{Record}
use Rattle.pf_holes.specs.HoleLogs.{Holes}
use Rattle.pf_holes.specs.Windows.{SlotsAreWithin}
use Rattle.pf_server_store.specs.Stores.{RecordsStandFor, blank}
use Rattle.pf_server_store.specs.declared.found.Found.{Found}
use Rattle.pf_server_restart.specs.declared.recovery.Recovered.{Recovered}

-- the state that was read
abbrev pub state_in : Recovered → Durable
state_in r = record {
  format = r.format;
  used = r.used;
  generation = r.generation;
  term = r.term;
  base = r.log.base;
  starts = r.starts.starts;
  log = r.log.entries;
  saved = r.applied;
  sectors = r.sectors;
}

-- the slot has a place in the window above the base
abbrev pub SlotIsPlaced : (base slot : ℕ) → Type 0
SlotIsPlaced base slot = (base < slot) × (slot ≤ base + 4096)

-- each entry has a place
abbrev pub HasWindow : Durable → Type 0
HasWindow d = SlotsAreWithin d.base d.log

-- the log without entries above a base
abbrev pub no_holes : ℕ → Holes
no_holes base = record { base = base; entries = FinMap.empty; committed = Sets.empty }

-- this state was read, and no entry is marked as committed
pub record IsRecovered (d : Durable) (r : Recovered) : Type 0 where
  pub state : state_in r ≡ d
  pub unmarked : r.log.committed ≡ Sets.empty

-- the state after one more record, in as many bytes
abbrev pub record_followed : Durable → Record → Durable
record_followed d r = record (stored d r) { used = d.used }

pub record IsFollowed (old : Recovered) (r : Record) (new : Recovered) : Type 0 where
  pub state : state_in new ≡ record_followed (state_in old) r
  pub unmarked : new.log.committed ≡ old.log.committed

-- one more record was read, or an entry of it has no place
abbrev pub RecordFollows : Recovered → Record → Recovered → Bool → Type 0
RecordFollows old r new true = IsFollowed old r new
RecordFollows old r new false = HasWindow (stored (state_in old) r) → ⊥

-- the image of a half was read, or an entry of it has no place
abbrev pub FirstRecordBegins : (format used : ℕ) → Record → Option Recovered → Type 0
FirstRecordBegins format used image (Some r) = IsRecovered (record (stored blank image) { format = format; used = used }) r
FirstRecordBegins format used image None = HasWindow (stored blank image) → ⊥

-- the records were read, or an entry has no place
abbrev pub Recovers : Found → Option Recovered → Type 0
Recovers found (Some r) = (d : Durable) → RecordsStandFor found d → IsRecovered d r
Recovers found None = (d : Durable) → RecordsStandFor found d → HasWindow d → ⊥
