-- What a server may send again.
use Rattle.std.specs.Prelude.{◌≡◌, ◌≢◌, ℕ, ◌<◌, ◌≤◌, ◌⊎◌, List, map, not, Some, nat_lt}
use Rattle.std.specs.FinMap
use Rattle.pf_entry.specs.Sets
use Rattle.pf_entry.specs.Canonical.{IsCanonicalEntry, IsCanonicalImage, second_format}
use Rattle.pf_entry.specs.declared.entries.Entry.{Entry}
use Rattle.pf_entry.specs.declared.packets.Packet.{Packet}
use Rattle.pf_entry.specs.declared.packets.Body.TheVariants.{Probe}
use Rattle.pf_election.specs.declared.probes.ProbedRead.{ProbedRead}
use Rattle.pf_protocol.specs.Leading.{resent_entry}
use Rattle.pf_server_memory.specs.Packets.{packet}
use Rattle.pf_server_memory.specs.Standing.{server_of, state_in_memory, leader_in_memory}
use Rattle.std.specs.List.{filter}
use Rattle.pf_server_memory.specs.declared.running.Leader.{Leader as LeaderHere}
use Rattle.pf_server_memory.specs.declared.running.Role.TheVariants.{Merging as MergingHere, Serving as ServingHere}
use Rattle.pf_server_memory.specs.declared.running.Running.{Running}

-- what a leader holds above its checkpoint and below its next slot is of its term
abbrev pub AreOfOwnTerm : Running → Type 0
AreOfOwnTerm me = (l : LeaderHere) → (me.role ≡ MergingHere l) ⊎ (me.role ≡ ServingHere l) → (slot : ℕ) (e : Entry) → me.log.base < slot → slot < l.next
    → FinMap.get me.log.entries slot ≡ Some e → e.term ≡ me.term

-- another server
pub record IsPeer (me : Running) (to : ℕ) : Type 0 where
  pub from : me.number < 3
  pub below : to < 3
  pub apart : me.number ≢ to
  pub term : 1 ≤ me.term

-- what is sent of one slot
abbrev pub slot_packets : Running → LeaderHere → (to slot : ℕ) → List Packet
slot_packets me l to slot = resent_entry (server_of (state_in_memory me) me) (leader_in_memory l) to (FinMap.get me.log.entries slot) slot

-- a probe for each read that no server has confirmed
abbrev pub probes : Running → (to : ℕ) → List ProbedRead → List Packet
probes me to reads = map (λ r. packet me.number to me.term (Probe r.number)) (filter (λ r. not r.confirmed) reads)

-- whatever a leader has may be sent to the server
pub record CanSend (me : Running) (next to : ℕ) : Type 0 where
  pub peer : IsPeer me to
  pub own : (slot : ℕ) (e : Entry) → me.log.base < slot → slot < next → FinMap.get me.log.entries slot ≡ Some e
      → IsCanonicalEntry second_format e × (e.term ≡ me.term)
  pub image : IsCanonicalImage me.log.base (Sets.retain me.applied.slots (nat_lt me.log.base)) me.sectors

abbrev pub CanSendToBoth : Running → ℕ → Type 0
CanSendToBoth me next = (to : ℕ) → to < 3 → me.number ≢ to → CanSend me next to
