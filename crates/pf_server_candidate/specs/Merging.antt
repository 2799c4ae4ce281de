-- What a candidate makes of the vote of another server.
use Rattle.std.specs.Prelude.{◌≡◌, ℕ, suc, ◌+◌, ◌-◌, ◌<◌, ◌≤◌, List, nat_lt, if◌then◌else◌}
use Rattle.std.specs.List.{flat_map, range_with_len}
use Rattle.std.specs.FinMap
use Rattle.pf_entry.specs.Lists.{Every}
use Rattle.pf_entry.specs.Merging.{merged_first, merged_entries}
use Rattle.pf_entry.specs.declared.entries.Entry.{Entry}
use Rattle.pf_entry.specs.declared.entries.VoteLog.{VoteLog}
use Rattle.pf_entry.specs.Records.{Durable}
use Rattle.pf_entry.specs.declared.packets.Packet.{Packet}
use Rattle.pf_entry.specs.declared.packets.Body.TheVariants.{Accept}
use Rattle.pf_entry.specs.declared.records.Record.{Record}
use Rattle.pf_entry.specs.declared.records.Record.TheVariants.{Merged as MergedRecord}
use Rattle.pf_codec.specs.Spelling.{body_bytes}
use Rattle.pf_server_store.specs.Stores.{IsSpelledAs}
use Rattle.pf_protocol.specs.Servers.{Server, Candidate}
use Rattle.pf_protocol.specs.Outcomes.{Outcome, sends, nothing, to_others}
use Rattle.pf_protocol.specs.Leading.{all_acknowledged, merged, on_vote}
use Rattle.pf_server_tables.specs.AckTables.{AckTable}
use Rattle.pf_server_memory.specs.declared.running.Leader.{Leader as LeaderHere}
use Rattle.pf_server_memory.specs.declared.running.Role.{Role as RoleHere}
use Rattle.pf_server_memory.specs.declared.running.Role.TheVariants.{Merging as MergingHere, Serving as ServingHere}
use Rattle.pf_server_memory.specs.declared.running.Running.{Running}
use Rattle.pf_server_memory.specs.Packets.{packets_to, AreCanonical}
use Rattle.pf_server_memory.specs.Standing.{server_of, role_in_memory, IsCached}
use Rattle.pf_server_candidate.specs.declared.merges.Takeover.{Takeover}

-- the vote makes the server, which has this vote of its own, a leader
pub record Elects (me : Running) (term : ℕ) (vote own : VoteLog) : Type 0 where
  pub stood : role_in_memory me.role ≡ Candidate own
  pub own_term : term ≡ me.term
  pub reached : vote.base ≤ me.log.base

-- the vote changes nothing
abbrev pub VoteIsIdle : Running → (term : ℕ) → VoteLog → Type 0
VoteIsIdle me term vote = (d : Durable) → IsCached d me → on_vote (server_of d me) term vote (role_in_memory me.role) ≡ nothing (server_of d me)

-- the rule of a vote that makes the server a leader
abbrev pub won : Server → (own vote : VoteLog) → Outcome
won s own vote = sends (merged s own vote) (flat_map (λ e. to_others s (Accept e)) (merged_entries s.durable.term s.durable.base own vote))

-- the server alone has acknowledged so many slots above the base
pub record TableHasBegun (me base count : ℕ) (table : AckTable) : Type 0 where
  pub base_is : table.base ≡ base
  pub count_is : table.count ≡ count
  pub acks : table.acks ≡ all_acknowledged FinMap.empty me (range_with_len (suc base) count)

-- what the server takes over as the leader of the two votes
pub record IsTakeover (me : Running) (own vote : VoteLog) (t : Takeover) : Type 0 where
  pub first : t.first ≡ merged_first me.log.base own vote
  pub entries : t.entries.items ≡ merged_entries me.term me.log.base own vote
  pub acks : TableHasBegun me.number me.log.base (t.first - suc me.log.base) t.acks

-- an Accept of each entry to the two other servers
abbrev pub accepts : (me term : ℕ) → List Entry → List Packet
accepts me term es = flat_map (λ e. packets_to me term (Accept e)) es

-- the slot has a place in the window above the base
abbrev pub EntryIsPlaced : ℕ → Entry → Type 0
EntryIsPlaced base e = (base < e.slot) × (e.slot ≤ base + 4096)

-- the record of what is taken over
abbrev pub merge_of : Running → Takeover → Record
merge_of me t = MergedRecord me.term t.first t.entries.items

-- the entries may be sent, stored in a half of this format, and put into the log
pub record TakeoverIsReady (me : Running) (format : ℕ) (t : Takeover) : Type 0 where
  pub canonical : Every (λ e. AreCanonical me.number me.term (Accept e)) t.entries.items
  pub spelled : IsSpelledAs format (merge_of me t) (body_bytes (merge_of me t))
  pub placed : Every (EntryIsPlaced me.log.base) t.entries.items
  pub above : t.acks.base < t.first

-- a leader whose merged slots no other server has acknowledged yet
abbrev pub new_leader : (first : ℕ) → AckTable → LeaderHere
new_leader first acks = record { first = first; next = first; acks = acks; known = FinMap.empty; settled = acks.base }

-- a leader serves at once where it merged no slot
abbrev pub led_role : (first : ℕ) → AckTable → RoleHere
led_role first acks = if nat_lt (suc acks.base) first then MergingHere (new_leader first acks) else ServingHere (new_leader first acks)
