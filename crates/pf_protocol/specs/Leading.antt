-- The rules of candidates and leaders, a definition for each row.
use Rattle.std.specs.Prelude.{ℕ, suc, ◌+◌, ◌-◌, Bool, true, false, not, ◌&&◌, List, [], ◌∷◌, ◌++◌, map, Option, Some, None, ◌==◌, nat_lt, nat_le, if◌then◌else◌}
use Rattle.std.specs.List.{filter, list_any, list_all, range_with_len, flat_map}
use Rattle.std.specs.Option.{unwrap_or}
use Rattle.std.specs.FinMap
use Rattle.pf_entry.specs.Sets
use Rattle.pf_entry.specs.Maps.{Map, Numbers}
use Rattle.pf_base.specs.Span.{Span}
use Rattle.pf_entry.specs.declared.ops.Op.{Op}
use Rattle.pf_entry.specs.declared.ops.Op.TheVariants.{Noop}
use Rattle.pf_entry.specs.Ops.{range_of}
use Rattle.pf_base.specs.Span.{overlaps}
use Rattle.pf_entry.specs.declared.entries.Entry.{Entry}
use Rattle.pf_entry.specs.declared.entries.Named.{Named}
use Rattle.pf_entry.specs.declared.entries.VoteLog.{VoteLog}
use Rattle.pf_entry.specs.declared.packets.Packet.{Packet}
use Rattle.pf_entry.specs.declared.packets.Body.TheVariants.{RequestVote, Accept, Ack, Commit, Probe, Image}
use Rattle.pf_entry.specs.Records.{vote_of, holds}
use Rattle.pf_entry.specs.declared.records.Record.TheVariants.{Entry as EntryRecord, Merged as MergedRecord}
use Rattle.pf_entry.specs.Merging.{merged_first, merged_entries}
use Rattle.pf_protocol.specs.Servers.{Setup, Leader, Role, Follower, Candidate, Merging, Serving, Read, Server, upto, has_applied}
use Rattle.pf_protocol.specs.Outcomes.{Outcome, to_one, to_others, other_servers, sends, nothing, only_answers, store, raise_term}
use Rattle.pf_protocol.specs.declared.answers.Answer.TheVariants.{Done, Slot as SlotIs, Term as TermIs, Read as ReadIs, Refused}
use Rattle.pf_protocol.specs.declared.answers.Refusal.TheVariants.{WindowFull, NotLeader}

abbrev pub op_of : Option Entry → Op
op_of None = Noop
op_of (Some e) = e.op

-- the op that this log has in the slot
unfoldable pub op_at : Map Entry → ℕ → Op
op_at log slot = op_of (FinMap.get log slot)

-- the slots before next that an entry names, each with the range that the leader has there
unfoldable pub look_behind : ℕ → Server → ℕ → List Named
look_behind names s next =
    map (λ slot. record { slot = slot; range = range_of (op_at s.durable.log slot) })
    (filter (nat_lt s.durable.base) (range_with_len (next - names) (next - (next - names))))

abbrev pub members : Option Numbers → Numbers
members None = Sets.empty
members (Some set) = set

unfoldable pub acknowledged : Map Numbers → (server slot : ℕ) → Map Numbers
acknowledged acks server slot = FinMap.insert acks slot (Sets.insert (members (FinMap.get acks slot)) server)

abbrev pub has_acked : Leader → ℕ → ℕ → Bool
has_acked l server slot = Sets.contains (members (FinMap.get l.acks slot)) server

unfoldable pub all_acknowledged : Map Numbers → ℕ → List ℕ → Map Numbers
all_acknowledged acks server [] = acks
all_acknowledged acks server (slot ∷ slots) = all_acknowledged (acknowledged acks server slot) server slots

abbrev pub knows : Leader → ℕ → ℕ
knows l server = unwrap_or (FinMap.get l.known server) 0

-- Submit
unfoldable pub new_entry : ℕ → Server → Leader → Op → Entry
new_entry names s l op = record {
  slot = l.next;
  term = s.durable.term;
  first = l.first;
  look = look_behind names s l.next;
  op = op;
}

unfoldable pub submitted : Server → Leader → Entry → Server
submitted s l e =
    let after = store s (EntryRecord e) in
    record after { role = Serving (record l { next = suc l.next; acks = acknowledged l.acks s.number l.next }) }

unfoldable pub on_submit : Setup → Server → Op → Role → Outcome
on_submit setup s op (Serving l) =
    let e = new_entry setup.names s l op in
    if nat_lt (s.durable.base + setup.window) l.next
    then only_answers s (Refused WindowFull)
    else record { server = submitted s l e; packets = to_others s (Accept e); answer = SlotIs l.next; acked = None }
on_submit setup s op Follower = only_answers s (Refused NotLeader)
on_submit setup s op (Candidate own) = only_answers s (Refused NotLeader)
on_submit setup s op (Merging l) = only_answers s (Refused NotLeader)

-- Fetch
unfoldable pub on_fetch : Server → Span → (number : ℕ) → Role → Outcome
on_fetch s range number (Serving l) =
    let waits_for = Sets.retain s.committed (λ slot. not (has_applied s slot) && overlaps (range_of (op_at s.durable.log slot)) range) in
    let read : Read = record { number = number; range = range; waits_for = waits_for; confirmed = false } in
    record { server = record s { reads = s.reads ++ read ∷ [] }; packets = to_others s (Probe number); answer = ReadIs number; acked = None }
on_fetch s range number Follower = only_answers s (Refused NotLeader)
on_fetch s range number (Candidate own) = only_answers s (Refused NotLeader)
on_fetch s range number (Merging l) = only_answers s (Refused NotLeader)

-- Elect
unfoldable pub on_elect : Server → Outcome
on_elect s =
    let raised = raise_term s (suc s.durable.term) in
    let after = record raised { role = Candidate (vote_of s.durable) } in
    record { server = after; packets = to_others after (RequestVote s.durable.base); answer = TermIs (suc s.durable.term); acked = None }

-- Resend, to one other server
abbrev pub resent_entry : Server → Leader → ℕ → Option Entry → ℕ → List Packet
resent_entry s l to None slot = []
resent_entry s l to (Some e) slot =
    if not (has_acked l to slot)
    then to_one s to (Accept e) ∷ []
    else (if nat_lt (knows l to) slot then to_one s to (Commit slot) ∷ [] else [])

unfoldable pub resent : Server → Leader → ℕ → List Packet
resent s l to =
    (if nat_lt (knows l to) s.durable.base then to_one s to (Image s.durable.base s.applied s.sectors) ∷ [] else [])
    ++ flat_map (λ slot. resent_entry s l to (FinMap.get s.durable.log slot) slot) (range_with_len (suc s.durable.base) (l.next - suc s.durable.base))
    ++ map (λ r. to_one s to (Probe r.number)) (filter (λ r. not r.confirmed) s.reads)

unfoldable pub on_resend : Server → Role → Outcome
on_resend s Follower = sends s (to_others s (Ack s.durable.base (upto s)))
on_resend s (Candidate own) = sends s (to_others s (RequestVote s.durable.base))
on_resend s (Merging l) = sends s (flat_map (resent s l) (other_servers s.number))
on_resend s (Serving l) = sends s (flat_map (resent s l) (other_servers s.number))

-- Vote
unfoldable pub led : (base first next : ℕ) → (me : ℕ) → Leader
led base first next me = record {
  first = first;
  next = next;
  b0 = base;
  acks = all_acknowledged FinMap.empty me (range_with_len (suc base) (next - suc base));
  known = FinMap.empty;
}

unfoldable pub merged : Server → (own other : VoteLog) → Server
merged s own other =
    let base = s.durable.base in
    let first = merged_first base own other in
    let es = merged_entries s.durable.term base own other in
    let after = store s (MergedRecord s.durable.term first es) in
    let leader = led base first first s.number in
    record after { role = if nat_lt (suc base) first then Merging leader else Serving leader }

unfoldable pub on_vote : Server → (term : ℕ) → VoteLog → Role → Outcome
on_vote s term vote (Candidate own) =
    if term == s.durable.term && nat_le vote.base s.durable.base
    then sends (merged s own vote) (flat_map (λ e. to_others s (Accept e)) (merged_entries s.durable.term s.durable.base own vote))
    else nothing s
on_vote s term vote Follower = nothing s
on_vote s term vote (Merging l) = nothing s
on_vote s term vote (Serving l) = nothing s

-- Ack
abbrev pub other_acked : Leader → ℕ → ℕ → Bool
other_acked l me slot = list_any (λ i. has_acked l i slot) (other_servers me)

abbrev pub still_merging : Server → Leader → Role
still_merging s l =
    if list_all (other_acked l s.number) (range_with_len (suc l.b0) (l.first - suc l.b0)) then Serving l else Merging l

abbrev pub is_own : Leader → ℕ → Bool
is_own l slot = nat_lt l.b0 slot && nat_lt slot l.next

unfoldable pub counted : Leader → (from slot upto_there : ℕ) → Leader
counted l from slot upto_there = record l {
  known = FinMap.insert l.known from upto_there;
  acks = if is_own l slot then acknowledged l.acks from slot else l.acks;
}

unfoldable pub commit : Server → ℕ → Server
commit s slot = record s { committed = Sets.insert s.committed slot }

abbrev pub commit_to : Server → Leader → (from slot : ℕ) → List Packet
commit_to s l from slot = if is_own l slot then to_one s from (Commit slot) ∷ [] else []

-- a leader commits entries of its own alone
unfoldable pub commit_own : Server → Leader → ℕ → Server
commit_own s l slot = record s {
  committed = if is_own l slot && holds s.durable slot s.durable.term then Sets.insert s.committed slot else s.committed;
}

unfoldable pub on_ack : Server → (from term slot upto_there : ℕ) → Role → Outcome
on_ack s from term slot upto_there (Serving l) =
    if term == s.durable.term
    then record {
      server = (let m = commit_own s l slot in record m { role = Serving (counted l from slot upto_there) });
      packets = commit_to s l from slot;
      answer = Done;
      acked = if is_own l slot && nat_le l.first slot && not (other_acked l s.number slot) then Some slot else None;
    }
    else nothing s
on_ack s from term slot upto_there (Merging l) =
    if term == s.durable.term
    then sends (let m = commit_own s l slot in record m { role = still_merging s (counted l from slot upto_there) }) (commit_to s l from slot)
    else nothing s
on_ack s from term slot upto_there Follower = nothing s
on_ack s from term slot upto_there (Candidate own) = nothing s

-- ProbeOk
abbrev pub confirm : ℕ → Read → Read
confirm number r = if r.number == number then record r { confirmed = true } else r

unfoldable pub on_probe_ok : Server → (from term number upto_there : ℕ) → Role → Outcome
on_probe_ok s from term number upto_there (Serving l) =
    if term == s.durable.term
    then nothing (record s { role = Serving (record l { known = FinMap.insert l.known from upto_there }); reads = map (confirm number) s.reads })
    else nothing s
on_probe_ok s from term number upto_there Follower = nothing s
on_probe_ok s from term number upto_there (Candidate own) = nothing s
on_probe_ok s from term number upto_there (Merging l) = nothing s
