-- The rules of voters and followers, a definition for each row.
use Rattle.std.specs.Prelude.{ℕ, suc, ◌+◌, ◌||◌, List, [], ◌∷◌, nat_lt, nat_le, if◌then◌else◌}
use Rattle.std.specs.FinMap
use Rattle.pf_entry.specs.Sets
use Rattle.pf_entry.specs.Maps.{Numbers}
use Rattle.pf_entry.specs.Ops.{Sector}
use Rattle.pf_entry.specs.declared.entries.Entry.{Entry}
use Rattle.pf_entry.specs.declared.packets.Body.TheVariants.{Vote, Ack, Nack, ProbeOk}
use Rattle.pf_entry.specs.Records.{Durable, vote_of, image_of, above, holds}
use Rattle.pf_entry.specs.declared.records.Record.TheVariants.{Entry as EntryRecord}
use Rattle.pf_protocol.specs.Servers.{Setup, Server, upto}
use Rattle.pf_protocol.specs.Outcomes.{Outcome, to_one, sends, nothing, store, step_down, raise_term}
use Rattle.pf_protocol.specs.Leading.{commit}

-- a term from outside is taken over only if it is higher
abbrev pub meets_term : Server → ℕ → Server
meets_term s term = if nat_lt s.durable.term term then raise_term s term else s

abbrev pub ack : Server → (to slot : ℕ) → Outcome
ack s to slot = sends s (to_one s to (Ack slot (upto s)) ∷ [])

abbrev pub nack : Server → ℕ → Outcome
nack s to = sends s (to_one s to Nack ∷ [])

-- RequestVote
unfoldable pub on_request_vote : Server → (from term base : ℕ) → Outcome
on_request_vote s from term base =
    if nat_le term s.durable.term || nat_lt base s.durable.base
    then nack s from
    else (let after = raise_term s term in sends after (to_one after from (Vote (vote_of s.durable)) ∷ []))

-- Accept
unfoldable pub accepted : Server → Entry → Server
accepted s e = step_down (store s (EntryRecord e))

unfoldable pub on_accept : Setup → Server → (from : ℕ) → Entry → Outcome
on_accept setup s from e =
    if nat_lt e.term s.durable.term then nack s from
    else (if nat_le e.slot s.durable.base then ack (meets_term s e.term) from e.slot
    else (if nat_lt (s.durable.base + setup.window) e.slot then nothing s
    else (if holds s.durable e.slot e.term then ack s from e.slot
    else ack (accepted s e) from e.slot)))

-- Nack, of a higher term
unfoldable pub on_nack : Server → (term : ℕ) → Outcome
on_nack s term = nothing (meets_term s term)

-- Commit
unfoldable pub on_commit : Server → (term slot : ℕ) → Outcome
on_commit s term slot = if holds s.durable slot term then nothing (commit s slot) else nothing s

-- Probe. The answer has the probe's term
unfoldable pub on_probe : Server → (from term number : ℕ) → Outcome
on_probe s from term number =
    if nat_lt term s.durable.term
    then nack s from
    else sends s (record { from = s.number; to = from; term = term; body = ProbeOk number (upto s) } ∷ [])

-- Image
unfoldable pub installed : Server → (term base : ℕ) → Numbers → List Sector → Server
installed s term base applied sectors =
    let d = s.durable in
    let image : Durable = record d { generation = suc d.generation; term = term; base = base; log = above base d.log; saved = applied; sectors = sectors } in
    let after = step_down (store s (image_of image)) in
    record after {
      life = suc s.life;
      committed = Sets.retain s.committed (nat_lt base);
      applied = applied;
      sectors = sectors;
      in_hand = FinMap.empty;
      snapshots = FinMap.empty;
    }

unfoldable pub on_image : Server → (from term base : ℕ) → Numbers → List Sector → Outcome
on_image s from term base applied sectors =
    if nat_lt term s.durable.term then nack s from
    else (if nat_le base (upto s) then ack (meets_term s term) from base
    else ack (installed s term base applied sectors) from base)
