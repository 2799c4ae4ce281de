-- Histories of a group, and what was proposed, accepted and chosen in them.
use Rattle.std.specs.Prelude.{◌≡◌, ℕ, ◌<◌, ◌≤◌, ◌≢◌, ◌⊎◌, Bool, true, false, Option, List, [], ◌∷◌, ◌++◌, length, Some, slice_get}
use Rattle.std.specs.FinMap
use Rattle.pf_entry.specs.Ops.{Sector, zero_sector}
use Rattle.pf_entry.specs.Applying.{fold_to}
use Rattle.pf_entry.specs.declared.ops.Op.{Op}
use Rattle.pf_entry.specs.declared.ops.Op.TheVariants.{Noop}
use Rattle.pf_entry.specs.declared.entries.Entry.{Entry}
use Rattle.pf_entry.specs.declared.entries.VoteLog.{VoteLog}
use Rattle.pf_entry.specs.declared.packets.Body.TheVariants.{Vote}
use Rattle.pf_entry.specs.Entries.{EntryIsNew}
use Rattle.pf_entry.specs.Records.{vote_of}
use Rattle.pf_entry.specs.Merging.{taken, merged_first, merged_entry}
use Rattle.pf_protocol.specs.Servers.{Setup, Candidate, Serving, Leader, Server, Running}
use Rattle.pf_protocol.specs.declared.answers.Answer.{Answer}
use Rattle.pf_protocol.specs.declared.events.Event.{Event}
use Rattle.pf_protocol.specs.declared.events.Event.TheVariants.{Submit, Deliver}
use Rattle.pf_protocol.specs.declared.events.Happening.{Happening}
use Rattle.pf_protocol.specs.Leading.{new_entry}
use Rattle.pf_protocol.specs.Groups.{Group, Sent, TookPlace, ending, happens, opening}

abbrev pub History : Type 0
History = List Happening

abbrev pub run : Setup → Group → History → Group
run setup g [] = g
run setup g (h ∷ hs) = run setup (happens setup g h.event (ending h.answer)) hs

abbrev pub replay : Setup → History → Group
replay setup history = run setup (opening setup) history

-- a moment of the history
pub record IsPrefix (earlier history : History) : Type 0 where
  pub rest : History
  pub whole : earlier ++ rest ≡ history

-- the server runs, with this state
abbrev pub RunsAs : Group → ℕ → Server → Type 0
RunsAs g i s = slice_get g.servers i ≡ Some (Running s)

-- a running server has the entry in its records
pub record Holds (g : Group) (i : ℕ) (e : Entry) : Type 0 where
  pub server : Server
  pub runs : RunsAs g i server
  pub held : FinMap.get server.durable.log e.slot ≡ Some e

-- after some event of the history, server i had the entry in its records
pub record HasAccepted (setup : Setup) (history : History) (i : ℕ) (e : Entry) : Type 0 where
  pub earlier : History
  pub is_earlier : IsPrefix earlier history
  pub holds : Holds (replay setup earlier) i e

-- the packet is a vote for this candidate
pub record IsMerge (g : Group) (i : ℕ) (s : Server) (k : ℕ) (sent : Sent) (own other : VoteLog) : Type 0 where
  pub stands : s.role ≡ Candidate own
  pub was_sent : slice_get g.packets k ≡ Some sent
  pub not_lost : sent.lost ≡ false
  pub to_it : sent.packet.to ≡ i
  pub in_term : sent.packet.term ≡ s.durable.term
  pub is_vote : sent.packet.body ≡ Vote other
  pub low : other.base ≤ s.durable.base

-- the entry that an event makes at a server: a leader proposes in its next slot, or a candidate merges its own log and that of a
-- vote, and proposes each merged op anew
pub data Makes (setup : Setup) (g : Group) (i : ℕ) (s : Server) : Event → Entry → Type 0 where
  BySubmit : (op : Op) (l : Leader) → s.role ≡ Serving l → Makes setup g i s (Submit i op) (new_entry setup.names s l op)
  ByMerge : (k : ℕ) (sent : Sent) (own other : VoteLog) (slot : ℕ) → IsMerge g i s k sent own other → s.durable.base < slot
      → slot < merged_first s.durable.base own other → Makes setup g i s (Deliver k) (merged_entry s.durable.term s.durable.base own other slot)

-- the event that sent packet k, and what its sender held as it voted: it ran in a lower term, with this checkpoint, these starts and
-- this log
pub record HasVoted (setup : Setup) (history : History) (k i term : ℕ) (v : VoteLog) : Type 0 where
  pub earlier : History
  pub voting : Happening
  pub is_part : IsPrefix (earlier ++ voting ∷ []) history
  pub unsent : length (replay setup earlier).packets ≤ k
  pub was_sent : k < length (replay setup (earlier ++ voting ∷ [])).packets
  pub server : Server
  pub runs : RunsAs (replay setup earlier) i server
  pub holds : v ≡ vote_of server.durable
  pub lower : server.durable.term < term

-- some event made the entry at this server
pub record Made (setup : Setup) (history : History) (leader : ℕ) (e : Entry) : Type 0 where
  pub earlier : History
  pub making : Happening
  pub done : TookPlace (ending making.answer)
  pub is_earlier : IsPrefix (earlier ++ making ∷ []) history
  pub server : Server
  pub runs : RunsAs (replay setup earlier) leader server
  pub makes : Makes setup (replay setup earlier) leader server making.event e

-- the entry that the leader of its term made for its slot. Where the making step was cut off, it counts once its record was found
pub record IsProposal (setup : Setup) (history : History) (e : Entry) : Type 0 where
  pub leader : ℕ
  pub made : Made setup history leader e
  pub recorded : HasAccepted setup history leader e

-- two of the three servers accepted the proposal of this slot and term, which has this op
pub record IsChosen (setup : Setup) (history : History) (slot term : ℕ) (op : Op) : Type 0 where
  pub entry : Entry
  pub proposed : IsProposal setup history entry
  pub in_slot : entry.slot ≡ slot
  pub in_term : entry.term ≡ term
  pub has_op : entry.op ≡ op
  pub one : ℕ
  pub two : ℕ
  pub apart : one ≢ two
  pub one_accepted : HasAccepted setup history one entry
  pub two_accepted : HasAccepted setup history two entry

-- each sector is what the chosen ops of the done slots leave in the order of their slots
abbrev pub AreFolds : Setup → History → (done : ℕ → Bool) → List Sector → Type 0
AreFolds setup history done sectors = (x n : ℕ) (bytes : Sector) (ops : ℕ → Option Op) → slice_get sectors x ≡ Some bytes
    → ((slot : ℕ) → done slot ≡ true → slot ≤ n) → ((slot : ℕ) → 0 < slot → done slot ≡ true
    → (op : Op) × (ops slot ≡ Some op) × ((t : ℕ) × IsChosen setup history slot t op)) → bytes ≡ fold_to ops done x zero_sector n

-- the op of a merge was taken from this entry, the one of the highest term that is not void
pub record IsTakenFrom (setup : Setup) (history : History) (e from : Entry) : Type 0 where
  pub leader : ℕ
  pub earlier : History
  pub k : ℕ
  pub answer : Answer
  pub done : TookPlace (ending answer)
  pub is_earlier : IsPrefix (earlier ++ record { event = Deliver k; answer = answer } ∷ []) history
  pub server : Server
  pub runs : RunsAs (replay setup earlier) leader server
  pub sent : Sent
  pub own : VoteLog
  pub other : VoteLog
  pub merge : IsMerge (replay setup earlier) leader server k sent own other
  pub is_merged : e ≡ merged_entry server.durable.term server.durable.base own other e.slot
  pub is_taken : taken server.durable.base own other e.slot ≡ Some from

-- the new proposal from which an op comes, through the merges that took it
pub data HasOrigin (setup : Setup) (history : History) : (e origin : Entry) → Type 0 where
  Itself : (e : Entry) → IsProposal setup history e → EntryIsNew e → HasOrigin setup history e e
  Through : (e from origin : Entry) → IsProposal setup history e → IsTakenFrom setup history e from → HasOrigin setup history from origin
      → HasOrigin setup history e origin

-- an op comes from a new proposal of its slot, or it is a no-op by which a merge filled a slot
pub record Origin (setup : Setup) (history : History) (e : Entry) : Type 0 where
  pub origin : Entry
  pub is : HasOrigin setup history e origin
  pub same_slot : origin.slot ≡ e.slot
  pub same_op : origin.op ≡ e.op

abbrev pub HasSource : Setup → History → Entry → Type 0
HasSource setup history e = Origin setup history e ⊎ (e.op ≡ Noop)
