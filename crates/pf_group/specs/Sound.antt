-- What holds of every history of a group.
use Rattle.std.specs.Prelude.{◌≡◌, ℕ, ◌<◌, ◌≤◌, List, length, Some, slice_get, true}
use Rattle.std.specs.FinMap
use Rattle.pf_entry.specs.Maps.{Numbers}
use Rattle.pf_entry.specs.Sets
use Rattle.pf_entry.specs.Ops.{Sector}
use Rattle.pf_entry.specs.Applying.{is_applied}
use Rattle.pf_entry.specs.Records.{Durable}
use Rattle.pf_entry.specs.declared.ops.Op.{Op}
use Rattle.pf_entry.specs.declared.entries.Entry.{Entry}
use Rattle.pf_entry.specs.declared.entries.VoteLog.{VoteLog}
use Rattle.pf_entry.specs.declared.packets.Body.TheVariants.{Vote, Ack, Commit, Image}
use Rattle.pf_protocol.specs.Servers.{Setup, Server, has_applied}
use Rattle.pf_protocol.specs.Groups.{Answered, Group, Sent}
use Rattle.pf_protocol.specs.Histories.{History, IsPrefix, replay, RunsAs, HasAccepted, HasSource, HasVoted, IsProposal}
use Rattle.pf_protocol.specs.Kept.{MayHold, MayAck, HasCommitted, IsCovered, IsInHand, IsKeptIn, IsCommittedIn}
use Rattle.pf_protocol.specs.LastWriters.{HoldLastWrites}
use Rattle.pf_protocol.specs.Answers.{IsLegal}
use Rattle.pf_protocol.specs.Fitting.{GroupFits}
use Rattle.pf_protocol.specs.Safety.{IsSafe, OneLeader}
use Rattle.pf_protocol.specs.Fresh.{ReadIsFresh}
use Rattle.pf_protocol.specs.Snapshots.{IsSnapshot}

module _ (setup : Setup) (history : History) where
  abbrev pub now : Group
  now = replay setup history

  -- what a server ever held, its leader proposed, and what was proposed comes from a new proposal or fills a gap
  pub record HoldsProposals : Type 0 where
    pub made : (i : ℕ) (e : Entry) → HasAccepted setup history i e → IsProposal setup history e
    pub source : (e : Entry) → IsProposal setup history e → HasSource setup history e
    pub kept : (i : ℕ) (e : Entry) (d : Durable) → HasAccepted setup history i e → MayHold now i d → IsKeptIn d e
    pub starts : (i : ℕ) (e : Entry) (d : Durable) → HasAccepted setup history i e → MayHold now i d → FinMap.get d.starts e.term ≡ Some e.first
    -- a held entry stands in its own slot, in a term not above its server's
    pub within : (i : ℕ) (d : Durable) (slot : ℕ) (e : Entry) → MayHold now i d → FinMap.get d.log slot ≡ Some e → (e.slot ≡ slot) × (e.term ≤ d.term)

  -- what is applied was chosen, what it passed can be passed, and sectors are the applied ops in the order of their slots
  pub record AppliesChosen : Type 0 where
    pub servers : (i : ℕ) (s : Server) → RunsAs now i s → IsCovered setup history s.durable.term (has_applied s) s.sectors
    pub disks : (i : ℕ) (d : Durable) → MayHold now i d → IsCovered setup history d.term (is_applied d.base d.saved) d.sectors
    pub images : (k : ℕ) (sent : Sent) (base : ℕ) (applied : Numbers) (sectors : List Sector) → slice_get now.packets k ≡ Some sent
        → sent.packet.body ≡ Image base applied sectors → IsCovered setup history sent.packet.term (is_applied base applied) sectors

  -- each sector holds what the greatest applied slot that writes it wrote
  pub record HoldsWrites : Type 0 where
    pub servers : (i : ℕ) (s : Server) → RunsAs now i s → HoldLastWrites setup history (has_applied s) s.sectors
    pub disks : (i : ℕ) (d : Durable) → MayHold now i d → HoldLastWrites setup history (is_applied d.base d.saved) d.sectors
    pub images : (k : ℕ) (sent : Sent) (base : ℕ) (applied : Numbers) (sectors : List Sector) → slice_get now.packets k ≡ Some sent
        → sent.packet.body ≡ Image base applied sectors → HoldLastWrites setup history (is_applied base applied) sectors

  -- votes, acknowledgements and commits say what is so
  pub record TellsTruth : Type 0 where
    pub votes : (k : ℕ) (sent : Sent) (v : VoteLog) → slice_get now.packets k ≡ Some sent → sent.packet.body ≡ Vote v
        → HasVoted setup history k sent.packet.from sent.packet.term v
    pub acks : (k : ℕ) (sent : Sent) (slot upto : ℕ) → slice_get now.packets k ≡ Some sent → sent.packet.body ≡ Ack slot upto → 0 < slot
        → MayAck setup history sent.packet.from slot sent.packet.term
    pub commits : (k : ℕ) (sent : Sent) (slot : ℕ) → slice_get now.packets k ≡ Some sent → sent.packet.body ≡ Commit slot
        → HasCommitted setup history slot sent.packet.term

  pub record IsSound : Type 0 where
    -- committed ops agree, sectors are the applied ops, and what was acknowledged is kept, at every moment
    pub safe : IsSafe setup history
    -- each term has one leader
    pub leaders : OneLeader setup history
    -- an answer of a read misses nothing that was acknowledged before it was asked
    pub fresh : (k : ℕ) (a : Answered) → slice_get now.answered k ≡ Some a → ReadIsFresh setup history a
    -- a snapshot holds what all slots up to its mark write
    pub snapshots : (earlier : History) (i : ℕ) (s : Server) (mark : ℕ) (sectors : List Sector) → IsPrefix earlier history → RunsAs (replay setup earlier) i s
        → FinMap.get s.snapshots mark ≡ Some sectors → IsSnapshot setup history mark sectors
    pub entries : HoldsProposals
    -- a committed slot has an entry with a chosen op
    pub committed_slots : (i : ℕ) (s : Server) (slot : ℕ) → RunsAs now i s → Sets.contains s.committed slot ≡ true → IsCommittedIn setup history s slot
    pub applied : AppliesChosen
    pub written : HoldsWrites
    -- jobs in hand are of chosen ops, and share no sector
    pub jobs : (i : ℕ) (s : Server) (slot : ℕ) (op : Op) → RunsAs now i s → FinMap.get s.in_hand slot ≡ Some op → IsInHand setup history s slot op
    pub packets : TellsTruth
    -- terms, slots, lives, generations and numbers of reads are bounded by the events of a history that a group can have
    pub bounded : IsLegal setup history → GroupFits setup (length history) now
