-- What a group keeps beside its safety: facts about terms, logs, committed and applied slots, jobs and packets.
use Rattle.std.specs.Prelude.{◌≡◌, ℕ, ◌<◌, ◌≤◌, ◌≢◌, ◌⊎◌, Bool, true, false, List, Option, Some, slice_get}
use Rattle.std.specs.FinMap
use Rattle.pf_base.specs.Span.{overlaps}
use Rattle.pf_entry.specs.Ops.{Sector, range_of}
use Rattle.pf_entry.specs.declared.ops.Op.{Op}
use Rattle.pf_entry.specs.declared.ops.Op.TheVariants.{Noop}
use Rattle.pf_entry.specs.declared.entries.Named.{Named}
use Rattle.pf_entry.specs.declared.entries.Entry.{Entry}
use Rattle.pf_entry.specs.Records.{Durable}
use Rattle.pf_entry.specs.Applying.{passes}
use Rattle.pf_protocol.specs.Servers.{Setup, Leader, Merging, Serving, Server, Stopped, has_applied}
use Rattle.pf_protocol.specs.Groups.{Group}
use Rattle.pf_protocol.specs.Histories.{History, RunsAs, HasAccepted, IsProposal, IsChosen, AreFolds}

-- what the disks of a server may stand for: one state while it runs; while it is stopped, the one without the record of its last
-- step or the one with it
pub data MayHold (g : Group) (i : ℕ) : Durable → Type 0 where
  Now : (s : Server) → RunsAs g i s → MayHold g i s.durable
  Without : (life : ℕ) (before after : Durable) → slice_get g.servers i ≡ Some (Stopped life before after) → MayHold g i before
  With : (life : ℕ) (before after : Durable) → slice_get g.servers i ≡ Some (Stopped life before after) → MayHold g i after

-- under the checkpoint, or followed by an entry of no lower term
abbrev pub IsKeptIn : Durable → Entry → Type 0
IsKeptIn d e = (e.slot ≤ d.base) ⊎ ((x : Entry) × (FinMap.get d.log e.slot ≡ Some x) × (e.term ≤ x.term))

-- this op is chosen in the slot, in a term not above this one
abbrev pub IsChosenIn : Setup → History → (slot term : ℕ) → Op → Type 0
IsChosenIn setup history slot term op = (t : ℕ) × (t ≤ term) × IsChosen setup history slot t op

abbrev pub HasChosen : Setup → History → (slot term : ℕ) → Type 0
HasChosen setup history slot term = (op : Op) × IsChosenIn setup history slot term op

-- a later leader begins above the slot; it had the slot under its checkpoint, or proposed the op again
pub record Respects (setup : Setup) (history : History) (slot : ℕ) (op : Op) (s : Server) (l : Leader) : Type 0 where
  pub begins_above : slot < l.first
  pub proposes : l.b0 < slot → (e : Entry) × (IsProposal setup history e) × (e.slot ≡ slot) × (e.term ≡ s.durable.term) × (e.op ≡ op)

abbrev pub LeadsAs : Server → Leader → Type 0
LeadsAs s l = (s.role ≡ Merging l) ⊎ (s.role ≡ Serving l)

-- the leader had this op in the slot that its entry names; what is ever chosen there is that op, or a no-op
pub record KeepsName (setup : Setup) (history : History) (e : Entry) (n : Named) : Type 0 where
  pub own : Entry
  pub is_proposal : IsProposal setup history own
  pub in_slot : own.slot ≡ n.slot
  pub in_term : own.term ≡ e.term
  pub has_range : n.range ≡ range_of own.op
  pub later : (t : ℕ) (op : Op) → IsChosen setup history n.slot t op → (op ≡ own.op) ⊎ (op ≡ Noop)

-- a committed slot has an entry whose op is chosen, in a term not above the entry's; in its own term, where it is new
pub record IsCommittedIn (setup : Setup) (history : History) (s : Server) (slot : ℕ) : Type 0 where
  pub entry : Entry
  pub held : FinMap.get s.durable.log slot ≡ Some entry
  pub chosen : IsChosenIn setup history slot entry.term entry.op
  pub own_term : entry.first ≤ slot → IsChosen setup history slot entry.term entry.op

-- some chosen entry of slot a names slot p with a range that shares no sector with its own
pub record IsPassed (setup : Setup) (history : History) (a p : ℕ) : Type 0 where
  pub term : ℕ
  pub op : Op
  pub chosen : IsChosen setup history a term op
  pub lets : passes chosen.entry.look p (range_of op) ≡ true

-- applied slots have chosen ops, in terms not above this one; an unapplied slot below one of them can be passed; the sectors are what
-- the ops leave in the order of their slots
pub record IsCovered (setup : Setup) (history : History) (term : ℕ) (done : ℕ → Bool) (sectors : List Sector) : Type 0 where
  pub chosen : (slot : ℕ) → 0 < slot → done slot ≡ true → HasChosen setup history slot term
  pub passed : (a p : ℕ) → 0 < p → p < a → done a ≡ true → done p ≡ false → IsPassed setup history a p
  pub folded : AreFolds setup history done sectors

-- a job in hand
pub record IsInHand (setup : Setup) (history : History) (s : Server) (slot : ℕ) (op : Op) : Type 0 where
  pub unapplied : has_applied s slot ≡ false
  pub chosen : IsChosenIn setup history slot s.durable.term op
  pub passed : (p : ℕ) → 0 < p → p < slot → has_applied s p ≡ false → IsPassed setup history slot p
  pub apart : (other : ℕ) (its : Op) → other ≢ slot → FinMap.get s.in_hand other ≡ Some its → overlaps (range_of op) (range_of its) ≡ false

-- the server had the proposal of this slot and term, or every slot up to this one was chosen by then
abbrev pub MayAck : Setup → History → (i slot term : ℕ) → Type 0
MayAck setup history i slot term =
    ((e : Entry) × HasAccepted setup history i e × (e.slot ≡ slot) × (e.term ≡ term))
    ⊎ ((p : ℕ) → 0 < p → p ≤ slot → HasChosen setup history p term)

-- the slot was proposed in this term, and the proposal's op is chosen by then
abbrev pub HasCommitted : Setup → History → (slot term : ℕ) → Type 0
HasCommitted setup history slot term = (e : Entry) × IsProposal setup history e × (e.slot ≡ slot) × (e.term ≡ term) × IsChosenIn setup history slot term e.op
