-- What ports did, and when such a list fits the histories of the groups.
use Rattle.std.specs.Prelude.{◌≡◌, ℕ, suc, ◌<◌, ◌≤◌, List, [], ◌∷◌, ◌++◌, take, length, Option, Some, slice_get}
use Rattle.pf_base.specs.Span.{Span}
use Rattle.pf_entry.specs.declared.ops.Op.{Op}
use Rattle.pf_protocol.specs.declared.answers.Answer.TheVariants.{Slot, Read}
use Rattle.pf_protocol.specs.declared.events.Event.TheVariants.{Fetch}
use Rattle.pf_protocol.specs.Servers.{Setup}
use Rattle.pf_protocol.specs.Groups.{Answered, Whole, ending}
use Rattle.pf_protocol.specs.Histories.{History, IsPrefix, replay}
use Rattle.pf_protocol.specs.Ports.{Submission, submitting, IsTarget}

-- A chunk is served by a group. It may be moved to another one, and so on: its epochs are numbered from 0, and each has a group of its own

-- what a port is asked to bring to a chunk
pub data PortAsk : Type 0 where
  Puts : (chunk : ℕ) (op : Op) → PortAsk
  Gets : (chunk : ℕ) (range : Span) → PortAsk

-- what it brings back once so many events of the history of the epoch's group have happened: the op was acknowledged, or the read was
-- answered
pub data PortReply : Type 0 where
  Put : (chunk epoch by : ℕ) (op : Op) → PortReply
  Got : (chunk epoch by : ℕ) (read : Answered) → PortReply

-- A client is answered what it asked in its turn before, or nothing, and asks the next thing, or nothing. Or its port hands the ask that
-- is pending to a server: that is the event of the group's history at this place
pub data Deed : Type 0 where
  Takes : (client : ℕ) (reply : Option PortReply) (ask : Option PortAsk) → Deed
  Submits : (client chunk epoch place : ℕ) → Deed

-- The list of all deeds in their order is what ports did. A deed's place in it is its moment.

-- the client asked this in its turn at the first moment, and has no other turn before the second
pub record DeedIsPending (deeds : List Deed) (client asked moment : ℕ) (ask : PortAsk) : Type 0 where
  pub reply : Option PortReply
  pub at : slice_get deeds asked ≡ Some (Takes client reply (Some ask))
  pub earlier : asked < moment
  pub no_other : (k : ℕ) (its : Option PortReply) (next : Option PortAsk) → asked < k → k < moment → slice_get deeds k ≡ Some (Takes client its next) → ⊥

-- the groups, each by its chunk and epoch
pub record Groups : Type 0 where
  pub moves : (chunk : ℕ) → ℕ  -- how often the chunk was moved: its last epoch
  pub setup : (chunk epoch : ℕ) → Setup
  pub history : (chunk epoch : ℕ) → History
  pub writes : (chunk epoch client : ℕ) → List Submission  -- of the client's port; the number of a write is the moment at which it was asked
  pub moved : (chunk epoch : ℕ) → List Submission  -- of the port by which the chunk was moved from this epoch's group into the next one

-- a submission of a write is a deed of the client, and its op is what the client has pending
pub record WriteIsHanded (deeds : List Deed) (chunk epoch client : ℕ) (a : Submission) : Type 0 where
  pub moment : ℕ
  pub at : slice_get deeds moment ≡ Some (Submits client chunk epoch (length a.before))
  pub pending : DeedIsPending deeds client a.write moment (Puts chunk a.op)

-- a write that was answered: its last submission was answered with a slot, which the leader of its term acknowledged by then
pub record WasPut (groups : Groups) (deeds : List Deed) (chunk epoch client moment by : ℕ) (op : Op) : Type 0 where
  pub asked : ℕ
  pub pending : DeedIsPending deeds client asked moment (Puts chunk op)
  pub k : ℕ
  pub submission : Submission
  pub there : slice_get (groups.writes chunk epoch client) k ≡ Some submission
  pub is_it : submission.write ≡ asked
  pub is_last : (j : ℕ) (s : Submission) → slice_get (groups.writes chunk epoch client) j ≡ Some s → s.write ≡ asked → j ≤ k
  pub slot : ℕ
  pub took_slot : submission.answer ≡ Slot slot
  pub term : ℕ
  pub in_term : (x : IsTarget (groups.setup chunk epoch) submission) → x.server.durable.term ≡ term
  pub n : ℕ
  pub acked : slice_get (replay (groups.setup chunk epoch) (take by (groups.history chunk epoch))).acked n ≡ Some (record { term = term; slot = slot })

-- a read that was answered: a submission of it was answered with the number of the read, which was answered by then
pub record WasGot (groups : Groups) (deeds : List Deed) (chunk epoch client moment by : ℕ) (read : Answered) : Type 0 where
  pub asked : ℕ
  pub range : Span
  pub pending : DeedIsPending deeds client asked moment (Gets chunk range)
  pub handed : ℕ
  pub after : asked < handed
  pub place : ℕ
  pub at : slice_get deeds handed ≡ Some (Submits client chunk epoch place)
  pub server : ℕ
  pub taken : slice_get (groups.history chunk epoch) place ≡ Some (record { event = Fetch server range; answer = Read read.number })
  pub k : ℕ
  pub answered : slice_get (replay (groups.setup chunk epoch) (take by (groups.history chunk epoch))).answered k ≡ Some read

-- the deed brings an answer from the epoch's group, after so many of its events
pub data BringsBy (chunk epoch by : ℕ) : Deed → Type 0 where
  Acks : (client : ℕ) (op : Op) (ask : Option PortAsk) → BringsBy chunk epoch by (Takes client (Some (Put chunk epoch by op)) ask)
  Reads : (client : ℕ) (read : Answered) (ask : Option PortAsk) → BringsBy chunk epoch by (Takes client (Some (Got chunk epoch by read)) ask)

-- the deed hands something to the epoch's group, or brings an answer from it
pub data IsOfEpoch (chunk epoch : ℕ) : Deed → Type 0 where
  Hands : (client place : ℕ) → IsOfEpoch chunk epoch (Submits client chunk epoch place)
  Brings : (by : ℕ) (deed : Deed) → BringsBy chunk epoch by deed → IsOfEpoch chunk epoch deed

-- How a client's port hands its writes to the epoch's group: each is the event of the history at its place; they stand in the order of their
-- places; each goes to the leader of a term, none to a lower one than the one before, and the same write to a higher one where
-- the one before was taken up
pub record IsPort (groups : Groups) (deeds : List Deed) (chunk epoch client : ℕ) : Type 0 where
  pub happened : (k : ℕ) (a : Submission) → slice_get (groups.writes chunk epoch client) k ≡ Some a
      → IsPrefix (a.before ++ submitting a ∷ []) (groups.history chunk epoch)
  pub handed : (k : ℕ) (a : Submission) → slice_get (groups.writes chunk epoch client) k ≡ Some a → WriteIsHanded deeds chunk epoch client a
  pub in_order : (k : ℕ) (a b : Submission) → slice_get (groups.writes chunk epoch client) k ≡ Some a
      → slice_get (groups.writes chunk epoch client) (suc k) ≡ Some b → length a.before < length b.before
  pub term : ℕ → ℕ
  pub in_term : (k : ℕ) (a : Submission) → slice_get (groups.writes chunk epoch client) k ≡ Some a → (x : IsTarget (groups.setup chunk epoch) a)
      → x.server.durable.term ≡ term k
  pub no_lower : (k : ℕ) (a b : Submission) → slice_get (groups.writes chunk epoch client) k ≡ Some a
      → slice_get (groups.writes chunk epoch client) (suc k) ≡ Some b → term k ≤ term (suc k)
  pub again : (k : ℕ) (a b : Submission) → slice_get (groups.writes chunk epoch client) k ≡ Some a
      → slice_get (groups.writes chunk epoch client) (suc k) ≡ Some b → a.write ≡ b.write → ending a.answer ≡ Whole → term k < term (suc k)

-- What ports did fits the histories of a chunk's groups. The places of what is submitted rise, and what is submitted after an answer was
-- brought stands in the history at no lower place than so many events. No deed is of an earlier epoch than one before it. Each client's
-- turn after a write was asked answers it. Each answer is one of the client's pending ask, and each write's comes by its last submission
pub record DeedsFit (groups : Groups) (deeds : List Deed) (chunk : ℕ) : Type 0 where
  pub places : (moment later epoch client other place next : ℕ) → moment < later → slice_get deeds moment ≡ Some (Submits client chunk epoch place)
      → slice_get deeds later ≡ Some (Submits other chunk epoch next) → place < next
  pub rises : (moment later epoch client by place : ℕ) (deed : Deed) → moment < later → slice_get deeds moment ≡ Some deed → BringsBy chunk epoch by deed
      → slice_get deeds later ≡ Some (Submits client chunk epoch place) → by ≤ place
  pub goes_on : (moment later epoch other : ℕ) (deed next : Deed) → moment < later → slice_get deeds moment ≡ Some deed → IsOfEpoch chunk epoch deed
      → slice_get deeds later ≡ Some next → IsOfEpoch chunk other next → epoch ≤ other
  pub reached : (moment epoch : ℕ) (deed : Deed) → slice_get deeds moment ≡ Some deed → IsOfEpoch chunk epoch deed → epoch ≤ groups.moves chunk
  pub port : (epoch client : ℕ) → epoch ≤ groups.moves chunk → IsPort groups deeds chunk epoch client
  pub waits : (client asked moment : ℕ) (op : Op) (reply : Option PortReply) (next : Option PortAsk) → DeedIsPending deeds client asked moment (Puts chunk op)
      → slice_get deeds moment ≡ Some (Takes client reply next) → (epoch : ℕ) × (by : ℕ) × (reply ≡ Some (Put chunk epoch by op))
  pub put : (client moment epoch by : ℕ) (op : Op) (ask : Option PortAsk) → slice_get deeds moment ≡ Some (Takes client (Some (Put chunk epoch by op)) ask)
      → WasPut groups deeds chunk epoch client moment by op
  pub got : (client moment epoch by : ℕ) (read : Answered) (ask : Option PortAsk)
      → slice_get deeds moment ≡ Some (Takes client (Some (Got chunk epoch by read)) ask) → WasGot groups deeds chunk epoch client moment by read
