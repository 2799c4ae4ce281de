-- Reads that miss nothing.
use Rattle.std.specs.Prelude.{◌≡◌, ℕ, suc, ◌+◌, ◌<◌, ◌≤◌, Bool, true, [], ◌∷◌, ◌++◌, length, Some, slice_get, slice_range}
use Rattle.pf_base.specs.Span.{Span, overlaps}
use Rattle.pf_entry.specs.declared.ops.Op.{Op}
use Rattle.pf_entry.specs.Ops.{range_of}
use Rattle.pf_entry.specs.Applying.{is_applied}
use Rattle.pf_protocol.specs.declared.events.Event.TheVariants.{Fetch}
use Rattle.pf_protocol.specs.declared.events.Happening.{Happening}
use Rattle.pf_protocol.specs.Servers.{Setup, Server, has_applied}
use Rattle.pf_protocol.specs.Groups.{Acked, Answered}
use Rattle.pf_protocol.specs.Histories.{History, IsPrefix, replay, RunsAs, IsChosen}
use Rattle.pf_protocol.specs.Kept.{IsCovered}

-- the event after this moment took up the read of this number
pub record IsFetch (setup : Setup) (history : History) (number i : ℕ) (range : Span) (before : History) : Type 0 where
  pub fetch : Happening
  pub is_part : IsPrefix (before ++ fetch ∷ []) history
  pub event : fetch.event ≡ Fetch i range
  pub is_next : number ≡ (replay setup before).reads
  pub counts : (replay setup (before ++ fetch ∷ [])).reads ≡ suc number

-- the slots that the answering server had applied
abbrev pub shows_slot : Answered → ℕ → Bool
shows_slot a slot = is_applied a.base a.applied slot

-- the answer has the slot, if the slot's op overlaps its range
abbrev pub HasIfOverlaps : Setup → History → Answered → ℕ → Type 0
HasIfOverlaps setup history a slot = (t : ℕ) (op : Op) → IsChosen setup history slot t op → overlaps (range_of op) a.range ≡ true → shows_slot a slot ≡ true

-- an answer misses nothing: it has each slot that overlaps its range and was acknowledged before the read was taken up, and each such
-- slot of every answer given by then. Its bytes and its slots are those of its server after the event that answered it
pub record ReadIsFresh (setup : Setup) (history : History) (a : Answered) : Type 0 where
  pub before : History
  pub fetched : IsFetch setup history a.number a.server a.range before
  pub answering : History
  pub answering_event : Happening
  pub is_part : IsPrefix (answering ++ answering_event ∷ []) history
  pub asked_before : IsPrefix (before ++ fetched.fetch ∷ []) answering  -- the event that takes a read up never answers it
  pub place : ℕ
  pub not_yet : length (replay setup answering).answered ≤ place
  pub answered_then : slice_get (replay setup (answering ++ answering_event ∷ [])).answered place ≡ Some a
  pub server : Server
  pub runs : RunsAs (replay setup (answering ++ answering_event ∷ [])) a.server server
  pub bytes : a.bytes ≡ slice_range server.sectors a.range.first (a.range.first + a.range.count)
  pub applied : (slot : ℕ) → shows_slot a slot ≡ has_applied server slot
  pub covered : IsCovered setup history a.term (shows_slot a) server.sectors
  pub acknowledged : (k : ℕ) (b : Acked) → slice_get (replay setup before).acked k ≡ Some b → HasIfOverlaps setup history a b.slot
  pub answered : (k : ℕ) (b : Answered) (slot : ℕ) → slice_get (replay setup before).answered k ≡ Some b → 0 < slot → shows_slot b slot ≡ true
      → HasIfOverlaps setup history a slot
