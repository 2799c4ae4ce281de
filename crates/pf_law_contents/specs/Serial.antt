-- Exchanges with chunks, one at a time, among all that ports did at each chunk. Moments are of one clock for all chunks.
use Rattle.std.specs.Prelude.{◌≡◌, Bool, true, ℕ, suc, ◌+◌, ◌*◌, ◌<◌, ◌≤◌, List, [], ◌∷◌, length, take, Option, Some, slice_get}
use Rattle.pf_base.specs.Asks.{chunk_of}
use Rattle.pf_base.specs.declared.asks.Ask.{Ask}
use Rattle.pf_base.specs.declared.asks.Ask.TheVariants.{Write, Read}
use Rattle.pf_base.specs.declared.asks.Reply.{Reply}
use Rattle.pf_base.specs.declared.asks.Reply.TheVariants.{Bytes}
use Rattle.pf_entry.specs.Ops.{Sector}
use Rattle.pf_entry.specs.declared.ops.Op.TheVariants.{Write as WriteOp}
use Rattle.pf_protocol.specs.Groups.{Answered}
use Rattle.pf_law_positions.specs.Deeds.{PortAsk, PortReply, Puts, Gets, Got, Deed, Takes, Groups, DeedIsPending}
use Rattle.pf_law_epochs.specs.InTurn.{AreWhole, AsksBytes, eight_from, last_put}
use Rattle.pf_law_epochs.specs.Routed.{IsRouted}
use Rattle.pf_law_plans.specs.Exchanges.{Exchange}
use Rattle.pf_law_contents.specs.Stored.{Stored}

-- what is asked of a port
abbrev pub asked_as : Ask → PortAsk
asked_as (Write chunk span sectors) = Puts chunk (WriteOp span sectors)
asked_as (Read chunk span) = Gets chunk span

-- a read brought these sectors
abbrev pub SectorsAreBrought : Ask → Reply → Option PortReply → Type 0
SectorsAreBrought (Read chunk span) (Bytes sectors) reply =
    (epoch : ℕ) × (by : ℕ) × (read : Answered) × (reply ≡ Some (Got chunk epoch by read)) × (sectors ≡ read.bytes)
SectorsAreBrought ask reply brought = Unit {0}

-- a client asked this of the chunk at one moment, and was answered so at another, in its next turn there
pub record WasAsked (deeds : (chunk : ℕ) → List Deed) (e : Exchange) (asked answered : ℕ) : Type 0 where
  pub client : ℕ
  pub pending : DeedIsPending (deeds (chunk_of e.0)) client asked answered (asked_as e.0)
  pub reply : Option PortReply
  pub next : Option PortAsk
  pub at : slice_get (deeds (chunk_of e.0)) answered ≡ Some (Takes client reply next)
  pub brought : SectorsAreBrought e.0 e.1 reply

module _ (is_data : (chunk piece : ℕ) → Bool) where
  -- an ask of one of the pieces in question, as a whole
  abbrev pub IsOfPiece : Ask → Type 0
  IsOfPiece (Write chunk span sectors) = (piece : ℕ) × (is_data chunk piece ≡ true) × (span ≡ eight_from (8 * piece)) × (length sectors ≡ 8)
  IsOfPiece (Read chunk span) = (piece : ℕ) × (is_data chunk piece ≡ true) × (span ≡ eight_from (8 * piece))

  -- from one moment up to another nobody asks to write a sector of such a piece
  abbrev pub NoneAsks : ((chunk : ℕ) → List Deed) → (from to : ℕ) → Type 0
  NoneAsks deeds from to =
      (chunk piece nth client asked : ℕ) (bytes : Sector)
      → is_data chunk piece ≡ true
      → nth < 8
      → from ≤ asked
      → asked < to
      → AsksBytes (deeds chunk) chunk (8 * piece + nth) client asked bytes
      → ⊥

  -- and at this moment nobody asks so of any chunk but this one
  abbrev pub NoneAsksElsewhere : ((chunk : ℕ) → List Deed) → (here moment : ℕ) → Type 0
  NoneAsksElsewhere deeds here moment =
      (chunk piece nth client : ℕ) (bytes : Sector)
      → is_data chunk piece ≡ true
      → nth < 8
      → AsksBytes (deeds chunk) chunk (8 * piece + nth) client moment bytes
      → chunk ≡ here

  -- From a moment on these exchanges were made, of such pieces, each answered before the next one was asked, and up to the end nobody else asked to
  -- write one
  abbrev pub AreSerial : ((chunk : ℕ) → List Deed) → (from : ℕ) → List Exchange → (end : ℕ) → Type 0
  AreSerial deeds from [] end = (from ≤ end) × NoneAsks deeds from end
  AreSerial deeds from (e ∷ came) end =
      (asked : ℕ)
      × (answered : ℕ)
      × (from ≤ asked)
      × WasAsked deeds e asked answered
      × IsOfPiece e.0
      × NoneAsks deeds from asked
      × NoneAsksElsewhere deeds (chunk_of e.0) asked
      × NoneAsks deeds (suc asked) answered
      × AreSerial deeds answered came end

  -- the chunks of these pieces are served through all moves, each by groups of its own, and each such piece is always written as a whole
  pub record AreServed (groups : (chunk : ℕ) → Groups) (deeds : (chunk : ℕ) → List Deed) : Type 0 where
    pub routed : (chunk piece : ℕ) → is_data chunk piece ≡ true → IsRouted (groups chunk) (deeds chunk) chunk piece
    pub whole : (chunk piece : ℕ) → is_data chunk piece ≡ true → AreWhole (deeds chunk) chunk (8 * piece)

  -- what is stored is what was put last before a moment
  abbrev pub IsPut : ((chunk : ℕ) → List Deed) → Stored → (moment : ℕ) → Type 0
  IsPut deeds s moment =
      (chunk piece : ℕ)
      → is_data chunk piece ≡ true
      → s chunk (8 * piece) ≡ last_put chunk (8 * piece) (take moment (deeds chunk))
