-- What a port's reply says of its group.
use Rattle.std.specs.Prelude.{◌≡◌, ℕ, ◌≤◌, List, [], ◌∷◌, ◌++◌, Some, slice_get}
use Rattle.pf_base.specs.Span.{Span}
use Rattle.pf_base.specs.declared.asks.Ask.{Ask}
use Rattle.pf_base.specs.declared.asks.Ask.TheVariants.{Write as WriteAsk, Read as ReadAsk}
use Rattle.pf_base.specs.declared.asks.Reply.{Reply}
use Rattle.pf_base.specs.declared.asks.Reply.TheVariants.{Written, Bytes}
use Rattle.pf_entry.specs.Ops.{Sector}
use Rattle.pf_entry.specs.declared.ops.Op.TheVariants.{Write}
use Rattle.pf_protocol.specs.declared.answers.Answer.TheVariants.{Slot, Read}
use Rattle.pf_protocol.specs.Servers.{Setup}
use Rattle.pf_protocol.specs.Groups.{Answered}
use Rattle.pf_protocol.specs.Histories.{IsPrefix, replay}
use Rattle.pf_protocol.specs.Ports.{IsTarget, WriteHasEnded}
use Rattle.pf_law_ports.specs.Calls.{PortPast, Fetching, fetching, HasAcked}

-- the last submission of the last ask was answered with a slot, which the leader that it met acknowledged, and it writes these sectors
pub record AskWasWritten (setup : Setup) (past : PortPast) (range : Span) (sectors : List Sector) : Type 0 where
  pub ended : WriteHasEnded setup past.writes past.history past.asks
  pub op : ended.final.op ≡ Write range sectors
  pub slot : ℕ
  pub took_slot : ended.final.answer ≡ Slot slot
  pub term : ℕ
  pub in_term : (x : IsTarget setup ended.final) → x.server.durable.term ≡ term
  pub acked : HasAcked (replay setup past.history) term slot

-- the port asked for this range last, for the last ask, by an event of the group, and the read that was taken up so was answered with
-- these sectors
pub record WasRead (setup : Setup) (past : PortPast) (range : Span) (sectors : List Sector) : Type 0 where
  pub m : ℕ
  pub final : Fetching
  pub at : slice_get past.reads m ≡ Some final
  pub same : final.ask ≡ past.asks
  pub no_later : (k : ℕ) (f : Fetching) → slice_get past.reads k ≡ Some f → k ≤ m
  pub asked : final.range ≡ range
  pub happened : IsPrefix (final.before ++ fetching final ∷ []) past.history
  pub k : ℕ
  pub read : Answered
  pub answered : slice_get (replay setup past.history).answered k ≡ Some read
  pub numbered : final.answer ≡ Read read.number
  pub of_range : read.range ≡ range
  pub gives : read.bytes ≡ sectors

-- the reply is the group's own to the last time that the ask was handed to it
abbrev pub IsReplied : Setup → PortPast → Ask → Reply → Type 0
IsReplied setup past (WriteAsk chunk range sectors) Written = AskWasWritten setup past range sectors
IsReplied setup past (ReadAsk chunk range) (Bytes sectors) = WasRead setup past range sectors
IsReplied setup past ask reply = ⊥
