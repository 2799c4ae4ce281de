-- What a run tells, in order: lines of its report, and what mounts and their ports did.
use Rattle.std.specs.Prelude.{ℕ, List, [], Option, flat_map}
use Rattle.pf_base.specs.declared.asks.Ask.{Ask}
use Rattle.pf_base.specs.declared.asks.Reply.{Reply}
use Rattle.pf_tree.specs.Calls.{FileCall}
use Rattle.pf_file_calls.specs.declared.answers.CallAnswer.{CallAnswer}
use Rattle.pf_move.specs.declared.mover.MoveNext.{MoveNext}

-- what was answered, when so many events of the chunk's group had happened
pub record Heard : Type 0 where
  pub reply : Reply
  pub by : ℕ

-- what a host over a layout does
pub data HostAct : Type 0 where
  -- a call of its mount begins
  Calls : FileCall → HostAct
  -- the mount asks this at a port
  Asks : (port : ℕ) → Ask → HostAct
  -- the ask that was pending at a port is answered
  Takes : (port : ℕ) → Heard → HostAct
  -- its call ends
  Answers : CallAnswer → HostAct

pub data Moment : Type 0 where
  -- lines of the report
  Writes : (text : List ℕ) → Moment
  -- the port of this mount into the group handed its pending ask on, by the event at this place of the group's history; or that of the mover, whose
  -- number is the one behind those of mounts
  Hands : (mount group place : ℕ) → Moment
  -- the host of this mount does this
  Acts : (mount : ℕ) → HostAct → Moment
  -- the chunk begins to move to this group, which is made for it: its ports go there and wait
  Moves : (chunk group : ℕ) → Moment
  -- the pending ask of its mover was answered, or nothing was; and it asks the next thing, or the new group serves the chunk from here on
  Carries : (chunk : ℕ) → Option Heard → MoveNext → Moment

-- the lines of the report among what is told
abbrev pub lines_in : Moment → List ℕ
lines_in (Writes text) = text
lines_in moment = []

abbrev pub moments_text : List Moment → List ℕ
moments_text told = flat_map lines_in told
