-- The group of a chunk in a run, and what one event does to it.
use Rattle.std.specs.Prelude.{ℕ, ◌&&◌, if◌then◌else◌, List, [], ◌∷◌, ◌++◌, length}
use Rattle.pf_protocol.specs.Servers.{Setup}
use Rattle.pf_protocol.specs.Groups.{Group, ending, happens, opening}
use Rattle.pf_protocol.specs.Answers.{answer_to, may_halt}
use Rattle.pf_protocol.specs.Histories.{History}
use Rattle.pf_protocol.specs.declared.answers.Answer.{Answer}
use Rattle.pf_protocol.specs.declared.answers.Answer.TheVariants.{Refused}
use Rattle.pf_protocol.specs.declared.answers.Refusal.TheVariants.{Halted}
use Rattle.pf_protocol.specs.declared.events.Event.{Event}
use Rattle.pf_protocol.specs.declared.events.Event.TheVariants.{Restart}
use Rattle.pf_group.specs.Making.{setup_with}
use Rattle.pf_group_rounds.specs.Halts.{Halt, failed_by, restart_finds, is_cut}

-- a group of a run, event by event
pub record Chunk : Type 0 where
  pub number : ℕ
  pub setup : Setup
  pub state : Group
  pub history : History  -- what happened to it so far

-- a chunk of a new volume
abbrev pub made_chunk : List Halt → (sectors names format number : ℕ) → Chunk
made_chunk halts sectors names format number =
    let setup = setup_with sectors names format (failed_by halts number) in
    record { number = number; setup = setup; state = opening setup; history = [] }

-- event n of the group; a restart finds what the list tells
abbrev pub listed_at : List Halt → (number n : ℕ) → Event → Event
listed_at halts number n (Restart server found) = Restart server (restart_finds halts number n server)
listed_at halts number n event = event

-- the next event
abbrev pub event_listed : List Halt → Chunk → Event → Event
event_listed halts c event = listed_at halts c.number (length c.history) event

-- how the next event is answered: a disk fails where the list says so, and only in an event that needs one
abbrev pub event_answered : List Halt → Chunk → Event → Answer
event_answered halts c event =
    if is_cut halts c.number (length c.history) && may_halt c.setup c.state event then Refused Halted else answer_to c.setup c.state event

-- the chunk after the next event
unfoldable pub after : List Halt → Chunk → Event → Chunk
after halts c event = record c {
  state = happens c.setup c.state (event_listed halts c event) (ending (event_answered halts c event));
  history = c.history ++ record { event = event_listed halts c event; answer = event_answered halts c event } ∷ [];
}
