-- How a step of a running server ends in memory.
use Rattle.std.specs.Prelude.{◌≡◌, ℕ, ◌+◌, [], length, map, Result, Ok, Err}
use Rattle.pf_base.specs.declared.errors.NoMemory.{NoMemory}
use Rattle.pf_entry.specs.Records.{Durable}
use Rattle.pf_protocol.specs.Asked.{AreAsked, Asks}
use Rattle.pf_protocol.specs.Rows.{settled}
use Rattle.pf_protocol.specs.Servers.{Server}
use Rattle.pf_protocol.specs.declared.answers.Answer.{Answer}
use Rattle.pf_protocol.specs.declared.answers.Answer.TheVariants.{Refused}
use Rattle.pf_protocol.specs.declared.answers.Refusal.TheVariants.{Halted}
use Rattle.pf_server_memory.specs.declared.faults.StepFault.{StepFault}
use Rattle.pf_server_memory.specs.declared.faults.StepFault.TheVariants.{NoMemory as WantsMemory, Refused as IsRefused, Halted as IsHalted}
use Rattle.pf_server_memory.specs.declared.running.Running.{Running}
use Rattle.pf_server_memory.specs.Standing.{server_of, read_in_memory, state_in_memory, IsCached}
use Rattle.pf_server_memory.specs.Turns.{IsAfter}
use Rattle.pf_server.specs.declared.state.Doubt.TheVariants.{Open}
use Rattle.pf_server.specs.declared.state.State.{State}
use Rattle.pf_server.specs.declared.state.State.TheVariants.{Runs, Stopped}
use Rattle.pf_server.specs.declared.ends.Before.{Before}
use Rattle.pf_server.specs.Conditions.{AreSized}
use Rattle.pf_server.specs.Turns.{answers_after}

-- the reads of a server are of its chunk, and ascend
abbrev pub AsksHere : Running → Type 0
AsksHere me = (next : ℕ) × Asks (length me.sectors) next (server_of (state_in_memory me) me)

-- memory stands for this server, but that the reads are answered that were ready
pub record WasAnswered (d : Durable) (me new : Running) (s : Server) : Type 0 where
  pub after : IsAfter d me new (settled s)
  pub answers : new.replies.answers ≡ answers_after s
  pub sized : AreSized new.replies.answers

-- the reads that are ready can be answered
pub record CanAnswer (me : Running) : Type 0 where
  pub d : Durable
  pub cached : IsCached d me
  pub asked : AreAsked (length me.sectors) (map read_in_memory me.reads)

abbrev pub CanAnswerIn : State → Type 0
CanAnswerIn (Runs me) = CanAnswer me
CanAnswerIn _ = Unit {0}

-- without the answers that nobody took
abbrev pub quieted : Running → Running
quieted me = record me { replies = record me.replies { answers = [] } }

abbrev pub forgotten : State → State
forgotten (Runs me) = Runs (quieted me)
forgotten state = state

pub record StepIsAnswered (me : Running) (state' : State) : Type 0 where
  pub next : Running
  pub runs : state' ≡ Runs next
  pub answered : (d : Durable) → IsCached d me → WasAnswered d me next (server_of d me)

abbrev pub StateAnswers : State → State → Type 0
StateAnswers (Runs me) state' = StepIsAnswered me state'
StateAnswers _ state' = Unit {0}

-- what the end of a step makes of the server, and what it answers
abbrev pub StepEnds : Before → State → State → Result Answer StepFault → Result Answer NoMemory → Type 0
StepEnds before state state' (Ok answer) result = (result ≡ Ok answer) × StateAnswers state state'
StepEnds before state state' (Err WantsMemory) result = (result ≡ Err (record {})) × (state' ≡ forgotten state)
StepEnds before state state' (Err (IsRefused refusal)) result = (result ≡ Ok (Refused refusal)) × (state' ≡ forgotten state)
StepEnds before state state' (Err IsHalted) result = (result ≡ Ok (Refused Halted)) × (state' ≡ Stopped (before.life + 1) (Open before.used before.generation))
