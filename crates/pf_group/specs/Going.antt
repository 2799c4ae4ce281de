-- How a group went on, event by event.
use Rattle.std.specs.Prelude.{◌≡◌, ℕ}
use Rattle.pf_protocol.specs.declared.answers.Answer.{Answer}
use Rattle.pf_protocol.specs.declared.events.Event.{Event}
use Rattle.pf_group.specs.GroupIs.{GroupIs}
use Rattle.pf_group.specs.Steps.{RestartHasTried, GroupSteps}

-- One event was answered, a restart wanted memory, or an answer of a read was handed out. Each of the first two is a step, with its
-- beginning, unless it is quiet: what a crash inside it leaves is told from there on.
pub data GroupGoesTo (old new : GroupIs) : Type 0 where
  Answers : (event : Event) (answer : Answer) → GroupSteps old event answer new → GroupGoesTo old new
  Tries : (server : ℕ) → RestartHasTried old server new → GroupGoesTo old new
  Takes : new ≡ record old { taken = new.taken } → GroupGoesTo old new

-- the group went from one state to another through states that follow on each other so
pub data WentBy (old : GroupIs) : GroupIs → Type 0 where
  Stays : WentBy old old
  Goes : (now new : GroupIs) → WentBy old now → GroupGoesTo now new → WentBy old new
