-- How an event is answered, over any disks and over those that tell their content.
use Rattle.std.specs.Prelude.{◌≡◌, Bool, IsTrue, List, [], length}
use Rattle.pf_protocol.specs.Servers.{Setup}
use Rattle.pf_protocol.specs.Groups.{Group}
use Rattle.pf_protocol.specs.Histories.{History, replay}
use Rattle.pf_protocol.specs.declared.answers.Answer.{Answer}
use Rattle.pf_protocol.specs.declared.events.Event.{Event}
use Rattle.pf_protocol.specs.Answers.{IsAnswer, MayHappen, claims_of}
use Rattle.pf_group_rounds.specs.pf_group.specs.Steps.{EndsSo, GoesByRules, AnswerIsNew}

-- The event could be asked for after this history. It was answered as the rules say in the group that the servers stood for: the state after the
-- history, where their disks tell their content. Where they do not, restarts may have begun from any state that fits, so of that group no more
-- is known
pub record EventIsAnswered (told : Bool) (setup : Setup) (taken : List Bool) (history : History) (event : Event) (answer : Answer) : Type 0 where
  pub asked : MayHappen (claims_of [] history) event
  pub before : Group
  pub same : IsTrue told → before ≡ replay setup history
  pub answered : GoesByRules told event → IsAnswer setup before event answer
  pub ends : EndsSo event answer
  pub fresh : AnswerIsNew (claims_of [] history) (length taken) answer
