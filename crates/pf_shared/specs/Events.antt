-- What a seat may ask for in one step.
use Rattle.std.specs.Prelude.{[], false}
use Rattle.pf_protocol.specs.Answers.{MayHappen}
use Rattle.pf_group_rounds.specs.pf_group.specs.declared.event.GroupEvent.{GroupEvent}
use Rattle.pf_group_rounds.specs.pf_group.specs.declared.event.GroupEvent.TheVariants.{Claim, Finish}
use Rattle.pf_group_rounds.specs.pf_group.specs.Events.{rule_event}

-- jobs are claimed and brought back by calls of their own
abbrev pub IsSharedStep : GroupEvent → Type 0
IsSharedStep Claim = ⊥
IsSharedStep (Finish filled) = ⊥
IsSharedStep event = MayHappen [] (rule_event event false)
