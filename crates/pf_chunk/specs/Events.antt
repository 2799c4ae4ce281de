-- What a line may ask of a group.
use Rattle.std.specs.Prelude.{[], false}
use Rattle.pf_protocol.specs.Answers.{MayHappen}
use Rattle.pf_group_rounds.specs.pf_group.specs.declared.event.GroupEvent.{GroupEvent}
use Rattle.pf_group_rounds.specs.pf_group.specs.declared.event.GroupEvent.TheVariants.{Claim, Fetch, Finish}
use Rattle.pf_group_rounds.specs.pf_group.specs.Events.{rule_event}

-- jobs are claimed and brought back as an event is followed up, and reads are taken up by a call of their own
abbrev pub IsChunkStep : GroupEvent → Type 0
IsChunkStep Claim = ⊥
IsChunkStep (Finish filled) = ⊥
IsChunkStep (Fetch server range) = ⊥
IsChunkStep event = MayHappen [] (rule_event event false)
