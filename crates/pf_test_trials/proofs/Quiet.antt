-- Steps that take no job.
use Rattle.std.proofs.Common.{◌≡◌, [], ap, ◌∙◌}
use Rattle.pf_protocol.specs.declared.answers.Answer.{Answer}
use Rattle.pf_protocol.specs.declared.events.Event.{Event}
use Rattle.pf_protocol.specs.Answers.{claims_after, claims_of}
use Rattle.pf_group.specs.GroupIs.{GroupIs}
use Rattle.pf_group.specs.Steps.{GroupSteps}
use Rattle.pf_group.proofs.Claims.{claims_more}

-- no claim is open after a step that takes none, where none was
pub none_open : (old new : GroupIs) (event : Event) (answer : Answer) → GroupSteps old event answer new → claims_of [] old.history ≡ [] → claims_after [] event answer ≡ [] → claims_of [] new.history ≡ []
none_open old new event answer steps before none =
    ap (λ (g : GroupIs). claims_of [] g.history) steps.recorded
    ∙ claims_more old.history [] (record { event = event; answer = answer })
    ∙ ap (λ claims. claims_after claims event answer) before
    ∙ none
