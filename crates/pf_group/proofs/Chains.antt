-- Ways of a group, one after another.
use Rattle.std.proofs.Common.{◌≡◌, inl, inr, subst, sym}
use Rattle.pf_protocol.specs.declared.answers.Answer.{Answer}
use Rattle.pf_protocol.specs.declared.events.Event.{Event}
use Rattle.pf_group.specs.declared.event.GroupEvent.{GroupEvent}
use Rattle.pf_group.specs.declared.event.GroupEvent.TheVariants as asked
use Rattle.pf_group.specs.GroupIs.{GroupIs}
use Rattle.pf_group.specs.Going.{Answers, GroupGoesTo, Goes, Stays, Tries, WentBy}
use Rattle.pf_group.specs.Steps.{IsLeftWithoutMemory, GroupSteps}

pub by_one : (old new : GroupIs) → GroupGoesTo old new → WentBy old new
by_one old new goes = Goes old new Stays goes

pub by_same : (old new : GroupIs) → new ≡ old → WentBy old new
by_same old new is = subst (WentBy old) (sym is) Stays

pub by_both : (a b c : GroupIs) → WentBy a b → WentBy b c → WentBy a c
by_both a b c first Stays = first
by_both a b c first (Goes now new rest goes) = Goes now new (by_both a b now first rest) goes

pub by_step : (old new : GroupIs) (event : Event) (answer : Answer) → GroupSteps old event answer new → WentBy old new
by_step old new event answer steps = by_one old new (Answers event answer steps)

-- there was no memory for an event
pub by_left : (old : GroupIs) (event : GroupEvent) (new : GroupIs) → IsLeftWithoutMemory old event new → WentBy old new
by_left old (asked.Submit server range payload) new left = by_same old new left
by_left old (asked.Mark server) new left = by_same old new left
by_left old (asked.Fetch server range) new left = by_same old new left
by_left old (asked.Deliver k) new left = by_same old new left
by_left old (asked.Lose k) new left = by_same old new left
by_left old (asked.Elect server) new left = by_same old new left
by_left old (asked.Resend server) new left = by_same old new left
by_left old (asked.Stop server) new left = by_same old new left
by_left old (asked.Restart server) new left = elim left [ inl same ↦ by_same old new same | inr tried ↦ by_one old new (Tries server tried) ]
by_left old asked.Claim new left = by_same old new left
by_left old (asked.Finish filled) new left = by_same old new left
by_left old (asked.Checkpoint server) new left = by_same old new left
