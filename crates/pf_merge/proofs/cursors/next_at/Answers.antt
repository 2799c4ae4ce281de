use Rattle.pf_merge.proofs.LogSteps.{here, beyond, ended}
use Rattle.pf_merge.proofs.cursors.next_at.Goals as goal
use Rattle.pf_merge.proofs.cursors.next_at.Goals.{in_default-via-in-Some+else-entry-slot, in_default-via-in_default}

pub returns-in-Some : goal.returns-in-Some
returns-in-Some c = λ log from. here log c.args.slot c.in-Some.entry.now c.args.rest.now c.in-Some.more.now from c.in-Some.ensures.cases.0 c.if-entry-slot.true

pub returns-in_default : goal.returns-in_default
returns-in_default c = λ log from.
    elim c.in_default.branch [
      | in_default-via-in-Some+else-entry-slot w ↦ beyond log c.args.slot w.in-Some.entry.now c.args.rest.now w.in-Some.more.now from w.in-Some.ensures.cases.0 w.if-entry-slot.false
      | in_default-via-in_default w ↦ ended log c.args.slot c.args.rest.now from w.in_default.ensures.cases
    ]
