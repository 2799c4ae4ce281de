use Rattle.pf_merge.proofs.LogSteps.{whole, reached}
use Rattle.pf_merge.proofs.cursors.above.Goals as goal

pub loop-entry-init : goal.loop-entry-init
loop-entry-init c = whole c.args.log.now c.args.base c.as_slice-rest.result.now c.as_slice-rest.ensures.ascending c.as_slice-rest.ensures.entries

pub returns-then-base-entry : goal.returns-then-base-entry
returns-then-base-entry c = reached c.args.log.now c.args.base c.in-Some.entry.now c.loop-entry.rest.now c.in-Some.more.now c.loop-entry.invariant c.in-Some.ensures.cases.0 c.if-base-entry.true
