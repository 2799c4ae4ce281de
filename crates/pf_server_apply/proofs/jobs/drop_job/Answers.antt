use Rattle.std.proofs.Common.{◌-◌, ◌∙◌, subst, sym}
use Rattle.std.specs.FinMap
use Rattle.pf_server_memory.specs.declared.running.Running.{Running}
use Rattle.pf_server_memory.specs.Standing.{server_of}
use Rattle.pf_server_memory.specs.Turns.{IsAfter}
use Rattle.pf_server_apply.proofs.FinishedJobs.{dropped, not_in_hand, some_jobs}
use Rattle.pf_server_apply.proofs.jobs.drop_job.Goals as goal

pub returns-then-not-has : goal.returns-then-not-has
returns-then-not-has c d cached = not_in_hand d c.args.me.now cached c.args.slot (sym c.has.ensures ∙ c.if-not-has.true)

pub overflow_sub-me : goal.overflow_sub-me
overflow_sub-me c = some_jobs c.requires.0 c.args.me.now c.args.slot c.requires.1 (sym c.has.ensures ∙ c.if-not-has.false)

pub returns : goal.returns
returns c d cached =
    let me = c.args.me.now in
    let in_hand = sym c.remove.ensures in
    let rooms = sym c.remove-2.ensures in
    subst (λ (m : Running). IsAfter d me m (record (server_of d me) { in_hand = FinMap.remove me.in_hand c.args.slot }))
    (λ i. record me { in_hand = in_hand i; rooms = rooms i; jobs = me.jobs - 1 })
    (dropped d me c.args.slot cached (sym c.has.ensures ∙ c.if-not-has.false))
