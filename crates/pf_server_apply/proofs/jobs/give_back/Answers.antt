use Rattle.std.proofs.Common.{refl}
use Rattle.pf_server_memory.specs.Standing.{server_of}
use Rattle.pf_server_memory.proofs.StepEnds.{same_after}
use Rattle.pf_server_apply.proofs.FinishedJobs.{given_back_is, not_given_back_is, turned}
use Rattle.pf_server_apply.proofs.jobs.give_back.Goals as goal

pub returns-then-life-me : goal.returns-then-life-me
unfolding server_of
returns-then-life-me c d cached =
    let me = c.args.me.now in
    turned d me cached me _ _ _ (not_given_back_is (server_of d me) c.args.life c.args.slot c.if-life-me.true) refl (same_after d me cached)

pub returns : goal.returns
unfolding server_of
returns c d cached =
    let me = c.args.me.now in
    turned d me cached c.drop_job.new.me _ _ _ (given_back_is (server_of d me) c.args.life c.args.slot c.if-life-me.false) refl (c.drop_job.ensures d cached)
