use Rattle.std.proofs.Common.{refl}
use Rattle.pf_server_memory.specs.Standing.{server_of}
use Rattle.pf_server_memory.proofs.StepEnds.{same_after}
use Rattle.pf_server_apply.proofs.FinishedJobs.{finished_is, stale_is, turned}
use Rattle.pf_server_apply.proofs.jobs.finish.Goals as goal

pub returns-then-filled-me : goal.returns-then-filled-me
unfolding server_of
returns-then-filled-me c d cached =
    let me = c.args.me.now in
    turned d me cached me _ _ _ (stale_is (server_of d me) c.args.filled.life c.args.filled.slot c.if-filled-me.true) refl (same_after d me cached)

pub returns : goal.returns
unfolding server_of
returns c d cached =
    let me = c.args.me.now in
    turned d me cached c.apply.new.me _ _ _ (finished_is (server_of d me) c.args.filled.life c.args.filled.slot c.if-filled-me.false) refl (c.apply.ensures d cached)
