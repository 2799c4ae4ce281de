use Rattle.std.proofs.lemmas.Result.{on_err_weaker, on_ok_weaker}
use Rattle.pf_world_moments.specs.pf_group.proofs.NextEvents.{on_err}
use Rattle.pf_mount_host.proofs.Steps.{has_stepped, not_asked, not_stepped}
use Rattle.pf_mount_host.proofs.host.Host.step.Goals as goal

pub returns-in_err-hear_all-clause-err : goal.returns-in_err-hear_all-clause-err
returns-in_err-hear_all-clause-err g c =
    on_err c.from_residual.result _ (not_stepped c.args.routes.now c.args.chunks.now c.args.out.now.items c.args.self.now c.hear_all.new.chunks c.in_err-hear_all.ensures.err)

pub returns-clause-went : goal.returns-clause-went
returns-clause-went g c =
    on_ok_weaker c.ask_all.result
    (has_stepped c.args.routes.now c.args.chunks.now c.args.out.now.items c.args.self.now c.hear_all.new.chunks c.hear_all.new.out.items c.hear_all.new.self c.in_ok-hear_all.ensures.went
    c.ask_all.new.chunks c.ask_all.new.out.items c.ask_all.new.self)
    c.ask_all.ensures.went

pub returns-clause-err : goal.returns-clause-err
returns-clause-err g c =
    on_err_weaker c.ask_all.result
    (not_asked c.args.routes.now c.args.chunks.now c.args.out.now.items c.args.self.now c.hear_all.new.chunks c.hear_all.new.out.items c.hear_all.new.self c.in_ok-hear_all.ensures.went
    c.ask_all.new.chunks)
    c.ask_all.ensures.err
