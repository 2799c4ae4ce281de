use Rattle.pf_mount.specs.Mounts.{MountIs, MountOutcome}
use Rattle.pf_mount.proofs.TakenSteps.{answer_as, mount_after, mount_between}
use Rattle.pf_mount.proofs.mount.Mount.on_answer.Goals as goal

pub take-requires : goal.take-requires
take-requires c =
    let m : MountIs = record { files = c.self.inside.files; upto = c.self.inside.upto; position = c.self.inside.position; errands = c.self.inside.errands; task = c.self.inside.task } in
    mount_after c.data_are_asked_inside.ensures.first c.data_are_asked_inside.ensures.next m c.args.self.now c.self.view_is c.stand-stand.ensures.mount c.stand-stand.ensures.volume c.stand-stand.ensures.tree c.stand-stand.result c.stand-stand.ensures.stand
    c.answered.new.files c.args.port c.args.reply c.in_ok-step.step c.answered.ensures.kept c.in_ok-step.ensures.makes

pub invariant_of-self-2 : goal.invariant_of-self-2
invariant_of-self-2 c =
    let m : MountIs = record { files = c.self.inside.files; upto = c.self.inside.upto; position = c.self.inside.position; errands = c.self.inside.errands; task = c.self.inside.task } in
    mount_between c.data_are_asked_inside.ensures.first c.data_are_asked_inside.ensures.next m c.args.self.now c.self.view_is c.stand-stand.ensures.mount c.stand-stand.ensures.volume c.stand-stand.ensures.tree c.stand-stand.result c.stand-stand.ensures.stand
    c.answered.new.files c.args.port c.args.reply c.in_ok-step.step c.answered.ensures.kept c.in_ok-step.ensures.makes

pub returns-clause-ok : goal.returns-clause-ok
returns-clause-ok c =
    let m : MountIs = record { files = c.self.inside.files; upto = c.self.inside.upto; position = c.self.inside.position; errands = c.self.inside.errands; task = c.self.inside.task } in
    let o : MountOutcome = record { mount = c.take.new.self; next = c.take.result } in
    answer_as m c.args.self.now c.stand-stand.result c.answered.new.files c.args.port c.args.reply c.in_ok-step.step o c.self.view_is c.stand-stand.ensures.stand c.answered.ensures.kept c.in_ok-step.ensures.makes c.take.ensures
