use Rattle.pf_mount.proofs.AnswerSteps.{super_from}
use Rattle.pf_mount.proofs.answers.super_answered.Goals as goal

pub returns-in-ReadsSuper-Bytes : goal.returns-in-ReadsSuper-Bytes
returns-in-ReadsSuper-Bytes c = super_from c.super_read.result c.args.stand c.args.tree.now c.args.pending.now c.args.work.now c.args.reply.now c.in-ReadsSuper-Bytes.sectors c.sector.result.now c.in-ReadsSuper-Bytes.is-0 c.in-ReadsSuper-Bytes.is-1 c.requires.one c.sector.ensures c.super_read.ensures
