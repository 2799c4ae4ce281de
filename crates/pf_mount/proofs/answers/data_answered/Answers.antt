use Rattle.pf_mount.proofs.AnswerSteps.{has_block}
use Rattle.pf_mount.proofs.answers.data_answered.Goals as goal

pub moves_on-requires-clause-reply : goal.moves_on-requires-clause-reply
moves_on-requires-clause-reply c = has_block c.args.work.now c.in-Moves.moving c.args.reply.now c.in-Moves.is c.requires.answers
