use Rattle.std.proofs.Common.{Ok, IfOk, refl, sym, subst}
use Rattle.pf_server.specs.Ending.{CanAnswerIn, StepEnds}
use Rattle.pf_server.proofs.ends.end.Goals as goal

pub answer_reads_in-requires : goal.answer_reads_in-requires
answer_reads_in-requires c = subst (λ r. IfOk r (λ answer. CanAnswerIn c.args.state.now)) c.in-Ok.is c.requires.answerable

pub returns-in-Ok : goal.returns-in-Ok
returns-in-Ok c = subst (λ r. StepEnds c.args.before c.args.state.now c.answer_reads_in.new.state r (Ok c.in-Ok.answer)) (sym c.in-Ok.is) (refl, c.answer_reads_in.ensures)
