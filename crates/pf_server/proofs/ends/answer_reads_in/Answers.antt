use Rattle.std.proofs.Common.{refl, sym, subst}
use Rattle.pf_server.specs.declared.state.State.TheVariants.{Runs}
use Rattle.pf_server.specs.Ending.{StateAnswers, CanAnswer, CanAnswerIn}
use Rattle.pf_server.proofs.ends.answer_reads_in.Goals as goal

pub answer_reads-requires : goal.answer_reads-requires
answer_reads-requires c =
    let can : CanAnswer c.in-Runs.me = subst CanAnswerIn c.in-Runs.is c.requires in
    record { cached = (can.d, can.cached); asked = can.asked }

pub returns-in-Runs : goal.returns-in-Runs
returns-in-Runs c = subst (λ x. StateAnswers x (Runs c.answer_reads.new.me)) (sym c.in-Runs.is) (record { next = c.answer_reads.new.me; runs = refl; answered = c.answer_reads.ensures })
