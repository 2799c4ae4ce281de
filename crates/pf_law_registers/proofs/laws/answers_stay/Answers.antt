use Rattle.pf_law_registers.proofs.AnswersKept.{acked_stays, answered_stays}
use Rattle.pf_law_registers.proofs.laws.answers_stay.Goals as goal

pub returns : goal.returns
returns c = record { acked = acked_stays; answered = answered_stays }
