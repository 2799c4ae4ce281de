use Rattle.pf_law_ports.proofs.PortSteps.{answers}
use Rattle.pf_law_ports.proofs.laws.replies_answer_the_last_submission.Goals as goal

pub returns : goal.returns
returns c = answers
