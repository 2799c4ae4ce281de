use Rattle.pf_law_service.proofs.DeedOrder.{told}
use Rattle.pf_law_service.proofs.laws.answers_come_before_the_asks_leave.Goals as goal

pub returns : goal.returns
returns c = λ chunk epoch moment by s ds deed served before at is. ((told chunk s ds served).brought moment epoch by deed at is).left before
