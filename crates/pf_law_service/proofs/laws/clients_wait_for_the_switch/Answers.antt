use Rattle.std.proofs.Common.{suc}
use Rattle.pf_law_service.proofs.DeedOrder.{told}
use Rattle.pf_law_service.proofs.laws.clients_wait_for_the_switch.Goals as goal

pub returns : goal.returns
returns c = record {
  serves = λ chunk epoch moment client place s ds served at. ((told chunk s ds served).handed moment client chunk epoch place at).served;
  since = λ chunk epoch moment client place s ds served at. ((told chunk s ds served).handed moment client chunk (suc epoch) place at).since;
}
