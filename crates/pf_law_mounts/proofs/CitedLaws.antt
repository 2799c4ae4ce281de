-- The laws of other crates on which what is known of a run rests.
use Rattle.std.proofs.Common.{suc}
use Rattle.pf_law_calls.proofs.WriteSpellings.{own_spelled}
use Rattle.pf_law_runs.specs.pf_law_service.proofs.ClientAnswers.{kind, range}
use Rattle.pf_law_runs.specs.pf_law_service.proofs.DrivenPorts.{driven}
use Rattle.pf_law_runs.specs.pf_law_service.proofs.ServiceDeeds.{fits, handed_of_ports}
use Rattle.pf_law_runs.specs.pf_law_service.proofs.DeedOrder.{told}
use Rattle.pf_law_mounts.proofs.Pieces.{AreFitting}
use Rattle.pf_law_mounts.proofs.Middle.{AreAnswers, AreSpelled}

pub answers : AreAnswers
answers = record {
  kind = λ chunk mount s ds owed reply next served legal step. kind chunk s mount owed reply next (driven chunk s ds served) legal step;
  range = λ chunk mount its span s ds owed reply answer next served legal step by is. range chunk s ds mount owed reply answer next (driven chunk s ds served) legal step its span by is;
}

pub spelled : AreSpelled
spelled = own_spelled

pub fitting : AreFitting
fitting = record {
  fits = fits;
  of_ports = handed_of_ports;
  moves = record {
    before = λ chunk epoch moment by s ds deed served before at is. ((told chunk s ds served).brought moment epoch by deed at is).left before;
    since = λ chunk epoch moment client place s ds served at. ((told chunk s ds served).handed moment client chunk (suc epoch) place at).since;
  };
}
