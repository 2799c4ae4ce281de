use Rattle.pf_law_service.proofs.ClientAnswers.{kind, range}
use Rattle.pf_law_service.proofs.DrivenPorts.{driven}
use Rattle.pf_law_service.proofs.laws.replies_answer_asks.Goals as goal

pub returns : goal.returns
returns c = record {
  kind = λ chunk mount s ds owed reply next served legal step. kind chunk s mount owed reply next (driven chunk s ds served) legal step;
  range = λ chunk mount its span s ds owed reply answer next served legal step by is. range chunk s ds mount owed reply answer next (driven chunk s ds served) legal step its span by is;
}
