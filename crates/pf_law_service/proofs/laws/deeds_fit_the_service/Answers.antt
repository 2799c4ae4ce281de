use Rattle.pf_law_service.proofs.ServiceDeeds.{fits}
use Rattle.pf_law_service.proofs.laws.deeds_fit_the_service.Goals as goal

pub returns : goal.returns
returns c = fits
