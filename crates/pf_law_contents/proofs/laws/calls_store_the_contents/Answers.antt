use Rattle.pf_law_contents.proofs.Calls.{kept}
use Rattle.pf_law_contents.proofs.laws.calls_store_the_contents.Goals as goal

pub returns : goal.returns
returns c = kept
