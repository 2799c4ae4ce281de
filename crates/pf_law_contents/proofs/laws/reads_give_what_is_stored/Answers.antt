use Rattle.pf_law_contents.proofs.Calls.{read_so}
use Rattle.pf_law_contents.proofs.laws.reads_give_what_is_stored.Goals as goal

pub returns : goal.returns
returns c = read_so
