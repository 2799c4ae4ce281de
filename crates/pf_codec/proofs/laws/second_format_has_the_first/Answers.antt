use Rattle.pf_codec.proofs.BodyLaws.{format_more}
use Rattle.pf_codec.proofs.laws.second_format_has_the_first.Goals as goal

pub returns : goal.returns
returns c = λ r is. format_more r is
