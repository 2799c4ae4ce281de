use Rattle.pf_entry.specs.Canonical.{second_format}
use Rattle.pf_codec.proofs.BodyLaws.{window_of_second}
use Rattle.pf_codec.proofs.SizeLaws.{body_len}
use Rattle.pf_codec.proofs.laws.bodies_have_their_sizes.Goals as goal

pub returns : goal.returns
returns c = λ r is. body_len second_format window_of_second r is.fields
