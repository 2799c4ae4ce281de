use Rattle.std.proofs.Common.{◌∙◌}
use Rattle.pf_chunk_waiting.proofs.ReadPlaces.{has_so}
use Rattle.pf_chunk_waiting.proofs.places.has_number.Goals as goal

pub returns : goal.returns
returns c = c.is_some.ensures ∙ has_so c.args.places.now c.requires c.args.number c.place_of.result c.place_of.ensures.some c.place_of.ensures.none
