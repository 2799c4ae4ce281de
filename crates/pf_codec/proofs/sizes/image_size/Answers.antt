use Rattle.std.proofs.Common.{arith}
use Rattle.pf_codec.proofs.Joins.{slot_count}
use Rattle.pf_codec.proofs.sizes.image_size.Goals as goal

pub returns : goal.returns
returns c =
    let slots = slot_count c.as_slice.result.now c.args.applied.now c.as_slice.ensures.items in
    omega (arith, slots, c.len-count.ensures, c.vote_size.ensures.size)
