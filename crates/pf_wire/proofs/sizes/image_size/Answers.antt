use Rattle.std.proofs.Common.{arith}
use Rattle.pf_codec.proofs.Joins.{slot_count}
use Rattle.pf_wire.proofs.sizes.image_size.Goals as goal

pub returns-clause-size : goal.returns-clause-size
returns-clause-size c =
    let slots = slot_count c.as_slice.result.now c.args.applied.now c.as_slice.ensures.items in
    omega (arith, slots, c.len-count.ensures)

pub returns-clause-most : goal.returns-clause-most
returns-clause-most c =
    let slots = slot_count c.as_slice.result.now c.args.applied.now c.as_slice.ensures.items in
    omega (arith, slots, c.len-count.ensures, c.requires.slots, c.requires.sectors)
