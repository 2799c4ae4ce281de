use Rattle.std.proofs.Common.{ap, length, arith}
use Rattle.pf_codec.proofs.SizeLaws.{op_most, names_most}
use Rattle.pf_codec.proofs.sizes.entry_size.Goals as goal

pub returns-clause-most : goal.returns-clause-most
returns-clause-most c =
    let few = c.requires.few in
    let same = ap length c.as_slice.ensures in
    let op = op_most c.args.entry.now.op c.requires.op in
    omega (arith, few, names_most, same, op, c.op_size.ensures)
