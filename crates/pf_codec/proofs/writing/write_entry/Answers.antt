use Rattle.std.proofs.Common.{◌≡◌, length, ap, arith}
use Rattle.pf_entry.specs.Canonical.{second_format}
use Rattle.pf_codec.proofs.writing.write_entry.Goals as goal

pub overflow_cast-look : goal.overflow_cast-look
unfolding second_format
overflow_cast-look c =
    let few = c.requires.few in
    let same : length c.as_slice-look.result.now ≡ length c.args.entry.now.look = ap length c.as_slice-look.ensures in
    omega (arith, few, same)
