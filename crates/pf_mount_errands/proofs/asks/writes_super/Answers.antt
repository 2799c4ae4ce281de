use Rattle.pf_mount_errands.proofs.AskChunks.{super_low}
use Rattle.pf_mount_errands.proofs.asks.writes_super.Goals as goal

pub writes_one-requires : goal.writes_one-requires
writes_one-requires c = super_low c.args.volume.now c.laws.ensures.form
