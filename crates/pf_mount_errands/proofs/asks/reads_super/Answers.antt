use Rattle.pf_mount_errands.proofs.AskChunks.{fits_super}
use Rattle.pf_mount_errands.proofs.asks.reads_super.Goals as goal

pub reads-requires : goal.reads-requires
reads-requires c = fits_super c.args.volume.now c.laws.ensures.form
