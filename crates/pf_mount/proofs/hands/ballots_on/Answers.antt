use Rattle.std.proofs.Common.{sym, ◌∙◌}
use Rattle.pf_mount_errands.proofs.Halves.{half_low}
use Rattle.pf_mount.proofs.hands.ballots_on.Goals as goal

pub reads_half-requires-clause-half : goal.reads_half-requires-clause-half
reads_half-requires-clause-half c = half_low c.args.stand.position.ballot c.args.anchor c.in-Read.half (sym c.next-next.ensures.next ∙ c.in-Read.is)
