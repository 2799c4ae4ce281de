use Rattle.std.proofs.Common.{length}
use Rattle.pf_report.proofs.mounts.+put_joined.Given as goal

abbrev pub decreases-put_joined : goal.decreases-put_joined
decreases-put_joined l = length l.names.now
