use Rattle.std.proofs.Common.{length}
use Rattle.pf_file_calls.proofs.spelled.+fit_within.Given as goal

abbrev pub decreases-fit_within : goal.decreases-fit_within
decreases-fit_within l = length l.changes.now
