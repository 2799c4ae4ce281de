use Rattle.pf_law_files.proofs.Alone.{one_mount}
use Rattle.pf_law_files.proofs.laws.calls_of_one_mount_are_one_at_a_time.Goals as goal

pub returns : goal.returns
returns c = one_mount
