use Rattle.pf_protocol.proofs.Snapshots.{snapshot_is}
use Rattle.pf_protocol.proofs.laws.snapshots_hold_all_slots.Goals as goal

pub returns : goal.returns
returns c = snapshot_is
