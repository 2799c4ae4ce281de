use Rattle.pf_protocol.proofs.LastWriters.{servers_hold, disks_hold, images_hold}
use Rattle.pf_protocol.proofs.kept.sectors_hold_last_writes.Goals as goal

pub returns : goal.returns
returns c = record { servers = servers_hold; disks = disks_hold; images = images_hold }
