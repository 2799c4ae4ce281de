use Rattle.pf_protocol.proofs.Facts.{servers_covered, disks_covered, images_covered}
use Rattle.pf_protocol.proofs.kept.applied_slots_are_covered.Goals as goal

pub returns : goal.returns
returns c = record { servers = servers_covered; disks = disks_covered; images = images_covered }
