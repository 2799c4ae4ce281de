use Rattle.pf_disk_store.specs.Model.{kept_model}
use Rattle.pf_group.specs.Leaving.{as_seen}
use Rattle.pf_group.proofs.StoresLeft.{leaves_of, left_as_seen}
use Rattle.pf_group.proofs.group.disks_of.Goals as goal

pub returns-clause-left : goal.returns-clause-left
returns-clause-left g c = λ condition meets told.
    leaves_of (kept_model g.D.Disk.seen g.D.Disk.may_leave g.D.Disk.faults g.D.Disk.moment g.D.Disk.left_since g.D.Disk.tells_moments) c.args.server.seat c.args.server.store c.args.server.store.pair.head (g.D.Disk.may_leave c.into_disks.result.0) (g.D.Disk.may_leave c.into_disks.result.1)
    (λ x y has. c.into_disks.ensures.left x y has told) c.args.server.state condition meets

pub returns-clause-seen : goal.returns-clause-seen
returns-clause-seen g c = λ condition meets told.
    leaves_of (kept_model g.D.Disk.seen g.D.Disk.may_leave g.D.Disk.faults g.D.Disk.moment g.D.Disk.left_since g.D.Disk.tells_moments) c.args.server.seat c.args.server.store c.args.server.store.pair.head (as_seen (g.D.Disk.seen c.into_disks.result.0)) (as_seen (g.D.Disk.seen c.into_disks.result.1))
    (λ x y has. left_as_seen c.args.server.store.pair.head (g.D.Disk.seen c.into_disks.result.0) (g.D.Disk.seen c.into_disks.result.1) x y (c.into_disks.ensures.seen x y has told)) c.args.server.state condition meets
