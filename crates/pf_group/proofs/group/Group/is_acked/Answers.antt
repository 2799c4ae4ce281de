use Rattle.std.proofs.Common.{◌≡◌, subst, sym, IsTrue}
use Rattle.pf_protocol.specs.Histories.{replay}
use Rattle.pf_group_network.specs.Shown.{is_acked}
use Rattle.pf_disk_store.specs.Model.{kept_model}
use Rattle.pf_group.specs.GroupIs.{GroupIs, state_of}
use Rattle.pf_group.specs.Inside.{setup_in}
use Rattle.pf_group.proofs.NetworkStands.{now_shows}
use Rattle.pf_group.proofs.group.Group.is_acked.Goals as goal

pub returns : goal.returns
returns g c told =
    subst (λ (v : GroupIs). c.is_acked.result ≡ is_acked (state_of v) c.args.term c.args.slot) c.self.view_is
    (c.is_acked.ensures (setup_in c.self.inside) (replay (setup_in c.self.inside) c.self.inside.past.happenings) (now_shows (kept_model g.D.Disk.seen g.D.Disk.may_leave g.D.Disk.faults g.D.Disk.moment g.D.Disk.left_since g.D.Disk.tells_moments) g.D.Disk.tells (setup_in c.self.inside) c.self.inside.past.happenings c.self.inside.network c.self.invariant.stands (subst (λ (v : GroupIs). IsTrue v.told) (sym c.self.view_is) told)))
