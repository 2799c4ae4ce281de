use Rattle.std.proofs.Common.{◌≡◌, IsTrue, slice_get, arith, sym, subst}
use Rattle.pf_group_network.proofs.TurnBegins.{few_parcels}
use Rattle.pf_disk_store.specs.Model.{kept_model}
use Rattle.pf_group.specs.GroupIs.{GroupIs, state_of}
use Rattle.pf_group.specs.Readers.{is_left}
use Rattle.pf_group.proofs.Shown.{left_is, left_there}
use Rattle.pf_group.specs.Inside.{setup_in}
use Rattle.pf_group.proofs.NetworkStands.{now_shows}
use Rattle.pf_group.proofs.group.Group.is_left.Goals as goal

pub returns-clause-sent : goal.returns-clause-sent
returns-clause-sent g c is =
    let stands = c.self.invariant.stands in
    omega (arith, left_there c.self.inside.network.packets.items c.args.k c.is_left.result c.is_left.ensures is, few_parcels (kept_model g.D.Disk.seen g.D.Disk.may_leave g.D.Disk.faults g.D.Disk.moment g.D.Disk.left_since g.D.Disk.tells_moments) (setup_in c.self.inside) stands.past c.self.inside.network stands.reached)

pub returns-clause-left : goal.returns-clause-left
returns-clause-left g c told =
    subst (λ (v : GroupIs). c.is_left.result ≡ is_left (slice_get (state_of v).packets c.args.k)) c.self.view_is
    (left_is _ _ c.args.k c.is_left.result (let shows = now_shows (kept_model g.D.Disk.seen g.D.Disk.may_leave g.D.Disk.faults g.D.Disk.moment g.D.Disk.left_since g.D.Disk.tells_moments) g.D.Disk.tells (setup_in c.self.inside) c.self.inside.past.happenings c.self.inside.network c.self.invariant.stands (subst (λ (v : GroupIs). IsTrue v.told) (sym c.self.view_is) told) in shows.traffic.packets) c.is_left.ensures)
