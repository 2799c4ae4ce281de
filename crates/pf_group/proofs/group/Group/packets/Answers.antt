use Rattle.std.proofs.Common.{◌≡◌, ◌≤◌, IsTrue, length, sym, ap, subst, ◌∙◌}
use Rattle.pf_group_network.proofs.TurnBegins.{few_parcels, same_packets}
use Rattle.pf_disk_store.specs.Model.{kept_model}
use Rattle.pf_group.specs.GroupIs.{GroupIs, state_of}
use Rattle.pf_group.specs.Inside.{setup_in}
use Rattle.pf_group.proofs.group.Group.packets.Goals as goal

pub packet_count-requires : goal.packet_count-requires
packet_count-requires g c = few_parcels (kept_model g.D.Disk.seen g.D.Disk.may_leave g.D.Disk.faults g.D.Disk.moment g.D.Disk.left_since g.D.Disk.tells_moments) (setup_in c.self.inside) c.self.invariant.stands.past c.self.inside.network c.self.invariant.stands.reached

pub returns-clause-few : goal.returns-clause-few
returns-clause-few g c =
    let stands = c.self.invariant.stands in
    subst (λ n. n ≤ 65536) (sym c.packet_count.ensures) (few_parcels (kept_model g.D.Disk.seen g.D.Disk.may_leave g.D.Disk.faults g.D.Disk.moment g.D.Disk.left_since g.D.Disk.tells_moments) (setup_in c.self.inside) stands.past c.self.inside.network stands.reached)

pub returns-clause-count : goal.returns-clause-count
returns-clause-count g c told =
    let stands = c.self.invariant.stands in
    let tell = subst (λ (v : GroupIs). IsTrue v.told) (sym c.self.view_is) told in
    subst (λ (v : GroupIs). c.packet_count.result ≡ length (state_of v).packets) c.self.view_is
    (c.packet_count.ensures ∙ same_packets (kept_model g.D.Disk.seen g.D.Disk.may_leave g.D.Disk.faults g.D.Disk.moment g.D.Disk.left_since g.D.Disk.tells_moments) (setup_in c.self.inside) stands.past c.self.inside.network stands.reached ∙ ap (λ x. length x.packets) (stands.replays tell).same)
