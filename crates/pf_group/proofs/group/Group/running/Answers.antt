use Rattle.std.proofs.Common.{sym, subst, IsTrue}
use Rattle.pf_protocol.specs.Histories.{replay}
use Rattle.pf_group_network.specs.Shown.{IsMemoryOf}
use Rattle.pf_disk_store.specs.Model.{kept_model}
use Rattle.pf_group.specs.GroupIs.{GroupIs, state_of}
use Rattle.pf_group.specs.Inside.{setup_in}
use Rattle.pf_group.specs.Readers.{ServerTells}
use Rattle.pf_group.proofs.Shown.{memory_told}
use Rattle.pf_group.proofs.NetworkStands.{now_shows}
use Rattle.pf_group.proofs.group.Group.running.Goals as goal

pub running-requires-clause-shown : goal.running-requires-clause-shown
running-requires-clause-shown g c = let stands = c.self.invariant.stands in (setup_in c.self.inside, (stands.past.group, stands.reached.shows))

pub returns : goal.returns
returns g c told =
    let group = replay (setup_in c.self.inside) c.self.inside.past.happenings in
    subst (λ (v : GroupIs). ServerTells (state_of v) c.args.server c.ok_or.result (λ me s. IsMemoryOf me.now s)) c.self.view_is
    (subst (λ r. ServerTells group c.args.server r (λ me s. IsMemoryOf me.now s)) (sym c.ok_or.ensures.value)
    (memory_told (λ me. me.now) group c.args.server c.running.result _ (c.running.ensures (setup_in c.self.inside) group (now_shows (kept_model g.D.Disk.seen g.D.Disk.may_leave g.D.Disk.faults g.D.Disk.moment g.D.Disk.left_since g.D.Disk.tells_moments) g.D.Disk.tells (setup_in c.self.inside) c.self.inside.past.happenings c.self.inside.network c.self.invariant.stands (subst (λ (v : GroupIs). IsTrue v.told) (sym c.self.view_is) told)))))
