use Rattle.std.proofs.Common.{IsTrue, slice_get, sym, ap, subst}
use Rattle.pf_group.specs.Crashing.{LeavesAtCrash}
use Rattle.pf_group.specs.GroupIs.{GroupIs}
use Rattle.pf_group.specs.Inside.{setup_in}
use Rattle.pf_group.specs.Leaving.{LeavesIn, as_seen}
use Rattle.pf_group.proofs.StoresLeft.{group_leaves, three_of}
use Rattle.pf_group.proofs.Since.{crash_leaves, stood}
use Rattle.pf_group.proofs.group.Group.into_disks.Goals as goal

pub returns-clause-left_0 : goal.returns-clause-left_0
returns-clause-left_0 g c told =
    subst (λ (v : GroupIs). LeavesIn v 0 (g.D.Disk.may_leave c.disks_of-s0h0.result.0) (g.D.Disk.may_leave c.disks_of-s0h0.result.1)) c.self.view_is
    (group_leaves g.D.Disk.seen g.D.Disk.may_leave g.D.Disk.faults g.D.Disk.moment g.D.Disk.left_since g.D.Disk.tells g.D.Disk.tells_moments c.self.inside c.self.invariant g.met.D.Disk.told (subst (λ (v : GroupIs). IsTrue v.told) (sym c.self.view_is) told) 0 c.in-Some-pop-2.zero
    (ap (λ xs. slice_get xs 0) (three_of c.self.inside.network.servers.items c.pop-3.new.self.items c.in-Some-pop-2.zero c.in-Some-pop.one c.in-Some.two c.in-Some.ensures.items c.in-Some-pop.ensures.items c.in-Some-pop-2.ensures.items c.self.invariant.stands.reached.shows.three))
    (g.D.Disk.may_leave c.disks_of-s0h0.result.0) (g.D.Disk.may_leave c.disks_of-s0h0.result.1) c.disks_of-s0h0.ensures.left)

pub returns-clause-left_1 : goal.returns-clause-left_1
returns-clause-left_1 g c told =
    subst (λ (v : GroupIs). LeavesIn v 1 (g.D.Disk.may_leave c.disks_of-s1h0.result.0) (g.D.Disk.may_leave c.disks_of-s1h0.result.1)) c.self.view_is
    (group_leaves g.D.Disk.seen g.D.Disk.may_leave g.D.Disk.faults g.D.Disk.moment g.D.Disk.left_since g.D.Disk.tells g.D.Disk.tells_moments c.self.inside c.self.invariant g.met.D.Disk.told (subst (λ (v : GroupIs). IsTrue v.told) (sym c.self.view_is) told) 1 c.in-Some-pop.one
    (ap (λ xs. slice_get xs 1) (three_of c.self.inside.network.servers.items c.pop-3.new.self.items c.in-Some-pop-2.zero c.in-Some-pop.one c.in-Some.two c.in-Some.ensures.items c.in-Some-pop.ensures.items c.in-Some-pop-2.ensures.items c.self.invariant.stands.reached.shows.three))
    (g.D.Disk.may_leave c.disks_of-s1h0.result.0) (g.D.Disk.may_leave c.disks_of-s1h0.result.1) c.disks_of-s1h0.ensures.left)

pub returns-clause-left_2 : goal.returns-clause-left_2
returns-clause-left_2 g c told =
    subst (λ (v : GroupIs). LeavesIn v 2 (g.D.Disk.may_leave c.disks_of-s2h0.result.0) (g.D.Disk.may_leave c.disks_of-s2h0.result.1)) c.self.view_is
    (group_leaves g.D.Disk.seen g.D.Disk.may_leave g.D.Disk.faults g.D.Disk.moment g.D.Disk.left_since g.D.Disk.tells g.D.Disk.tells_moments c.self.inside c.self.invariant g.met.D.Disk.told (subst (λ (v : GroupIs). IsTrue v.told) (sym c.self.view_is) told) 2 c.in-Some.two
    (ap (λ xs. slice_get xs 2) (three_of c.self.inside.network.servers.items c.pop-3.new.self.items c.in-Some-pop-2.zero c.in-Some-pop.one c.in-Some.two c.in-Some.ensures.items c.in-Some-pop.ensures.items c.in-Some-pop-2.ensures.items c.self.invariant.stands.reached.shows.three))
    (g.D.Disk.may_leave c.disks_of-s2h0.result.0) (g.D.Disk.may_leave c.disks_of-s2h0.result.1) c.disks_of-s2h0.ensures.left)

pub returns-clause-seen_0 : goal.returns-clause-seen_0
returns-clause-seen_0 g c told =
    subst (λ (v : GroupIs). LeavesIn v 0 (as_seen (g.D.Disk.seen c.disks_of-s0h0.result.0)) (as_seen (g.D.Disk.seen c.disks_of-s0h0.result.1))) c.self.view_is
    (group_leaves g.D.Disk.seen g.D.Disk.may_leave g.D.Disk.faults g.D.Disk.moment g.D.Disk.left_since g.D.Disk.tells g.D.Disk.tells_moments c.self.inside c.self.invariant g.met.D.Disk.told (subst (λ (v : GroupIs). IsTrue v.told) (sym c.self.view_is) told) 0 c.in-Some-pop-2.zero
    (ap (λ xs. slice_get xs 0) (three_of c.self.inside.network.servers.items c.pop-3.new.self.items c.in-Some-pop-2.zero c.in-Some-pop.one c.in-Some.two c.in-Some.ensures.items c.in-Some-pop.ensures.items c.in-Some-pop-2.ensures.items c.self.invariant.stands.reached.shows.three))
    (as_seen (g.D.Disk.seen c.disks_of-s0h0.result.0)) (as_seen (g.D.Disk.seen c.disks_of-s0h0.result.1)) c.disks_of-s0h0.ensures.seen)

pub returns-clause-seen_1 : goal.returns-clause-seen_1
returns-clause-seen_1 g c told =
    subst (λ (v : GroupIs). LeavesIn v 1 (as_seen (g.D.Disk.seen c.disks_of-s1h0.result.0)) (as_seen (g.D.Disk.seen c.disks_of-s1h0.result.1))) c.self.view_is
    (group_leaves g.D.Disk.seen g.D.Disk.may_leave g.D.Disk.faults g.D.Disk.moment g.D.Disk.left_since g.D.Disk.tells g.D.Disk.tells_moments c.self.inside c.self.invariant g.met.D.Disk.told (subst (λ (v : GroupIs). IsTrue v.told) (sym c.self.view_is) told) 1 c.in-Some-pop.one
    (ap (λ xs. slice_get xs 1) (three_of c.self.inside.network.servers.items c.pop-3.new.self.items c.in-Some-pop-2.zero c.in-Some-pop.one c.in-Some.two c.in-Some.ensures.items c.in-Some-pop.ensures.items c.in-Some-pop-2.ensures.items c.self.invariant.stands.reached.shows.three))
    (as_seen (g.D.Disk.seen c.disks_of-s1h0.result.0)) (as_seen (g.D.Disk.seen c.disks_of-s1h0.result.1)) c.disks_of-s1h0.ensures.seen)

pub returns-clause-seen_2 : goal.returns-clause-seen_2
returns-clause-seen_2 g c told =
    subst (λ (v : GroupIs). LeavesIn v 2 (as_seen (g.D.Disk.seen c.disks_of-s2h0.result.0)) (as_seen (g.D.Disk.seen c.disks_of-s2h0.result.1))) c.self.view_is
    (group_leaves g.D.Disk.seen g.D.Disk.may_leave g.D.Disk.faults g.D.Disk.moment g.D.Disk.left_since g.D.Disk.tells g.D.Disk.tells_moments c.self.inside c.self.invariant g.met.D.Disk.told (subst (λ (v : GroupIs). IsTrue v.told) (sym c.self.view_is) told) 2 c.in-Some.two
    (ap (λ xs. slice_get xs 2) (three_of c.self.inside.network.servers.items c.pop-3.new.self.items c.in-Some-pop-2.zero c.in-Some-pop.one c.in-Some.two c.in-Some.ensures.items c.in-Some-pop.ensures.items c.in-Some-pop-2.ensures.items c.self.invariant.stands.reached.shows.three))
    (as_seen (g.D.Disk.seen c.disks_of-s2h0.result.0)) (as_seen (g.D.Disk.seen c.disks_of-s2h0.result.1)) c.disks_of-s2h0.ensures.seen)

pub returns-clause-crash_0 : goal.returns-clause-crash_0
returns-clause-crash_0 g c told =
    subst (λ (v : GroupIs). LeavesAtCrash g.D.Disk.seen g.D.Disk.moment g.D.Disk.left_since g.D.Disk.tells_moments v 0 c.disks_of-s0h0.result.0 c.disks_of-s0h0.result.1) c.self.view_is
    (crash_leaves g.D.Disk.seen g.D.Disk.may_leave g.D.Disk.faults g.D.Disk.moment g.D.Disk.left_since g.D.Disk.tells g.D.Disk.tells_moments c.self.inside.number (setup_in c.self.inside) c.self.inside.began.happenings.value c.self.inside.began.network.value c.self.inside.past.happenings c.self.inside.network
    (stood g.D.Disk.seen g.D.Disk.may_leave g.D.Disk.faults g.D.Disk.moment g.D.Disk.left_since g.D.Disk.tells g.D.Disk.tells_moments c.self.inside c.self.invariant) g.D.Disk.tells (subst (λ (v : GroupIs). IsTrue v.told) (sym c.self.view_is) told) 0 c.in-Some-pop-2.zero
    (ap (λ xs. slice_get xs 0) (three_of c.self.inside.network.servers.items c.pop-3.new.self.items c.in-Some-pop-2.zero c.in-Some-pop.one c.in-Some.two c.in-Some.ensures.items c.in-Some-pop.ensures.items c.in-Some-pop-2.ensures.items c.self.invariant.stands.reached.shows.three))
    c.disks_of-s0h0.result.0 c.disks_of-s0h0.result.1 c.disks_of-s0h0.ensures.zero c.disks_of-s0h0.ensures.one)

pub returns-clause-crash_1 : goal.returns-clause-crash_1
returns-clause-crash_1 g c told =
    subst (λ (v : GroupIs). LeavesAtCrash g.D.Disk.seen g.D.Disk.moment g.D.Disk.left_since g.D.Disk.tells_moments v 1 c.disks_of-s1h0.result.0 c.disks_of-s1h0.result.1) c.self.view_is
    (crash_leaves g.D.Disk.seen g.D.Disk.may_leave g.D.Disk.faults g.D.Disk.moment g.D.Disk.left_since g.D.Disk.tells g.D.Disk.tells_moments c.self.inside.number (setup_in c.self.inside) c.self.inside.began.happenings.value c.self.inside.began.network.value c.self.inside.past.happenings c.self.inside.network
    (stood g.D.Disk.seen g.D.Disk.may_leave g.D.Disk.faults g.D.Disk.moment g.D.Disk.left_since g.D.Disk.tells g.D.Disk.tells_moments c.self.inside c.self.invariant) g.D.Disk.tells (subst (λ (v : GroupIs). IsTrue v.told) (sym c.self.view_is) told) 1 c.in-Some-pop.one
    (ap (λ xs. slice_get xs 1) (three_of c.self.inside.network.servers.items c.pop-3.new.self.items c.in-Some-pop-2.zero c.in-Some-pop.one c.in-Some.two c.in-Some.ensures.items c.in-Some-pop.ensures.items c.in-Some-pop-2.ensures.items c.self.invariant.stands.reached.shows.three))
    c.disks_of-s1h0.result.0 c.disks_of-s1h0.result.1 c.disks_of-s1h0.ensures.zero c.disks_of-s1h0.ensures.one)

pub returns-clause-crash_2 : goal.returns-clause-crash_2
returns-clause-crash_2 g c told =
    subst (λ (v : GroupIs). LeavesAtCrash g.D.Disk.seen g.D.Disk.moment g.D.Disk.left_since g.D.Disk.tells_moments v 2 c.disks_of-s2h0.result.0 c.disks_of-s2h0.result.1) c.self.view_is
    (crash_leaves g.D.Disk.seen g.D.Disk.may_leave g.D.Disk.faults g.D.Disk.moment g.D.Disk.left_since g.D.Disk.tells g.D.Disk.tells_moments c.self.inside.number (setup_in c.self.inside) c.self.inside.began.happenings.value c.self.inside.began.network.value c.self.inside.past.happenings c.self.inside.network
    (stood g.D.Disk.seen g.D.Disk.may_leave g.D.Disk.faults g.D.Disk.moment g.D.Disk.left_since g.D.Disk.tells g.D.Disk.tells_moments c.self.inside c.self.invariant) g.D.Disk.tells (subst (λ (v : GroupIs). IsTrue v.told) (sym c.self.view_is) told) 2 c.in-Some.two
    (ap (λ xs. slice_get xs 2) (three_of c.self.inside.network.servers.items c.pop-3.new.self.items c.in-Some-pop-2.zero c.in-Some-pop.one c.in-Some.two c.in-Some.ensures.items c.in-Some-pop.ensures.items c.in-Some-pop-2.ensures.items c.self.invariant.stands.reached.shows.three))
    c.disks_of-s2h0.result.0 c.disks_of-s2h0.result.1 c.disks_of-s2h0.ensures.zero c.disks_of-s2h0.ensures.one)
