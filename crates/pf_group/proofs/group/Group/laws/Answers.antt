use Rattle.std.proofs.Common.{◌≡◌, ◌<◌, [], IsTrue, refl, sym, subst}
use Rattle.pf_entry.specs.Lists.{Every}
use Rattle.pf_protocol.specs.Answers.{IsLegal, claims_of}
use Rattle.pf_group.specs.Crashing.{AllLeaveAtCrash}
use Rattle.pf_group.specs.GroupIs.{GroupIs}
use Rattle.pf_group.specs.Inside.{setup_in}
use Rattle.pf_group.proofs.Since.{all_leave, stood}
use Rattle.pf_group.proofs.Sound.{sound}
use Rattle.pf_group.proofs.group.Group.laws.Goals as goal

pub returns-clause-told : goal.returns-clause-told
returns-clause-told g c = subst (λ (v : GroupIs). v.told ≡ g.D.Disk.tells) c.self.view_is refl

pub returns-clause-legal : goal.returns-clause-legal
returns-clause-legal g c told = subst (λ (v : GroupIs). IsLegal v.setup v.history) c.self.view_is (c.self.invariant.stands.replays (subst (λ (v : GroupIs). IsTrue v.told) (sym c.self.view_is) told)).legal

pub returns-clause-low : goal.returns-clause-low
returns-clause-low g c =
    let stands = c.self.invariant.stands in
    subst (λ (v : GroupIs). Every (λ c. c.server < 3) (claims_of [] v.history)) c.self.view_is (subst (λ claims. Every (λ c. c.server < 3) claims) stands.claims stands.reached.viable.group.low)

pub returns-clause-sound : goal.returns-clause-sound
returns-clause-sound g c = sound _ _

pub returns-clause-crash : goal.returns-clause-crash
returns-clause-crash g c told =
    subst (AllLeaveAtCrash g.D.Disk.seen g.D.Disk.moment g.D.Disk.left_since g.D.Disk.tells_moments) c.self.view_is
    (all_leave g.D.Disk.seen g.D.Disk.may_leave g.D.Disk.faults g.D.Disk.moment g.D.Disk.left_since g.D.Disk.tells g.D.Disk.tells_moments c.self.inside.number (setup_in c.self.inside) c.self.inside.began.happenings.value c.self.inside.began.network.value c.self.inside.past.happenings c.self.inside.network
    (stood g.D.Disk.seen g.D.Disk.may_leave g.D.Disk.faults g.D.Disk.moment g.D.Disk.left_since g.D.Disk.tells g.D.Disk.tells_moments c.self.inside c.self.invariant) g.D.Disk.tells (subst (λ (v : GroupIs). IsTrue v.told) (sym c.self.view_is) told))
