use Rattle.std.proofs.Common.{[], ◌≤◌, ◌^◌, length, arith, refl, sym, subst}
use Rattle.pf_protocol.specs.declared.answers.Answer.TheVariants.{Done}
use Rattle.pf_protocol.specs.declared.events.Event.{Event}
use Rattle.pf_protocol.specs.declared.events.Event.TheVariants.{GiveBack}
use Rattle.pf_protocol.specs.declared.events.Happening.{Happening}
use Rattle.pf_protocol.specs.Answers.{MayHappen, claims_of}
use Rattle.pf_group.specs.GroupIs.{GroupIs}
use Rattle.pf_group.specs.Inside.{group_of, setup_in}
use Rattle.pf_group.specs.Steps.{GroupSteps}
use Rattle.pf_group.proofs.NextEvents.{WentIn, came_went, found_low, gave_done, steps_of, stood_gone}
use Rattle.pf_group.proofs.Since.{all_leave, stood}
use Rattle.pf_group.proofs.Sound.{sound}
use Rattle.pf_group.proofs.group.Group.give_back.Goals as goal

pub give_back-requires-clause-server : goal.give_back-requires-clause-server
give_back-requires-clause-server g c =
    let s = c.self.invariant.stands in
    found_low s.past.claims s.reached.viable.group.low c.args.job.server c.args.job.life c.args.job.slot
    (subst (λ claims. MayHappen claims (GiveBack c.args.job.server c.args.job.life c.args.job.slot)) (sym s.claims)
    (subst (λ (v : GroupIs). MayHappen (claims_of [] v.history) (GiveBack c.args.job.server c.args.job.life c.args.job.slot)) (sym c.self.view_is) c.requires))

pub invariant_of-self : goal.invariant_of-self
invariant_of-self g c =
    let e : Event = GiveBack c.args.job.server c.args.job.life c.args.job.slot in
    let gone = c.give_back.ensures (setup_in c.self.inside) c.self.invariant.stands.past c.self.invariant.stands.reached in
    let done = gave_done (setup_in c.self.inside) c.self.invariant.stands.past.group c.args.job.server c.args.job.life c.args.job.slot c.give_back.result gone.answered in
    let went = subst (WentIn g.D.Disk.seen g.D.Disk.may_leave g.D.Disk.faults g.D.Disk.moment g.D.Disk.left_since g.D.Disk.tells g.D.Disk.tells_moments (setup_in c.self.inside) c.self.inside.past.happenings c.self.inside.network c.give_back.new.self c.self.invariant.stands.past.group e) done gone in
    let came = came_went g.D.Disk.seen g.D.Disk.may_leave g.D.Disk.faults g.D.Disk.moment g.D.Disk.left_since g.D.Disk.tells g.D.Disk.tells_moments (setup_in c.self.inside) c.self.inside.past.happenings c.self.inside.network c.give_back.new.self c.self.invariant.stands g.met.D.Disk.told e Done went in
    let may = subst (λ (v : GroupIs). MayHappen (claims_of [] v.history) e) (sym c.self.view_is) c.requires in
    let low : length c.keep.new.self.happenings ≤ 2 ^ 32 = omega (arith, c.keep.ensures.past.few, c.keep.ensures.past.counted) in
    let s = stood_gone g.D.Disk.seen g.D.Disk.may_leave g.D.Disk.faults g.D.Disk.moment g.D.Disk.left_since g.D.Disk.tells g.D.Disk.tells_moments (setup_in c.self.inside) c.self.inside.past.happenings c.self.inside.network c.give_back.new.self c.self.invariant.stands g.met.D.Disk.told c.self.inside.number c.self.inside.began c.self.inside.began c.keep.new.self.happenings (stood g.D.Disk.seen g.D.Disk.may_leave g.D.Disk.faults g.D.Disk.moment g.D.Disk.left_since g.D.Disk.tells g.D.Disk.tells_moments c.self.inside c.self.invariant) e Done c.keep.ensures.items low may came refl in
    record { stands = s.stands; heads = s.heads; past = c.keep.ensures.past; after = s.after; last = s.last; since = s.since }

pub returns-clause-went : goal.returns-clause-went
returns-clause-went g c =
    let e : Event = GiveBack c.args.job.server c.args.job.life c.args.job.slot in
    let gone = c.give_back.ensures (setup_in c.self.inside) c.self.invariant.stands.past c.self.invariant.stands.reached in
    let done = gave_done (setup_in c.self.inside) c.self.invariant.stands.past.group c.args.job.server c.args.job.life c.args.job.slot c.give_back.result gone.answered in
    let went = subst (WentIn g.D.Disk.seen g.D.Disk.may_leave g.D.Disk.faults g.D.Disk.moment g.D.Disk.left_since g.D.Disk.tells g.D.Disk.tells_moments (setup_in c.self.inside) c.self.inside.past.happenings c.self.inside.network c.give_back.new.self c.self.invariant.stands.past.group e) done gone in
    let came = came_went g.D.Disk.seen g.D.Disk.may_leave g.D.Disk.faults g.D.Disk.moment g.D.Disk.left_since g.D.Disk.tells g.D.Disk.tells_moments (setup_in c.self.inside) c.self.inside.past.happenings c.self.inside.network c.give_back.new.self c.self.invariant.stands g.met.D.Disk.told e Done went in
    let may = subst (λ (v : GroupIs). MayHappen (claims_of [] v.history) e) (sym c.self.view_is) c.requires in
    let h : Happening = record { event = e; answer = Done } in
    subst (λ (v : GroupIs). GroupSteps v e Done (group_of g.D.Disk.tells g.D.Disk.faults g.D.Disk.moment c.self.inside.number (setup_in c.self.inside) c.self.inside.began.happenings.value c.self.inside.began.network.value c.keep.new.self.happenings c.give_back.new.self)) c.self.view_is
    (steps_of g.D.Disk.seen g.D.Disk.may_leave g.D.Disk.faults g.D.Disk.moment g.D.Disk.left_since g.D.Disk.tells g.D.Disk.tells_moments (setup_in c.self.inside) c.self.inside.past.happenings c.self.inside.network c.give_back.new.self c.self.invariant.stands g.met.D.Disk.told c.self.inside.number c.self.inside.began c.self.inside.began c.keep.new.self.happenings e Done h c.keep.ensures.items refl refl may refl came)

pub returns-clause-sound : goal.returns-clause-sound
returns-clause-sound g c = sound _ _

pub returns-clause-crash : goal.returns-clause-crash
returns-clause-crash g c told =
    let e : Event = GiveBack c.args.job.server c.args.job.life c.args.job.slot in
    let gone = c.give_back.ensures (setup_in c.self.inside) c.self.invariant.stands.past c.self.invariant.stands.reached in
    let done = gave_done (setup_in c.self.inside) c.self.invariant.stands.past.group c.args.job.server c.args.job.life c.args.job.slot c.give_back.result gone.answered in
    let went = subst (WentIn g.D.Disk.seen g.D.Disk.may_leave g.D.Disk.faults g.D.Disk.moment g.D.Disk.left_since g.D.Disk.tells g.D.Disk.tells_moments (setup_in c.self.inside) c.self.inside.past.happenings c.self.inside.network c.give_back.new.self c.self.invariant.stands.past.group e) done gone in
    let came = came_went g.D.Disk.seen g.D.Disk.may_leave g.D.Disk.faults g.D.Disk.moment g.D.Disk.left_since g.D.Disk.tells g.D.Disk.tells_moments (setup_in c.self.inside) c.self.inside.past.happenings c.self.inside.network c.give_back.new.self c.self.invariant.stands g.met.D.Disk.told e Done went in
    let may = subst (λ (v : GroupIs). MayHappen (claims_of [] v.history) e) (sym c.self.view_is) c.requires in
    let low : length c.keep.new.self.happenings ≤ 2 ^ 32 = omega (arith, c.keep.ensures.past.few, c.keep.ensures.past.counted) in
    all_leave g.D.Disk.seen g.D.Disk.may_leave g.D.Disk.faults g.D.Disk.moment g.D.Disk.left_since g.D.Disk.tells g.D.Disk.tells_moments c.self.inside.number (setup_in c.self.inside) c.self.inside.began.happenings.value c.self.inside.began.network.value c.keep.new.self.happenings c.give_back.new.self
    (stood_gone g.D.Disk.seen g.D.Disk.may_leave g.D.Disk.faults g.D.Disk.moment g.D.Disk.left_since g.D.Disk.tells g.D.Disk.tells_moments (setup_in c.self.inside) c.self.inside.past.happenings c.self.inside.network c.give_back.new.self c.self.invariant.stands g.met.D.Disk.told c.self.inside.number c.self.inside.began c.self.inside.began c.keep.new.self.happenings (stood g.D.Disk.seen g.D.Disk.may_leave g.D.Disk.faults g.D.Disk.moment g.D.Disk.left_since g.D.Disk.tells g.D.Disk.tells_moments c.self.inside c.self.invariant) e Done c.keep.ensures.items low may came refl) g.D.Disk.tells told
