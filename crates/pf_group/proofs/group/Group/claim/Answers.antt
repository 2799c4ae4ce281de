use Rattle.std.proofs.Common.{◌≡◌, IsTrue, ◌≤◌, ◌^◌, None, inl, inr, length, arith, refl, sym, subst}
use Rattle.pf_protocol.specs.declared.answers.Answer.{Answer}
use Rattle.pf_protocol.specs.declared.events.Event.TheVariants.{Claim}
use Rattle.pf_protocol.specs.declared.events.Happening.{Happening}
use Rattle.pf_group.specs.declared.event.GroupEvent.TheVariants as asked
use Rattle.pf_group.specs.Crashing.{AllLeaveAtCrash}
use Rattle.pf_group.specs.GroupIs.{GroupIs}
use Rattle.pf_group.specs.Inside.{group_of, setup_in}
use Rattle.pf_group.specs.Steps.{GroupSteps, claim_answer_of}
use Rattle.pf_group.proofs.NextEvents.{came_went, left_of, left_so, on_err, steps_of, stood_gone, stood_left}
use Rattle.pf_group.proofs.Fresh.{claim_answered}
use Rattle.pf_group.proofs.Since.{all_leave, stood}
use Rattle.pf_group.proofs.Sound.{sound}
use Rattle.pf_group.proofs.group.Group.claim.Goals as goal

-- no room for it

pub returns-in_err-room_for-clause-crash : goal.returns-in_err-room_for-clause-crash
returns-in_err-room_for-clause-crash g c told =
    subst (AllLeaveAtCrash g.D.Disk.seen g.D.Disk.moment g.D.Disk.left_since g.D.Disk.tells_moments) c.self.view_is
    (all_leave g.D.Disk.seen g.D.Disk.may_leave g.D.Disk.faults g.D.Disk.moment g.D.Disk.left_since g.D.Disk.tells g.D.Disk.tells_moments c.self.inside.number (setup_in c.self.inside) c.self.inside.began.happenings.value c.self.inside.began.network.value c.self.inside.past.happenings c.self.inside.network (stood g.D.Disk.seen g.D.Disk.may_leave g.D.Disk.faults g.D.Disk.moment g.D.Disk.left_since g.D.Disk.tells g.D.Disk.tells_moments c.self.inside c.self.invariant) g.D.Disk.tells (subst (λ (v : GroupIs). IsTrue v.told) (sym c.self.view_is) told))

pub claim-requires : goal.claim-requires
claim-requires g c = (setup_in c.self.inside, (c.self.invariant.stands.past, c.self.invariant.stands.reached))

-- no memory for it

pub invariant_of-self : goal.invariant_of-self
invariant_of-self g c =
    let stayed = c.in_err-answer.ensures (setup_in c.self.inside) c.self.invariant.stands.past c.self.invariant.stands.reached in
    let left = left_so g.D.Disk.seen g.D.Disk.may_leave g.D.Disk.faults g.D.Disk.moment g.D.Disk.left_since g.D.Disk.tells g.D.Disk.tells_moments (setup_in c.self.inside) c.self.inside.past.happenings c.self.inside.network c.claim.new.self c.self.invariant.stands g.met.D.Disk.told asked.Claim (λ tell. stayed) (inl stayed) in
    let s = stood_left g.D.Disk.seen g.D.Disk.may_leave g.D.Disk.faults g.D.Disk.moment g.D.Disk.left_since g.D.Disk.tells g.D.Disk.tells_moments (setup_in c.self.inside) c.self.inside.past.happenings c.self.inside.network c.claim.new.self c.self.invariant.stands g.met.D.Disk.told c.self.inside.number c.self.inside.began c.self.inside.began c.self.inside.past.happenings (stood g.D.Disk.seen g.D.Disk.may_leave g.D.Disk.faults g.D.Disk.moment g.D.Disk.left_since g.D.Disk.tells g.D.Disk.tells_moments c.self.inside c.self.invariant) refl None refl left in
    record { stands = s.stands; heads = s.heads; past = c.self.invariant.past; after = s.after; last = s.last; since = s.since }

pub returns-in_err-answer-clause-err : goal.returns-in_err-answer-clause-err
returns-in_err-answer-clause-err g c =
    let stayed = c.in_err-answer.ensures (setup_in c.self.inside) c.self.invariant.stands.past c.self.invariant.stands.reached in
    let left = left_so g.D.Disk.seen g.D.Disk.may_leave g.D.Disk.faults g.D.Disk.moment g.D.Disk.left_since g.D.Disk.tells g.D.Disk.tells_moments (setup_in c.self.inside) c.self.inside.past.happenings c.self.inside.network c.claim.new.self c.self.invariant.stands g.met.D.Disk.told asked.Claim (λ tell. stayed) (inl stayed) in
    on_err c.from_residual-in_err-answer.result _
    (subst (λ (v : GroupIs). (group_of g.D.Disk.tells g.D.Disk.faults g.D.Disk.moment c.self.inside.number (setup_in c.self.inside) c.self.inside.began.happenings.value c.self.inside.began.network.value c.self.inside.past.happenings c.claim.new.self) ≡ v) c.self.view_is
    (left_of g.D.Disk.seen g.D.Disk.may_leave g.D.Disk.faults g.D.Disk.moment g.D.Disk.left_since g.D.Disk.tells g.D.Disk.tells_moments (setup_in c.self.inside) c.self.inside.past.happenings c.self.inside.network c.claim.new.self c.self.invariant.stands g.met.D.Disk.told c.self.inside.number c.self.inside.began c.self.inside.began c.self.inside.past.happenings asked.Claim refl refl left))

pub returns-in_err-answer-clause-crash : goal.returns-in_err-answer-clause-crash
returns-in_err-answer-clause-crash g c told =
    let stayed = c.in_err-answer.ensures (setup_in c.self.inside) c.self.invariant.stands.past c.self.invariant.stands.reached in
    let left = left_so g.D.Disk.seen g.D.Disk.may_leave g.D.Disk.faults g.D.Disk.moment g.D.Disk.left_since g.D.Disk.tells g.D.Disk.tells_moments (setup_in c.self.inside) c.self.inside.past.happenings c.self.inside.network c.claim.new.self c.self.invariant.stands g.met.D.Disk.told asked.Claim (λ tell. stayed) (inl stayed) in
    all_leave g.D.Disk.seen g.D.Disk.may_leave g.D.Disk.faults g.D.Disk.moment g.D.Disk.left_since g.D.Disk.tells g.D.Disk.tells_moments c.self.inside.number (setup_in c.self.inside) c.self.inside.began.happenings.value c.self.inside.began.network.value c.self.inside.past.happenings c.claim.new.self
    (stood_left g.D.Disk.seen g.D.Disk.may_leave g.D.Disk.faults g.D.Disk.moment g.D.Disk.left_since g.D.Disk.tells g.D.Disk.tells_moments (setup_in c.self.inside) c.self.inside.past.happenings c.self.inside.network c.claim.new.self c.self.invariant.stands g.met.D.Disk.told c.self.inside.number c.self.inside.began c.self.inside.began c.self.inside.past.happenings (stood g.D.Disk.seen g.D.Disk.may_leave g.D.Disk.faults g.D.Disk.moment g.D.Disk.left_since g.D.Disk.tells g.D.Disk.tells_moments c.self.inside c.self.invariant) refl None refl left) g.D.Disk.tells told

-- it was answered

pub keep-requires-clause-room : goal.keep-requires-clause-room
keep-requires-clause-room g c = record { may = tt; room = c.in_ok-room_for.ensures.room }

pub invariant_of-self-2 : goal.invariant_of-self-2
invariant_of-self-2 g c =
    let came = came_went g.D.Disk.seen g.D.Disk.may_leave g.D.Disk.faults g.D.Disk.moment g.D.Disk.left_since g.D.Disk.tells g.D.Disk.tells_moments (setup_in c.self.inside) c.self.inside.past.happenings c.self.inside.network c.claim.new.self c.self.invariant.stands g.met.D.Disk.told Claim c.in_ok-answer.answer (c.in_ok-answer.ensures (setup_in c.self.inside) c.self.invariant.stands.past c.self.invariant.stands.reached) in
    let low : length c.keep.new.self.happenings ≤ 2 ^ 32 = omega (arith, c.keep.ensures.past.few, c.keep.ensures.past.counted) in
    let s = stood_gone g.D.Disk.seen g.D.Disk.may_leave g.D.Disk.faults g.D.Disk.moment g.D.Disk.left_since g.D.Disk.tells g.D.Disk.tells_moments (setup_in c.self.inside) c.self.inside.past.happenings c.self.inside.network c.claim.new.self c.self.invariant.stands g.met.D.Disk.told c.self.inside.number c.self.inside.began c.self.inside.began c.keep.new.self.happenings (stood g.D.Disk.seen g.D.Disk.may_leave g.D.Disk.faults g.D.Disk.moment g.D.Disk.left_since g.D.Disk.tells g.D.Disk.tells_moments c.self.inside c.self.invariant) Claim c.in_ok-answer.answer c.keep.ensures.items low tt came refl in
    record { stands = s.stands; heads = s.heads; past = c.keep.ensures.past; after = s.after; last = s.last; since = s.since }

pub returns-clause-went : goal.returns-clause-went
returns-clause-went g c =
    let came = came_went g.D.Disk.seen g.D.Disk.may_leave g.D.Disk.faults g.D.Disk.moment g.D.Disk.left_since g.D.Disk.tells g.D.Disk.tells_moments (setup_in c.self.inside) c.self.inside.past.happenings c.self.inside.network c.claim.new.self c.self.invariant.stands g.met.D.Disk.told Claim c.in_ok-answer.answer (c.in_ok-answer.ensures (setup_in c.self.inside) c.self.invariant.stands.past c.self.invariant.stands.reached) in
    let h : Happening = record { event = Claim; answer = c.in_ok-answer.answer } in
    subst (λ (v : GroupIs). GroupSteps v Claim (claim_answer_of c.job_of.result) (group_of g.D.Disk.tells g.D.Disk.faults g.D.Disk.moment c.self.inside.number (setup_in c.self.inside) c.self.inside.began.happenings.value c.self.inside.began.network.value c.keep.new.self.happenings c.claim.new.self)) c.self.view_is
    (subst (λ (a : Answer). GroupSteps (group_of g.D.Disk.tells g.D.Disk.faults g.D.Disk.moment c.self.inside.number (setup_in c.self.inside) c.self.inside.began.happenings.value c.self.inside.began.network.value c.self.inside.past.happenings c.self.inside.network) Claim a (group_of g.D.Disk.tells g.D.Disk.faults g.D.Disk.moment c.self.inside.number (setup_in c.self.inside) c.self.inside.began.happenings.value c.self.inside.began.network.value c.keep.new.self.happenings c.claim.new.self))
    (claim_answered (setup_in c.self.inside) c.self.invariant.stands.past.group c.in_ok-answer.answer (came.answered (inr tt)) c.job_of.result c.job_of.ensures.some c.job_of.ensures.none)
    (steps_of g.D.Disk.seen g.D.Disk.may_leave g.D.Disk.faults g.D.Disk.moment g.D.Disk.left_since g.D.Disk.tells g.D.Disk.tells_moments (setup_in c.self.inside) c.self.inside.past.happenings c.self.inside.network c.claim.new.self c.self.invariant.stands g.met.D.Disk.told c.self.inside.number c.self.inside.began c.self.inside.began c.keep.new.self.happenings Claim c.in_ok-answer.answer h c.keep.ensures.items refl refl tt refl came))

pub returns-clause-sound : goal.returns-clause-sound
returns-clause-sound g c = sound _ _

pub returns-clause-crash : goal.returns-clause-crash
returns-clause-crash g c told =
    let came = came_went g.D.Disk.seen g.D.Disk.may_leave g.D.Disk.faults g.D.Disk.moment g.D.Disk.left_since g.D.Disk.tells g.D.Disk.tells_moments (setup_in c.self.inside) c.self.inside.past.happenings c.self.inside.network c.claim.new.self c.self.invariant.stands g.met.D.Disk.told Claim c.in_ok-answer.answer (c.in_ok-answer.ensures (setup_in c.self.inside) c.self.invariant.stands.past c.self.invariant.stands.reached) in
    let low : length c.keep.new.self.happenings ≤ 2 ^ 32 = omega (arith, c.keep.ensures.past.few, c.keep.ensures.past.counted) in
    all_leave g.D.Disk.seen g.D.Disk.may_leave g.D.Disk.faults g.D.Disk.moment g.D.Disk.left_since g.D.Disk.tells g.D.Disk.tells_moments c.self.inside.number (setup_in c.self.inside) c.self.inside.began.happenings.value c.self.inside.began.network.value c.keep.new.self.happenings c.claim.new.self
    (stood_gone g.D.Disk.seen g.D.Disk.may_leave g.D.Disk.faults g.D.Disk.moment g.D.Disk.left_since g.D.Disk.tells g.D.Disk.tells_moments (setup_in c.self.inside) c.self.inside.past.happenings c.self.inside.network c.claim.new.self c.self.invariant.stands g.met.D.Disk.told c.self.inside.number c.self.inside.began c.self.inside.began c.keep.new.self.happenings (stood g.D.Disk.seen g.D.Disk.may_leave g.D.Disk.faults g.D.Disk.moment g.D.Disk.left_since g.D.Disk.tells g.D.Disk.tells_moments c.self.inside c.self.invariant) Claim c.in_ok-answer.answer c.keep.ensures.items low tt came refl) g.D.Disk.tells told
