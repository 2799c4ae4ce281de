-- No look of a line takes an answer, and none of its events reads.
use Rattle.std.proofs.Common.{◌≡◌, ◌≢◌, ℕ, Bool, false, List, [], ◌∷◌, ◌++◌, Some, slice_get, refl, sym, ap, subst, ◌∙◌}
use Rattle.pf_entry.proofs.Lists.{every_more}
use Rattle.pf_turn.specs.Own.{AllAfter}
use Rattle.pf_protocol.specs.declared.answers.Answer.{Answer}
use Rattle.pf_protocol.specs.declared.answers.Answer.TheVariants.{Done, Slot as SlotIs, Term as TermIs, Read as ReadIs, Base as BaseIs, Job as JobIs, Refused}
use Rattle.pf_protocol.specs.Histories.{History}
use Rattle.pf_chunk.specs.pf_group_network.specs.Readings.{taken_after}
use Rattle.pf_chunk.specs.pf_group.specs.GroupIs.{GroupIs}
use Rattle.pf_live_session.specs.pf_shared.specs.declared.moment.SeatMoment.{SeatMoment}
use Rattle.pf_live_session.specs.pf_shared.specs.declared.moment.SeatMoment.TheVariants.{Happened, Look}
use Rattle.pf_live_session.specs.pf_shared.specs.Moments.{handed_out, happenings, moment_taken_with, with_moment}
use Rattle.pf_live_session.specs.pf_live_seats.specs.declared.plan.LinePlan.{LinePlan}
use Rattle.pf_live_session.specs.pf_live_seats.specs.Deliveries.{LiveTrace}
use Rattle.pf_live_session.specs.pf_live_seats.specs.Lines.{SeatDoes}
use Rattle.pf_live_session.specs.declared.session.Lived.{Lived}
use Rattle.pf_live_session.specs.GroupSessions.{HasLived}
use Rattle.pf_chunk.specs.pf_chunk_waiting.specs.declared.waiting.Waiting.{Waiting}
use Rattle.pf_chunk.specs.Views.{IsListed}
use Rattle.pf_chunk.proofs.Ready.{taken_still}
use Rattle.pf_live_session.proofs.Events.{TakeNone}

-- a read that pends, pends after one more entry
one_pends : (plan : LinePlan) (root : GroupIs) (seat : ℕ) (before : LiveTrace) (what : SeatMoment) → SeatDoes plan root seat before what → (taken : List Bool) (n : ℕ) → slice_get taken n ≡ Some false → slice_get (moment_taken_with taken what) n ≡ Some false
one_pends plan root seat before (Happened h) does taken n is = taken_still taken h.answer n false is
one_pends plan root seat before (Look read) does taken n is = subst (λ r. slice_get (moment_taken_with taken (Look r)) n ≡ Some false) (sym does) is

still_pends : (plan : LinePlan) (root : GroupIs) (before list : LiveTrace) → AllAfter (SeatDoes plan root) before list → (taken : List Bool) (n : ℕ) → slice_get taken n ≡ Some false → slice_get (handed_out taken list) n ≡ Some false
still_pends plan root before [] all taken n is = is
still_pends plan root before (e ∷ es) all taken n is =
    still_pends plan root (before ++ e ∷ []) es all.1 (moment_taken_with taken e.what) n (one_pends plan root e.seat before e.what all.0 taken n is)

-- where no answer is a read's number, nothing is taken up
answer_none : (taken : List Bool) (answer : Answer) → ((n : ℕ) → answer ≢ ReadIs n) → taken_after taken answer ≡ taken
answer_none taken (ReadIs n) none = absurd (none n refl)
answer_none taken Done none = refl
answer_none taken (SlotIs slot) none = refl
answer_none taken (TermIs term) none = refl
answer_none taken (BaseIs base) none = refl
answer_none taken (JobIs job) none = refl
answer_none taken (Refused refusal) none = refl

one_none : (plan : LinePlan) (root : GroupIs) (seat : ℕ) (before : LiveTrace) (what : SeatMoment) (rest : History) → SeatDoes plan root seat before what → TakeNone (with_moment what rest) → (taken : List Bool) → moment_taken_with taken what ≡ taken
one_none plan root seat before (Happened h) rest does none taken = answer_none taken h.answer none.0
one_none plan root seat before (Look read) rest does none taken = ap (λ r. moment_taken_with taken (Look r)) does

rest_none : (what : SeatMoment) (rest : History) → TakeNone (with_moment what rest) → TakeNone rest
rest_none (Happened h) rest none = none.1
rest_none (Look read) rest none = none

pub none_handed : (plan : LinePlan) (root : GroupIs) (before list : LiveTrace) → AllAfter (SeatDoes plan root) before list → (taken : List Bool) → TakeNone (happenings list) → handed_out taken list ≡ taken
none_handed plan root before [] all taken none = refl
none_handed plan root before (e ∷ es) all taken none =
    ap (λ t. handed_out t es) (one_none plan root e.seat before e.what (happenings es) all.0 none taken)
    ∙ none_handed plan root (before ++ e ∷ []) es all.1 taken (rest_none e.what (happenings es) none)

-- of a history that takes none up, each beginning takes none up
pub begin_none : (xs ys : History) → TakeNone (xs ++ ys) → TakeNone xs
begin_none [] ys none = tt
begin_none (x ∷ xs) ys none = (none.0, begin_none xs ys none.1)

module _ (plan : LinePlan) (old g : GroupIs) (its : Lived) (lived : HasLived plan old its g) where
  pub taken_is : g.taken ≡ handed_out old.taken lived.list
  taken_is = lived.applied_then.taken ∙ lived.listed.taken

  -- a read that pended still pends
  pub still : (n : ℕ) → slice_get old.taken n ≡ Some false → slice_get g.taken n ≡ Some false
  still n is = ap (λ t. slice_get t n) taken_is ∙ still_pends plan old [] lived.list lived.listed.live old.taken n is

  -- so the reads that wait can be gone through
  pub listed_back : (waiting : List Waiting) → IsListed old.taken waiting → IsListed g.taken waiting
  listed_back waiting is = record {
    ascending = is.ascending;
    servers = is.servers;
    pending = every_more (λ w. slice_get old.taken w.number ≡ Some false) (λ w. slice_get g.taken w.number ≡ Some false) (λ w. still w.number) waiting is.pending;
  }
