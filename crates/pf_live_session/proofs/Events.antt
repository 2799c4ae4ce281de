-- Which events the seats of a line make: none that reads, and no restart.
use Rattle.std.proofs.Common.{◌≡◌, ◌≢◌, ℕ, suc, true, Bool, List, [], ◌∷◌, ◌++◌, refl, sym, ap, subst, ◌∙◌}
use Rattle.std.proofs.lemmas.Bool.{false≢true}
use Rattle.pf_base.specs.Span.{Span}
use Rattle.pf_entry.specs.Lists.{Every}
use Rattle.pf_turn.specs.Own.{AllAfter}
use Rattle.pf_protocol.specs.Servers.{Setup}
use Rattle.pf_protocol.specs.Groups.{Group, ending, happens}
use Rattle.pf_protocol.specs.Histories.{History}
use Rattle.pf_protocol.specs.Answers.{Claimed, IsLegalFrom, claims_after}
use Rattle.pf_protocol.specs.declared.answers.Answer.TheVariants.{Read as ReadIs}
use Rattle.pf_protocol.specs.declared.events.Event.{Event}
use Rattle.pf_protocol.specs.declared.events.Event.TheVariants.{Submit, Deliver, Claim, Finish, GiveBack, Fetch, Restart}
use Rattle.pf_chunk.specs.pf_group.specs.GroupIs.{GroupIs}
use Rattle.pf_chunk.specs.pf_group_rounds.specs.Agreeing.{told_from}
use Rattle.pf_chunk.specs.pf_group_rounds.specs.Chunks.{listed_at}
use Rattle.pf_chunk.specs.pf_group_rounds.specs.Halts.{Halt}
use Rattle.pf_chunk.specs.pf_group_rounds.specs.Jobs.{IsClaimOrFinish, IsOfRound}
use Rattle.pf_live_session.specs.pf_shared.specs.declared.moment.SeatMoment.{SeatMoment}
use Rattle.pf_live_session.specs.pf_shared.specs.declared.moment.SeatMoment.TheVariants.{Happened, Look}
use Rattle.pf_live_session.specs.pf_shared.specs.Moments.{happenings, with_moment}
use Rattle.pf_live_session.specs.pf_live_seats.specs.declared.plan.LinePlan.{LinePlan}
use Rattle.pf_live_session.specs.pf_live_seats.specs.Deliveries.{LiveTrace}
use Rattle.pf_live_session.specs.pf_live_seats.specs.Lines.{Applying, Delivering, SeatDoes, DoesAs, IsLive, SeatRole, Submitting, role_of_seat}
use Rattle.pf_live_session.specs.pf_live_seats.specs.Roles.{is_applying}
use Rattle.pf_chunk.proofs.WaitingLists.{taken_up}

abbrev pub IsOfLine : Event → Type 0
IsOfLine (Submit server op) = Unit {0}
IsOfLine (Deliver k) = Unit {0}
IsOfLine Claim = Unit {0}
IsOfLine (Finish server life slot) = Unit {0}
IsOfLine (GiveBack server life slot) = Unit {0}
IsOfLine event = ⊥

of_applying : (event : Event) → is_applying event ≡ true → IsOfLine event
of_applying Claim is = tt
of_applying (Finish server life slot) is = tt
of_applying (GiveBack server life slot) is = tt
of_applying event is = absurd (false≢true is)

of_role : (role : SeatRole) (plan : LinePlan) (root : GroupIs) (before : LiveTrace) (event : Event) → DoesAs role plan root before event → IsOfLine event
of_role Submitting plan root before event does = subst IsOfLine (sym does.is) tt
of_role Delivering plan root before event does = subst IsOfLine (sym does.is) tt
of_role Applying plan root before event does = of_applying event does

abbrev pub AreOfLine : History → Type 0
AreOfLine history = Every (λ h. IsOfLine h.event) history

of_moment : (plan : LinePlan) (root : GroupIs) (seat : ℕ) (before : LiveTrace) (what : SeatMoment) (rest : History) → SeatDoes plan root seat before what → AreOfLine rest → AreOfLine (with_moment what rest)
of_moment plan root seat before (Happened h) rest does are = (of_role (role_of_seat plan.workers seat) plan root before h.event does, are)
of_moment plan root seat before (Look read) rest does are = are

of_entries : (plan : LinePlan) (root : GroupIs) (before list : LiveTrace) → AllAfter (SeatDoes plan root) before list → AreOfLine (happenings list)
of_entries plan root before [] all = tt
of_entries plan root before (e ∷ es) all = of_moment plan root e.seat before e.what (happenings es) all.0 (of_entries plan root (before ++ e ∷ []) es all.1)

pub of_line : (plan : LinePlan) (root : GroupIs) (list : LiveTrace) → IsLive plan root list → AreOfLine (happenings list)
of_line plan root list live = of_entries plan root [] list live

-- a run has them as they are
listed_same : (halts : List Halt) (number n : ℕ) (event : Event) → IsOfLine event → listed_at halts number n event ≡ event
listed_same halts number n (Restart server found) is = absurd is
listed_same halts number n event is = refl

pub told_same : (halts : List Halt) (number n : ℕ) (history : History) → AreOfLine history → told_from halts number n history ≡ history
told_same halts number n [] are = refl
told_same halts number n (h ∷ hs) are =
    ap (λ event. record h { event = event } ∷ told_from halts number (suc n) hs) (listed_same halts number n h.event are.0)
    ∙ ap (λ rest. h ∷ rest) (told_same halts number (suc n) hs are.1)

-- no read is taken up
abbrev pub TakeNone : History → Type 0
TakeNone history = Every (λ h. (n : ℕ) → h.answer ≢ ReadIs n) history

no_fetch : (event : Event) (i : ℕ) (range : Span) → IsOfLine event → event ≡ Fetch i range → ⊥
no_fetch event i range is same = subst IsOfLine same is

pub take_none : (setup : Setup) (more : History) (g : Group) (claims : List Claimed) → IsLegalFrom setup g claims more → AreOfLine more → TakeNone more
take_none setup [] g claims legal are = tt
take_none setup (h ∷ hs) g claims legal are = (
  (λ n told. let t = taken_up setup g h.event h.answer legal.0.answered n told in no_fetch h.event t.server t.range are.0 t.fetched),
  take_none setup hs (happens setup g h.event (ending h.answer)) (claims_after claims h.event h.answer) legal.1 are.1,
)

-- claims and finishes are such events
of_claim : (event : Event) → IsClaimOrFinish event → IsOfLine event
of_claim Claim is = tt
of_claim (Finish server life slot) is = tt
of_claim event is = absurd is

pub of_rounds : (history : History) → Every IsOfRound history → AreOfLine history
of_rounds [] are = tt
of_rounds (h ∷ hs) are = (of_claim h.event are.0, of_rounds hs are.1)
