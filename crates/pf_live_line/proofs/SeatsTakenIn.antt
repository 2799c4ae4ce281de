-- The first seat, once it took in all seats of a run.
use Rattle.std.proofs.Common.{◌≡◌, ◌||◌, ℕ, zero, suc, Bool, IsTrue, true, false, ◌+◌, ◌*◌, ◌<◌, ◌≤◌, List, [], ◌∷◌, ◌++◌, length, slice_get, None, Some, arith, refl, sym, ap, ◌∙◌, subst}
use mathlib.Core.Logic.{dite}
use native.Mathlib.Decide.{ℕ_discrete}
use Rattle.pf_turn.specs.Lists.{Begins, entries_of}
use Rattle.pf_turn.specs.Own.{AllOfSeats, AreKnown, EachOf, down_from}
use Rattle.pf_turn.proofs.Lists.{begins_trans}
use Rattle.pf_turn.proofs.Own.{all_known}
use Rattle.pf_disk.specs.declared.disk.Disk.{Ghosts}
use Rattle.pf_live_seats.specs.pf_group.specs.GroupIs.{GroupIs}
use Rattle.pf_leadercell.specs.declared.cell.LeaderCell.{LeaderCell}
use Rattle.pf_live_seats.specs.pf_shared.specs.declared.parts.GroupSeat.{GroupSeat}
use Rattle.pf_live_seats.specs.pf_shared.specs.declared.parts.SharedGroup.{SharedGroup}
use Rattle.pf_live_seats.specs.pf_shared.specs.Hands.{Key, hand_of}
use Rattle.pf_live_seats.specs.pf_shared.specs.Seats.{root_in, seen_by, splits_of}
use Rattle.pf_live_seats.specs.declared.line.HostRings.{HostRings}
use Rattle.pf_live_seats.specs.declared.plan.LinePlan.{LinePlan}
use Rattle.pf_live_seats.specs.Deliveries.{LiveTrace}
use Rattle.pf_live_seats.specs.Lines.{Applying, IsLive, role_of_seat}
use Rattle.pf_live_seats.specs.Roles.{HasRunOut}
use Rattle.pf_live_seats.specs.Submitters.{AllFed, AllStand, Submits, SubmitsAlone, SubmitsNone}
use Rattle.pf_live_seats.specs.Switches.{HasDelivered}
use Rattle.pf_live_seats.proofs.Deliveries.{delivered_finds}
use Rattle.pf_live_seats.proofs.Stands.{stands_on}
use Rattle.pf_live_seats.proofs.Submissions.{alone_before, others_quiet, submits_none}
use Rattle.pf_live_line.specs.declared.taking.Taken.{Taken}
use Rattle.pf_live_line.specs.Crews.{AllEnded, AllFree, HasMade, IsLineSeat}
use Rattle.pf_live_line.specs.Joining.{IsJoining}
use Rattle.pf_live_line.specs.Runs.{IsSince}
use Rattle.pf_live_line.specs.Taking.{IsTaken}
use Rattle.pf_live_line.proofs.Runs.{DeliversAlone, all_deliveries, all_passed, delivers_alone, first_role, line_on, second_role, submits_alone}

pub neither : (b c : Bool) → (b || c) ≡ false → b ≡ false
neither true c is = is
neither false c is = refl

made_as : (turns : ℕ) (root : Rattle.pf_live_seats.specs.pf_group.specs.GroupIs.GroupIs) (begun rest list : LiveTrace) (n next made : ℕ) → begun ++ rest ≡ list → entries_of n begun ≡ [] → DeliversAlone n rest → HasDelivered turns root begun n list next made → HasMade turns root list next made
made_as turns root begun rest list n next made is fresh alone d = subst (λ l. HasMade turns root l next made) is (at (subst (λ l. HasDelivered turns root begun n l next made) (sym is) d))
  where
    at : HasDelivered turns root begun n (begun ++ rest) next made → HasMade turns root (begun ++ rest) next made
    at h = record {
      sent = h.sent;
      passed = λ told. record { below = λ j e. (h.passed told).below j (all_passed n begun rest fresh alone j ∙ e); all = λ j low left. sym (all_passed n begun rest fresh alone j) ∙ (h.passed told).all j low left };
      count = h.count ∙ all_deliveries n begun rest fresh alone;
      within = h.within;
    }

module _ {D : Type 0} {disk : Ghosts D} (group : SharedGroup D disk) (cell : LeaderCell) (plan : LinePlan) (rings : List HostRings) (begun : GroupSeat D disk) (is : IsLineSeat group plan begun) (a : Taken D disk) (mid first : GroupSeat D disk)
    (taken : IsTaken group cell plan rings begun a mid) (joining : IsJoining group plan begun a.submitted.value (splits_of begun + plan.workers + 2) first) (on : Begins (seen_by mid) (seen_by first))
    (same : (n : ℕ) → n ≤ splits_of begun + 2 → entries_of n (seen_by first) ≡ entries_of n (seen_by mid)) (fed : AllFed plan a.served.items) where
  abbrev P : ℕ → LiveTrace → Rattle.pf_live_seats.specs.pf_shared.specs.declared.moment.SeatMoment.SeatMoment → Type 0
  P = IsSince plan (root_in group) (seen_by begun) (splits_of begun) (seen_by a.submitted.value)

  all : AllOfSeats P (seen_by begun ++ joining.since.0)
  all = subst (AllOfSeats P) (sym joining.since.1) (all_known P (splits_of begun + plan.workers + 2) (seen_by first) joining.own (subst (λ l. AreKnown P l (seen_by first)) joining.gone joining.known)
      (λ n above. joining.strangers n (omega (arith, joining.splits))))

  alone : SubmitsAlone (splits_of begun + 1) (seen_by begun) (seen_by first)
  alone = subst (SubmitsAlone (splits_of begun + 1) (seen_by begun)) joining.since.1 (submits_alone plan (root_in group) (seen_by begun) (splits_of begun) is.runs.0 (seen_by a.submitted.value) is.runs.1 joining.since.0 all)

  to_first : Begins (seen_by a.submitted.value) (seen_by first)
  to_first = begins_trans (seen_by a.submitted.value) (seen_by mid) (seen_by first) taken.begins on

  alone_there : SubmitsAlone (splits_of begun + 1) (seen_by begun) (seen_by a.submitted.value)
  alone_there = alone_before (splits_of begun + 1) (seen_by begun) (seen_by a.submitted.value) (seen_by first) taken.since to_first alone

  steps : EachOf (splits_of begun + 1) (Submits plan (root_in group)) (seen_by a.submitted.value)
  steps = taken.steps alone_there fed

  fresh : entries_of (splits_of begun + 2) (seen_by begun) ≡ []
  fresh = is.strangers (splits_of begun + 2) (omega arith)

  live : IsLive plan (root_in group) (seen_by first)
  live = subst (IsLive plan (root_in group)) joining.since.1 (line_on plan (root_in group) (seen_by begun) (splits_of begun) is.runs.0 (seen_by a.submitted.value) is.runs.1 fresh joining.since.0 all steps is.live)

  -- a seat that applied is one of an earlier run, or of this one
  elsewhere : {X : Type 0} → (n : ℕ) → n ≤ splits_of first → role_of_seat plan.workers n ≡ Applying → (n ≤ splits_of begun → X) → (splits_of begun + 2 < n → X) → X
  elsewhere {X} n low role before now = by (Rattle.std.proofs.Common.nat_le n (splits_of begun)) refl
    where
      by : (b : Bool) → Rattle.std.proofs.Common.nat_le n (splits_of begun) ≡ b → X
      by true e = before (Rattle.std.proofs.Common.leb-true n (splits_of begun) e)
      by false e = later (Rattle.std.proofs.Common.leb-false n (splits_of begun) e)
        where
          later : splits_of begun < n → X
          later above = dite (ℕ_discrete n (splits_of begun + 1)) (λ is1. absurd (let r = first_role plan.workers (splits_of begun) is.runs.0 n is.runs.1 is1 in cc))
              (λ no1. dite (ℕ_discrete n (splits_of begun + 2)) (λ is2. absurd (let r = second_role plan.workers (splits_of begun) is.runs.0 n is.runs.1 is2 in cc))
              (λ no2. now (omega arith)))

  -- no seat up to the last has a job in hand
  all_free : ((n : ℕ) → n ≤ splits_of begun → entries_of n (seen_by mid) ≡ entries_of n (seen_by begun)) → ((n : ℕ) → splits_of begun + 2 < n → n ≤ splits_of begun + plan.workers + 2 → (k : Key) → hand_of k None (entries_of n (seen_by first)) ≡ None) → AllFree plan first
  all_free before free n low role k = elsewhere n low role (λ under. ap (hand_of k None) (same n (omega arith) ∙ before n under) ∙ is.free n under role k) (λ above. free n above (omega (arith, low, joining.splits)) k)

  pub line_again : ((n : ℕ) → n ≤ splits_of begun → entries_of n (seen_by mid) ≡ entries_of n (seen_by begun)) → ((n : ℕ) → splits_of begun + 2 < n → n ≤ splits_of begun + plan.workers + 2 → (k : Key) → hand_of k None (entries_of n (seen_by first)) ≡ None) → IsLineSeat group plan first
  line_again before free = record {
    at = (joining.seat.0, (joining.seat.1, omega (arith, joining.out, joining.splits)));
    runs = (suc is.runs.0, joining.splits ∙ (sym_split ∙ ap (λ m. m + (plan.workers + 2)) is.runs.1) ∙ sym (more is.runs.0 (plan.workers + 2)));
    gone = joining.gone ∙ ap down_from (omega (arith, joining.splits));
    strangers = joining.strangers;
    live = live;
    free = all_free before free;
  }
    where
      sym_split : splits_of begun + plan.workers + 2 ≡ splits_of begun + (plan.workers + 2)
      sym_split = omega arith

      more : (r c : ℕ) → suc r * c ≡ r * c + c
      more r c = Rattle.std.proofs.Math.Nat.suc-mul r c

  none_on : (h : ℕ) → SubmitsNone (root_in group) h (seen_by a.submitted.value) (seen_by first)
  none_on h = submits_none (root_in group) h (seen_by a.submitted.value) to_first.0 (seen_by first) to_first.1
      (others_quiet (splits_of begun + 1) (seen_by begun) (seen_by a.submitted.value) (seen_by first) taken.since to_first (same (splits_of begun + 1) (omega arith) ∙ taken.own) alone)

  pub stand_again : IsTrue (root_in group).told → AllStand (root_in group) (seen_by first) a.served.items
  stand_again told h s there = stands_on (root_in group) h (seen_by a.submitted.value) (seen_by first) to_first (none_on h) s.taken s.standing (taken.stand told alone_there fed h s there)

  pub made_again : HasMade plan.turns (root_in group) (seen_by first) a.next a.made
  made_again = made_as plan.turns (root_in group) (seen_by begun) joining.since.0 (seen_by first) (splits_of begun + 2) a.next a.made joining.since.1 fresh
      (delivers_alone plan (root_in group) (seen_by begun) (splits_of begun) is.runs.0 (seen_by a.submitted.value) is.runs.1 fresh joining.since.0 all steps)
      (delivered_finds plan.turns (root_in group) (seen_by begun) (splits_of begun + 2) ⊥ (seen_by mid) (seen_by first) a.next a.made (record { begins = on; own = same (splits_of begun + 2) (omega arith); exact = λ no. absurd no }) taken.delivered)

  -- and the seats that applied have ended
  pub ended_again : ((n : ℕ) → n ≤ splits_of begun → entries_of n (seen_by mid) ≡ entries_of n (seen_by begun)) → ((n : ℕ) → splits_of begun + 2 < n → n ≤ splits_of begun + plan.workers + 2 → HasRunOut n (entries_of n (seen_by first))) → AllEnded plan begun → AllEnded plan first
  ended_again before lasts old n low role = elsewhere n low role (λ under. subst (HasRunOut n) (sym (same n (omega arith) ∙ before n under)) (old n under role)) (λ above. lasts n above (omega (arith, low, joining.splits)))
