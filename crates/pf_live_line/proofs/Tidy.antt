-- No seat of a line has a job in hand at its end.
use Rattle.std.proofs.Common.{◌≡◌, ◌≢◌, ℕ, ◌≤◌, Bool, true, false, cond, eqb, eqb-true, [], ◌∷◌, None, refl, sym, ap, ◌∙◌, subst}
use Rattle.pf_entry.specs.Lists.{Every}
use Rattle.pf_turn.specs.declared.log.Stamped.{Stamped}
use Rattle.pf_turn.specs.Lists.{entries_of}
use Rattle.pf_disk.specs.declared.disk.Disk.{Ghosts}
use Rattle.pf_protocol.specs.declared.answers.Answer.{Answer}
use Rattle.pf_protocol.specs.declared.events.Event.{Event}
use Rattle.pf_live_seats.specs.pf_group.specs.GroupIs.{GroupIs}
use Rattle.pf_live_seats.specs.pf_shared.specs.declared.moment.SeatMoment.{SeatMoment}
use Rattle.pf_live_seats.specs.pf_shared.specs.declared.moment.SeatMoment.TheVariants.{Happened, Look}
use Rattle.pf_live_seats.specs.pf_shared.specs.declared.parts.GroupSeat.{GroupSeat}
use Rattle.pf_live_seats.specs.pf_shared.specs.declared.parts.SharedGroup.{SharedGroup}
use Rattle.pf_live_seats.specs.pf_shared.specs.Hands.{Key, hand_after, hand_by, hand_of}
use Rattle.pf_live_seats.specs.pf_shared.specs.Seats.{root_in, seen_by, splits_of}
use Rattle.pf_live_seats.specs.declared.plan.LinePlan.{LinePlan}
use Rattle.pf_live_seats.specs.Deliveries.{LiveTrace}
use Rattle.pf_live_seats.specs.Lines.{Applying, Delivering, SeatDoes, DoesAs, IsLive, SeatRole, Submitting, role_of_seat}
use Rattle.pf_live_line.specs.Crews.{IsLineSeat}
use Rattle.pf_live_line.proofs.Entries.{every_of}

-- a seat that does not apply claims nothing
module _ (plan : LinePlan) (root : GroupIs) where
  idle_by : (k : Key) (role : SeatRole) (list : LiveTrace) (seat : ℕ) (event : Event) (answer : Answer) → role ≢ Applying → DoesAs role plan root list event → hand_by k None seat event answer ≡ None
  idle_by k Submitting list seat event answer other does = ap (λ e. hand_by k None seat e answer) does.is
  idle_by k Delivering list seat event answer other does = ap (λ e. hand_by k None seat e answer) does.is
  idle_by k Applying list seat event answer other does = absurd (other refl)

  idle_at : (k : Key) (n : ℕ) (list : LiveTrace) (what : SeatMoment) → role_of_seat plan.workers n ≢ Applying → SeatDoes plan root n list what → hand_after k None n what ≡ None
  idle_at k n list (Happened h) other does = idle_by k (role_of_seat plan.workers n) list n h.event h.answer other does
  idle_at k n list (Look read) other does = refl

  idle_all : (k : Key) (n : ℕ) (list : LiveTrace) → Every (λ (e : Stamped SeatMoment). role_of_seat plan.workers e.seat ≢ Applying → hand_after k None e.seat e.what ≡ None) list → role_of_seat plan.workers n ≢ Applying → hand_of k None (entries_of n list) ≡ None
  idle_all k n [] all other = refl
  idle_all k n (e ∷ es) all other = by (eqb e.seat n) refl (idle_all k n es all.1 other)
    where
      by : (b : Bool) → eqb e.seat n ≡ b → hand_of k None (entries_of n es) ≡ None → hand_of k None (cond b (e ∷ entries_of n es) (entries_of n es)) ≡ None
      by true is rest = ap (λ o. hand_of k o (entries_of n es)) (all.0 (subst (λ m. role_of_seat plan.workers m ≢ Applying) (sym (eqb-true e.seat n is)) other)) ∙ rest
      by false is rest = rest

  pub idle : (k : Key) (n : ℕ) (list : LiveTrace) → IsLive plan root list → role_of_seat plan.workers n ≢ Applying → hand_of k None (entries_of n list) ≡ None
  idle k n list live = idle_all k n list (every_of (SeatDoes plan root) (λ (e : Stamped SeatMoment). role_of_seat plan.workers e.seat ≢ Applying → hand_after k None e.seat e.what ≡ None) (λ e b does other. idle_at k e.seat b e.what other does) [] list live)

-- no seat has a job in hand at the end
module _ {D : Type 0} {disk : Ghosts D} (group : SharedGroup D disk) (plan : LinePlan) (seat : GroupSeat D disk) (is : IsLineSeat group plan seat) where
  by_role : (k : Key) (n : ℕ) → n ≤ splits_of seat → (role : SeatRole) → role_of_seat plan.workers n ≡ role → hand_of k None (entries_of n (seen_by seat)) ≡ None
  by_role k n low Applying e = is.free n low e k
  by_role k n low Submitting e = idle plan (root_in group) k n (seen_by seat) is.live (λ a. let no : Submitting ≡ Applying = sym e ∙ a in cc)
  by_role k n low Delivering e = idle plan (root_in group) k n (seen_by seat) is.live (λ a. let no : Delivering ≡ Applying = sym e ∙ a in cc)

  pub own_free : (k : Key) (n : ℕ) → hand_of k None (entries_of n (seen_by seat)) ≡ None
  own_free k n = by (Rattle.std.proofs.Common.nat_le n (splits_of seat)) refl
    where
      by : (b : Bool) → Rattle.std.proofs.Common.nat_le n (splits_of seat) ≡ b → hand_of k None (entries_of n (seen_by seat)) ≡ None
      by true e = by_role k n (Rattle.std.proofs.Common.leb-true n (splits_of seat) e) (role_of_seat plan.workers n) refl
      by false e = ap (hand_of k None) (is.strangers n (Rattle.std.proofs.Common.leb-false n (splits_of seat) e))
