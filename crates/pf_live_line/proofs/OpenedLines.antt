-- A line as it is opened.
use Rattle.std.proofs.Common.{◌≡◌, ℕ, zero, suc, ◌+◌, ◌<◌, List, [], ◌∷◌, ◌++◌, length, None, Some, slice_get, arith, refl, sym, ap, ◌∙◌, subst}
use Rattle.pf_entry.specs.Lists.{Every}
use Rattle.pf_turn.specs.Lists.{entries_of}
use Rattle.pf_turn.specs.Own.{AllOfSeats, down_from}
use Rattle.pf_disk.specs.declared.disk.Disk.{Ghosts}
use Rattle.pf_live_seats.specs.pf_group.specs.GroupIs.{GroupIs}
use Rattle.pf_rings.specs.Passes.{IsHostOf, IsServerOf, put_by, taken_by}
use Rattle.pf_live_seats.specs.pf_shared.specs.declared.parts.GroupSeat.{GroupSeat}
use Rattle.pf_live_seats.specs.pf_shared.specs.declared.parts.SharedGroup.{SharedGroup}
use Rattle.pf_live_seats.specs.pf_shared.specs.Hands.{hand_of}
use Rattle.pf_live_seats.specs.pf_shared.specs.Seats.{IsFirst, IsSeatOf, gone_of, out_of, root_in, seen_by, splits_of}
use Rattle.pf_live_seats.specs.declared.hosting.HostSeat.{HostSeat}
use Rattle.pf_live_seats.specs.declared.line.HostRings.{HostRings}
use Rattle.pf_live_seats.specs.declared.plan.LinePlan.{LinePlan}
use Rattle.pf_live_seats.specs.declared.serving.Served.{Served}
use Rattle.pf_live_seats.specs.Lines.{SeatDoes}
use Rattle.pf_live_seats.specs.Submitters.{AllStand, AreAnswered, SubmitterStands}
use Rattle.pf_live_line.specs.Crews.{HasMade, IsLineSeat}
use Rattle.pf_live_line.specs.Meeting.{AreMet, IsMet}
use Rattle.pf_live_line.specs.Opening.{ServedIsNew}

get_more : {X : Type 0} → (xs ys : List X) (j : ℕ) (x : X) → slice_get xs j ≡ Some x → slice_get (xs ++ ys) j ≡ Some x
get_more [] ys j x there = absurd cc
get_more (z ∷ zs) ys zero x there = there
get_more (z ∷ zs) ys (suc j) x there = get_more zs ys j x there

get_last : {X : Type 0} → (xs : List X) (x : X) → slice_get (xs ++ x ∷ []) (length xs) ≡ Some x
get_last [] x = refl
get_last (z ∷ zs) x = get_last zs x

module _ (plan : LinePlan) (rings : List HostRings) (pair : HostRings) where
  more_met : (h : ℕ) (a : HostSeat) (s : Served) → IsMet plan rings h a s → IsMet plan (rings ++ pair ∷ []) h a s
  more_met h a s is = record {
    number = is.number;
    host = record { pair = is.host.pair; there = get_more rings (pair ∷ []) a.host is.host.pair is.host.there; is = is.host.is };
    served = record { pair = is.served.pair; there = get_more rings (pair ∷ []) h is.served.pair is.served.there; is = is.served.is };
    order = is.order;
    fed = is.fed;
    answers = is.answers;
  }

  -- one more ring
  pub more_rings : (end h : ℕ) (xs : List HostSeat) (ss : List Served) → AreMet plan rings end h xs ss → AreMet plan (rings ++ pair ∷ []) end h xs ss
  more_rings end h [] [] are = are
  more_rings end h [] (t ∷ ts) are = absurd are
  more_rings end h (b ∷ bs) [] are = absurd are
  more_rings end h (b ∷ bs) (t ∷ ts) are = (more_met h b t are.0, more_rings end (h + 1) bs ts are.1)

  pub new_met : (h : ℕ) (a : HostSeat) (s : Served) → length rings ≡ h → a.host ≡ h → h < plan.hosts → (a.next ≡ 0) × (a.acked ≡ 0) → IsHostOf pair.requests a.pass × IsServerOf pair.requests s.pass → IsHostOf pair.answers s.answers × IsServerOf pair.answers a.answers
      → (put_by a.pass ≡ []) × (taken_by s.pass ≡ []) → (put_by s.answers ≡ []) × (taken_by a.answers ≡ []) → ServedIsNew s → IsMet plan (rings ++ pair ∷ []) h a s
  new_met h a s count number low none asks answers asked answered new = record {
    number = number;
    host = record {
      pair = pair;
      there = ap (slice_get (rings ++ pair ∷ [])) (number ∙ sym count) ∙ get_last rings pair;
      is = record {
        pass = asks.0;
        answers = answers.1;
        host = omega (arith, number, low);
        put = asked.0 ∙ ap (Rattle.pf_live_seats.specs.Writes.first_requests plan.sectors a.host) (sym none.0);
        within = omega (arith, none.0);
        told = ap length answered.1 ∙ sym none.1;
        before = omega (arith, none.0, none.1);
        once = omega (arith, none.0, none.1);
      };
    };
    served = record {
      pair = pair;
      there = ap (slice_get (rings ++ pair ∷ [])) (sym count) ∙ get_last rings pair;
      is = record {
        pass = asks.1;
        answers = answers.0;
        counted = record {
          count = ap length asked.1 ∙ sym new.0;
          few = omega (arith, new.0);
          answered = subst (AreAnswered (put_by s.answers) (taken_by s.pass)) (sym new.1) (answered.0 ∙ sym asked.1);
        };
      };
    };
    order = (put_by a.pass, ap (λ l. l ++ put_by a.pass) asked.1);
    fed = asked.1 ∙ ap (Rattle.pf_live_seats.specs.Writes.first_requests plan.sectors h) (sym new.0);
    answers = (put_by s.answers, ap (λ l. l ++ put_by s.answers) answered.1);
  }

new_at : (ss : List Served) → Every ServedIsNew ss → (h : ℕ) (s : Served) → slice_get ss h ≡ Some s → ServedIsNew s
new_at [] all h s there = absurd cc
new_at (t ∷ ts) all zero s there = let same : t ≡ s = cc in subst ServedIsNew same all.0
new_at (t ∷ ts) all (suc h) s there = new_at ts all.1 h s there

-- nothing was taken and nothing stands
pub new_stand : (root : GroupIs) (list : Rattle.pf_live_seats.specs.Deliveries.LiveTrace) (ss : List Served) → list ≡ [] → Every ServedIsNew ss → AllStand root list ss
new_stand root list ss none all h s there = let new = new_at ss all h s there in
    subst (λ l. SubmitterStands root h l s.taken s.standing) (sym none) (subst (λ y. SubmitterStands root h [] s.taken y) (sym new.1) (sym new.0, tt, tt))

pub new_made : (turns : ℕ) (root : GroupIs) (list : Rattle.pf_live_seats.specs.Deliveries.LiveTrace) → list ≡ [] → HasMade turns root list 0 0
new_made turns root list none = subst (λ l. HasMade turns root l 0 0) (sym none) record {
  sent = λ told. omega arith;
  passed = λ told. record { below = λ k is. absurd cc; all = λ k low left. absurd (omega arith) };
  count = refl;
  within = omega arith;
}

module _ {D : Type 0} {disk : Ghosts D} (group : SharedGroup D disk) (plan : LinePlan) (seat : GroupSeat D disk) where
  pub new_seat : IsSeatOf group seat → IsFirst seat × (splits_of seat ≡ 0) × (out_of seat ≡ 0) × (gone_of seat ≡ []) → seen_by seat ≡ [] → IsLineSeat group plan seat
  new_seat there first none = record {
    at = (there, (first.0, first.2));
    runs = (0, first.1 ∙ sym (Rattle.std.proofs.Math.Nat.zero-mul (plan.workers + 2)));
    gone = first.3 ∙ ap down_from (sym first.1);
    strangers = λ n above. ap (entries_of n) none;
    live = subst (AllOfSeats (SeatDoes plan (root_in group))) (sym none) tt;
    free = λ n low role k. ap (λ l. hand_of k None (entries_of n l)) none;
  }
