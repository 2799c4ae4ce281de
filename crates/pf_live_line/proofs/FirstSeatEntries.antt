-- The list goes on by an entry of the first seat.
use Rattle.std.proofs.Common.{◌≡◌, ◌≢◌, ℕ, zero, suc, ◌+◌, Bool, true, false, cond, ◌||◌, eqb, eqb-true, List, [], ◌∷◌, ◌++◌, Option, None, Result, Ok, Err, IfOk, IsTrue, OnErr, sum_by, append-nil, arith, refl, sym, ap, ◌∙◌, subst}
use Rattle.std.proofs.lemmas.List.Folds.{list_any-append}
use Rattle.std.proofs.lemmas.List.Sums.{sum_by-append}
use Rattle.pf_turn.specs.declared.log.Stamped.{Stamped}
use Rattle.pf_turn.specs.Lists.{entries_of}
use Rattle.pf_turn.specs.Own.{AllOfSeats, down_from}
use Rattle.pf_turn.proofs.Lists.{begins_refl, begins_trans, entries-append}
use Rattle.pf_base.specs.declared.errors.NoMemory.{NoMemory}
use Rattle.pf_disk.specs.declared.disk.Disk.{Ghosts}
use Rattle.pf_protocol.specs.Groups.{Group}
use Rattle.pf_live_seats.specs.pf_group.specs.GroupIs.{GroupIs}
use Rattle.pf_live_seats.specs.pf_group.specs.Packets.{IsPassedUpTo, least_from}
use Rattle.pf_live_seats.specs.pf_group.proofs.PassedPackets.{least_is, passed_later}
use Rattle.pf_leadercell.specs.declared.cell.LeaderCell.{LeaderCell}
use Rattle.pf_live_seats.specs.pf_shared.specs.declared.moment.SeatMoment.{SeatMoment}
use Rattle.pf_live_seats.specs.pf_shared.specs.declared.moment.SeatMoment.TheVariants.{Look}
use Rattle.pf_live_seats.specs.pf_shared.specs.declared.parts.GroupSeat.{GroupSeat}
use Rattle.pf_live_seats.specs.pf_shared.specs.declared.parts.SharedGroup.{SharedGroup}
use Rattle.pf_live_seats.specs.pf_shared.specs.Calls.{Finds}
use Rattle.pf_live_seats.specs.pf_shared.specs.Looks.{Looks}
use Rattle.pf_live_seats.specs.pf_shared.specs.Hands.{hand_of}
use Rattle.pf_live_seats.specs.pf_shared.specs.Moments.{entry}
use Rattle.pf_live_seats.specs.pf_shared.specs.Seats.{IsAlone, IsSameSeat, IsSeatOf, number_of, root_in, seen_by}
use Rattle.pf_live_seats.specs.pf_shared.specs.Since.{state_by_now}
use Rattle.pf_live_seats.specs.declared.line.HostRings.{HostRings}
use Rattle.pf_live_seats.specs.declared.plan.LinePlan.{LinePlan}
use Rattle.pf_live_seats.specs.Deliveries.{LiveTrace, deliveries, delivers, is_passed, least_left_in_line, passes_over}
use Rattle.pf_live_seats.specs.Lines.{SeatDoes, IsLive}
use Rattle.pf_live_seats.specs.Roles.{HasRunOut}
use Rattle.pf_live_seats.specs.Submitters.{AllStand, SubmitsNone}
use Rattle.pf_live_seats.proofs.Deliveries.{sent_later}
use Rattle.pf_live_seats.proofs.Happenings.{state_more}
use Rattle.pf_live_seats.proofs.Stands.{stands_on}
use Rattle.pf_live_seats.proofs.Submissions.{submits_none}
use Rattle.pf_live_line.specs.declared.crew.Crew.{Crew}
use Rattle.pf_live_line.specs.Crews.{AllEnded, AllFree, HasMade, IsCrew, IsLineSeat}
use Rattle.pf_live_line.specs.Judging.{HasLooked, IsUnchanged}
use Rattle.pf_live_line.proofs.Entries.{all_join}

abbrev pub weigh : Bool → ℕ
weigh b = cond b 1 0

or_false : (b : Bool) → (b || false) ≡ b
or_false true = refl
or_false false = refl

apart : (n m : ℕ) → n ≢ m → eqb n m ≡ false
apart n m other = by (eqb n m) refl
  where
    by : (b : Bool) → eqb n m ≡ b → eqb n m ≡ false
    by true e = absurd (other (eqb-true n m e))
    by false e = e

-- an entry of seat n
module _ (n : ℕ) (list : LiveTrace) (what : SeatMoment) where
  abbrev more : LiveTrace
  more = list ++ entry n what ∷ []

  pub others_same : (m : ℕ) → n ≢ m → entries_of m more ≡ entries_of m list
  others_same m other = entries-append m list (entry n what ∷ []) ∙ (ap (λ b. entries_of m list ++ cond b (entry n what ∷ []) []) (apart n m other) ∙ append-nil (entries_of m list))

  pub live_more : (P : ℕ → LiveTrace → SeatMoment → Type 0) → AllOfSeats P list → P n list what → AllOfSeats P more
  live_more P all here = all_join P [] list (entry n what ∷ []) all (here, tt)

  -- that delivers nothing
  module _ (none : (k : ℕ) → passes_over k what ≡ false) (uncounted : delivers what ≡ false) where
    pub passed_same : (k : ℕ) → is_passed k more ≡ is_passed k list
    passed_same k = list_any-append (λ (e : Stamped SeatMoment). passes_over k e.what) list (entry n what ∷ []) ∙ (ap (λ b. is_passed k list || (b || false)) (none k) ∙ or_false (is_passed k list))

    pub count_same : deliveries more ≡ deliveries list
    count_same = let f : Stamped SeatMoment → ℕ = λ e. weigh (delivers e.what) in let s : sum_by f more ≡ sum_by f list + (0 + weigh (delivers what)) = sum_by-append f list (entry n what ∷ []) in let c : weigh (delivers what) ≡ 0 = ap weigh uncounted in omega (arith, s, c)

    pub made_more : (turns : ℕ) (root : GroupIs) (next made : ℕ) → HasMade turns root list next made → HasMade turns root more next made
    made_more turns root next made h = let sent = sent_later root list more (entry n what ∷ [], refl) in
        let later : IsTrue root.told → IsPassedUpTo (state_by_now root more) (λ k. is_passed k list) next = λ told. passed_later (state_by_now root list) (λ k. is_passed k list) next (h.passed told) (state_by_now root more) (λ k is. sent.none k is) (h.sent told) in record {
          sent = λ told. omega (arith, h.sent told, sent.longer);
          passed = λ told. record { below = λ k is. (later told).below k (sym (passed_same k) ∙ is); all = λ k low left. passed_same k ∙ (later told).all k low left };
          count = h.count ∙ sym count_same;
          within = h.within;
        }

-- a look
module _ (root : GroupIs) (n : ℕ) (list : LiveTrace) where
  abbrev looked : LiveTrace
  looked = list ++ entry n (Look None) ∷ []

  state_same : state_by_now root looked ≡ state_by_now root list
  state_same = sym (state_more root list (entry n (Look None) ∷ []) looked refl)

  none_more : (h : ℕ) → SubmitsNone root h list looked
  none_more h = submits_none root h list (entry n (Look None) ∷ []) looked refl (refl, tt)

  pub look_unchanged : IsUnchanged root list looked
  look_unchanged = record {
    begins = (entry n (Look None) ∷ [], refl);
    state = state_same;
    passed = passed_same n list (Look None) (λ k. refl) refl;
    count = count_same n list (Look None) (λ k. refl) refl;
    none = none_more;
  }

pub unchanged_refl : (root : GroupIs) (list : LiveTrace) → IsUnchanged root list list
unchanged_refl root list = record { begins = begins_refl list; state = refl; passed = λ k. refl; count = refl; none = λ h. record { slots = refl; numbers = refl } }

pub unchanged_trans : (root : GroupIs) (a b c : LiveTrace) → IsUnchanged root a b → IsUnchanged root b c → IsUnchanged root a c
unchanged_trans root a b c p q = record {
  begins = begins_trans a b c p.begins q.begins;
  state = q.state ∙ p.state;
  passed = λ k. q.passed k ∙ p.passed k;
  count = q.count ∙ p.count;
  none = λ h. record { slots = (q.none h).slots ∙ (p.none h).slots; numbers = (q.none h).numbers ∙ (p.none h).numbers };
}

-- where it alone is, the look stands at the end of what it had seen
pub alone_look : (root : GroupIs) (n : ℕ) (alone : Type 0) (seen new : LiveTrace) (P : Group → Type 0) → alone → Looks root n alone seen P new → (new ≡ seen ++ entry n (Look None) ∷ []) × (IsTrue root.told → P (state_by_now root new))
alone_look root n alone seen new P is look =
    let there : look.adds.found ≡ seen = look.adds.finds.exact is in
    let listed : new ≡ seen ++ entry n (Look None) ∷ [] = look.adds.listed ∙ ap (λ l. l ++ entry n (Look None) ∷ []) there in
    let state : state_by_now root look.adds.found ≡ state_by_now root new = ap (state_by_now root) there ∙ (sym (look_unchanged root n seen).state ∙ ap (state_by_now root) (sym listed)) in
    (listed, λ told. subst P state (look.shown told))

module _ {D : Type 0} {disk : Ghosts D} (group : SharedGroup D disk) (plan : LinePlan) (a b : GroupSeat D disk) (is : IsLineSeat group plan a) (at : IsSeatOf group b) (same : IsSameSeat a b) where
  free_more : (what : SeatMoment) → seen_by b ≡ seen_by a ++ entry (number_of a) what ∷ [] → AllFree plan b
  free_more what listed zero low role k = absurd cc
  free_more what listed (suc m) low role k = ap (λ l. hand_of k None (entries_of (suc m) l)) listed ∙ (ap (hand_of k None) (others_same (number_of a) (seen_by a) what (suc m) (λ e. absurd (omega (arith, is.at.1.0, e)))) ∙ is.free (suc m) (omega (arith, low, same.1)) role k)

  -- the seat made an entry
  pub seat_more : (what : SeatMoment) → seen_by b ≡ seen_by a ++ entry (number_of a) what ∷ [] → SeatDoes plan (root_in group) 0 (seen_by a) what → IsLineSeat group plan b
  seat_more what listed does = record {
    at = (at, (same.0 ∙ is.at.1.0, same.2 ∙ is.at.1.1));
    runs = (is.runs.0, same.1 ∙ is.runs.1);
    gone = same.3 ∙ (is.gone ∙ ap down_from (sym same.1));
    strangers = λ m above. ap (entries_of m) listed ∙ (others_same (number_of a) (seen_by a) what m (λ e. absurd (omega (arith, above, same.1, is.at.1.0, e))) ∙ is.strangers m (omega (arith, above, same.1)));
    free = free_more what listed;
    live = subst (IsLive plan (root_in group)) (sym listed) (live_more (number_of a) (seen_by a) what (SeatDoes plan (root_in group)) is.live (subst (λ m. SeatDoes plan (root_in group) m (seen_by a) what) (sym is.at.1.0) does));
  }

  pub ended_more : (what : SeatMoment) → seen_by b ≡ seen_by a ++ entry (number_of a) what ∷ [] → AllEnded plan a → AllEnded plan b
  ended_more what listed ended zero low role = absurd cc
  ended_more what listed ended (suc m) low role = subst (HasRunOut (suc m)) (sym (ap (entries_of (suc m)) listed ∙ others_same (number_of a) (seen_by a) what (suc m) (λ e. absurd (omega (arith, is.at.1.0, e))))) (ended (suc m) (omega (arith, low, same.1)) role)

  -- or none
  pub seat_same : seen_by b ≡ seen_by a → IsLineSeat group plan b
  seat_same seen = record {
    at = (at, (same.0 ∙ is.at.1.0, same.2 ∙ is.at.1.1));
    runs = (is.runs.0, same.1 ∙ is.runs.1);
    gone = same.3 ∙ (is.gone ∙ ap down_from (sym same.1));
    strangers = λ m above. ap (entries_of m) seen ∙ is.strangers m (omega (arith, above, same.1));
    live = subst (IsLive plan (root_in group)) (sym seen) is.live;
    free = λ m low role k. ap (λ l. hand_of k None (entries_of m l)) seen ∙ is.free m (omega (arith, low, same.1)) role k;
  }

  pub ended_same : seen_by b ≡ seen_by a → AllEnded plan a → AllEnded plan b
  ended_same seen ended m low role = subst (λ l. HasRunOut m (entries_of m l)) (sym seen) (ended m (omega (arith, low, same.1)) role)

module _ {D : Type 0} {disk : Ghosts D} (group : SharedGroup D disk) (cell : LeaderCell) (plan : LinePlan) (rings : List HostRings) (a : Crew D disk) (is : IsCrew group cell plan rings a) where
  module _ (seat : GroupSeat D disk) (at : IsSeatOf group seat) (same : IsSameSeat a.seat seat) where
    -- it looked
    pub looked_more : seen_by seat ≡ seen_by a.seat ++ entry (number_of a.seat) (Look None) ∷ [] → HasLooked group cell plan rings a (record a { seat = seat })
    looked_more listed = let un = look_unchanged (root_in group) (number_of a.seat) (seen_by a.seat) in record {
      is = record {
        seat = seat_more group plan a.seat seat is.seat at same (Look None) listed refl;
        splits = is.splits ∙ sym same.1;
        met = is.met;
        stand = λ told. subst (λ l. AllStand (root_in group) l a.served.items) (sym listed) (λ h s there. stands_on (root_in group) h (seen_by a.seat) _ un.begins (un.none h) s.taken s.standing (is.stand told h s there));
        first = is.first;
        leaders = is.leaders;
        made = subst (λ l. HasMade plan.turns (root_in group) l a.next a.made) (sym listed) (made_more (number_of a.seat) (seen_by a.seat) (Look None) (λ k. refl) refl plan.turns (root_in group) a.next a.made is.made);
      };
      unchanged = subst (IsUnchanged (root_in group) (seen_by a.seat)) (sym listed) un;
      served = refl;
      seats = same.1;
      ended = ended_more group plan a.seat seat is.seat at same (Look None) listed;
    }

    -- or there was no memory for it
    pub looked_none : seen_by seat ≡ seen_by a.seat → HasLooked group cell plan rings a (record a { seat = seat })
    looked_none seen = record {
      is = record {
        seat = seat_same group plan a.seat seat is.seat at same seen;
        splits = is.splits ∙ sym same.1;
        met = is.met;
        stand = λ told. subst (λ l. AllStand (root_in group) l a.served.items) (sym seen) (is.stand told);
        first = is.first;
        leaders = is.leaders;
        made = subst (λ l. HasMade plan.turns (root_in group) l a.next a.made) (sym seen) is.made;
      };
      unchanged = subst (IsUnchanged (root_in group) (seen_by a.seat)) (sym seen) (unchanged_refl (root_in group) (seen_by a.seat));
      served = refl;
      seats = same.1;
      ended = ended_same group plan a.seat seat is.seat at same seen;
    }

    -- what a look told is so of the list as it is now
    module _ (P : Group → Type 0) (look : Looks (root_in group) (number_of a.seat) (IsAlone a.seat) (seen_by a.seat) P (seen_by seat)) where
      now : (seen_by seat ≡ seen_by a.seat ++ entry (number_of a.seat) (Look None) ∷ []) × (IsTrue (root_in group).told → P (state_by_now (root_in group) (seen_by seat)))
      now = alone_look (root_in group) (number_of a.seat) (IsAlone a.seat) (seen_by a.seat) (seen_by seat) P is.seat.at.1 look

      pub looks_on : HasLooked group cell plan rings a (record a { seat = seat })
      looks_on = looked_more now.0

      pub shown_now : IsTrue (root_in group).told → P (state_by_now (root_in group) (seen_by seat))
      shown_now = now.1

    pub finds_on : Finds (number_of a.seat) (IsAlone a.seat) (seen_by a.seat) (seen_by seat) → HasLooked group cell plan rings a (record a { seat = seat })
    finds_on f = looked_none (f.exact is.seat.at.1)

    module _ {A : Type 0} (P : A → Group → Type 0) where
      -- where there was memory for it, or not
      pub look_result : (r : Result A NoMemory) → IfOk r (λ x. Looks (root_in group) (number_of a.seat) (IsAlone a.seat) (seen_by a.seat) (P x) (seen_by seat)) → OnErr r (Finds (number_of a.seat) (IsAlone a.seat) (seen_by a.seat) (seen_by seat)) → HasLooked group cell plan rings a (record a { seat = seat })
      look_result (Ok x) look none = looks_on (P x) look
      look_result (Err e) look none = finds_on none

      pub look_shows : (r : Result A NoMemory) → IfOk r (λ x. Looks (root_in group) (number_of a.seat) (IsAlone a.seat) (seen_by a.seat) (P x) (seen_by seat)) → IfOk r (λ x. IsTrue (root_in group).told → P x (state_by_now (root_in group) (seen_by seat)))
      look_shows (Ok x) look = shown_now (P x) look
      look_shows (Err e) look = tt

  pub looked_refl : HasLooked group cell plan rings a a
  looked_refl = record { is = is; unchanged = unchanged_refl (root_in group) (seen_by a.seat); served = refl; seats = refl; ended = λ e. e }

  -- the least packet from the switch's next one on is the least that was not passed over
  pub least_now : IsTrue (root_in group).told → least_left_in_line (state_by_now (root_in group) (seen_by a.seat)) (seen_by a.seat) ≡ least_from a.next (state_by_now (root_in group) (seen_by a.seat))
  least_now told = least_is (state_by_now (root_in group) (seen_by a.seat)) (λ k. is_passed k (seen_by a.seat)) a.next (is.made.passed told)

pub least_shows : {D : Type 0} {disk : Ghosts D} (group : SharedGroup D disk) (cell : LeaderCell) (plan : LinePlan) (rings : List HostRings) (a : Crew D disk) (is : IsCrew group cell plan rings a) (r : Result (Option ℕ) NoMemory)
    → IfOk r (λ left. IsTrue (root_in group).told → left ≡ least_from a.next (state_by_now (root_in group) (seen_by a.seat))) → IfOk r (λ left. IsTrue (root_in group).told → least_left_in_line (state_by_now (root_in group) (seen_by a.seat)) (seen_by a.seat) ≡ left)
least_shows group cell plan rings a is (Ok left) shown = λ told. least_now group cell plan rings a is told ∙ sym (shown told)
least_shows group cell plan rings a is (Err e) shown = tt

pub looked_trans : {D : Type 0} {disk : Ghosts D} (group : SharedGroup D disk) (cell : LeaderCell) (plan : LinePlan) (rings : List HostRings) (a b c : Crew D disk) → HasLooked group cell plan rings a b → HasLooked group cell plan rings b c → HasLooked group cell plan rings a c
looked_trans group cell plan rings a b c p q = record {
  is = q.is;
  unchanged = unchanged_trans (root_in group) (seen_by a.seat) (seen_by b.seat) (seen_by c.seat) p.unchanged q.unchanged;
  served = q.served ∙ p.served;
  seats = q.seats ∙ p.seats;
  ended = λ e. q.ended (p.ended e);
}
