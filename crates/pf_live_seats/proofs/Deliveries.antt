-- What the switch has done, as others add entries and it adds its own.
use Rattle.std.proofs.Common.{◌≡◌, ℕ, ◌+◌, ◌<◌, Bool, IsTrue, true, false, not, cond, ◌&&◌, ◌||◌, ◌==◌, [], ◌∷◌, ◌++◌, Option, Some, None, length, sum_by, append_assoc, arith, refl, sym, ap, ◌∙◌, subst}
use Rattle.std.proofs.lemmas.List.Folds.{list_any-append}
use Rattle.std.proofs.lemmas.List.Sums.{sum_by-append}
use Rattle.pf_turn.specs.declared.log.Stamped.{Stamped}
use Rattle.pf_turn.specs.Lists.{Begins, entries_of}
use Rattle.pf_turn.specs.Own.{EachOf}
use Rattle.pf_protocol.specs.Groups.{Group}
use Rattle.pf_protocol.specs.declared.answers.Answer.{Answer}
use Rattle.pf_protocol.specs.declared.events.Event.TheVariants.{Deliver}
use Rattle.pf_shared.specs.pf_group.specs.GroupIs.{GroupIs}
use Rattle.pf_shared.specs.pf_group.specs.Packets.{IsPassedUpTo, is_refused_for_room, least_from}
use Rattle.pf_shared.specs.pf_group.proofs.SentPackets.{OnlySent, run_sent}
use Rattle.pf_shared.specs.pf_group.proofs.PassedPackets.{IsFound, least_found, least_is, one_more_passed, passed_further, passed_later}
use Rattle.pf_shared.specs.declared.moment.SeatMoment.{SeatMoment}
use Rattle.pf_shared.specs.declared.moment.SeatMoment.TheVariants.{Happened, Look}
use Rattle.pf_shared.specs.Moments.{entry, happenings}
use Rattle.pf_shared.specs.Since.{state_by_now}
use Rattle.pf_shared.specs.Calls.{Adds, Finds, SeatSteps}
use Rattle.pf_shared.specs.Delivering.{DeliversLeft}
use Rattle.pf_live_seats.specs.Deliveries.{LiveTrace, deliveries, delivers, is_passed, passes_over}
use Rattle.pf_live_seats.specs.Switches.{Delivers, HasDelivered, IsSwitch}
use Rattle.pf_live_seats.proofs.Happenings.{begins_snoc, state_more}
use Rattle.pf_live_seats.proofs.Hands.{each_adds, each_finds}
use Rattle.pf_disk.specs.declared.disk.Disk.{Ghosts}
use Rattle.pf_leadercell.specs.Passes.{IsFirstPass, IsPassOf}
use Rattle.pf_leadercell.specs.declared.cell.LeaderCell.{LeaderCell}
use Rattle.pf_shared.specs.declared.parts.SharedGroup.{SharedGroup}
use Rattle.pf_shared.specs.Seats.{IsSeatOf, number_of, root_in, seen_by}
use Rattle.pf_live_seats.specs.declared.switching.Switch.{Switch}

-- packets are only sent and marked
pub sent_later : (root : GroupIs) (seen new : LiveTrace) → Begins seen new → OnlySent (state_by_now root seen).packets (state_by_now root new).packets
sent_later root seen new p = subst (λ (g : Group). OnlySent (state_by_now root seen).packets g.packets) (state_more root seen p.0 new p.1) (run_sent root.setup (happenings p.0) (state_by_now root seen))

passed_alike : (g : Group) (p q : ℕ → Bool) (next : ℕ) → ((k : ℕ) → q k ≡ p k) → IsPassedUpTo g p next → IsPassedUpTo g q next
passed_alike g p q next alike h = record { below = λ k is. h.below k (sym (alike k) ∙ is); all = λ k low left. alike k ∙ h.all k low left }

or_none : (b c : Bool) → c ≡ false → (b || (c || false)) ≡ b
or_none true c is = refl
or_none false c is = ap (λ x. x || false) is

or_last : (b c d : Bool) → c ≡ d → (b || (c || false)) ≡ (b || d)
or_last true c d is = refl
or_last false true d is = is
or_last false false d is = is

-- one more entry
passed_snoc : (k : ℕ) (list : LiveTrace) (e : Stamped SeatMoment) → is_passed k (list ++ e ∷ []) ≡ (is_passed k list || (passes_over k e.what || false))
passed_snoc k list e = list_any-append (λ (x : Stamped SeatMoment). passes_over k x.what) list (e ∷ [])

deliveries_snoc : (list : LiveTrace) (e : Stamped SeatMoment) (c : ℕ) → cond (delivers e.what) 1 0 ≡ c → deliveries (list ++ e ∷ []) ≡ deliveries list + c
deliveries_snoc list e c is = let f : Stamped SeatMoment → ℕ = λ x. cond (delivers x.what) 1 0 in let s : sum_by f (list ++ e ∷ []) ≡ sum_by f list + (0 + cond (delivers e.what) 1 0) = sum_by-append f list (e ∷ []) in omega (arith, s, is)

and_true : (b c : Bool) → c ≡ true → (b && c) ≡ b
and_true true c is = is
and_true false c is = refl

and_false : (b c : Bool) → c ≡ false → (b && c) ≡ false
and_false true c is = is
and_false false c is = refl

module _ (turns : ℕ) (root : GroupIs) (begun : LiveTrace) (n : ℕ) (alone : Type 0) where
  -- others added entries
  pub delivered_finds : (seen new : LiveTrace) (next made : ℕ) → Finds n alone seen new → HasDelivered turns root begun n seen next made → HasDelivered turns root begun n new next made
  delivered_finds seen new next made f h = let sent = sent_later root seen new f.begins in record {
    steps = each_finds n (Delivers turns root begun n) alone seen new f h.steps;
    sent = λ told. omega (arith, h.sent told, sent.longer);
    passed = λ told. passed_alike (state_by_now root new) (λ k. is_passed k (begun ++ entries_of n seen)) (λ k. is_passed k (begun ++ entries_of n new)) next (λ k. ap (λ l. is_passed k (begun ++ l)) f.own)
        (passed_later (state_by_now root seen) (λ k. is_passed k (begun ++ entries_of n seen)) next (h.passed told) (state_by_now root new) (λ k is. sent.none k is) (h.sent told));
    count = h.count ∙ ap (λ l. deliveries (begun ++ l)) (sym f.own);
    within = h.within;
  }

  -- one more entry of its own
  own_more : (seen new : LiveTrace) (what : SeatMoment) → entries_of n new ≡ entries_of n seen ++ entry n what ∷ [] → begun ++ entries_of n new ≡ (begun ++ entries_of n seen) ++ entry n what ∷ []
  own_more seen new what own = ap (λ l. begun ++ l) own ∙ sym (append_assoc begun (entries_of n seen) (entry n what ∷ []))

  passed_more : (seen new : LiveTrace) (what : SeatMoment) → entries_of n new ≡ entries_of n seen ++ entry n what ∷ [] → (k : ℕ) → is_passed k (begun ++ entries_of n new) ≡ (is_passed k (begun ++ entries_of n seen) || (passes_over k what || false))
  passed_more seen new what own k = ap (is_passed k) (own_more seen new what own) ∙ passed_snoc k (begun ++ entries_of n seen) (entry n what)

  -- it looked
  pub delivered_look : (seen new : LiveTrace) (next made : ℕ) → Adds n alone seen (Look None) new → HasDelivered turns root begun n seen next made → HasDelivered turns root begun n new next made
  delivered_look seen new next made a h = let sent = sent_later root seen new (begins_snoc seen a.found new _ a.finds.begins a.listed) in record {
    steps = each_adds n (Delivers turns root begun n) alone seen new (Look None) a h.steps refl;
    sent = λ told. omega (arith, h.sent told, sent.longer);
    passed = λ told. passed_alike (state_by_now root new) (λ k. is_passed k (begun ++ entries_of n seen)) (λ k. is_passed k (begun ++ entries_of n new)) next
        (λ k. passed_more seen new (Look None) a.own k ∙ or_none (is_passed k (begun ++ entries_of n seen)) false refl)
        (passed_later (state_by_now root seen) (λ k. is_passed k (begun ++ entries_of n seen)) next (h.passed told) (state_by_now root new) (λ k is. sent.none k is) (h.sent told));
    count = let c = ap deliveries (own_more seen new (Look None) a.own) ∙ deliveries_snoc (begun ++ entries_of n seen) (entry n (Look None)) 0 refl in omega (arith, c, h.count);
    within = h.within;
  }

  -- it delivered the least packet from `next` on, where the disks tell their content
  module _ (seen new : LiveTrace) (next made k : ℕ) (answer : Answer) (h : HasDelivered turns root begun n seen next made) (s : SeatSteps root n alone seen (Deliver k) answer new) (least : IsTrue root.told → least_from next (state_by_now root s.adds.found) ≡ Some k) where
    abbrev what : SeatMoment
    what = Happened (record { event = Deliver k; answer = answer })

    there : HasDelivered turns root begun n s.adds.found next made
    there = delivered_finds seen s.adds.found next made s.adds.finds h

    found_it : IsTrue root.told → IsFound (Rattle.pf_shared.specs.pf_group.specs.Packets.is_left_in (state_by_now root s.adds.found)) next (length (state_by_now root s.adds.found).packets) k
    found_it told = least_found (state_by_now root s.adds.found) next k (least told)

    sent_on : OnlySent (state_by_now root s.adds.found).packets (state_by_now root new).packets
    sent_on = sent_later root s.adds.found new (entry n what ∷ [], sym s.adds.listed)

    own_on : entries_of n new ≡ entries_of n s.adds.found ++ entry n what ∷ []
    own_on = s.adds.own ∙ ap (λ l. l ++ entry n what ∷ []) (sym s.adds.finds.own)

    steps_on : made < turns → EachOf n (Delivers turns root begun n) new
    steps_on few = each_adds n (Delivers turns root begun n) alone seen new what s.adds h.steps record {
      k = k;
      is = refl;
      least = λ told. least_is (state_by_now root s.adds.found) (λ j. is_passed j (begun ++ entries_of n s.adds.found)) next (there.passed told) ∙ least told;
      few = subst (λ m. m < turns) there.count few;
    }

    further : IsTrue root.told → IsPassedUpTo (state_by_now root s.adds.found) (λ j. is_passed j (begun ++ entries_of n s.adds.found)) k
    further told = passed_further (state_by_now root s.adds.found) (λ j. is_passed j (begun ++ entries_of n s.adds.found)) next (there.passed told) k (found_it told)

    pub delivered_one : made < turns → is_refused_for_room answer ≡ false → HasDelivered turns root begun n new k (made + 1)
    delivered_one few not_over = record {
      steps = steps_on few;
      sent = λ told. omega (arith, (found_it told).under, sent_on.longer);
      passed = λ told. passed_later (state_by_now root s.adds.found) (λ j. is_passed j (begun ++ entries_of n new)) k
          (passed_alike (state_by_now root s.adds.found) (λ j. is_passed j (begun ++ entries_of n s.adds.found)) (λ j. is_passed j (begun ++ entries_of n new)) k
          (λ j. passed_more s.adds.found new what own_on j ∙ or_none (is_passed j (begun ++ entries_of n s.adds.found)) (passes_over j what) (and_false (k == j) (is_refused_for_room answer) not_over)) (further told))
          (state_by_now root new) (λ j is. sent_on.none j is) (omega (arith, (found_it told).under));
      count = let c = ap deliveries (own_more s.adds.found new what own_on) ∙ deliveries_snoc (begun ++ entries_of n s.adds.found) (entry n what) 1 (ap (λ b. cond (not b) 1 0) not_over) in omega (arith, c, there.count);
      within = omega (arith, few);
    }

    pub delivered_none : made < turns → is_refused_for_room answer ≡ true → HasDelivered turns root begun n new (k + 1) made
    delivered_none few over = record {
      steps = steps_on few;
      sent = λ told. omega (arith, (found_it told).under, sent_on.longer);
      passed = λ told. passed_later (state_by_now root s.adds.found) (λ j. is_passed j (begun ++ entries_of n new)) (k + 1)
          (one_more_passed (state_by_now root s.adds.found) (λ j. is_passed j (begun ++ entries_of n s.adds.found)) k (further told) (λ j. is_passed j (begun ++ entries_of n new))
          (λ j. passed_more s.adds.found new what own_on j ∙ or_last (is_passed j (begun ++ entries_of n s.adds.found)) (passes_over j what) (k == j) (and_true (k == j) (is_refused_for_room answer) over)))
          (state_by_now root new) (λ j is. sent_on.none j is) (omega (arith, (found_it told).under));
      count = let c = ap deliveries (own_more s.adds.found new what own_on) ∙ deliveries_snoc (begun ++ entries_of n s.adds.found) (entry n what) 0 (ap (λ b. cond (not b) 1 0) over) in omega (arith, c, there.count);
      within = h.within;
    }

-- none was left
pub looked_none : (root : GroupIs) (n : ℕ) (alone : Type 0) (seen : LiveTrace) (next : ℕ) (told : Option (ℕ × Answer)) (new : LiveTrace) → ((k : ℕ) (answer : Answer) → told ≡ Some (k, answer) → ⊥) → DeliversLeft root n alone seen next told new → Adds n alone seen (Look None) new
looked_none root n alone seen next None new not_some looks = looks.adds
looked_none root n alone seen next (Some (k, answer)) new not_some looks = absurd (not_some k answer refl)

-- the switch, whose number is known by another name
module _ {D : Type 0} {disk : Ghosts D} (group : SharedGroup D disk) (cell : LeaderCell) (turns : ℕ) (a b : Switch D disk) (at : IsSeatOf group b.seat) (same : number_of b.seat ≡ number_of a.seat) (begun : b.begun ≡ a.begun) (pass : IsPassOf cell b.pass × IsFirstPass b.pass) where
  pub is_switch : HasDelivered turns (root_in group) (seen_by a.begun.value) (number_of a.seat) (seen_by b.seat) b.next b.made → IsSwitch group cell turns b
  is_switch h = record {
    seat = at;
    did = subst (λ m. HasDelivered turns (root_in group) (seen_by b.begun.value) m (seen_by b.seat) b.next b.made) (sym same) (ap_begun h);
    pass = pass;
  }
    where
      ap_begun : HasDelivered turns (root_in group) (seen_by a.begun.value) (number_of a.seat) (seen_by b.seat) b.next b.made → HasDelivered turns (root_in group) (seen_by b.begun.value) (number_of a.seat) (seen_by b.seat) b.next b.made
      ap_begun h = subst (λ l. HasDelivered turns (root_in group) l (number_of a.seat) (seen_by b.seat) b.next b.made) (ap (λ s. seen_by s.value) (sym begun)) h
