-- From the seats of one run to the line's list.
use Rattle.std.proofs.Common.{◌≡◌, ◌≢◌, ◌⊎◌, inl, inr, ℕ, zero, suc, ◌+◌, ◌-◌, ◌*◌, ◌%◌, ◌<◌, ◌≤◌, Bool, true, false, not, cond, ◌&&◌, ◌||◌, ◌==◌, eqb, eqb-true, [], ◌∷◌, ◌++◌, length, length-append, None, Option, find, sum_by, append_assoc, append-nil, arith, refl, sym, ap, ◌∙◌, subst}
use Rattle.std.specs.List.{range_with_len}
use Rattle.std.proofs.lemmas.List.Folds.{list_any-append}
use Rattle.std.proofs.lemmas.List.Sums.{sum_by-append, sum_by-cons}
use Rattle.std.proofs.lemmas.Nat.{mod-mul-add}
use Rattle.pf_entry.specs.Lists.{Every}
use Rattle.pf_turn.specs.declared.log.Stamped.{Stamped}
use Rattle.pf_turn.specs.Lists.{Begins, entries_of}
use Rattle.pf_turn.specs.Own.{AllAfter, AllOfSeats, EachOf}
use Rattle.pf_turn.proofs.Lists.{begins_refl, entries-append}
use Rattle.pf_protocol.specs.Groups.{Group}
use Rattle.pf_protocol.specs.declared.events.Event.{Event}
use Rattle.pf_protocol.specs.declared.events.Event.TheVariants.{Submit, Deliver}
use Rattle.pf_live_seats.specs.pf_group.specs.GroupIs.{GroupIs}
use Rattle.pf_live_seats.specs.pf_group.specs.Packets.{is_left_in, is_refused_for_room}
use Rattle.pf_live_seats.specs.pf_shared.specs.declared.moment.SeatMoment.{SeatMoment}
use Rattle.pf_live_seats.specs.pf_shared.specs.declared.moment.SeatMoment.TheVariants.{Happened, Look}
use Rattle.pf_live_seats.specs.pf_shared.specs.Moments.{entry}
use Rattle.pf_live_seats.specs.pf_shared.specs.Since.{state_by_now}
use Rattle.pf_live_seats.specs.pf_shared.proofs.Since.{rest_of_all}
use Rattle.pf_live_seats.specs.declared.plan.LinePlan.{LinePlan}
use Rattle.pf_live_seats.specs.Deliveries.{IsNextDelivery, LiveTrace, deliveries, delivers, is_delivery_event, is_delivery_of, is_passed, passes_over}
use Rattle.pf_live_seats.specs.Lines.{Applying, Delivering, SeatDoes, DoesAs, IsLive, Submitting, role_at, role_of_seat}
use Rattle.pf_live_seats.specs.Roles.{Applies, is_applying}
use Rattle.pf_live_seats.specs.Submitters.{Submits, SubmitsAlone, is_submit, moment_submits}
use Rattle.pf_live_seats.specs.Switches.{Delivers}
use Rattle.pf_live_seats.proofs.Submissions.{every_snoc}
use Rattle.pf_live_line.specs.Runs.{IsOfRun, IsSince}
use Rattle.pf_live_line.proofs.Entries.{all_join, all_map, all_rest, each_at, every_of}

-- the roles of a run's seats, by their numbers
pub first_role : (w k r n : ℕ) → k ≡ r * (w + 2) → n ≡ k + 1 → role_of_seat w n ≡ Submitting
first_role w k r zero is n = refl
first_role w k r (suc m) is n = let same : m ≡ k = omega arith in ap role_at (ap (λ x. x % (w + 2)) (same ∙ (is ∙ sym (Rattle.std.proofs.Common.add-zero (r * (w + 2))))) ∙ mod-mul-add r (w + 2) 0 (omega arith))

pub second_role : (w k r n : ℕ) → k ≡ r * (w + 2) → n ≡ k + 2 → role_of_seat w n ≡ Delivering
second_role w k r zero is n = absurd (omega arith)
second_role w k r (suc m) is n = let same : m ≡ k + 1 = omega arith in ap role_at (ap (λ x. x % (w + 2)) (same ∙ ap (λ x. x + 1) is) ∙ mod-mul-add r (w + 2) 1 (omega arith))

applies_at : (j : ℕ) → 1 < j → role_at j ≡ Applying
applies_at zero low = absurd (omega arith)
applies_at (suc zero) low = absurd (omega arith)
applies_at (suc (suc j)) low = refl

other_role : (w k r n : ℕ) → k ≡ r * (w + 2) → k + 2 < n → n ≤ k + w + 2 → role_of_seat w n ≡ Applying
other_role w k r zero is low high = absurd (omega arith)
other_role w k r (suc m) is low high = let same : m ≡ k + (m - k) = omega arith in
    ap role_at (ap (λ x. x % (w + 2)) (same ∙ ap (λ x. x + (m - k)) is) ∙ mod-mul-add r (w + 2) (m - k) (omega arith)) ∙ applies_at (m - k) (omega arith)

-- who submits delivers nothing and who applies does neither
applying_not_submit : (event : Event) → is_applying event ≡ true → is_submit event ≡ false
applying_not_submit (Submit server op) is = absurd cc
applying_not_submit event is = refl

applying_not_delivery : (event : Event) → is_applying event ≡ true → is_delivery_event event ≡ false
applying_not_delivery (Deliver k) is = absurd cc
applying_not_delivery event is = refl

not_delivery_of : (k : ℕ) (event : Event) → is_delivery_event event ≡ false → is_delivery_of k event ≡ false
not_delivery_of k (Deliver j) is = absurd cc
not_delivery_of k event is = refl

abbrev is_delivering : SeatMoment → Bool
is_delivering (Happened h) = is_delivery_event h.event
is_delivering (Look read) = false

not_counted : (what : SeatMoment) → is_delivering what ≡ false → delivers what ≡ false
not_counted (Happened h) is = ap (λ b. b && not (is_refused_for_room h.answer)) is
not_counted (Look read) is = refl

not_passing : (k : ℕ) (what : SeatMoment) → is_delivering what ≡ false → passes_over k what ≡ false
not_passing k (Happened h) is = ap (λ b. b && is_refused_for_room h.answer) (not_delivery_of k h.event is)
not_passing k (Look read) is = refl

-- only seat n delivers in the list
abbrev pub DeliversAlone : (n : ℕ) → LiveTrace → Type 0
DeliversAlone n list = Every (λ (e : Stamped SeatMoment). e.seat ≢ n → is_delivering e.what ≡ false) list

not_equal : (m n : ℕ) → eqb m n ≡ false → m ≢ n
not_equal m n is same = absurd (let t = Rattle.std.proofs.Common.eq-eqb m n same in cc)

module _ (n : ℕ) where
  own_deliveries : (list : LiveTrace) → DeliversAlone n list → deliveries (entries_of n list) ≡ deliveries list
  own_deliveries [] h = refl
  own_deliveries (e ∷ es) h = by (eqb e.seat n) refl (own_deliveries es h.1)
    where
      whole_is : deliveries (e ∷ es) ≡ cond (delivers e.what) 1 0 + deliveries es
      whole_is = sum_by-cons (λ (x : Stamped SeatMoment). cond (delivers x.what) 1 0) e es

      by : (b : Bool) → eqb e.seat n ≡ b → deliveries (entries_of n es) ≡ deliveries es → deliveries (cond b (e ∷ entries_of n es) (entries_of n es)) ≡ deliveries (e ∷ es)
      by true is rest = sum_by-cons (λ (x : Stamped SeatMoment). cond (delivers x.what) 1 0) e (entries_of n es) ∙ (ap (λ m. cond (delivers e.what) 1 0 + m) rest ∙ sym whole_is)
      by false is rest = rest ∙ sym (whole_is ∙ (ap (λ b. cond b 1 0 + deliveries es) (not_counted e.what (h.0 (not_equal e.seat n is))) ∙ Rattle.std.proofs.Common.zero-add (deliveries es)))

  own_passed : (k : ℕ) (list : LiveTrace) → DeliversAlone n list → is_passed k (entries_of n list) ≡ is_passed k list
  own_passed k [] h = refl
  own_passed k (e ∷ es) h = by (eqb e.seat n) refl (own_passed k es h.1)
    where
      by : (b : Bool) → eqb e.seat n ≡ b → is_passed k (entries_of n es) ≡ is_passed k es → is_passed k (cond b (e ∷ entries_of n es) (entries_of n es)) ≡ is_passed k (e ∷ es)
      by true is rest = ap (λ c. passes_over k e.what || c) rest
      by false is rest = rest ∙ sym (ap (λ c. c || is_passed k es) (not_passing k e.what (h.0 (not_equal e.seat n is))))

-- after a list without entries of the seat, the seat's own entries have all deliveries
module _ (n : ℕ) (begun done : LiveTrace) (fresh : entries_of n begun ≡ []) (alone : DeliversAlone n done) where
  own_is : begun ++ entries_of n (begun ++ done) ≡ begun ++ entries_of n done
  own_is = ap (λ l. begun ++ l) (entries-append n begun done ∙ ap (λ l. l ++ entries_of n done) fresh)

  pub all_deliveries : deliveries (begun ++ entries_of n (begun ++ done)) ≡ deliveries (begun ++ done)
  all_deliveries = ap deliveries own_is ∙ (sum_by-append (λ (x : Stamped SeatMoment). cond (delivers x.what) 1 0) begun (entries_of n done)
      ∙ (ap (λ m. deliveries begun + m) (own_deliveries n done alone) ∙ sym (sum_by-append (λ (x : Stamped SeatMoment). cond (delivers x.what) 1 0) begun done)))

  pub all_passed : (k : ℕ) → is_passed k (begun ++ entries_of n (begun ++ done)) ≡ is_passed k (begun ++ done)
  all_passed k = ap (is_passed k) own_is ∙ (list_any-append (λ (x : Stamped SeatMoment). passes_over k x.what) begun (entries_of n done)
      ∙ (ap (λ c. is_passed k begun || c) (own_passed n k done alone) ∙ sym (list_any-append (λ (x : Stamped SeatMoment). passes_over k x.what) begun done)))

  next_delivery : (told : Bool) (turns : ℕ) (g : Group) (event : Event) → IsNextDelivery told turns g (begun ++ entries_of n (begun ++ done)) event → IsNextDelivery told turns g (begun ++ done) event
  next_delivery told turns g event d = let alike : (λ (k : ℕ). is_passed k (begun ++ done)) ≡ (λ (k : ℕ). is_passed k (begun ++ entries_of n (begun ++ done))) = λ i k. sym (all_passed k) i in record {
    k = d.k;
    is = d.is;
    least = λ yes. ap (λ (p : ℕ → Bool). find (λ k. is_left_in g k && not (p k)) (range_with_len 0 (length g.packets))) alike ∙ d.least yes;
    few = subst (λ m. m < turns) all_deliveries d.few;
  }

module _ (plan : LinePlan) (root : GroupIs) (begun : LiveTrace) (k r : ℕ) (submitted : LiveTrace) (runs : k ≡ r * (plan.workers + 2)) where
  -- the entries of the run, where its first seat submitted the hosts' next writes
  abbrev Did : (n : ℕ) → LiveTrace → SeatMoment → Type 0
  Did n before what = ((n ≡ k + 1) × Submits plan root before what) ⊎ (((n ≡ k + 2) × Delivers plan.turns root begun n before what) ⊎ ((k + 2 < n) × (n ≤ k + plan.workers + 2) × Applies before what))

  since_of : (n : ℕ) (b : LiveTrace) (e : SeatMoment) → Begins begun b → IsSince plan root begun k submitted n b e → IsOfRun plan root begun k submitted n b e
  since_of n b e on (inl low) = absurd (let longer = ap length (sym on.1) in omega (arith, length-append begun on.0))
  since_of n b e on (inr is) = is

  of_run : (rest : LiveTrace) → AllOfSeats (IsSince plan root begun k submitted) (begun ++ rest) → AllAfter (IsOfRun plan root begun k submitted) begun rest
  of_run rest h = all_map (IsSince plan root begun k submitted) (IsOfRun plan root begun k submitted) begun since_of begun rest (begins_refl begun) (all_rest (IsSince plan root begun k submitted) [] begun rest h)

  delivers_only : (n : ℕ) (b : LiveTrace) (what : SeatMoment) → Delivers plan.turns root begun n b what → moment_submits what ≡ false
  delivers_only n b (Happened h) d = ap is_submit d.is
  delivers_only n b (Look read) d = refl

  applies_only : (b : LiveTrace) (what : SeatMoment) → Applies b what → moment_submits what ≡ false
  applies_only b (Happened h) a = applying_not_submit h.event a
  applies_only b (Look read) a = absurd a

  no_submit : (e : Stamped SeatMoment) (b : LiveTrace) → IsOfRun plan root begun k submitted e.seat b e.what → e.seat ≢ k + 1 → moment_submits e.what ≡ false
  no_submit e b (inl x) other = absurd (other x.0)
  no_submit e b (inr (inl x)) other = delivers_only e.seat b e.what x.1
  no_submit e b (inr (inr x)) other = applies_only b e.what x.2

  -- its first seat alone submits
  pub submits_alone : (rest : LiveTrace) → AllOfSeats (IsSince plan root begun k submitted) (begun ++ rest) → SubmitsAlone (k + 1) begun (begun ++ rest)
  submits_alone rest h = subst (Every (λ (e : Stamped SeatMoment). e.seat ≢ k + 1 → moment_submits e.what ≡ false)) (sym (rest_of_all begun rest))
      (every_of (IsOfRun plan root begun k submitted) (λ (e : Stamped SeatMoment). e.seat ≢ k + 1 → moment_submits e.what ≡ false) no_submit begun rest (of_run rest h))

  did_of : EachOf (k + 1) (Submits plan root) submitted → (n : ℕ) (b : LiveTrace) (e : SeatMoment) → Begins begun b → IsOfRun plan root begun k submitted n b e → Did n b e
  did_of steps n b e on (inl x) = inl (x.0, each_at (k + 1) (Submits plan root) submitted b e steps (subst (λ m. Begins (b ++ entry m e ∷ []) submitted) x.0 x.1))
  did_of steps n b e on (inr x) = inr x

  submits_only : (b : LiveTrace) (what : SeatMoment) → Submits plan root b what → is_delivering what ≡ false
  submits_only b (Happened h) s = ap is_delivery_event s.is
  submits_only b (Look read) s = refl

  applies_not : (b : LiveTrace) (what : SeatMoment) → Applies b what → is_delivering what ≡ false
  applies_not b (Happened h) a = applying_not_delivery h.event a
  applies_not b (Look read) a = absurd a

  no_delivery : (e : Stamped SeatMoment) (b : LiveTrace) → Did e.seat b e.what → e.seat ≢ k + 2 → is_delivering e.what ≡ false
  no_delivery e b (inl x) other = submits_only b e.what x.1
  no_delivery e b (inr (inl x)) other = absurd (other x.0)
  no_delivery e b (inr (inr x)) other = applies_not b e.what x.2

  does_submit : (n : ℕ) (b : LiveTrace) (what : SeatMoment) → role_of_seat plan.workers n ≡ Submitting → Submits plan root b what → SeatDoes plan root n b what
  does_submit n b (Happened h) role s = subst (λ x. DoesAs x plan root b h.event) (sym role) s
  does_submit n b (Look read) role s = s

  does_apply : (n : ℕ) (b : LiveTrace) (what : SeatMoment) → role_of_seat plan.workers n ≡ Applying → Applies b what → SeatDoes plan root n b what
  does_apply n b (Happened h) role a = subst (λ x. DoesAs x plan root b h.event) (sym role) a
  does_apply n b (Look read) role a = absurd a

  module _ (fresh : entries_of (k + 2) begun ≡ []) where
    does_deliver : (done : LiveTrace) → DeliversAlone (k + 2) done → (what : SeatMoment) → Delivers plan.turns root begun (k + 2) (begun ++ done) what → SeatDoes plan root (k + 2) (begun ++ done) what
    does_deliver done alone (Happened h) d = subst (λ x. DoesAs x plan root (begun ++ done) h.event) (sym (second_role plan.workers k r (k + 2) runs refl)) (next_delivery (k + 2) begun done fresh alone root.told plan.turns (state_by_now root (begun ++ done)) h.event d)
    does_deliver done alone (Look read) d = d

    does_one : (n : ℕ) (done : LiveTrace) → DeliversAlone (k + 2) done → (what : SeatMoment) → Did n (begun ++ done) what → SeatDoes plan root n (begun ++ done) what
    does_one n done alone what (inl x) = does_submit n (begun ++ done) what (first_role plan.workers k r n runs x.0) x.1
    does_one n done alone what (inr (inl x)) = subst (λ m. SeatDoes plan root m (begun ++ done) what) (sym x.0) (does_deliver done alone what (subst (λ m. Delivers plan.turns root begun m (begun ++ done) what) x.0 x.1))
    does_one n done alone what (inr (inr x)) = does_apply n (begun ++ done) what (other_role plan.workers k r n runs x.0 x.1) x.2

    does_all : (done rest : LiveTrace) → DeliversAlone (k + 2) done → AllAfter Did (begun ++ done) rest → AllAfter (SeatDoes plan root) (begun ++ done) rest
    does_all done [] alone h = tt
    does_all done (e ∷ es) alone h = (
      does_one e.seat done alone e.what h.0,
      subst (λ l. AllAfter (SeatDoes plan root) l es) (sym (append_assoc begun done (e ∷ [])))
          (does_all (done ++ e ∷ []) es (every_snoc (λ (x : Stamped SeatMoment). x.seat ≢ k + 2 → is_delivering x.what ≡ false) done e alone (no_delivery e (begun ++ done) h.0)) (subst (λ l. AllAfter Did l es) (append_assoc begun done (e ∷ [])) h.1)),
    )

    module _ (rest : LiveTrace) (since : AllOfSeats (IsSince plan root begun k submitted) (begun ++ rest)) (steps : EachOf (k + 1) (Submits plan root) submitted) where
      did_all : AllAfter Did begun rest
      did_all = all_map (IsOfRun plan root begun k submitted) Did begun (did_of steps) begun rest (begins_refl begun) (of_run rest since)

      -- its second seat alone delivers
      pub delivers_alone : DeliversAlone (k + 2) rest
      delivers_alone = every_of Did (λ (e : Stamped SeatMoment). e.seat ≢ k + 2 → is_delivering e.what ≡ false) no_delivery begun rest did_all

      -- the list goes on as that of a line
      pub line_on : IsLive plan root begun → IsLive plan root (begun ++ rest)
      line_on is = all_join (SeatDoes plan root) [] begun rest is (subst (λ l. AllAfter (SeatDoes plan root) l rest) (append-nil begun) (does_all [] rest tt (subst (λ l. AllAfter Did l rest) (sym (append-nil begun)) did_all)))
