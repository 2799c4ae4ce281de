-- What is known of the seats of a run, as they are taken in.
use Rattle.std.proofs.Common.{◌≡◌, ◌⊎◌, inl, inr, ℕ, zero, suc, ◌+◌, ◌-◌, ◌<◌, ◌≤◌, Bool, true, false, ◌||◌, List, [], ◌∷◌, ◌++◌, length, None, Some, slice_get, arith, refl, sym, ap, ◌∙◌, subst, drop}
use mathlib.Core.Logic.{dite}
use native.Mathlib.Decide.{ℕ_discrete}
use Rattle.pf_turn.specs.Lists.{Begins, entries_of}
use Rattle.pf_turn.specs.Own.{AreKnown, EachOf}
use Rattle.pf_turn.proofs.Lists.{begins_refl, begins_trans, each_is}
use Rattle.pf_disk.specs.declared.disk.Disk.{Ghosts}
use Rattle.pf_live_seats.specs.pf_group.specs.GroupIs.{GroupIs}
use Rattle.pf_leadercell.specs.declared.cell.LeaderCell.{LeaderCell}
use Rattle.pf_live_seats.specs.pf_shared.specs.Hands.{Key, hand_of}
use Rattle.pf_live_seats.specs.pf_shared.specs.Moments.{entry}
use Rattle.pf_live_seats.specs.pf_shared.specs.declared.parts.GroupSeat.{GroupSeat}
use Rattle.pf_live_seats.specs.pf_shared.specs.declared.parts.SharedGroup.{SharedGroup}
use Rattle.pf_live_seats.specs.pf_shared.specs.Seats.{IsFirst, IsSeatOf, gone_of, number_of, out_of, root_in, seen_by, splits_of}
use Rattle.pf_live_seats.specs.declared.applying.Applier.{Applier}
use Rattle.pf_live_seats.specs.declared.hosting.HostSeat.{HostSeat}
use Rattle.pf_live_line.specs.declared.worker.Worker.{Worker}
use Rattle.pf_live_line.specs.declared.worker.Worker.TheVariants as any
use Rattle.pf_live_seats.specs.declared.line.HostRings.{HostRings}
use Rattle.pf_live_seats.specs.declared.plan.LinePlan.{LinePlan}
use Rattle.pf_live_seats.specs.declared.submitting.Submitter.{Submitter}
use Rattle.pf_live_seats.specs.declared.switching.Switch.{Switch}
use Rattle.pf_live_seats.specs.Deliveries.{LiveTrace}
use Rattle.pf_live_seats.specs.Roles.{Applies, HasRunOut}
use Rattle.pf_leadercell.specs.Passes as cells
use Rattle.pf_leadercell.specs.Passes.{IsPassOf}
use Rattle.pf_live_seats.specs.declared.serving.Served.{Served}
use Rattle.pf_live_seats.specs.Submitters.{AllFed, AllStand, IsServedIn, Submits, SubmitsAlone}
use Rattle.pf_live_seats.specs.Switches.{Delivers, HasDelivered}
use Rattle.pf_live_seats.proofs.Deliveries.{delivered_finds}
use Rattle.pf_live_line.specs.declared.taking.Taken.{Taken}
use Rattle.pf_live_line.specs.Taking.{IsTaken}
use Rattle.pf_live_seats.specs.Workers.{IsApplier}
use Rattle.pf_live_line.specs.Crews.{IsLineSeat}
use Rattle.pf_live_line.specs.Joining.{IsJoining}
use Rattle.pf_live_line.specs.Mustered.{AreCounted, AreHosts, HostsAreServed, IsDelivering, IsSubmitting}
use Rattle.pf_live_line.specs.Runs.{IsSince}
use Rattle.pf_live_line.proofs.Entries.{each_map, each_own, each_within}
use Rattle.pf_live_line.proofs.WorkersMustered.{hosts_count, hosts_snoc}

module _ (plan : LinePlan) (root : GroupIs) (begun : LiveTrace) (k : ℕ) (submitted : LiveTrace) where
  -- all entries stood there as the run began
  pub stood : (n : ℕ) → EachOf n (IsSince plan root begun k submitted n) begun
  stood n = each_map n (λ b e. length b < length begun) (IsSince plan root begun k submitted n) (λ b e low. inl low) [] begun (each_within n (length begun) [] begun (omega arith))

  pub knows_submitter : (n : ℕ) → n ≡ k + 1 → EachOf n (IsSince plan root begun k submitted n) submitted
  knows_submitter n is = each_map n (λ b e. Begins (b ++ entry n e ∷ []) submitted) (IsSince plan root begun k submitted n) (λ b e p. inr (inl (is, p))) [] submitted (each_own n submitted [] submitted refl)

  pub knows_switch : (n : ℕ) (list : LiveTrace) → n ≡ k + 2 → EachOf n (Delivers plan.turns root begun n) list → EachOf n (IsSince plan root begun k submitted n) list
  knows_switch n list is h = each_map n (Delivers plan.turns root begun n) (IsSince plan root begun k submitted n) (λ b e p. inr (inr (inl (is, p)))) [] list h

  pub knows_applier : (n : ℕ) (list : LiveTrace) → k + 2 < n → n ≤ k + plan.workers + 2 → EachOf n Applies list → EachOf n (IsSince plan root begun k submitted n) list
  knows_applier n list low high h = each_map n Applies (IsSince plan root begun k submitted n) (λ b e p. inr (inr (inr (low, high, p)))) [] list h

-- the first seat took in no seat of the run yet
module _ {D : Type 0} {disk : Ghosts D} (group : SharedGroup D disk) (plan : LinePlan) (begun submitted first : GroupSeat D disk) where
  pub joins_none : IsLineSeat group plan begun → IsSeatOf group first × IsFirst first → splits_of first ≡ splits_of begun + 2 + plan.workers → out_of first ≡ 2 + plan.workers → gone_of first ≡ gone_of begun → seen_by first ≡ seen_by begun → IsJoining group plan begun submitted (splits_of begun) first
  joins_none is seat splits out gone seen = record {
    seat = seat;
    splits = omega (arith, splits);
    gone = gone ∙ is.gone;
    out = omega (arith, splits, out);
    since = subst (Begins (seen_by begun)) (sym seen) (begins_refl (seen_by begun));
    known = subst (λ l. AreKnown (IsSince plan (root_in group) (seen_by begun) (splits_of begun) (seen_by submitted)) (gone_of first) l) (sym seen)
        (each_is (λ n. EachOf n (IsSince plan (root_in group) (seen_by begun) (splits_of begun) (seen_by submitted) n) (seen_by begun)) (gone_of first) (λ n. stood plan (root_in group) (seen_by begun) (splits_of begun) (seen_by submitted) n));
    own = subst (EachOf 0 (IsSince plan (root_in group) (seen_by begun) (splits_of begun) (seen_by submitted) 0)) (sym seen) (stood plan (root_in group) (seen_by begun) (splits_of begun) (seen_by submitted) 0);
    strangers = λ n above. ap (entries_of n) seen ∙ is.strangers n (omega (arith, above, splits));
  }

-- the workers that are still to come back, and what those did that came
module _ {D : Type 0} {disk : Ghosts D} (group : SharedGroup D disk) (cell : LeaderCell) (plan : LinePlan) (rings : List HostRings) (begun submitted mid : GroupSeat D disk) where
  pub record TakesBack (first : GroupSeat D disk) (rest : List (Worker D disk)) (hosts : List HostSeat) (room : ℕ) (wants : Bool) : Type 0 where
    pub h : ℕ
    pub n : ℕ
    pub counted : AreCounted group cell plan rings plan.hosts (splits_of begun + 3 + plan.workers) h n rest
    pub back : AreHosts plan rings h 0 hosts
    pub joining : IsJoining group plan begun submitted (n - 1) first
    pub low : splits_of begun + 3 ≤ n
    pub on : Begins (seen_by mid) (seen_by first)
    pub same : (m : ℕ) → m ≤ splits_of begun + 2 → entries_of m (seen_by first) ≡ entries_of m (seen_by mid)
    pub free : (m : ℕ) → splits_of begun + 2 < m → m < n → (k : Key) → hand_of k None (entries_of m (seen_by first)) ≡ None
    pub lasts : wants ≡ false → (m : ℕ) → splits_of begun + 2 < m → m < n → HasRunOut m (entries_of m (seen_by first))
    pub fits : plan.hosts ≤ room

  pub counted_ends : (he ne h n : ℕ) (xs : List (Worker D disk)) → AreCounted group cell plan rings he ne h n xs → (h ≤ he) × (n ≤ ne)
  counted_ends he ne h n [] are = (omega (arith, are.0), omega (arith, are.1))
  counted_ends he ne h n (any.Host b ∷ bs) are = let rest = counted_ends he ne (h + 1) n bs are.2 in (omega (arith, rest.0), rest.1)
  counted_ends he ne h n (any.Apply b ∷ bs) are = let rest = counted_ends he ne h (n + 1) bs are.2 in (rest.0, omega (arith, rest.1))
  counted_ends he ne h n (any.Submit b ∷ bs) are = absurd are
  counted_ends he ne h n (any.Switch b ∷ bs) are = absurd are

  -- a host came back
  pub takes_host : (first : GroupSeat D disk) (a : HostSeat) (rest : List (Worker D disk)) (hosts : List HostSeat) (room : ℕ) (wants : Bool) → TakesBack first (any.Host a ∷ rest) hosts room wants → TakesBack first rest (hosts ++ a ∷ []) room wants
  takes_host first a rest hosts room wants was = record {
    h = was.h + 1;
    n = was.n;
    counted = was.counted.2;
    back = hosts_snoc plan rings was.h 0 hosts a was.back was.counted.0 was.counted.1;
    joining = was.joining;
    low = was.low;
    on = was.on;
    same = was.same;
    free = was.free;
    lasts = was.lasts;
    fits = was.fits;
  }

  pub has_room : (first : GroupSeat D disk) (a : HostSeat) (rest : List (Worker D disk)) (hosts : List HostSeat) (room : ℕ) (wants : Bool) → TakesBack first (any.Host a ∷ rest) hosts room wants → length hosts < room
  has_room first a rest hosts room wants was = let ends = counted_ends plan.hosts (splits_of begun + 3 + plan.workers) (was.h + 1) was.n rest was.counted.2 in let count = hosts_count plan rings was.h 0 hosts was.back in let enough = was.fits in let low = ends.0 in omega arith

  pub applies_now : (first : GroupSeat D disk) (a : Applier D disk) (rest : List (Worker D disk)) (hosts : List HostSeat) (room : ℕ) (wants : Bool) → TakesBack first (any.Apply a ∷ rest) hosts room wants
      → IsApplier group a × IsJoining group plan begun submitted (number_of a.seat - 1) first × (splits_of begun + 2 < number_of a.seat) × (number_of a.seat ≤ splits_of begun + plan.workers + 2)
  applies_now first a rest hosts room wants was = let is : number_of a.seat ≡ was.n = was.counted.0 in let low = was.low in let ends = counted_ends plan.hosts (splits_of begun + 3 + plan.workers) was.h (was.n + 1) rest was.counted.2 in let high = ends.1 in (
    was.counted.1,
    subst (λ m. IsJoining group plan begun submitted (m - 1) first) (sym is) was.joining,
    omega arith,
    omega arith,
  )

  -- a seat that applied came back
  pub takes_apply : (first new : GroupSeat D disk) (a : Applier D disk) (rest : List (Worker D disk)) (hosts : List HostSeat) (room : ℕ) (wants told : Bool) → TakesBack first (any.Apply a ∷ rest) hosts room wants → IsJoining group plan begun submitted (number_of a.seat) new → Begins (seen_by first) (seen_by new)
      → ((n : ℕ) → n < number_of a.seat → entries_of n (seen_by new) ≡ entries_of n (seen_by first)) → ((k : Key) → hand_of k None (entries_of (number_of a.seat) (seen_by new)) ≡ None) → (told ≡ false → HasRunOut (number_of a.seat) (entries_of (number_of a.seat) (seen_by new))) → TakesBack new rest hosts room (wants || told)
  takes_apply first new a rest hosts room wants told was joining on others free last = let is : number_of a.seat ≡ was.n = was.counted.0 in let low = was.low in record {
    h = was.h;
    n = was.n + 1;
    counted = was.counted.2;
    back = was.back;
    joining = let shifted : number_of a.seat ≡ (was.n + 1) - 1 = omega arith in subst (λ m. IsJoining group plan begun submitted m new) shifted joining;
    low = omega arith;
    on = begins_trans (seen_by mid) (seen_by first) (seen_by new) was.on on;
    same = λ m under. others m (omega arith) ∙ was.same m under;
    free = λ m above under k. dite (ℕ_discrete m (number_of a.seat))
        (λ here. subst (λ x. hand_of k None (entries_of x (seen_by new)) ≡ None) (sym here) (free k))
        (λ other. ap (hand_of k None) (others m (omega arith)) ∙ was.free m above (omega arith) k);
    lasts = λ none m above under. dite (ℕ_discrete m (number_of a.seat))
        (λ here. subst (λ x. HasRunOut x (entries_of x (seen_by new))) (sym here) (last (neither_second wants told none)))
        (λ other. subst (HasRunOut m) (sym (others m (omega arith))) (was.lasts (neither_first wants told none) m above (omega arith)));
    fits = was.fits;
  }
    where
      neither_first : (b c : Bool) → (b || c) ≡ false → b ≡ false
      neither_first true c e = e
      neither_first false c e = refl

      neither_second : (b c : Bool) → (b || c) ≡ false → c ≡ false
      neither_second true c e = absurd cc
      neither_second false c e = e

  -- all are back
  pub all_back : (first : GroupSeat D disk) (rest : List (Worker D disk)) (hosts : List HostSeat) (room : ℕ) (wants : Bool) → TakesBack first rest hosts room wants → rest ≡ drop 1 rest → wants ≡ false
      → (m : ℕ) → splits_of begun + 2 < m → m ≤ splits_of begun + plan.workers + 2 → HasRunOut m (entries_of m (seen_by first))
  all_back first [] hosts room wants was shorter none m above under = let all = was.counted.1 in was.lasts none m above (omega (arith, all, under))
  all_back first (w ∷ ws) hosts room wants was shorter none m above under = absurd (let less : suc (length ws) ≡ length ws = ap length shorter in omega (arith, less))

-- both seats were taken in
module _ {D : Type 0} {disk : Ghosts D} (group : SharedGroup D disk) (cell : LeaderCell) (plan : LinePlan) (rings : List HostRings) (begun : GroupSeat D disk) (s : Submitter D disk) (t : Switch D disk) (p : IsSubmitting group cell plan rings begun s) (q : IsDelivering group cell plan rings begun t) (a : Taken D disk) (one two : GroupSeat D disk) where
  submitted_as : SubmitsAlone (splits_of begun + 1) (seen_by begun) (seen_by s.seat) → SubmitsAlone (number_of s.seat) (seen_by s.begun.value) (seen_by s.seat)
  submitted_as al = subst (λ l. SubmitsAlone (number_of s.seat) l (seen_by s.seat)) (sym p.since) (subst (λ m. SubmitsAlone m (seen_by begun) (seen_by s.seat)) (sym p.number) al)

  did_as : HasDelivered plan.turns (root_in group) (seen_by begun) (splits_of begun + 2) (seen_by t.seat) t.next t.made
  did_as = subst (λ m. HasDelivered plan.turns (root_in group) (seen_by begun) m (seen_by t.seat) t.next t.made) q.number
      (subst (λ l. HasDelivered plan.turns (root_in group) l (number_of t.seat) (seen_by t.seat) t.next t.made) q.since q.is.did)

  served_from : (h : ℕ) (ss : List Served) → h + length ss ≡ plan.hosts → ((j : ℕ) (x : Served) → slice_get ss j ≡ Some x → IsServedIn plan rings (h + j) x) → HostsAreServed plan rings plan.hosts h ss
  served_from h [] count each = omega (arith, count)
  served_from h (x ∷ xs) count each = (
    subst (λ m. IsServedIn plan rings m x) (Rattle.std.proofs.Common.add-zero h) (each 0 x refl),
    served_from (h + 1) xs (omega (arith, count)) (λ j y there. let shifted : h + suc j ≡ (h + 1) + j = omega arith in subst (λ m. IsServedIn plan rings m y) shifted (each (suc j) y there)),
  )

  pub after_two : a.submitted.value ≡ s.seat → a.served ≡ s.served → a.leaders ≡ s.pass → a.first ≡ t.pass → a.next ≡ t.next → a.made ≡ t.made → Begins (seen_by s.seat) (seen_by one) → entries_of (number_of s.seat) (seen_by one) ≡ entries_of (number_of s.seat) (seen_by s.seat)
      → IsJoining group plan begun a.submitted.value (number_of t.seat) two → Begins (seen_by one) (seen_by two) → Begins (seen_by t.seat) (seen_by two) → ((n : ℕ) → n < number_of t.seat → entries_of n (seen_by two) ≡ entries_of n (seen_by one))
      → entries_of (number_of t.seat) (seen_by two) ≡ entries_of (number_of t.seat) (seen_by t.seat) → IsTaken group cell plan rings begun a two
  after_two is served leaders first next made to_one own_one joining on to_two others own_two = record {
    joining = subst (λ m. IsJoining group plan begun a.submitted.value m two) q.number joining;
    since = subst (λ x. Begins (seen_by begun) (seen_by x)) (sym is) (subst (λ l. Begins l (seen_by s.seat)) p.since p.is.since);
    begins = subst (λ x. Begins (seen_by x) (seen_by two)) (sym is) (begins_trans (seen_by s.seat) (seen_by one) (seen_by two) to_one on);
    own = let n : number_of s.seat ≡ splits_of begun + 1 = p.number in let low : number_of s.seat < number_of t.seat = omega (arith, p.number, q.number) in
        subst (λ m. entries_of m (seen_by two) ≡ entries_of m (seen_by a.submitted.value)) n (others (number_of s.seat) low ∙ (own_one ∙ ap (λ x. entries_of (number_of s.seat) (seen_by x)) (sym is)));
    served = subst (λ v. HostsAreServed plan rings plan.hosts 0 v.items) (sym served) (served_from 0 s.served.items (omega (arith, p.is.hosts)) (λ j x there. subst (λ m. IsServedIn plan rings m x) (sym (Rattle.std.proofs.Common.zero-add j)) (p.is.each j x there)));
    steps = λ al fed. subst (λ x. EachOf (splits_of begun + 1) (Submits plan (root_in group)) (seen_by x)) (sym is) (subst (λ m. EachOf m (Submits plan (root_in group)) (seen_by s.seat)) p.number
        (p.is.steps (submitted_as (subst (λ x. SubmitsAlone (splits_of begun + 1) (seen_by begun) (seen_by x)) is al)) (subst (λ v. AllFed plan v.items) served fed)));
    stand = λ told al fed. subst (λ x. AllStand (root_in group) (seen_by x) a.served.items) (sym is) (subst (λ v. AllStand (root_in group) (seen_by s.seat) v.items) (sym served)
        (p.is.stand told (submitted_as (subst (λ x. SubmitsAlone (splits_of begun + 1) (seen_by begun) (seen_by x)) is al)) (subst (λ v. AllFed plan v.items) served fed)));
    delivered = subst (λ m. HasDelivered plan.turns (root_in group) (seen_by begun) (splits_of begun + 2) (seen_by two) m a.made) (sym next) (subst (λ m. HasDelivered plan.turns (root_in group) (seen_by begun) (splits_of begun + 2) (seen_by two) t.next m) (sym made)
        (delivered_finds plan.turns (root_in group) (seen_by begun) (splits_of begun + 2) ⊥ (seen_by t.seat) (seen_by two) t.next t.made (record { begins = to_two; own = subst (λ m. entries_of m (seen_by two) ≡ entries_of m (seen_by t.seat)) q.number own_two; exact = λ no. absurd no }) did_as));
    publishes = subst (λ x. IsPassOf cell x × cells.IsFirstPass x) (sym first) q.is.pass;
    asks = subst (IsPassOf cell) (sym leaders) p.is.pass;
  }
