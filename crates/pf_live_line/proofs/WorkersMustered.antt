-- The workers of a run, as they are mustered and as they come back.
use Rattle.std.proofs.Common.{IsTrue, ◌≡◌, ℕ, zero, suc, ◌+◌, ◌<◌, ◌≤◌, Bool, true, false, true≢false, List, [], ◌∷◌, ◌++◌, length, Some, None, slice_get, append-nil, arith, refl, sym, ap, ◌∙◌, subst}
use Rattle.pf_live_crew.specs.Places.{Each, Pairs}
use Rattle.pf_turn.specs.Lists.{Begins, entries_of}
use Rattle.pf_turn.proofs.Lists.{begins_refl}
use Rattle.pf_turn.proofs.Own.{each_none}
use Rattle.pf_disk.specs.declared.disk.Disk.{Ghosts}
use Rattle.pf_live_seats.specs.pf_group.specs.GroupIs.{GroupIs}
use Rattle.pf_live_seats.specs.pf_group.specs.Packets.{IsPassedUpTo}
use Rattle.pf_leadercell.specs.Passes.{IsFirstPass, IsPassOf}
use Rattle.pf_leadercell.specs.declared.cell.LeaderCell.{LeaderCell}
use Rattle.pf_live_seats.specs.pf_shared.specs.declared.parts.GroupSeat.{GroupSeat}
use Rattle.pf_live_seats.specs.pf_shared.specs.declared.parts.SharedGroup.{SharedGroup}
use Rattle.pf_live_seats.specs.pf_shared.specs.Hands.{hand_of}
use Rattle.pf_live_seats.specs.pf_shared.specs.Seats.{IsSeatOf, number_of, root_in, seen_by, splits_of}
use Rattle.pf_live_seats.specs.pf_shared.specs.Since.{state_by_now}
use Rattle.pf_live_seats.specs.declared.applying.Applier.{Applier}
use Rattle.pf_live_seats.specs.declared.hosting.HostSeat.{HostSeat}
use Rattle.pf_live_seats.specs.declared.line.HostRings.{HostRings}
use Rattle.pf_live_seats.specs.declared.plan.LinePlan.{LinePlan}
use Rattle.pf_live_seats.specs.declared.serving.Served.{Served}
use Rattle.pf_live_seats.specs.declared.submitting.Submitter.{Submitter}
use Rattle.pf_live_seats.specs.declared.switching.Switch.{Switch}
use Rattle.pf_live_line.specs.declared.worker.Worker.{Worker}
use Rattle.pf_live_line.specs.declared.worker.Worker.TheVariants as any
use Rattle.pf_live_seats.specs.Deliveries.{LiveTrace, deliveries, is_passed}
use Rattle.pf_live_seats.specs.Roles.{Applies, GivesNoneBack}
use Rattle.pf_live_seats.specs.Submitters.{AllStand, IsServedIn, IsSubmitter, Submits}
use Rattle.pf_live_seats.specs.Switches.{Delivers, HasDelivered, IsSwitch}
use Rattle.pf_live_seats.specs.Workers.{IsApplier}
use Rattle.pf_live_line.specs.Working.{IsSameWorker, IsWorker, same_worker}
use Rattle.pf_live_seats.specs.Writes.{IsHostIn}
use Rattle.pf_live_line.specs.Crews.{HasMade}
use Rattle.pf_live_line.specs.Mustered.{AreCounted, AreHosts, AreMustered, HostsAreServed, IsDelivering, IsSubmitting}

-- as many as there are numbers
pub served_count : (plan : LinePlan) (rings : List HostRings) (end h : ℕ) (xs : List Served) → HostsAreServed plan rings end h xs → h + length xs ≡ end
served_count plan rings end h [] is = omega (arith, is)
served_count plan rings end h (a ∷ xs) is = let rest = served_count plan rings end (h + 1) xs is.1 in omega arith

pub served_none : (plan : LinePlan) (rings : List HostRings) (end h : ℕ) (xs : List Served) → HostsAreServed plan rings end h xs → h ≡ end → xs ≡ []
served_none plan rings end h [] is all = refl
served_none plan rings end h (a ∷ xs) is all = absurd (let rest = served_count plan rings end (h + 1) xs is.1 in omega arith)

pub hosts_count : (plan : LinePlan) (rings : List HostRings) (end h : ℕ) (xs : List HostSeat) → AreHosts plan rings end h xs → h + length xs ≡ end
hosts_count plan rings end h [] is = omega (arith, is)
hosts_count plan rings end h (a ∷ xs) is = let rest = hosts_count plan rings end (h + 1) xs is.2 in omega arith

pub served_at : (plan : LinePlan) (rings : List HostRings) (end h : ℕ) (xs : List Served) → HostsAreServed plan rings end h xs → (j : ℕ) (s : Served) → slice_get xs j ≡ Some s → IsServedIn plan rings (h + j) s
served_at plan rings end h [] is j s there = absurd cc
served_at plan rings end h (a ∷ xs) is zero s there = let same : a ≡ s = cc in subst (λ x. IsServedIn plan rings (h + 0) x) same (subst (λ m. IsServedIn plan rings m a) (sym (Rattle.std.proofs.Common.add-zero h)) is.0)
served_at plan rings end h (a ∷ xs) is (suc j) s there = let shifted : (h + 1) + j ≡ h + suc j = omega arith in subst (λ m. IsServedIn plan rings m s) shifted (served_at plan rings end (h + 1) xs is.1 j s there)

pub hosts_snoc : (plan : LinePlan) (rings : List HostRings) (end h : ℕ) (xs : List HostSeat) (a : HostSeat) → AreHosts plan rings end h xs → a.host ≡ end → IsHostIn plan rings a → AreHosts plan rings (end + 1) h (xs ++ a ∷ [])
hosts_snoc plan rings end h [] a are number is = (number ∙ sym are, is, ap (λ m. m + 1) are)
hosts_snoc plan rings end h (b ∷ bs) a are number is = (are.0, are.1, hosts_snoc plan rings end (h + 1) bs a are.2 number is)

-- a new seat has made no entry
pub has_begun : (turns : ℕ) (root : GroupIs) (list : LiveTrace) (n next made : ℕ) → entries_of n list ≡ [] → HasMade turns root list next made → HasDelivered turns root list n list next made
has_begun turns root list n next made fresh h = let same : list ≡ list ++ entries_of n list = sym (append-nil list) ∙ ap (λ l. list ++ l) (sym fresh) in record {
  steps = each_none n (Delivers turns root list n) [] list fresh;
  sent = h.sent;
  passed = λ told. subst (λ l. IsPassedUpTo (state_by_now root list) (λ k. is_passed k l) next) same (h.passed told);
  count = h.count ∙ ap deliveries same;
  within = h.within;
}

module _ {D : Type 0} {disk : Ghosts D} (group : SharedGroup D disk) (cell : LeaderCell) (plan : LinePlan) (rings : List HostRings) where
  pub new_applier : (a : Applier D disk) → IsSeatOf group a.seat → entries_of (number_of a.seat) (seen_by a.seat) ≡ [] → a.ended ≡ false → IsApplier group a
  new_applier a at fresh on = record {
    seat = at;
    steps = each_none (number_of a.seat) Applies [] (seen_by a.seat) fresh;
    free = λ k. ap (hand_of k None) fresh;
    kept = λ w. subst GivesNoneBack (sym fresh) tt;
    ended = λ e w. absurd (true≢false (sym e ∙ on));
  }

  pub new_switch : (a : Switch D disk) → IsSeatOf group a.seat → entries_of (number_of a.seat) (seen_by a.seat) ≡ [] → a.begun.value ≡ a.seat → HasMade plan.turns (root_in group) (seen_by a.seat) a.next a.made → IsPassOf cell a.pass × IsFirstPass a.pass → IsSwitch group cell plan.turns a
  new_switch a at fresh begun made pass = record {
    seat = at;
    did = subst (λ l. HasDelivered plan.turns (root_in group) l (number_of a.seat) (seen_by a.seat) a.next a.made) (ap seen_by (sym begun)) (has_begun plan.turns (root_in group) (seen_by a.seat) (number_of a.seat) a.next a.made fresh made);
    pass = pass;
  }

  pub new_submitter : (a : Submitter D disk) → IsSeatOf group a.seat → entries_of (number_of a.seat) (seen_by a.seat) ≡ [] → a.begun.value ≡ a.seat → IsPassOf cell a.pass → HostsAreServed plan rings plan.hosts 0 a.served.items → (IsTrue (root_in group).told → AllStand (root_in group) (seen_by a.seat) a.served.items) → IsSubmitter group cell plan rings a
  new_submitter a at fresh begun pass served stand = record {
    seat = at;
    pass = pass;
    since = subst (λ l. Begins l (seen_by a.seat)) (ap seen_by (sym begun)) (begins_refl (seen_by a.seat));
    hosts = let count = served_count plan rings plan.hosts 0 a.served.items served in omega (arith, count);
    each = λ h s there. subst (λ m. IsServedIn plan rings m s) (Rattle.std.proofs.Common.zero-add h) (served_at plan rings plan.hosts 0 a.served.items served h s there);
    steps = λ alone fed. each_none (number_of a.seat) (Submits plan (root_in group)) [] (seen_by a.seat) fresh;
    stand = λ told alone fed. stand told;
  }

  -- one more, at the end
  pub counted_host : (he ne h n : ℕ) (xs : List (Worker D disk)) (a : HostSeat) → AreCounted group cell plan rings he ne h n xs → a.host ≡ he → IsHostIn plan rings a → AreCounted group cell plan rings (he + 1) ne h n (xs ++ any.Host a ∷ [])
  counted_host he ne h n [] a are number is = (number ∙ sym are.0, is, (ap (λ m. m + 1) are.0, are.1))
  counted_host he ne h n (any.Host b ∷ bs) a are number is = (are.0, are.1, counted_host he ne (h + 1) n bs a are.2 number is)
  counted_host he ne h n (any.Apply b ∷ bs) a are number is = (are.0, are.1, counted_host he ne h (n + 1) bs a are.2 number is)
  counted_host he ne h n (any.Submit b ∷ bs) a are number is = absurd are
  counted_host he ne h n (any.Switch b ∷ bs) a are number is = absurd are

  pub counted_apply : (he ne h n : ℕ) (xs : List (Worker D disk)) (a : Applier D disk) → AreCounted group cell plan rings he ne h n xs → number_of a.seat ≡ ne → IsApplier group a → AreCounted group cell plan rings he (ne + 1) h n (xs ++ any.Apply a ∷ [])
  counted_apply he ne h n [] a are number is = (number ∙ sym are.1, is, (are.0, ap (λ m. m + 1) are.1))
  counted_apply he ne h n (any.Host b ∷ bs) a are number is = (are.0, are.1, counted_apply he ne (h + 1) n bs a are.2 number is)
  counted_apply he ne h n (any.Apply b ∷ bs) a are number is = (are.0, are.1, counted_apply he ne h (n + 1) bs a are.2 number is)
  counted_apply he ne h n (any.Submit b ∷ bs) a are number is = absurd are
  counted_apply he ne h n (any.Switch b ∷ bs) a are number is = absurd are

  module _ (begun : GroupSeat D disk) where
    pub mustered_host : (he ne : ℕ) (xs : List (Worker D disk)) (a : HostSeat) → AreMustered group cell plan rings begun he ne xs → a.host ≡ he → IsHostIn plan rings a → AreMustered group cell plan rings begun (he + 1) ne (xs ++ any.Host a ∷ [])
    mustered_host he ne (any.Submit s ∷ (any.Switch t ∷ xs)) a are number is = (are.0, are.1, counted_host he ne 0 (splits_of begun + 3) xs a are.2 number is)
    mustered_host he ne xs a are number is = absurd are

    pub mustered_apply : (he ne : ℕ) (xs : List (Worker D disk)) (a : Applier D disk) → AreMustered group cell plan rings begun he ne xs → number_of a.seat ≡ ne → IsApplier group a → AreMustered group cell plan rings begun he (ne + 1) (xs ++ any.Apply a ∷ [])
    mustered_apply he ne (any.Submit s ∷ (any.Switch t ∷ xs)) a are number is = (are.0, are.1, counted_apply he ne 0 (splits_of begun + 3) xs a are.2 number is)
    mustered_apply he ne xs a are number is = absurd are

  -- each may take its turns
  each_counted : (he ne h n : ℕ) (xs : List (Worker D disk)) → AreCounted group cell plan rings he ne h n xs → Each (IsWorker group cell plan rings) xs
  each_counted he ne h n [] are = tt
  each_counted he ne h n (any.Host b ∷ bs) are = (are.1, each_counted he ne (h + 1) n bs are.2)
  each_counted he ne h n (any.Apply b ∷ bs) are = (are.1, each_counted he ne h (n + 1) bs are.2)
  each_counted he ne h n (any.Submit b ∷ bs) are = absurd are
  each_counted he ne h n (any.Switch b ∷ bs) are = absurd are

  pub each_mustered : (begun : GroupSeat D disk) (he ne : ℕ) (xs : List (Worker D disk)) → AreMustered group cell plan rings begun he ne xs → Each (IsWorker group cell plan rings) xs
  each_mustered begun he ne (any.Submit s ∷ (any.Switch t ∷ xs)) are = (are.0.is, (are.1.is, each_counted he ne 0 (splits_of begun + 3) xs are.2))
  each_mustered begun he ne xs are = absurd are

  -- and after these they are still so
  abbrev Went : Worker D disk → Worker D disk → Type 0
  Went x y = IsWorker group cell plan rings y × IsSameWorker x y

  counted_on : (he ne h n : ℕ) (xs bs : List (Worker D disk)) → AreCounted group cell plan rings he ne h n xs → Pairs Went xs bs → AreCounted group cell plan rings he ne h n bs
  counted_on he ne h n [] [] are went = are
  counted_on he ne h n [] (b ∷ bs) are went = absurd went
  counted_on he ne h n (a ∷ xs) [] are went = absurd went
  counted_on he ne h n (any.Host a ∷ xs) (any.Host b ∷ bs) are went = (went.0.1 ∙ are.0, went.0.0, counted_on he ne (h + 1) n xs bs are.2 went.1)
  counted_on he ne h n (any.Host a ∷ xs) (b ∷ bs) are went = absurd went.0.1
  counted_on he ne h n (any.Apply a ∷ xs) (any.Apply b ∷ bs) are went = (went.0.1.0 ∙ are.0, went.0.0, counted_on he ne h (n + 1) xs bs are.2 went.1)
  counted_on he ne h n (any.Apply a ∷ xs) (b ∷ bs) are went = absurd went.0.1
  counted_on he ne h n (any.Submit a ∷ xs) (b ∷ bs) are went = absurd are
  counted_on he ne h n (any.Switch a ∷ xs) (b ∷ bs) are went = absurd are

  switch_on : (begun : GroupSeat D disk) (he ne : ℕ) (s : Submitter D disk) (t : Switch D disk) (xs : List (Worker D disk)) (u : Submitter D disk) (bs : List (Worker D disk)) → AreMustered group cell plan rings begun he ne (any.Submit s ∷ (any.Switch t ∷ xs)) → Pairs Went (any.Submit s ∷ (any.Switch t ∷ xs)) (any.Submit u ∷ bs) → AreMustered group cell plan rings begun he ne (any.Submit u ∷ bs)
  switch_on begun he ne s t xs u [] are went = absurd went.1
  switch_on begun he ne s t xs u (any.Switch v ∷ bs) are went = (
    record { is = went.0.0; number = went.0.1.0.0 ∙ are.0.number; since = ap (λ x. seen_by x.value) went.0.1.1 ∙ are.0.since },
    record { is = went.1.0.0; number = went.1.0.1.0.0 ∙ are.1.number; since = ap (λ x. seen_by x.value) went.1.0.1.1 ∙ are.1.since },
    counted_on he ne 0 (splits_of begun + 3) xs bs are.2 went.1.1,
  )
  switch_on begun he ne s t xs u (b ∷ bs) are went = absurd went.1.0.1

  pub mustered_on : (begun : GroupSeat D disk) (he ne : ℕ) (xs bs : List (Worker D disk)) → AreMustered group cell plan rings begun he ne xs → Pairs Went xs bs → AreMustered group cell plan rings begun he ne bs
  mustered_on begun he ne (any.Submit s ∷ (any.Switch t ∷ xs)) [] are went = absurd went
  mustered_on begun he ne (any.Submit s ∷ (any.Switch t ∷ xs)) (any.Submit u ∷ bs) are went = switch_on begun he ne s t xs u bs are went
  mustered_on begun he ne (any.Submit s ∷ (any.Switch t ∷ xs)) (b ∷ bs) are went = absurd went.0.1
  mustered_on begun he ne xs bs are went = absurd are

  -- the first two workers alone
  pub two_mustered : (begun : GroupSeat D disk) (s : Submitter D disk) (t : Switch D disk) (none one two : List (Worker D disk)) → none ≡ [] → one ≡ none ++ any.Submit s ∷ [] → two ≡ one ++ any.Switch t ∷ [] → IsSubmitting group cell plan rings begun s → IsDelivering group cell plan rings begun t → AreMustered group cell plan rings begun 0 (splits_of begun + 3) two
  two_mustered begun s t none one two empty first second submits delivers = subst (AreMustered group cell plan rings begun 0 (splits_of begun + 3)) (sym (second ∙ (ap (λ l. l ++ any.Switch t ∷ []) (first ∙ ap (λ l. l ++ any.Submit s ∷ []) empty)))) (submits, delivers, (refl, refl))

  -- none took a turn
  pub went_none : (xs : List (Worker D disk)) → Each (IsWorker group cell plan rings) xs → Pairs Went xs xs
  went_none [] each = tt
  went_none (x ∷ xs) each = ((each.0, same_worker x), went_none xs each.1)
