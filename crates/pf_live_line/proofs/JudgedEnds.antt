-- What the looks of the first seat tell of a line's end.
use native.Mathlib.Decide.{ℕ_discrete}
use mathlib.Core.Logic.{dite}
use Rattle.std.proofs.Common.{◌≡◌, ◌≢◌, ◌⊎◌, inl, inr, ℕ, zero, suc, ◌+◌, ◌-◌, ◌<◌, ◌≤◌, Bool, true, false, not, cond, ◌&&◌, List, [], ◌∷◌, ◌++◌, Contains, length, length-append, Option, Some, None, is_some, nat_lt, lt-ltb, true≢false, slice_get, sum_by, append_assoc, arith, refl, sym, ap, ◌∙◌, subst}
use Rattle.std.proofs.lemmas.List.Sums.{sum_by-append, sum_by-cons}
use Rattle.pf_entry.specs.Lists.{Every}
use Rattle.pf_turn.specs.Lists.{Begins}
use Rattle.pf_turn.specs.declared.log.Stamped.{Stamped}
use Rattle.pf_protocol.specs.Groups.{Acked}
use Rattle.pf_protocol.specs.declared.answers.Answer.TheVariants.{Refused}
use Rattle.pf_protocol.specs.declared.events.Event.TheVariants.{Submit}
use Rattle.pf_live_seats.specs.pf_group_network.specs.Shown.{IsLeader, is_acked}
use Rattle.pf_live_seats.specs.pf_group.specs.GroupIs.{GroupIs}
use Rattle.pf_rings.specs.declared.view.Request.{Request}
use Rattle.pf_live_seats.specs.pf_shared.specs.declared.moment.SeatMoment.{SeatMoment}
use Rattle.pf_live_seats.specs.pf_shared.specs.declared.moment.SeatMoment.TheVariants.{Happened}
use Rattle.pf_live_seats.specs.pf_shared.specs.Moments.{entry}
use Rattle.pf_live_seats.specs.pf_shared.specs.Since.{state_by_now}
use Rattle.pf_base.specs.declared.live_end.LiveEnd.TheVariants.{Done, Stalled, TurnsSpent}
use Rattle.pf_live_seats.specs.declared.hosting.HostSeat.{HostSeat}
use Rattle.pf_live_seats.specs.declared.line.HostRings.{HostRings}
use Rattle.pf_live_seats.specs.declared.plan.LinePlan.{LinePlan}
use Rattle.pf_live_seats.specs.declared.serving.Served.{Served}
use Rattle.pf_live_seats.specs.declared.serving.Standing.{Standing}
use Rattle.pf_live_seats.specs.declared.serving.Standing.TheVariants.{Asked, Placed, Settled}
use Rattle.pf_live_seats.specs.Deliveries.{LiveTrace, deliveries, delivers, is_passed, least_left_in_line}
use Rattle.pf_live_seats.specs.Ends.{HasEnd, HostIsOpen, IsRefused, NoneIsLeft, WaitsInVain, WasRefused}
use Rattle.pf_live_seats.proofs.Stands.{is_own, stands_within}
use Rattle.pf_live_seats.proofs.Submissions.{every_at, number_last, submitted_later}
use Rattle.pf_live_seats.specs.Submissions.{acked_of_host, is_told, write_numbers, slots_of_host}
use Rattle.pf_rings.specs.Passes.{put_by, taken_by}
use Rattle.pf_live_seats.specs.Submitters.{AllTold, AreAnswered, IsServedCounted, IsServedIn, SubmitterStands}
use Rattle.pf_live_seats.specs.Writes.{op_of_request, request_of}
use Rattle.pf_live_line.specs.Judging.{AreRefused, HasCount, HasNewLeader, IsUnchanged, MayGoOn}
use Rattle.pf_live_line.specs.Meeting.{AreMet}
use Rattle.pf_live_line.proofs.FirstSeatEntries.{weigh}

-- as many hosts as passes
pub met_count : (plan : LinePlan) (rings : List HostRings) (end h : ℕ) (xs : List HostSeat) (ss : List Served) → AreMet plan rings end h xs ss → h + length ss ≡ end
met_count plan rings end h [] [] are = omega (arith, are)
met_count plan rings end h [] (t ∷ ts) are = absurd are
met_count plan rings end h (b ∷ bs) [] are = absurd are
met_count plan rings end h (b ∷ bs) (t ∷ ts) are = let rest = met_count plan rings end (h + 1) bs ts are.1 in omega (arith, rest)

met_at : (plan : LinePlan) (rings : List HostRings) (end h : ℕ) (xs : List HostSeat) (ss : List Served) → AreMet plan rings end h xs ss → (j : ℕ) (s : Served) → slice_get ss j ≡ Some s → IsServedIn plan rings (h + j) s
met_at plan rings end h [] [] are j s there = absurd cc
met_at plan rings end h [] (t ∷ ts) are j s there = absurd are
met_at plan rings end h (b ∷ bs) [] are j s there = absurd are
met_at plan rings end h (b ∷ bs) (t ∷ ts) are zero s there = let same : t ≡ s = cc in subst (λ x. IsServedIn plan rings (h + 0) x) same (subst (λ m. IsServedIn plan rings m t) (sym (Rattle.std.proofs.Common.add-zero h)) are.0.served)
met_at plan rings end h (b ∷ bs) (t ∷ ts) are (suc j) s there = let shifted : (h + 1) + j ≡ h + suc j = omega arith in subst (λ m. IsServedIn plan rings m s) shifted (met_at plan rings end (h + 1) bs ts are.1 j s there)

-- no more were taken than a host has
pub met_few : (plan : LinePlan) (rings : List HostRings) (end : ℕ) (xs : List HostSeat) (ss : List Served) → AreMet plan rings end 0 xs ss → (j : ℕ) (s : Served) → slice_get ss j ≡ Some s → s.taken ≤ plan.writes
met_few plan rings end xs ss are j s there = (met_at plan rings end 0 xs ss are j s there).is.counted.few

-- and each pass counts what it took
pub met_counted : (plan : LinePlan) (rings : List HostRings) (end : ℕ) (xs : List HostSeat) (ss : List Served) → AreMet plan rings end 0 xs ss → (j : ℕ) (s : Served) → slice_get ss j ≡ Some s → IsServedCounted plan s
met_counted plan rings end xs ss are j s there = (met_at plan rings end 0 xs ss are j s there).is.counted

-- one that has no slot was taken
pub asked_some : (plan : LinePlan) (s : Served) (request : Request) → IsServedCounted plan s → s.standing ≡ Asked request → 0 < s.taken
asked_some plan s request counted asked = let last : put_by s.answers ++ request ∷ [] ≡ taken_by s.pass = subst (AreAnswered (put_by s.answers) (taken_by s.pass)) asked counted.answered in
    let count : length (put_by s.answers) + 1 ≡ s.taken = sym (length-append (put_by s.answers) (request ∷ [])) ∙ (ap length last ∙ counted.count) in omega (arith, count)

sum_told : (p : Acked → Bool) (slots : List Acked) → Every (λ a. p a ≡ true) slots → sum_by (λ a. cond (p a) 1 0) slots ≡ length slots
sum_told p [] all = refl
sum_told p (a ∷ rest) all = let f : Acked → ℕ = λ x. weigh (p x) in let c : sum_by f (a ∷ rest) ≡ weigh (p a) + sum_by f rest = sum_by-cons f a rest in let one : weigh (p a) ≡ 1 = ap weigh all.0 in let tail : sum_by f rest ≡ length rest = sum_told p rest all.1 in omega (arith, c, one, tail)

pub not_below : (i n : ℕ) → i < n → false ≡ nat_lt i n → ⊥
not_below i n low is = true≢false (sym (lt-ltb i n low) ∙ sym is)

-- a write that was refused was submitted
refused_number : (plan : LinePlan) (root : GroupIs) (list : LiveTrace) (h j server : ℕ) → IsRefused plan root list h j server → Contains (write_numbers root h list) j
refused_number plan root list h j server r = submitted_later root h (r.before ++ refused ∷ []) list (r.after, append_assoc r.before (refused ∷ []) r.after ∙ r.there) j
    (subst (Contains (write_numbers root h (r.before ++ refused ∷ []))) r.number (number_last root h r.before r.seat (Submit server (op_of_request (request_of plan.sectors h j))) (Refused r.refusal) (is_own h h refl)))
  where
    refused : Stamped SeatMoment
    refused = entry r.seat (Happened (record { event = Submit server (op_of_request (request_of plan.sectors h j)); answer = Refused r.refusal }))

-- how many writes of a host are acknowledged
module _ (plan : LinePlan) (root : GroupIs) (h : ℕ) (list : LiveTrace) (taken : ℕ) (few : taken ≤ plan.writes) where
  -- one that was not taken yet was not refused
  not_refused : (standing : Standing) → SubmitterStands root h list taken standing → WasRefused plan root list h taken → ⊥
  not_refused standing s w = let low : taken < taken = every_at taken (write_numbers root h list) (stands_within root h list taken standing s) taken (refused_number plan root list h taken w.server w.refused) in omega (arith, low)

  all_acked : AllTold root list (slots_of_host root h list) → acked_of_host root h list ≡ length (slots_of_host root h list)
  all_acked all = sum_told (is_told (state_by_now root list)) (slots_of_host root h list) all

  last_acked : (front : List Acked) (a : Acked) → front ++ a ∷ [] ≡ slots_of_host root h list → AllTold root list front → acked_of_host root h list ≡ length front + weigh (is_told (state_by_now root list) a)
  last_acked front a is all = let f : Acked → ℕ = λ x. weigh (is_told (state_by_now root list) x) in
      let s : sum_by f (front ++ a ∷ []) ≡ sum_by f front + (0 + weigh (is_told (state_by_now root list) a)) = sum_by-append f front (a ∷ []) in
      let t : sum_by f front ≡ length front = sum_told (is_told (state_by_now root list)) front all in
      ap (sum_by f) (sym is) ∙ (let total : sum_by f (front ++ a ∷ []) ≡ length front + weigh (is_told (state_by_now root list) a) = omega (arith, s, t) in total)

  pub count_settled : (refused : Bool) → SubmitterStands root h list taken Settled → HasCount plan root list h refused (taken, false)
  count_settled refused s = record { acked = all_acked s.1 ∙ s.0; within = few; vain = λ e. absurd cc; settled = λ e. sym s.0; fresh = λ e is. not_refused Settled s }

  pub count_asked : (request : Request) (refused : Bool) → (refused ≡ true → WasRefused plan root list h (taken - 1)) → SubmitterStands root h list taken (Asked request) → HasCount plan root list h refused (taken - 1, refused)
  count_asked request refused was s = let less : length (slots_of_host root h list) ≡ taken - 1 = let is = s.0 in omega arith in let acked : acked_of_host root h list ≡ taken - 1 = all_acked s.1 ∙ less in record {
    acked = acked;
    within = omega arith;
    vain = λ e. inr (inr (subst (WasRefused plan root list h) (sym acked) (was e)));
    settled = λ e. sym less;
    fresh = λ e is. absurd (true≢false (sym is ∙ e));
  }

  pub count_told : (refused : Bool) (term slot : ℕ) (request : Request) → is_acked (state_by_now root list) term slot ≡ true → SubmitterStands root h list taken (Placed term slot request) → HasCount plan root list h refused (taken, false)
  count_told refused term slot request told s = let last = last_acked s.1 (record { term = term; slot = slot }) s.2 s.3 in let one : weigh (is_acked (state_by_now root list) term slot) ≡ 1 = ap weigh told in let count : length s.1 + 1 ≡ length (slots_of_host root h list) = sym (length-append s.1 (record { term = term; slot = slot } ∷ [])) ∙ ap length s.2 in record {
    acked = omega (arith, last, one, count, s.0);
    within = few;
    vain = λ e. absurd cc;
    settled = λ e. sym s.0;
    fresh = λ e is. not_refused (Placed term slot request) s;
  }

  pub count_placed : (refused : Bool) (term slot : ℕ) (request : Request) → is_acked (state_by_now root list) term slot ≡ false → SubmitterStands root h list taken (Placed term slot request) → HasCount plan root list h refused (taken - 1, true)
  count_placed refused term slot request told s = let last = last_acked s.1 (record { term = term; slot = slot }) s.2 s.3 in let none : weigh (is_acked (state_by_now root list) term slot) ≡ 0 = ap weigh told in let count : length s.1 + 1 ≡ length (slots_of_host root h list) = sym (length-append s.1 (record { term = term; slot = slot } ∷ [])) ∙ ap length s.2 in record {
    acked = omega (arith, last, none, count, s.0);
    within = omega arith;
    vain = λ e. let acked : acked_of_host root h list ≡ taken - 1 = omega (arith, last, none, count, s.0) in inl (omega (arith, acked, count, s.0));
    settled = λ e. absurd cc;
    fresh = λ e. absurd cc;
  }

-- nothing was delivered since
pub refused_later : (plan : LinePlan) (root : GroupIs) (old new : LiveTrace) → Begins old new → deliveries new ≡ deliveries old → (h j server : ℕ) → IsRefused plan root old h j server → IsRefused plan root new h j server
refused_later plan root old new begins count h j server r = record {
  before = r.before;
  seat = r.seat;
  refusal = r.refusal;
  after = r.after ++ begins.0;
  there = sym (append_assoc r.before (refused_at ∷ r.after) begins.0) ∙ (ap (λ l. l ++ begins.0) r.there ∙ begins.1);
  number = r.number;
  since = let f : Stamped SeatMoment → ℕ = λ e. weigh (delivers e.what) in let a : sum_by f (r.after ++ begins.0) ≡ sum_by f r.after + sum_by f begins.0 = sum_by-append f r.after begins.0 in
      let b : sum_by f (old ++ begins.0) ≡ sum_by f old + sum_by f begins.0 = sum_by-append f old begins.0 in let c : sum_by f (old ++ begins.0) ≡ sum_by f new = ap (sum_by f) begins.1 in let d : sum_by f new ≡ sum_by f old = count in let z : sum_by f r.after ≡ 0 = r.since in omega (arith, a, b, c, d, z);
}
  where
    refused_at : Stamped SeatMoment
    refused_at = entry r.seat (Happened (record { event = Submit server (op_of_request (request_of plan.sectors h j)); answer = Refused r.refusal }))

-- what was found is so after looks
module _ (plan : LinePlan) (root : GroupIs) (old new : LiveTrace) (un : IsUnchanged root old new) where
  pub acked_same : (h : ℕ) → acked_of_host root h new ≡ acked_of_host root h old
  acked_same h = ap (λ g. sum_by (λ a. weigh (is_told g a)) (slots_of_host root h new)) un.state ∙ ap (sum_by (λ a. weigh (is_told (state_by_now root old) a))) (un.none h).slots

  pub least_same : least_left_in_line (state_by_now root new) new ≡ least_left_in_line (state_by_now root old) old
  least_same = let alike : (λ (k : ℕ). is_passed k new) ≡ (λ (k : ℕ). is_passed k old) = λ i k. un.passed k i in
      ap (λ g. least_left_in_line g new) un.state ∙ ap (λ (p : ℕ → Bool). Rattle.std.proofs.Common.find (λ k. Rattle.pf_live_seats.specs.pf_group.specs.Packets.is_left_in (state_by_now root old) k && not (p k)) (Rattle.std.specs.List.range_with_len 0 (length (state_by_now root old).packets))) alike

  pub refused_on : (h j : ℕ) → WasRefused plan root old h j → WasRefused plan root new h j
  refused_on h j r = record { server = r.server; term = r.term; leads = subst (λ g. IsLeader g (Some (r.term, r.server))) (sym un.state) r.leads; refused = refused_later plan root old new un.begins un.count h j r.server r.refused }

  vain_on : (h : ℕ) → WaitsInVain plan root old h → WaitsInVain plan root new h
  vain_on h (inl low) = inl (let a = acked_same h in let b = ap length (un.none h).slots in omega (arith, a, b, low))
  vain_on h (inr (inl none)) = inr (inl (subst (λ g. IsLeader g None) (sym un.state) none))
  vain_on h (inr (inr refused)) = inr (inr (subst (WasRefused plan root new h) (sym (acked_same h)) (refused_on h (acked_of_host root h old) refused)))

-- of the hosts below this one: each that has a write left waits in vain
pub record SoFar (plan : LinePlan) (root : GroupIs) (list : LiveTrace) (leader : Option (ℕ × ℕ)) (waits : Bool) (end : ℕ) : Type 0 where
  pub none : NoneIsLeft root list
  pub leads : IsLeader (state_by_now root list) leader
  pub vain : (h : ℕ) → h < end → HostIsOpen plan root list h → WaitsInVain plan root list h
  pub found : waits ≡ true → (h : ℕ) × HostIsOpen plan root list h
  pub all : waits ≡ false → (h : ℕ) → h < end → acked_of_host root h list ≡ plan.writes

pub so_far_on : (plan : LinePlan) (root : GroupIs) (old new : LiveTrace) (leader : Option (ℕ × ℕ)) (waits : Bool) (end : ℕ) → IsUnchanged root old new → SoFar plan root old leader waits end → SoFar plan root new leader waits end
so_far_on plan root old new leader waits end un was = record {
  none = least_same plan root old new un ∙ was.none;
  leads = subst (λ g. IsLeader g leader) (sym un.state) was.leads;
  vain = λ h low unacked. vain_on plan root old new un h (was.vain h low (unacked.0, subst (λ n. n < plan.writes) (acked_same plan root old new un h) unacked.1));
  found = λ e. let f = was.found e in (f.0, (f.1.0, subst (λ n. n < plan.writes) (sym (acked_same plan root old new un f.0)) f.1.1));
  all = λ e h low. acked_same plan root old new un h ∙ was.all e h low;
}

pub none_there : (left : Option ℕ) → is_some left ≡ false → left ≡ None
none_there None e = refl
none_there (Some k) e = absurd cc

-- a packet is left
module _ (plan : LinePlan) (root : GroupIs) (list : LiveTrace) where
  pub goes_on_left : (before : LiveTrace) (left : Option ℕ) → is_some left ≡ true → least_left_in_line (state_by_now root list) list ≡ left → deliveries list < plan.turns → MayGoOn plan root before list
  goes_on_left before None some is few = absurd cc
  goes_on_left before (Some k) some is few = inl (k, is, few)

  pub ends_spent : (left : Option ℕ) → is_some left ≡ true → least_left_in_line (state_by_now root list) list ≡ left → deliveries list ≡ plan.turns → HasEnd plan root list TurnsSpent
  ends_spent None some is spent = absurd cc
  ends_spent (Some k) some is spent = (spent, (k, is))

leads_none : (g : Rattle.pf_protocol.specs.Groups.Group) (leader : Option (ℕ × ℕ)) → is_some leader ≡ false → IsLeader g leader → IsLeader g None
leads_none g None e is = is
leads_none g (Some one) e is = absurd cc

leads_one : (g : Rattle.pf_protocol.specs.Groups.Group) (leader : Option (ℕ × ℕ)) → is_some leader ≡ true → IsLeader g leader → (one : ℕ × ℕ) × IsLeader g (Some one)
leads_one g None e is = absurd cc
leads_one g (Some one) e is = (one, is)

module _ (plan : LinePlan) (root : GroupIs) (list : LiveTrace) (leader : Option (ℕ × ℕ)) (waits : Bool) (h : ℕ) (refused : Bool) (told : ℕ × Bool) (low : h < plan.hosts) (count : HasCount plan root list h refused told) (was : SoFar plan root list leader waits h) where
  -- all writes of one more host are acknowledged
  pub so_far_acked : (told.0 < plan.writes → ⊥) → SoFar plan root list leader waits (h + 1)
  so_far_acked full = let is : acked_of_host root h list ≡ plan.writes = omega (arith, full, count.within, count.acked) in record {
    none = was.none;
    leads = was.leads;
    vain = λ j under unacked. dite (ℕ_discrete j h) (λ here. absurd (let o = unacked.1 in let same : acked_of_host root j list ≡ plan.writes = ap (λ x. acked_of_host root x list) here ∙ is in omega arith)) (λ other. was.vain j (omega (arith, under, other)) unacked);
    found = was.found;
    all = λ e j under. dite (ℕ_discrete j h) (λ here. ap (λ x. acked_of_host root x list) here ∙ is) (λ other. was.all e j (omega (arith, under, other)));
  }

  open_now : told.0 < plan.writes → HostIsOpen plan root list h
  open_now less = (low, omega (arith, less, count.acked))

  -- or it waits in vain
  so_far_waits : told.0 < plan.writes → WaitsInVain plan root list h → SoFar plan root list leader true (h + 1)
  so_far_waits less vain = record {
    none = was.none;
    leads = was.leads;
    vain = λ j under unacked. dite (ℕ_discrete j h) (λ here. subst (WaitsInVain plan root list) (sym here) vain) (λ other. was.vain j (omega (arith, under, other)) unacked);
    found = λ e. (h, open_now less);
    all = λ e. absurd cc;
  }

  pub so_far_placed : told.0 < plan.writes → told.1 ≡ true → SoFar plan root list leader true (h + 1)
  so_far_placed less placed = so_far_waits less (count.vain placed)

  pub so_far_idle : told.0 < plan.writes → is_some leader ≡ false → SoFar plan root list leader true (h + 1)
  so_far_idle less idle = so_far_waits less (inr (inl (leads_none (state_by_now root list) leader idle was.leads)))

  -- or its next write can be handed over
  pub goes_on : (before : LiveTrace) → told.0 < plan.writes → is_some leader ≡ true → told.1 ≡ false → (refused ≡ false → leader ≢ None → HasNewLeader root before list) → MayGoOn plan root before list
  goes_on before less serving free new = let l = leads_one (state_by_now root list) leader serving was.leads in inr (
    was.none,
    h,
    record {
      open_still = open_now less;
      no_slot = count.acked ∙ count.settled free;
      leader = l.0;
      leads = l.1;
      fresh = by refused refl;
    },
  )
    where
      by : (b : Bool) → refused ≡ b → HasNewLeader root before list ⊎ (WasRefused plan root list h (acked_of_host root h list) → ⊥)
      by true is = inr (λ w. count.fresh free is (subst (WasRefused plan root list h) count.acked w))
      by false is = inl (new is (λ none. true≢false (sym serving ∙ ap is_some none)))

module _ (plan : LinePlan) (root : GroupIs) (list : LiveTrace) (leader : Option (ℕ × ℕ)) where
  pub ends_stalled : SoFar plan root list leader true plan.hosts → HasEnd plan root list Stalled
  ends_stalled s = (s.none, s.found refl, λ h unacked. s.vain h unacked.0 unacked)

  pub ends_done : SoFar plan root list leader false plan.hosts → HasEnd plan root list Done
  ends_done s = (s.all refl, s.none)

-- that the leader refused requests is so after looks
pub are_refused_on : (plan : LinePlan) (root : GroupIs) (old new : LiveTrace) (served : List Served) → IsUnchanged root old new → AreRefused plan root old served → AreRefused plan root new served
are_refused_on plan root old new served un are told h s request low there is = refused_on plan root old new un h (s.taken - 1) (are told h s request low there is)
