-- The first seat hands a request over.
use Rattle.std.proofs.Common.{◌≡◌, ◌≢◌, ◌⊎◌, inl, inr, ℕ, zero, suc, false, true, ◌+◌, ◌-◌, ◌<◌, ◌≤◌, List, [], ◌∷◌, ◌++◌, Contains, length, Option, None, Some, IfSome, Result, Ok, Err, IfOk, IsTrue, OnErr, slice_get, slice_set, length-append, append-nil, arith, refl, sym, ap, ◌∙◌, subst}
use mathlib.Core.Logic.{dite}
use native.Mathlib.Decide.{ℕ_discrete}
use Rattle.std.proofs.lemmas.Nat.{mod_below}
use Rattle.pf_base.specs.Span.{IsWritable}
use Rattle.pf_base.specs.declared.errors.NoMemory.{NoMemory}
use Rattle.pf_entry.specs.Lists.{Every}
use Rattle.pf_entry.proofs.Lists.{set_cases, set_there}
use Rattle.pf_turn.specs.declared.log.Stamped.{Stamped}
use Rattle.pf_turn.specs.Lists.{Begins}
use Rattle.pf_turn.specs.Own.{AllAfter, EachAfter, EachOf}
use Rattle.pf_turn.proofs.Lists.{begins_refl, begins_trans}
use Rattle.pf_disk.specs.declared.disk.Disk.{Ghosts}
use Rattle.pf_protocol.specs.declared.answers.Answer.{Answer}
use Rattle.pf_protocol.specs.declared.answers.Answer.TheVariants.{Refused}
use Rattle.pf_protocol.specs.declared.answers.Refusal.{Refusal}
use Rattle.pf_protocol.specs.declared.events.Event.TheVariants.{Submit}
use Rattle.pf_protocol.specs.Groups.{Group}
use Rattle.pf_live_seats.specs.pf_group_network.specs.Shown.{IsLeader}
use Rattle.pf_live_seats.specs.pf_group.specs.GroupIs.{GroupIs}
use Rattle.pf_leadercell.specs.Passes as cells
use Rattle.pf_leadercell.specs.Published.{last_of}
use Rattle.pf_leadercell.specs.declared.cell.LeaderPass.{LeaderPass}
use Rattle.pf_leadercell.specs.declared.cell.LeaderCell.{LeaderCell}
use Rattle.pf_rings.specs.Passes.{IsHostOf, IsServerOf, taken_by, put_by}
use Rattle.pf_rings.specs.declared.view.Request.{Request}
use Rattle.pf_live_seats.specs.pf_shared.specs.declared.moment.SeatMoment.{SeatMoment}
use Rattle.pf_live_seats.specs.pf_shared.specs.declared.moment.SeatMoment.TheVariants.{Happened, Look}
use Rattle.pf_live_seats.specs.pf_shared.specs.declared.parts.SharedGroup.{SharedGroup}
use Rattle.pf_live_seats.specs.pf_shared.specs.Calls.{Finds}
use Rattle.pf_live_seats.specs.pf_shared.specs.Moments.{entry}
use Rattle.pf_live_seats.specs.pf_shared.specs.Seats.{IsAlone, IsSameSeat, IsSeatOf, number_of, root_in, seen_by}
use Rattle.pf_live_seats.specs.pf_shared.specs.Since.{state_by_now}
use Rattle.pf_live_seats.specs.pf_shared.proofs.Since.{rest_of_all}
use Rattle.pf_live_seats.specs.declared.hosting.HostSeat.{HostSeat}
use Rattle.pf_live_seats.specs.declared.line.HostRings.{HostRings}
use Rattle.pf_live_seats.specs.declared.plan.LinePlan.{LinePlan}
use Rattle.pf_live_seats.specs.declared.serving.Served.{Served}
use Rattle.pf_live_seats.specs.declared.serving.Standing.TheVariants.{Asked}
use Rattle.pf_live_seats.specs.Deliveries.{LiveTrace, deliveries}
use Rattle.pf_live_seats.specs.Lines.{SeatDoes, IsLive}
use Rattle.pf_live_seats.specs.Submissions.{is_write_of, write_numbers, slots_of_host}
use Rattle.pf_live_seats.specs.Submitters.{AllStand, AreAnswered, IsServedCounted, IsFed, RequestIsHanded, IsSettledBy, ServesHost, ServesOn, SubmitterStands, Submits, SubmitsAlone, moment_submits}
use Rattle.pf_live_seats.specs.Writes.{first_requests, op_of_request, request_of, write_for}
use Rattle.pf_live_seats.proofs.Stands.{all_submitted, is_own, request_is, stands_on}
use Rattle.pf_live_seats.proofs.Submissions.{number_last, submitted_later}
use Rattle.pf_live_line.specs.declared.crew.Crew.{Crew}
use Rattle.pf_live_line.specs.Crews.{AllEnded, HasMade, IsCrew, IsLineSeat}
use Rattle.pf_live_line.specs.Judging.{AllSubmitted, AreRefused, AreSubmitted, HasJudged, HasLooked, HasNewLeader, IsPublished, RequestIsRefusedBy, IsUnchanged}
use Rattle.pf_live_line.specs.Meeting.{AreMet}
use Rattle.pf_live_line.proofs.Entries.{each_at}
use Rattle.pf_live_line.proofs.JudgedEnds.{refused_later}
use Rattle.pf_live_line.proofs.FirstSeatEntries.{count_same, ended_more, ended_same, made_more, seat_more, seat_same}
use Rattle.pf_live_line.proofs.PassesMet.{all_fed}

abbrev pub handed : Request → (server : ℕ) → Answer → SeatMoment
handed request server answer = Happened (record { event = Submit server (write_for request); answer = answer })

-- it made one entry, or none
abbrev pub HandsOver : (n : ℕ) → Request → (server : ℕ) → (seen new : LiveTrace) → Type 0
HandsOver n request server seen new = (new ≡ seen) ⊎ ((answer : Answer) × (new ≡ seen ++ entry n (handed request server answer) ∷ []))

pub hands_over : (n : ℕ) (alone : Type 0) (seen new : LiveTrace) (server : ℕ) (request : Request) → alone → (r : Result (Option Answer) NoMemory) → IfOk r (λ told. RequestIsHanded n alone seen server request told new) → OnErr r (Finds n alone seen new) → HandsOver n request server seen new
hands_over n alone seen new server request is (Ok (Some answer)) adds none = inr (answer, adds.listed ∙ ap (λ l. l ++ entry n (handed request server answer) ∷ []) (adds.finds.exact is))
hands_over n alone seen new server request is (Ok None) kept none = inl kept.1
hands_over n alone seen new server request is (Err e) adds none = inl (none.exact is)

-- where it was refused there is the entry
pub refused_entry : (n : ℕ) (alone : Type 0) (seen new : LiveTrace) (server : ℕ) (request : Request) (refusal : Refusal) → alone → RequestIsHanded n alone seen server request (Some (Refused refusal)) new → new ≡ seen ++ entry n (handed request server (Refused refusal)) ∷ []
refused_entry n alone seen new server request refusal is adds = adds.listed ∙ ap (λ l. l ++ entry n (handed request server (Refused refusal)) ∷ []) (adds.finds.exact is)

-- a write of a host may be written, so it is handed over
writable : (plan : LinePlan) (h m : ℕ) (request : Request) → request ≡ request_of plan.sectors h m → IsWritable request.range.first request.range.count
writable plan h m request is = subst (λ (r : Request). IsWritable r.range.first r.range.count) (sym is) (record {
  some = omega arith;
  few = omega arith;
  low = let below = mod_below (h + m) plan.sectors plan.some_sectors in let most = plan.few_sectors in omega (arith, below, most);
})

entered : (n : ℕ) (alone : Type 0) (seen new : LiveTrace) (server : ℕ) (request : Request) → alone → IsWritable request.range.first request.range.count → (told : Option Answer) → RequestIsHanded n alone seen server request told new → (answer : Answer) × (new ≡ seen ++ entry n (handed request server answer) ∷ [])
entered n alone seen new server request is writes (Some answer) adds = (answer, adds.listed ∙ ap (λ l. l ++ entry n (handed request server answer) ∷ []) (adds.finds.exact is))
entered n alone seen new server request is writes None kept = absurd (kept.0 writes)

same_member : (xs : List Served) (i : ℕ) (y z x : Served) → slice_get xs i ≡ Some y → slice_get (slice_set xs i z) i ≡ Some x → x ≡ z
same_member [] i y z x at_y at_x = absurd cc
same_member (w ∷ ws) zero y z x at_y at_x = cc
same_member (w ∷ ws) (suc i) y z x at_y at_x = same_member ws i y z x at_y at_x

-- none is to be refused where the last request of the host has a slot
pub none_asked : (plan : LinePlan) (root : GroupIs) (list : LiveTrace) (server : ℕ) (served : List Served) (h : ℕ) (t : Served) → slice_get served h ≡ Some t → ((request : Request) → t.standing ≡ Asked request → ⊥) → RequestIsRefusedBy plan root list server served h
none_asked plan root list server served h t there none s request found asked = let same : s ≡ t = cc in absurd (none request (ap (λ x. x.standing) (sym same) ∙ asked))

-- the entries of one seat, of those of all
pub each_of_all : (P : ℕ → LiveTrace → SeatMoment → Type 0) (n : ℕ) (b list : LiveTrace) → AllAfter P b list → EachAfter n (P n) b list
each_of_all P n b [] all = tt
each_of_all P n b (e ∷ es) all = (λ is. subst (λ m. P m b e.what) is all.0, each_of_all P n (b ++ e ∷ []) es all.1)

-- what the first seat does in a line's list
pub each_submits : (plan : LinePlan) (root : GroupIs) (list : LiveTrace) → IsLive plan root list → EachOf 0 (Submits plan root) list
each_submits plan root list live = each_map_does [] list (each_of_all (SeatDoes plan root) 0 [] list live)
  where
    one : (b : LiveTrace) (what : SeatMoment) → SeatDoes plan root 0 b what → Submits plan root b what
    one b (Happened h) does = does
    one b (Look read) does = does

    each_map_does : (b xs : LiveTrace) → EachAfter 0 (SeatDoes plan root 0) b xs → EachAfter 0 (Submits plan root) b xs
    each_map_does b [] each = tt
    each_map_does b (e ∷ es) each = (λ is. one b e.what (each.0 is), each_map_does (b ++ e ∷ []) es each.1)

-- one pass of those that met is as before, but for how its last request stands
pub met_set : (plan : LinePlan) (rings : List HostRings) (end h : ℕ) (xs : List HostSeat) (ss : List Served) → AreMet plan rings end h xs ss → (j : ℕ) (s t : Served) → slice_get ss j ≡ Some s → (t.pass ≡ s.pass) × (t.answers ≡ s.answers) → IsServedCounted plan t → IsFed plan.sectors (h + j) t → AreMet plan rings end h xs (slice_set ss j t)
met_set plan rings end h [] [] are j s t there pass counted fed = absurd cc
met_set plan rings end h [] (u ∷ us) are j s t there pass counted fed = absurd are
met_set plan rings end h (b ∷ bs) [] are j s t there pass counted fed = absurd are
met_set plan rings end h (b ∷ bs) (u ∷ us) are zero s t there pass counted fed = let same : u ≡ s = cc in let from : t.pass ≡ u.pass = pass.0 ∙ ap (λ x. x.pass) (sym same) in let told : t.answers ≡ u.answers = pass.1 ∙ ap (λ x. x.answers) (sym same) in let m = are.0 in (
  record {
    number = m.number;
    host = m.host;
    served = record { pair = m.served.pair; there = m.served.there; is = record { pass = subst (IsServerOf m.served.pair.requests) (sym from) m.served.is.pass; answers = subst (IsHostOf m.served.pair.answers) (sym told) m.served.is.answers; counted = counted } };
    order = subst (λ p. Begins (taken_by p) (put_by b.pass)) (sym from) m.order;
    fed = subst (λ i. IsFed plan.sectors i t) (Rattle.std.proofs.Common.add-zero h) fed;
    answers = subst (λ p. Begins (taken_by b.answers) (put_by p)) (sym told) m.answers;
  },
  are.1,
)
met_set plan rings end h (b ∷ bs) (u ∷ us) are (suc j) s t there pass counted fed = let shifted : h + suc j ≡ (h + 1) + j = omega arith in (are.0, met_set plan rings end (h + 1) bs us are.1 j s t there pass counted (subst (λ i. IsFed plan.sectors i t) shifted fed))

-- as many were taken, and the same
taken_same : (plan : LinePlan) (s t : Served) → t.pass ≡ s.pass → IsServedCounted plan s → IsServedCounted plan t → t.taken ≡ s.taken
taken_same plan s t pass old new = sym new.count ∙ (ap (λ p. length (taken_by p)) pass ∙ old.count)

pub fed_same : (plan : LinePlan) (h : ℕ) (s t : Served) → t.pass ≡ s.pass → IsServedCounted plan s → IsServedCounted plan t → IsFed plan.sectors h s → IsFed plan.sectors h t
fed_same plan h s t pass old new fed = ap taken_by pass ∙ (fed ∙ ap (first_requests plan.sectors h) (sym (taken_same plan s t pass old new)))

-- no other seat submitted
alone_none : (n : ℕ) (seen new : LiveTrace) → new ≡ seen → SubmitsAlone n seen new
alone_none n seen new is = subst (SubmitsAlone n seen) (append-nil seen ∙ sym is) (subst (Every (λ (e : Stamped SeatMoment). e.seat ≢ n → moment_submits e.what ≡ false)) (sym (rest_of_all seen [])) tt)

alone_one : (n : ℕ) (seen new : LiveTrace) (what : SeatMoment) → new ≡ seen ++ entry n what ∷ [] → SubmitsAlone n seen new
alone_one n seen new what is = subst (SubmitsAlone n seen) (sym is) (subst (Every (λ (e : Stamped SeatMoment). e.seat ≢ n → moment_submits e.what ≡ false)) (sym (rest_of_all seen (entry n what ∷ []))) (λ other. absurd (other refl), tt))

pub alone_handed : (n : ℕ) (request : Request) (server : ℕ) (seen new : LiveTrace) → HandsOver n request server seen new → SubmitsAlone n seen new
alone_handed n request server seen new (inl is) = alone_none n seen new is
alone_handed n request server seen new (inr one) = alone_one n seen new (handed request server one.0) one.1

module _ {D : Type 0} {disk : Ghosts D} (group : SharedGroup D disk) (cell : LeaderCell) (plan : LinePlan) (rings : List HostRings) (a : Crew D disk) (is : IsCrew group cell plan rings a) (b : Crew D disk) (at : IsSeatOf group b.seat) (same : IsSameSeat a.seat b.seat)
    (host server : ℕ) (request : Request) (s t : Served) (there : slice_get a.served.items host ≡ Some s) (items : b.served.items ≡ slice_set a.served.items host t) (pass : (t.pass ≡ s.pass) × (t.answers ≡ s.answers)) (old : IsServedCounted plan s) (counted : IsServedCounted plan t)
    (on : ServesOn plan (root_in group) (number_of a.seat) host s (seen_by a.seat) t (seen_by b.seat)) (over : HandsOver (number_of a.seat) request server (seen_by a.seat) (seen_by b.seat)) where
  serves : ServesHost plan (root_in group) (number_of a.seat) (seen_by a.seat) host s (seen_by a.seat) t (seen_by b.seat)
  serves = on (seen_by a.seat) (begins_refl (seen_by a.seat))

  alone : SubmitsAlone (number_of a.seat) (seen_by a.seat) (seen_by b.seat)
  alone = alone_handed (number_of a.seat) request server (seen_by a.seat) (seen_by b.seat) over

  fed : IsFed plan.sectors host t
  fed = fed_same plan host s t pass.0 old counted (all_fed plan rings plan.hosts a.hosts.items a.served.items is.met host s there)

  stood : IsTrue (root_in group).told → SubmitterStands (root_in group) host (seen_by a.seat) s.taken s.standing
  stood told = is.stand told host s there

  each : EachOf (number_of a.seat) (Submits plan (root_in group)) (seen_by b.seat)
  each = serves.steps alone fed (subst (λ n. EachOf n (Submits plan (root_in group)) (seen_by a.seat)) (sym is.seat.at.1.0) (each_submits plan (root_in group) (seen_by a.seat) is.seat.live)) stood

  stand : IsTrue (root_in group).told → AllStand (root_in group) (seen_by b.seat) b.served.items
  stand told h x found = elim (set_cases a.served.items host t h x (ap (λ l. slice_get l h) (sym items) ∙ found)) [
    | inl here ↦ subst (λ j. SubmitterStands (root_in group) j (seen_by b.seat) x.taken x.standing) (sym here.0) (subst (λ (y : Served). SubmitterStands (root_in group) host (seen_by b.seat) y.taken y.standing) here.1 (serves.stands told alone fed (stood told)))
    | inr other ↦ stands_on (root_in group) h (seen_by a.seat) (seen_by b.seat) serves.begins (serves.others told alone fed (stood told) h other.0) x.taken x.standing (is.stand told h x other.1)
  ]

  -- its entry is that of a line
  does : (answer : Answer) → seen_by b.seat ≡ seen_by a.seat ++ entry (number_of a.seat) (handed request server answer) ∷ [] → SeatDoes plan (root_in group) 0 (seen_by a.seat) (handed request server answer)
  does answer listed = each_at (number_of a.seat) (Submits plan (root_in group)) (seen_by b.seat) (seen_by a.seat) (handed request server answer) each ([], append-nil (seen_by a.seat ++ entry (number_of a.seat) (handed request server answer) ∷ []) ∙ sym listed)

  seat_on : HandsOver (number_of a.seat) request server (seen_by a.seat) (seen_by b.seat) → IsLineSeat group plan b.seat
  seat_on (inl seen) = seat_same group plan a.seat b.seat is.seat at same seen
  seat_on (inr one) = seat_more group plan a.seat b.seat is.seat at same (handed request server one.0) one.1 (does one.0 one.1)

  made_on : (next made : ℕ) → HasMade plan.turns (root_in group) (seen_by a.seat) next made → HandsOver (number_of a.seat) request server (seen_by a.seat) (seen_by b.seat) → HasMade plan.turns (root_in group) (seen_by b.seat) next made
  made_on next made h (inl seen) = subst (λ l. HasMade plan.turns (root_in group) l next made) (sym seen) h
  made_on next made h (inr one) = subst (λ l. HasMade plan.turns (root_in group) l next made) (sym one.1) (made_more (number_of a.seat) (seen_by a.seat) (handed request server one.0) (λ k. refl) refl plan.turns (root_in group) next made h)

  count_on : HandsOver (number_of a.seat) request server (seen_by a.seat) (seen_by b.seat) → deliveries (seen_by b.seat) ≡ deliveries (seen_by a.seat)
  count_on (inl seen) = ap deliveries seen
  count_on (inr one) = ap deliveries one.1 ∙ count_same (number_of a.seat) (seen_by a.seat) (handed request server one.0) (λ k. refl) refl

  ended_on : HandsOver (number_of a.seat) request server (seen_by a.seat) (seen_by b.seat) → AllEnded plan a.seat → AllEnded plan b.seat
  ended_on (inl seen) = ended_same group plan a.seat b.seat is.seat at same seen
  ended_on (inr one) = ended_more group plan a.seat b.seat is.seat at same (handed request server one.0) one.1

  pub judged_by : b.splits ≡ a.splits → b.hosts ≡ a.hosts → b.first ≡ a.first → b.leaders ≡ a.leaders → b.next ≡ a.next → b.made ≡ a.made → HasJudged group cell plan rings a b
  judged_by splits hosts first leaders next made = record {
    is = record {
      seat = seat_on over;
      splits = splits ∙ (is.splits ∙ sym same.1);
      met = subst (λ l. AreMet plan rings plan.hosts 0 b.hosts.items l) (sym items) (subst (λ v. AreMet plan rings plan.hosts 0 v.items (slice_set a.served.items host t)) (sym hosts)
          (met_set plan rings plan.hosts 0 a.hosts.items a.served.items is.met host s t there pass counted (subst (λ i. IsFed plan.sectors i t) (sym (Rattle.std.proofs.Common.zero-add host)) fed)));
      stand = stand;
      first = subst (λ p. cells.IsPassOf cell p × cells.IsFirstPass p) (sym first) is.first;
      leaders = subst (cells.IsPassOf cell) (sym leaders) is.leaders;
      made = subst (λ x. HasMade plan.turns (root_in group) (seen_by b.seat) x b.made) (sym next) (subst (λ x. HasMade plan.turns (root_in group) (seen_by b.seat) a.next x) (sym made) (made_on a.next a.made is.made over));
    };
    begins = serves.begins;
    count = count_on over;
    seats = same.1;
    ended = ended_on over;
  }

  -- the request is the last one that was taken
  last_write : s.standing ≡ Asked request → (m : ℕ) × (m + 1 ≡ s.taken) × (request ≡ request_of plan.sectors host m)
  last_write was =
      let last : put_by s.answers ++ request ∷ [] ≡ taken_by s.pass = subst (AreAnswered (put_by s.answers) (taken_by s.pass)) was old.answered in
      let next : length (put_by s.answers) + 1 ≡ s.taken = sym (length-append (put_by s.answers) (request ∷ [])) ∙ (ap length last ∙ old.count) in
      (length (put_by s.answers), next, request_is plan host (length (put_by s.answers)) s request old (all_fed plan rings plan.hosts a.hosts.items a.served.items is.met host s there) was next)

  -- it was refused
  refused_by : IsTrue (root_in group).told → s.standing ≡ Asked request → (refusal : Refusal) → seen_by b.seat ≡ seen_by a.seat ++ entry (number_of a.seat) (handed request server (Refused refusal)) ∷ [] → RequestIsRefusedBy plan (root_in group) (seen_by b.seat) server b.served.items host
  refused_by told was refusal listed x any found asked =
      let here : x ≡ t = same_member a.served.items host s t x there (ap (λ l. slice_get l host) (sym items) ∙ found) in
      let count : x.taken ≡ s.taken = ap (λ y. y.taken) here ∙ taken_same plan s t pass.0 old counted in
      let write = last_write was in
      let last : write.0 ≡ x.taken - 1 = let next = write.1 in omega (arith, next, count) in
      let were : SubmitterStands (root_in group) host (seen_by a.seat) s.taken (Asked request) = subst (λ y. SubmitterStands (root_in group) host (seen_by a.seat) s.taken y) was (stood told) in record {
        before = seen_by a.seat;
        seat = number_of a.seat;
        refusal = refusal;
        after = [];
        there = ap (λ o. seen_by a.seat ++ entry (number_of a.seat) (Happened (record { event = Submit server o; answer = Refused refusal })) ∷ []) (sym (ap write_for write.2 ∙ ap (λ j. op_of_request (request_of plan.sectors host j)) last)) ∙ sym listed;
        number = let next = were.0 in omega (arith, next, count);
        since = refl;
      }

  -- or it has a slot
  pub settled_by : IsTrue (root_in group).told → s.standing ≡ Asked request → (answer : Option Answer) → RequestIsHanded (number_of a.seat) (IsAlone a.seat) (seen_by a.seat) server request answer (seen_by b.seat) → IfSome answer (λ x. IsSettledBy x t.standing)
      → RequestIsRefusedBy plan (root_in group) (seen_by b.seat) server b.served.items host
  settled_by told was None hand settled = absurd (let write = last_write was in hand.0 (writable plan host write.0 request write.2))
  settled_by told was (Some x) hand (inl refused) = refused_by told was refused.0 (refused_entry (number_of a.seat) (IsAlone a.seat) (seen_by a.seat) (seen_by b.seat) server request refused.0 is.seat.at.1
      (subst (λ o. RequestIsHanded (number_of a.seat) (IsAlone a.seat) (seen_by a.seat) server request (Some o) (seen_by b.seat)) refused.1 hand))
  settled_by told was (Some x) hand (inr placed) =
      none_asked plan (root_in group) (seen_by b.seat) server b.served.items host t (ap (λ l. slice_get l host) items ∙ set_there a.served.items host s t there) (λ r asked. let has = placed.3 in cc)

  -- it was submitted, and so was each one before it
  pub submitted_by : s.standing ≡ Asked request → (answer : Option Answer) → RequestIsHanded (number_of a.seat) (IsAlone a.seat) (seen_by a.seat) server request answer (seen_by b.seat) → AreSubmitted (root_in group) (seen_by b.seat) b.served.items host
  submitted_by was answer hand told x found =
      let write = last_write was in
      let one = entered (number_of a.seat) (IsAlone a.seat) (seen_by a.seat) (seen_by b.seat) server request is.seat.at.1 (writable plan host write.0 request write.2) answer hand in
      let its : is_write_of host (Submit server (write_for request)) ≡ true = ap (λ (r : Request). is_write_of host (Submit server (write_for r))) write.2 ∙ is_own host host refl in
      let here : x ≡ t = same_member a.served.items host s t x there (ap (λ l. slice_get l host) (sym items) ∙ found) in
      let count : x.taken ≡ s.taken = ap (λ y. y.taken) here ∙ taken_same plan s t pass.0 old counted in
      let were : SubmitterStands (root_in group) host (seen_by a.seat) s.taken (Asked request) = subst (λ y. SubmitterStands (root_in group) host (seen_by a.seat) s.taken y) was (stood told) in
      let last : length (slots_of_host (root_in group) host (seen_by a.seat)) ≡ x.taken - 1 = let next = were.0 in omega (arith, next, count) in
      all_submitted (root_in group) host (seen_by b.seat) x.taken x.standing (stand told host x found)
      (λ r asked. subst (λ l. Contains (write_numbers (root_in group) host l) (x.taken - 1)) (sym one.1) (subst (Contains (write_numbers (root_in group) host (seen_by a.seat ++ entry (number_of a.seat) (handed request server one.0) ∷ []))) last
      (number_last (root_in group) host (seen_by a.seat) (number_of a.seat) (Submit server (write_for request)) one.0 its)))

module _ {D : Type 0} {disk : Ghosts D} (group : SharedGroup D disk) (cell : LeaderCell) (plan : LinePlan) (rings : List HostRings) where
  pub judged_refl : (a : Crew D disk) → IsCrew group cell plan rings a → HasJudged group cell plan rings a a
  judged_refl a is = record { is = is; begins = begins_refl (seen_by a.seat); count = refl; seats = refl; ended = λ e. e }

  pub judged_trans : (a b c : Crew D disk) → HasJudged group cell plan rings a b → HasJudged group cell plan rings b c → HasJudged group cell plan rings a c
  judged_trans a b c p q = record {
    is = q.is;
    begins = begins_trans (seen_by a.seat) (seen_by b.seat) (seen_by c.seat) p.begins q.begins;
    count = q.count ∙ p.count;
    seats = q.seats ∙ p.seats;
    ended = λ e. q.ended (p.ended e);
  }

  -- looks alone
  pub judged_looked : (a b : Crew D disk) → HasLooked group cell plan rings a b → HasJudged group cell plan rings a b
  judged_looked a b p = record { is = p.is; begins = p.unchanged.begins; count = p.unchanged.count; seats = p.seats; ended = p.ended }

  pub judged_between : (a b c d : Crew D disk) → HasLooked group cell plan rings a b → HasJudged group cell plan rings b c → HasLooked group cell plan rings c d → HasJudged group cell plan rings a d
  judged_between a b c d p q r = judged_trans a b d (judged_looked a b p) (judged_trans b c d q (judged_looked c d r))

  -- that of another host is as it was
  pub refused_still : (a b : Crew D disk) (server h host : ℕ) → HasJudged group cell plan rings a b → ((j : ℕ) → j ≢ host → slice_get b.served.items j ≡ slice_get a.served.items j) → h ≢ host → RequestIsRefusedBy plan (root_in group) (seen_by a.seat) server a.served.items h → RequestIsRefusedBy plan (root_in group) (seen_by b.seat) server b.served.items h
  refused_still a b server h host judged others other was s request there asked = refused_later plan (root_in group) (seen_by a.seat) (seen_by b.seat) judged.begins judged.count h (s.taken - 1) server (was s request (sym (others h other) ∙ there) asked)

  -- one host more
  pub refused_more : (a b : Crew D disk) (server host : ℕ) → HasJudged group cell plan rings a b → ((j : ℕ) → j ≢ host → slice_get b.served.items j ≡ slice_get a.served.items j) → RequestIsRefusedBy plan (root_in group) (seen_by b.seat) server b.served.items host
      → ((h : ℕ) → h < host → RequestIsRefusedBy plan (root_in group) (seen_by a.seat) server a.served.items h) → (h : ℕ) → h < host + 1 → RequestIsRefusedBy plan (root_in group) (seen_by b.seat) server b.served.items h
  refused_more a b server host judged others now before h under = dite (ℕ_discrete h host) (λ here. subst (RequestIsRefusedBy plan (root_in group) (seen_by b.seat) server b.served.items) (sym here) now) (λ other. refused_still a b server h host judged others other (before h (omega (arith, under, other))))

  -- where the last one has a slot, each that was taken was submitted
  pub submitted_idle : (a : Crew D disk) → IsCrew group cell plan rings a → (host : ℕ) (s : Served) → slice_get a.served.items host ≡ Some s → ((request : Request) → s.standing ≡ Asked request → ⊥) → AreSubmitted (root_in group) (seen_by a.seat) a.served.items host
  submitted_idle a is host s there none told x found = let same : s ≡ x = cc in
      all_submitted (root_in group) host (seen_by a.seat) x.taken x.standing (is.stand told host x found) (λ r asked. absurd (none r (ap (λ (y : Served). y.standing) same ∙ asked)))

  submitted_still : (a b : Crew D disk) (h : ℕ) → Begins (seen_by a.seat) (seen_by b.seat) → slice_get b.served.items h ≡ slice_get a.served.items h → AreSubmitted (root_in group) (seen_by a.seat) a.served.items h → AreSubmitted (root_in group) (seen_by b.seat) b.served.items h
  submitted_still a b h begins same was told s there j low = submitted_later (root_in group) h (seen_by a.seat) (seen_by b.seat) begins j (was told s (sym same ∙ there) j low)

  pub submitted_more : (a b : Crew D disk) (host : ℕ) → Begins (seen_by a.seat) (seen_by b.seat) → ((j : ℕ) → j ≢ host → slice_get b.served.items j ≡ slice_get a.served.items j) → AreSubmitted (root_in group) (seen_by b.seat) b.served.items host
      → ((h : ℕ) → h < host → AreSubmitted (root_in group) (seen_by a.seat) a.served.items h) → (h : ℕ) → h < host + 1 → AreSubmitted (root_in group) (seen_by b.seat) b.served.items h
  submitted_more a b host begins others now before h under = dite (ℕ_discrete h host) (λ here. subst (AreSubmitted (root_in group) (seen_by b.seat) b.served.items) (sym here) now) (λ other. submitted_still a b h begins (others h other) (before h (omega (arith, under, other))))

  pub submitted_on : (a b : Crew D disk) → HasLooked group cell plan rings a b → AllSubmitted plan (root_in group) (seen_by a.seat) a.served.items → AllSubmitted plan (root_in group) (seen_by b.seat) b.served.items
  submitted_on a b p was h low = submitted_still a b h p.unchanged.begins (ap (λ v. slice_get v.items h) p.served) (was h low)

  -- another pair was published
  pub looked_first : (a b : Crew D disk) (first : LeaderPass) → HasLooked group cell plan rings a b → cells.IsPassOf cell first × cells.IsFirstPass first → HasLooked group cell plan rings a (record b { first = first })
  looked_first a b first p is = record {
    is = record { seat = p.is.seat; splits = p.is.splits; met = p.is.met; stand = p.is.stand; first = is; leaders = p.is.leaders; made = p.is.made };
    unchanged = p.unchanged;
    served = p.served;
    seats = p.seats;
    ended = p.ended;
  }

-- the leader is one of the three servers
pub leader_low : (g : Group) (leader : Option (ℕ × ℕ)) → IsLeader g leader → IfSome leader (λ served. served.1 < 3)
leader_low g None is = tt
leader_low g (Some (term, i)) is = is.0.low

-- its term was published
pub published_some : (root : GroupIs) (list : LiveTrace) (term i : ℕ) (first : LeaderPass) → (IsTrue root.told → IsLeader (state_by_now root list) (Some (term, i))) → term ≤ (last_of (cells.seen_by first)).0 → IsPublished root list first
published_some root list term i first is reached told other j leads = let most = (is told).1 j other leads.0 in omega (arith, most, reached)

-- none serves
pub published_none : (root : GroupIs) (list : LiveTrace) (first : LeaderPass) → (IsTrue root.told → IsLeader (state_by_now root list) None) → IsPublished root list first
published_none root list first none told other j leads = absurd (none told j other leads.0)

pub published_on : (root : GroupIs) (old new : LiveTrace) (before after : LeaderPass) → IsUnchanged root old new → after ≡ before → IsPublished root old before → IsPublished root new after
published_on root old new before after un same was told term i leads = subst (λ p. term ≤ (last_of (cells.seen_by p)).0) (sym same) (was told term i (subst (λ g. IsLeader g (Some (term, i))) un.state leads))

-- the requests that a server refused which leads now were refused by the leader
pub refused_leads : (plan : LinePlan) (root : GroupIs) (list new : LiveTrace) (served : List Served) (leader : Option (ℕ × ℕ)) (server : ℕ) → IsUnchanged root list new → (IsTrue root.told → IsLeader (state_by_now root new) leader) → (term : ℕ) × (leader ≡ Some (term, server)) → (IsTrue root.told → (h : ℕ) → h < plan.hosts → RequestIsRefusedBy plan root list server served h) → AreRefused plan root new served
refused_leads plan root list new served leader server un is leads refused told h s request low there asked = record {
  server = server;
  term = leads.0;
  leads = subst (IsLeader (state_by_now root new)) leads.1 (is told);
  refused = refused_later plan root list new un.begins un.count h (s.taken - 1) server (refused told h low s request there asked);
}

-- the server to which requests were handed leads no more
pub leads_new : (root : GroupIs) (old before list new : LiveTrace) (found leader : Option (ℕ × ℕ)) (server : ℕ) → state_by_now root before ≡ state_by_now root old → state_by_now root new ≡ state_by_now root list → IsLeader (state_by_now root before) found → IfSome found (λ served. server ≡ served.1) → IsLeader (state_by_now root list) leader
    → leader ≢ None → ((term : ℕ) × (leader ≡ Some (term, server)) → ⊥) → HasNewLeader root old new
leads_new root old before list new found leader server was is led named leads some other = record {
  was = found;
  is = leader;
  led = subst (λ g. IsLeader g found) was led;
  leads = subst (λ g. IsLeader g leader) (sym is) leads;
  other = apart found named;
}
  where
    apart : (o : Option (ℕ × ℕ)) → IfSome o (λ served. server ≡ served.1) → leader ≢ o
    apart None named same = some same
    apart (Some one) named same = other (one.0, same ∙ ap (λ i. Some (one.0, i)) (sym named))
