-- A group after one more event.
use Rattle.std.proofs.Common.{◌≡◌, ℕ, zero, suc, ◌<◌, ◌≤◌, ◌^◌, ◌||◌, ◌⊎◌, inl, inr, Bool, IsTrue, true, false, not, is_some, List, [], ◌∷◌, ◌++◌, length, Option, Some, None, Result, Ok, Err, OnErr, MatchBool, slice_get, append-nil, refl, sym, ap, subst, ◌∙◌}
use Rattle.std.specs.List.{list_any}
use Rattle.std.proofs.lemmas.List.{length-map}
use Rattle.std.proofs.lemmas.Option.{none-some, same_Some}
use Rattle.std.proofs.lemmas.Bool.{and_from, and_parts, eq-eqb, eqb-true, false≢true}
use Rattle.pf_disk.specs.Crashes.{Images}
use Rattle.pf_entry.specs.Lists.{Every}
use Rattle.pf_entry.proofs.Lists.{every_get, some_of_any}
use Rattle.pf_entry.specs.declared.ops.Op.{Op}
use Rattle.pf_base.specs.declared.filled.Filled.{Filled}
use Rattle.pf_protocol.specs.declared.answers.Answer.{Answer}
use Rattle.pf_protocol.specs.declared.events.Event.{Event}
use Rattle.pf_protocol.specs.declared.events.Happening.{Happening}
use Rattle.pf_protocol.specs.Servers.{Setup}
use Rattle.pf_protocol.specs.Histories.{History, replay}
use Rattle.pf_protocol.specs.Answers.{Claimed, IsAnswer, MayHappen, answer_to, claims_of, is_claim, may_halt}
use Rattle.pf_protocol.specs.Groups.{Group, ending, happens}
use Rattle.pf_protocol.specs.declared.answers.Answer.TheVariants.{Done, Refused}
use Rattle.pf_protocol.specs.declared.answers.Refusal.TheVariants.{Halted}
use Rattle.pf_protocol.specs.declared.events.Event.TheVariants.{GiveBack, Restart}
use Rattle.pf_protocol.proofs.ForMoments.{replay_goes_on}
use Rattle.pf_disk_store.specs.declared.kept.Kept.{Kept}
use Rattle.pf_group_network.specs.declared.network.Network.{Network}
use Rattle.pf_group_network.specs.Going.{HasBegunSomehow, HasFault, HasGone, HasKept, HasStayed, KeepsOthers, KeepsStores, acts_at, is_quiet_event}
use Rattle.pf_group_network.specs.Readings.{is_taken, taken_after}
use Rattle.pf_group_network.specs.Showing.{Shows, taken_of}
use Rattle.pf_disk_store.specs.Model.{kept_model}
use Rattle.pf_group.specs.declared.event.GroupEvent.{GroupEvent}
use Rattle.pf_group.specs.declared.event.GroupEvent.TheVariants as asked
use Rattle.pf_group.specs.Events.{Brings, GroupMayAsk, rule_event}
use Rattle.pf_group.specs.GroupIs.{GroupIs, IsLastStep}
use Rattle.pf_group.specs.Halves.{AreLater, all_counts, rose_in}
use Rattle.pf_group.specs.Inside.{HaveHeads, IsSince, group_of}
use Rattle.pf_group.specs.declared.began.Began.{Began}
use Rattle.pf_group.specs.declared.past.Past.{Past}
use Rattle.pf_group.specs.Beginning.{IsBegun, IsBegunIf}
use Rattle.pf_group.specs.Pasts.{HasPlaceFor, HasRoomForEnd, IsKeepable}
use Rattle.pf_group.specs.Reacting.{Answers, HasAnsweredSomehow, own_of}
use Rattle.pf_group.specs.Standing.{NetworkStandsFor}
use Rattle.pf_group.specs.Steps.{BeginsHere, EndsSo, GoesByRules, RestartHasTried, IsLeftWithoutMemory, AnswerIsNew, GroupSteps}
use Rattle.pf_group.proofs.Faults.{all_later, all_same, has_risen, heads_kept, others_same}
use Rattle.pf_group.proofs.Fresh.{ends_by_rules, ends_somehow, fresh_answer, fresh_somehow, taken_somehow}
use Rattle.pf_group.proofs.NetworkStands.{now_shows, stands_after, stands_led, stands_still, stayed_now, went_now}
use Rattle.pf_group.proofs.Since.{Law, Stood, quiet_more, since_as, since_step, since_still, tell_all}

-- a job that comes back is of one of the three servers
pub brings_low : (claims : List Claimed) → Every (λ c. c.server < 3) claims → (filled : Filled) → Brings claims filled → filled.server < 3
brings_low claims low filled b =
    let claim : Claimed = record { server = filled.server; life = filled.life; slot = filled.slot; op = b.op } in
    every_get (λ c. c.server < 3) claims b.k claim low b.claim

-- so is one that is given back
pub found_low : (claims : List Claimed) → Every (λ c. c.server < 3) claims → (server life slot : ℕ) → list_any (is_claim server life slot) claims ≡ true → server < 3
found_low claims low server life slot found =
    let c = some_of_any (is_claim server life slot) (λ c. c.server < 3) claims found low in
    subst (λ n. n < 3) (eqb-true c.0.server server (and_parts _ _ (and_parts _ _ c.1).0).0) c.2

pub gave_done : (setup : Setup) (g : Group) (server life slot : ℕ) (answer : Answer) → IsAnswer setup g (GiveBack server life slot) answer → answer ≡ Done
unfolding answer_to may_halt
gave_done setup g server life slot answer is = elim is [ inl right ↦ right | inr cut ↦ absurd (false≢true cut.0) ]

-- and it is open
or_true : (b : Bool) → (b || true) ≡ true
or_true true = refl
or_true false = refl

some_at : {X : Type 0} → (p : X → Bool) (xs : List X) (k : ℕ) (x : X) → slice_get xs k ≡ Some x → p x ≡ true → list_any p xs ≡ true
some_at p [] zero x there is = absurd (none-some x there)
some_at p [] (suc k) x there is = absurd (none-some x there)
some_at p (y ∷ ys) zero x there is = ap (λ b. b || list_any p ys) (ap p (same_Some y x there) ∙ is)
some_at p (y ∷ ys) (suc k) x there is = ap (λ b. p y || b) (some_at p ys k x there is) ∙ or_true (p y)

same_claim : (server life slot : ℕ) (op : Op) → is_claim server life slot (record { server = server; life = life; slot = slot; op = op }) ≡ true
same_claim server life slot op = and_from _ _ (and_from _ _ (eq-eqb server server refl) (eq-eqb life life refl)) (eq-eqb slot slot refl)

pub may_happen : (claims : List Claimed) (event : GroupEvent) (found : Bool) → GroupMayAsk claims event → MayHappen claims (rule_event event found)
may_happen claims (asked.Submit server range payload) found may = may
may_happen claims (asked.Mark server) found may = may
may_happen claims (asked.Fetch server range) found may = may
may_happen claims (asked.Deliver k) found may = may
may_happen claims (asked.Lose k) found may = may
may_happen claims (asked.Elect server) found may = may
may_happen claims (asked.Resend server) found may = may
may_happen claims (asked.Stop server) found may = may
may_happen claims (asked.Restart server) found may = may
may_happen claims asked.Claim found may = may
may_happen claims (asked.Finish filled) found may = some_at (is_claim filled.server filled.life filled.slot) claims may.k _ may.claim (same_claim filled.server filled.life filled.slot may.op)
may_happen claims (asked.Checkpoint server) found may = may

-- what has room as it was asked for has a place in the history
pub place_for : (event : GroupEvent) (found : Bool) (past : Past) → HasRoomForEnd event past → HasPlaceFor past (rule_event event found)
place_for (asked.Submit server range payload) found past room = room
place_for (asked.Mark server) found past room = room
place_for (asked.Fetch server range) found past room = room
place_for (asked.Deliver k) found past room = room
place_for (asked.Lose k) found past room = room
place_for (asked.Elect server) found past room = room
place_for (asked.Resend server) found past room = room
place_for (asked.Stop server) found past room = room
place_for (asked.Restart server) found past room = room
place_for asked.Claim found past room = room
place_for (asked.Finish filled) found past room = tt
place_for (asked.Checkpoint server) found past room = room

-- a happening that was asked for can be kept
pub keepable : (event : GroupEvent) (found : Bool) (past : Past) (e : Event) → e ≡ rule_event event found → GroupMayAsk (claims_of [] past.happenings) event → HasRoomForEnd event past → IsKeepable past e
keepable event found past e is may room = subst (IsKeepable past) (sym is) (record { may = may_happen (claims_of [] past.happenings) event found may; room = place_for event found past room })

pub on_err : {A E : Type 0} → (r : Result A E) (P : Type 0) → P → OnErr r P
on_err (Ok x) P is = tt
on_err (Err e) P is = is

-- nothing has changed
pub left_equal : (event : GroupEvent) (old new : GroupIs) → new ≡ old → IsLeftWithoutMemory old event new
left_equal (asked.Submit server range payload) old new is = is
left_equal (asked.Mark server) old new is = is
left_equal (asked.Fetch server range) old new is = is
left_equal (asked.Deliver k) old new is = is
left_equal (asked.Lose k) old new is = is
left_equal (asked.Elect server) old new is = is
left_equal (asked.Resend server) old new is = is
left_equal (asked.Stop server) old new is = is
left_equal (asked.Restart server) old new is = inl is
left_equal asked.Claim old new is = is
left_equal (asked.Finish filled) old new is = is
left_equal (asked.Checkpoint server) old new is = is

pub same_happening : (e e' : Event) (a a' : Answer) → e ≡ e' → a ≡ a' → (let h : Happening = record { event = e; answer = a } in h) ≡ record { event = e'; answer = a' }
same_happening e e' a a' p q = ap (λ x. let h : Happening = record { event = x; answer = a } in h) p ∙ ap (λ x. let h : Happening = record { event = e'; answer = x } in h) q

either : (b : Bool) → (b ≡ true) ⊎ (b ≡ false)
either true = inl refl
either false = inr refl

module _ {D : Type 0} (seen : D → Option (List ℕ)) (may_leave : D → Images) (faults moment : D → ℕ) (left_since : D → ℕ → Images) (tells tells_moments : Bool) (setup : Setup) (history : History) (old new : Network (Kept D)) where
  abbrev Shown : Network (Kept D) → Group → Type 0
  Shown network g = Shows (kept_model seen may_leave faults moment left_since tells_moments) setup network g

  abbrev Standing : History → Network (Kept D) → Type 0
  Standing events network = NetworkStandsFor (kept_model seen may_leave faults moment left_since tells_moments) tells setup events network

  abbrev pub WentIn : Group → Event → Answer → Type 0
  WentIn g event answer = HasGone (kept_model seen may_leave faults moment left_since tells_moments) setup g event old new answer

  abbrev Went : Event → Answer → Type 0
  Went event answer = WentIn (replay setup history) event answer

  abbrev pub StayedIn : Group → Option ℕ → Type 0
  StayedIn g own = HasStayed (kept_model seen may_leave faults moment left_since tells_moments) setup g own old new

  abbrev Stayed : Option ℕ → Type 0
  Stayed own = StayedIn (replay setup history) own

  -- a restart over any disks
  abbrev pub BegunIn : Group → ℕ → Answer → Type 0
  BegunIn g i answer = HasBegunSomehow (kept_model seen may_leave faults moment left_since tells_moments) setup g i old new answer

  abbrev pub KeptIn : Group → ℕ → Type 0
  KeptIn g i = HasKept (kept_model seen may_leave faults moment left_since tells_moments) setup g i old new

  module _ (stands : Standing history old) (law : Law seen may_leave faults moment left_since tells tells_moments) where
    -- What came of an event over any disks, said of the past's group; and of the state after the history, where disks tell their content
    pub record Came (event : Event) (answer : Answer) : Type 0 where
      pub others : KeepsOthers (acts_at stands.past.group event) old new
      pub quiet : is_quiet_event event ≡ true → KeepsStores old new
      pub taken : taken_of new ≡ taken_after (taken_of old) answer
      pub cause : answer ≡ Refused Halted → (i : ℕ) × (acts_at stands.past.group event ≡ Some i) × HasFault (rose_in faults) i old new
      pub answered : GoesByRules tells event → IsAnswer setup stands.past.group event answer
      pub ends : EndsSo event answer
      pub later : GoesByRules tells event → AreLater (all_counts faults old) (all_counts faults new)
      pub fresh : AnswerIsNew stands.past.claims stands.past.group.reads answer
      pub stands_then : (later : History) → later ≡ history ++ record { event = event; answer = answer } ∷ [] → length later ≤ 2 ^ 32 → MayHappen (claims_of [] history) event → Standing later new
      pub went : IsTrue tells → Went event answer

    -- where there was no memory for it
    pub record Left (own : Option ℕ) : Type 0 where
      pub shows : Shown new stands.past.group
      pub others : KeepsOthers own old new
      pub taken : taken_of new ≡ taken_of old
      pub stayed : IsTrue tells → Stayed own

    pub came_went : (event : Event) (answer : Answer) → WentIn stands.past.group event answer → Came event answer
    came_went event answer gone = record {
      others = gone.others;
      quiet = gone.quiet;
      taken = gone.taken;
      cause = gone.cause;
      answered = λ by. gone.answered;
      ends = ends_by_rules setup stands.past.group event answer gone.answered;
      later = λ by. all_later seen may_leave faults moment left_since tells_moments stands.past.group (happens setup stands.past.group event (ending answer)) setup (acts_at stands.past.group event) old new stands.reached.shows gone.shows gone.crash gone.others;
      fresh = fresh_answer setup stands.past.group stands.past.claims event answer stands.reached.viable.group.opened gone.answered;
      stands_then = λ later is low may. stands_after (kept_model seen may_leave faults moment left_since tells_moments) tells setup history old stands new event answer later is low may gone;
      went = λ tell. went_now (kept_model seen may_leave faults moment left_since tells_moments) tells setup history old stands new tell event answer gone;
    }

    no_rules : tells ≡ false → IsTrue tells ⊎ ⊥ → ⊥
    no_rules none by = elim by [ inl tell ↦ false≢true (sym none ∙ tell) | inr other ↦ other ]

    came_begun : tells ≡ false → (i : ℕ) (found : Bool) (answer : Answer) → BegunIn stands.past.group i answer → Came (Restart i found) answer
    came_begun none i found answer begun = record {
      others = begun.others;
      quiet = λ quiet. absurd (false≢true quiet);
      taken = begun.taken ∙ sym (taken_somehow (kept_model seen may_leave faults moment left_since tells_moments) setup stands.past.group i new (taken_of old) answer begun.shows);
      cause = λ halted. (i, refl, begun.cause halted);
      answered = λ by. absurd (no_rules none by);
      ends = ends_somehow (kept_model seen may_leave faults moment left_since tells_moments) setup stands.past.group i new answer begun.shows;
      later = λ by. absurd (no_rules none by);
      fresh = fresh_somehow (kept_model seen may_leave faults moment left_since tells_moments) setup stands.past.group i new stands.past.claims stands.past.group.reads answer begun.shows;
      stands_then = λ later is low may. stands_led (kept_model seen may_leave faults moment left_since tells_moments) tells setup history old stands new none i found answer later is low may begun;
      went = λ tell. absurd (false≢true (sym none ∙ tell));
    }

    left_stayed : (own : Option ℕ) → StayedIn stands.past.group own → Left own
    left_stayed own stayed = record {
      shows = stayed.shows;
      others = stayed.others;
      taken = stayed.taken;
      stayed = λ tell. stayed_now (kept_model seen may_leave faults moment left_since tells_moments) tells setup history old stands new tell own stayed;
    }

    left_kept : tells ≡ false → (i : ℕ) → KeptIn stands.past.group i → Left (Some i)
    left_kept none i kept = record { shows = kept.shows; others = kept.others; taken = kept.taken; stayed = λ tell. absurd (false≢true (sym none ∙ tell)) }

    abbrev ReactsIn : GroupEvent → Happening → Type 0
    ReactsIn event r = (found : Bool) × Answers (kept_model seen may_leave faults moment left_since tells_moments) setup stands.past.group (rule_event event found) old new r

    abbrev BeginsIn : GroupEvent → Happening → Type 0
    BeginsIn event r = (i : ℕ) × (event ≡ asked.Restart i) × HasAnsweredSomehow (kept_model seen may_leave faults moment left_since tells_moments) setup stands.past.group i old new r

    -- what a reaction is of
    pub record Reacted (event : GroupEvent) (r : Happening) : Type 0 where
      pub found : Bool
      pub event_is : r.event ≡ rule_event event found
      pub came : Came (rule_event event found) r.answer

    by_rules : (event : GroupEvent) (r : Happening) → ReactsIn event r → Reacted event r
    by_rules event r is = record { found = is.0; event_is = is.1.event_is; came = came_went (rule_event event is.0) r.answer is.1.gone }

    by_disks : (event : GroupEvent) (r : Happening) → tells ≡ false → BeginsIn event r → Reacted event r
    by_disks event r none is =
        let found = is.2.found in
        let same : rule_event event found ≡ Restart is.0 found = ap (λ e. rule_event e found) is.1 in
        record {
          found = found;
          event_is = is.2.event_is ∙ sym same;
          came = subst (λ e. Came e r.answer) (sym same) (came_begun none is.0 found r.answer is.2.begun);
        }

    pub reacted : (event : GroupEvent) (r : Happening) → (IsTrue tells → ReactsIn event r) → ReactsIn event r ⊎ BeginsIn event r → Reacted event r
    reacted event r step somehow = elim (either tells) [
      | inl tell ↦ by_rules event r (step tell)
      | inr none ↦ elim somehow [ inl went ↦ by_rules event r went | inr begun ↦ by_disks event r none begun ]
    ]

    pub left_so : (event : GroupEvent) → (IsTrue tells → StayedIn stands.past.group (own_of event)) → StayedIn stands.past.group (own_of event) ⊎ ((i : ℕ) × (event ≡ asked.Restart i) × KeptIn stands.past.group i) → Left (own_of event)
    left_so event step somehow = elim (either tells) [
      | inl tell ↦ left_stayed (own_of event) (step tell)
      | inr none ↦ elim somehow [ inl stayed ↦ left_stayed (own_of event) stayed | inr kept ↦ subst Left (sym (ap own_of kept.1)) (left_kept none kept.0 kept.2) ]
    ]

    -- what it says of the past holds of the view
    fresh_here : (answer : Answer) → AnswerIsNew stands.past.claims stands.past.group.reads answer → AnswerIsNew (claims_of [] history) (length (taken_of old)) answer
    fresh_here answer is =
        subst (λ reads. AnswerIsNew (claims_of [] history) reads answer) (sym (length-map old.readings.items is_taken ∙ stands.reached.shows.reads))
        (subst (λ claims. AnswerIsNew claims stands.past.group.reads answer) stands.claims is)

    -- where the disks tell their content
    module _ (tell : IsTrue tells) where
      shows : Shown old (replay setup history)
      shows = now_shows (kept_model seen may_leave faults moment left_since tells_moments) tells setup history old stands tell

      later_stayed : (own : Option ℕ) → Stayed own → AreLater (all_counts faults old) (all_counts faults new)
      later_stayed own stayed = all_later seen may_leave faults moment left_since tells_moments (replay setup history) (replay setup history) setup own old new shows stayed.shows stayed.crash stayed.others

      -- each server still has its own head
      heads_went : (event : Event) (answer : Answer) → Went event answer → (number : ℕ) → HaveHeads number old → HaveHeads number new
      heads_went event answer gone = heads_kept seen may_leave faults moment left_since tells_moments (replay setup history) (happens setup (replay setup history) event (ending answer)) setup (acts_at (replay setup history) event) old new shows gone.shows gone.crash gone.others

      heads_stayed : (own : Option ℕ) → Stayed own → (number : ℕ) → HaveHeads number old → HaveHeads number new
      heads_stayed own stayed = heads_kept seen may_leave faults moment left_since tells_moments (replay setup history) (replay setup history) setup own old new shows stayed.shows stayed.crash stayed.others

      since_went : (event : Event) (answer : Answer) → Went event answer → IsSince seen faults moment left_since tells_moments (replay setup history) (happens setup (replay setup history) event (ending answer)) old new
      since_went event answer gone = since_step seen may_leave faults moment left_since tells tells_moments setup (replay setup history) (happens setup (replay setup history) event (ending answer)) (acts_at (replay setup history) event) old new shows (tell_all seen may_leave faults moment left_since tells tells_moments law tell old) gone.crash gone.others

      since_stayed : (own : Option ℕ) → Stayed own → IsSince seen faults moment left_since tells_moments (replay setup history) (replay setup history) old new
      since_stayed own stayed = since_step seen may_leave faults moment left_since tells tells_moments setup (replay setup history) (replay setup history) own old new shows (tell_all seen may_leave faults moment left_since tells tells_moments law tell old) stayed.crash stayed.others

    -- as it was, and as it is now
    module _ (number : ℕ) (before after : Began D) (later : History) where
      abbrev Was : GroupIs
      Was = group_of tells faults moment number setup before.happenings.value before.network.value history old

      abbrev Is : GroupIs
      Is = group_of tells faults moment number setup after.happenings.value after.network.value later new

      begins_here : IsBegun old history after → BeginsHere Was Is
      begins_here begun =
          ap (λ (b : Network (Kept D)). record Is.time { began = all_counts moment b }) begun.network_is
          ∙ ap (λ (h : History). record Is.time { began = all_counts moment old; earlier = h }) begun.history_is

      begins_so : (event : Event) (answer : Answer) → Came event answer → (b : Bool) → is_quiet_event event ≡ b → IsBegunIf (not b) old history before after → MatchBool b ((Is.faults ≡ Was.faults) × (Is.time ≡ Was.time)) (BeginsHere Was Is)
      begins_so event answer came true quiet same = (
        all_same faults old new (λ i own. came.quiet quiet i),
        ap (λ (b : Began D). record Was.time { now = all_counts moment new; began = all_counts moment b.network.value; earlier = b.happenings.value }) same
            ∙ ap (λ m. record Was.time { now = m }) (all_same moment old new (λ i own. came.quiet quiet i)),
      )
      begins_so event answer came false loud begun = begins_here begun

      pub steps_of : (event : Event) (answer : Answer) (h : Happening) → later ≡ history ++ h ∷ [] → h.event ≡ event → h.answer ≡ answer → MayHappen (claims_of [] history) event → IsBegunIf (not (is_quiet_event event)) old history before after → Came event answer → GroupSteps Was event answer Is
      steps_of event answer h is same_event same_answer may begun came =
          let stamped = same_happening h.event event h.answer answer same_event same_answer in
          record {
            asked = may;
            before = stands.past.group;
            same = λ tell. (stands.replays tell).same;
            answered = came.answered;
            ends = came.ends;
            fresh = fresh_here answer came.fresh;
            recorded = ap (λ l. record Is { history = l }) (is ∙ ap (λ x. history ++ x ∷ []) stamped)
                ∙ ap (λ t. record Is { history = history ++ record { event = event; answer = answer } ∷ []; taken = t }) came.taken;
            cause = λ halted. let c = came.cause halted in (c.0, c.1, has_risen faults old new c.0 c.2);
            later = came.later;
            others = λ j apart. others_same faults _ old new came.others j apart;
            begins = begins_so event answer came (is_quiet_event event) refl begun;
            still = λ j apart. others_same moment _ old new came.others j apart;
          }

      -- there was no memory for it
      stays : later ≡ history → after ≡ before → Left None → Is ≡ Was
      stays is same left =
          ap (λ (b : Began D). group_of tells faults moment number setup b.happenings.value b.network.value later new) same
          ∙ ap (λ l. group_of tells faults moment number setup before.happenings.value before.network.value l new) is
          ∙ ap (λ t. record (group_of tells faults moment number setup before.happenings.value before.network.value history new) { taken = t }) left.taken
          ∙ ap (λ f. record Was { faults = f; time = record Was.time { now = all_counts moment new } }) (all_same faults old new left.others)
          ∙ ap (λ m. record Was { time = record Was.time { now = m } }) (all_same moment old new left.others)

      -- for a restart, which may have touched the disks of its server
      tries : (server : ℕ) → later ≡ history → IsBegun old history after → Left (Some server) → RestartHasTried Was server Is
      tries server is begun left = record {
        is = ap (λ l. record Is { history = l }) is ∙ ap (λ t. record Is { history = history; taken = t }) left.taken;
        later = λ tell. later_stayed tell (Some server) (left.stayed tell);
        others = λ j apart. others_same faults (Some server) old new left.others j (λ same. apart (sym (same_Some server j same)));
        begins = begins_here begun;
        still = λ j apart. others_same moment (Some server) old new left.others j (λ same. apart (sym (same_Some server j same)));
      }

      pub left_of : (event : GroupEvent) → later ≡ history → IsBegunIf (is_some (own_of event)) old history before after → Left (own_of event) → IsLeftWithoutMemory Was event Is
      left_of (asked.Submit server range payload) is begun stayed = stays is begun stayed
      left_of (asked.Mark server) is begun stayed = stays is begun stayed
      left_of (asked.Fetch server range) is begun stayed = stays is begun stayed
      left_of (asked.Deliver k) is begun stayed = stays is begun stayed
      left_of (asked.Lose k) is begun stayed = stays is begun stayed
      left_of (asked.Elect server) is begun stayed = stays is begun stayed
      left_of (asked.Resend server) is begun stayed = stays is begun stayed
      left_of (asked.Stop server) is begun stayed = stays is begun stayed
      left_of (asked.Restart server) is begun stayed = inr (tries server is begun stayed)
      left_of asked.Claim is begun stayed = stays is begun stayed
      left_of (asked.Finish filled) is begun stayed = stays is begun stayed
      left_of (asked.Checkpoint server) is begun stayed = stays is begun stayed

      abbrev StoodAt : Began D → (history : History) → Network (Kept D) → Type 0
      StoodAt began now network = Stood seen may_leave faults moment left_since tells tells_moments number setup began.happenings.value began.network.value now network

      abbrev SinceAt : (right : History) → Began D → Type 0
      SinceAt right began = IsTrue tells → IsSince seen faults moment left_since tells_moments (replay setup began.happenings.value) (replay setup right) began.network.value new

      -- after one more event
      module _ (was : StoodAt before history old) (event : Event) (answer : Answer) (is : later ≡ history ++ record { event = event; answer = answer } ∷ []) (low : length later ≤ 2 ^ 32) (may : MayHappen (claims_of [] history) event) (came : Came event answer) where
        so_gone : (began : Began D) (right : History) → IsLastStep began.happenings.value right later → SinceAt right began → StoodAt began later new
        so_gone began right last since = record {
          stands = came.stands_then later is low may;
          heads = λ tell. heads_went tell event answer (came.went tell) number (was.heads tell);
          after = right;
          last = last;
          since = since;
        }

        by_quiet : (b : Bool) → is_quiet_event event ≡ b → IsBegunIf (not b) old history before after → StoodAt after later new
        by_quiet true quiet same =
            subst (λ (b : Began D). StoodAt b later new) (sym same) (so_gone before was.after
            (quiet_more before.happenings.value was.after history later (record { event = event; answer = answer }) was.last quiet is)
            (λ tell. since_still seen may_leave faults moment left_since tells tells_moments (replay setup before.happenings.value) (replay setup was.after) before.network.value old new (λ i own. came.quiet quiet i) (was.since tell)))
        by_quiet false loud begun =
            let h : Happening = record { event = event; answer = answer } in
            so_gone after later
            (record { step = inr (h, loud, is ∙ ap (λ l. l ++ h ∷ []) (sym begun.history_is)); since = []; quiet = tt; whole = sym (append-nil later) })
            (λ tell. since_as seen may_leave faults moment left_since tells tells_moments setup history after.happenings.value later _ old new after.network.value begun.network_is begun.history_is (ap (replay setup) is ∙ replay_goes_on setup history h) (since_went tell event answer (came.went tell)))

        pub stood_gone : IsBegunIf (not (is_quiet_event event)) old history before after → StoodAt after later new
        stood_gone begun = by_quiet (is_quiet_event event) refl begun

      -- where there was no memory for it
      module _ (was : StoodAt before history old) (is : later ≡ history) where
        so_left : (own : Option ℕ) → Left own → (began : Began D) (right : History) → IsLastStep began.happenings.value right later → SinceAt right began → StoodAt began later new
        so_left own left began right last since = record {
          stands = stands_still (kept_model seen may_leave faults moment left_since tells_moments) tells setup history old stands new later is left.shows;
          heads = λ tell. heads_stayed tell own (left.stayed tell) number (was.heads tell);
          after = right;
          last = last;
          since = since;
        }

        pub stood_left : (own : Option ℕ) → IsBegunIf (is_some own) old history before after → Left own → StoodAt after later new
        stood_left None same left =
            subst (λ (b : Began D). StoodAt b later new) (sym same) (so_left None left before was.after
            (subst (IsLastStep before.happenings.value was.after) (sym is) was.last)
            (λ tell. since_still seen may_leave faults moment left_since tells tells_moments (replay setup before.happenings.value) (replay setup was.after) before.network.value old new left.others (was.since tell)))
        stood_left (Some server) begun left =
            so_left (Some server) left after later
            (record { step = inl (is ∙ sym begun.history_is); since = []; quiet = tt; whole = sym (append-nil later) })
            (λ tell. since_as seen may_leave faults moment left_since tells tells_moments setup history after.happenings.value later (replay setup history) old new after.network.value begun.network_is begun.history_is (ap (replay setup) is) (since_stayed tell (Some server) (left.stayed tell)))
