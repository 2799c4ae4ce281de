-- What a restart comes to.
use Rattle.std.proofs.Common.{◌≡◌, ◌≢◌, ◌⊎◌, inl, inr, ℕ, suc, ◌+◌, ◌<◌, ◌^◌, Bool, true, false, cond, [], Result, Ok, Err, IfOk, IfErr, arith, refl, sym, ap, subst, ◌∙◌}
use Rattle.pf_base.specs.declared.errors.NoMemory.{NoMemory}
use Rattle.pf_entry.specs.Records.{Durable}
use Rattle.pf_protocol.specs.Saving.{renewed, restarted}
use Rattle.pf_server_store.specs.Stores.{StandsStill, StoreModel}
use Rattle.pf_protocol.specs.Servers.{Server, Condition, Running as RunningIs, Stopped as StoppedIs, Unformatted as UnformattedIs}
use Rattle.pf_protocol.specs.declared.answers.Answer.{Answer}
use Rattle.pf_protocol.specs.declared.answers.Answer.TheVariants.{Done, Refused}
use Rattle.pf_protocol.specs.declared.answers.Refusal.TheVariants.{Halted}
use Rattle.pf_server_memory.specs.Bounds.{far}
use Rattle.pf_server_memory.specs.declared.running.Running.{Running}
use Rattle.pf_server_restart.specs.Beginning.{ServerHasBegun, HasSome, IsBegun, StateIsRead, IsSeat, MayBegin, WasBegun, setup_of_seat}
use Rattle.pf_server_restart.specs.Faults.{IsEarly, IsHalt}
use Rattle.pf_server_restart.specs.declared.faults.RestartFault.{RestartFault}
use Rattle.pf_server_restart.specs.declared.faults.RestartFault.TheVariants.{NoMemory as WantsMemory, ReadHalted, SaveHalted, NotOurs}
use Rattle.pf_server_restart.specs.declared.reading.HalfReading.{HalfReading}
use Rattle.pf_server_restart.specs.declared.seat.Seat.{Seat}
use Rattle.pf_server.specs.declared.state.Doubt.{Doubt}
use Rattle.pf_server.specs.declared.state.Doubt.TheVariants.{Settled, Open, Read}
use Rattle.pf_server.specs.declared.state.State.{State}
use Rattle.pf_server.specs.declared.state.State.TheVariants.{Runs, Stopped, Unformatted}
use Rattle.pf_server.specs.Beginning.{IsLastLife, Restarts, doubt_after, last_found, stopped_by}
use Rattle.pf_server.specs.Conditions.{HasOne, StoppedIsFit, IsHonest, IsInHalf, IsKnown, IsRunning, ServerIsSound, IsStopped, Leaves, Meets, untaken_answers}
use Rattle.pf_server.specs.Ending.{quieted}
use Rattle.pf_server.specs.Turns.{Begins, BeginsAgain, BeginsOver, BeginsSomehow, StopsOver, StopsUnread, next_life, stopped_in, IsSavedOf, WasBegunFrom, WasBegunIn}
use Rattle.pf_server.proofs.SavedStates.{either_read, may_of, renewed_of}
use Rattle.pf_server.proofs.Bounds.{low_life, same_life}
use Rattle.pf_server.proofs.ServerStands.{in_half, quieted_runs}

-- one of two
pub one_of : (P : Durable → Type 0) (x y d : Durable) → (d ≡ x) ⊎ (d ≡ y) → P x → P y → P d
one_of P x y d (inl same) first second = subst P (sym same) first
one_of P x y d (inr same) first second = subst P (sym same) second

chosen_of : (P : Durable → Type 0) (found : Bool) (before after : Durable) → P before → P after → P (cond found after before)
chosen_of P true before after first second = second
chosen_of P false before after first second = first

module _ (before after : Durable) where
  -- of the state without the last step's record or of that with it
  abbrev pub IsOfEither : Durable → Type 0
  IsOfEither x = IsSavedOf before x ⊎ IsSavedOf after x

  pub of_either : (x : Durable) → (x ≡ before) ⊎ (x ≡ after) → IsOfEither x
  of_either x (inl same) = inl (inl same)
  of_either x (inr same) = inr (inl same)

  of_found : (found : Bool) (x : Durable) → IsSavedOf (cond found after before) x → IsOfEither x
  of_found true x of = inr of
  of_found false x of = inl of

module _ {S : Type 0} (model : StoreModel S) (before after : Durable) (store : S) where
  -- the two states that a restart may find
  pub record IsPair (doubt : Doubt) (x y : Durable) : Type 0 where
    pub has : model.holds store x y
    pub first : IsOfEither before after x
    pub second : IsOfEither before after y
    pub chosen : (r : HalfReading) (d : Durable) → (d ≡ x) ⊎ (d ≡ y) → StateIsRead r d → IsSavedOf (cond (last_found doubt r) after before) d
    pub moved : (store' : S) → HasSome model x y store' → Leaves model doubt before after store'
    pub may : (seat : Seat) → IsSeat seat → StoppedIsFit seat before → IsInHalf seat before → StoppedIsFit seat after → IsInHalf seat after → MayBegin (setup_of_seat seat) x × MayBegin (setup_of_seat seat) y

  moved_one : (z x y : Durable) → IsSavedOf z x → IsSavedOf z y → (store' : S) → HasSome model x y store' → HasOne model z store'
  moved_one z x y first second store' h = record { x = h.x; y = h.y; has = h.has; first = one_of (IsSavedOf z) x y h.x h.first first second; second = one_of (IsSavedOf z) x y h.y h.second first second }

  abbrev IsEither : Durable → Type 0
  IsEither d = (d ≡ before) ⊎ (d ≡ after)

  pub pair_left : (doubt : Doubt) → Leaves model doubt before after store → (x : Durable) × (y : Durable) × IsPair doubt x y
  pair_left Settled left = let one = left.1 in (
    one.x,
    one.y,
    record {
      has = one.has;
      first = inl one.first;
      second = inl one.second;
      chosen = λ r d is read. one_of (IsSavedOf before) one.x one.y d is one.first one.second;
      moved = λ store' h. (left.0, moved_one before one.x one.y one.first one.second store' h);
      may = λ seat made fit half fit2 half2. (may_of seat made before one.x fit half one.first, may_of seat made before one.y fit half one.second);
    },
  )
  pair_left (Open bytes generation) left = (
    left.x,
    left.y,
    record {
      has = left.has;
      first = of_either before after left.x left.first;
      second = of_either before after left.y left.second;
      chosen = λ r d is read. inl (either_read bytes generation before after d r left.apart left.used_is left.generation_is (one_of IsEither left.x left.y d is left.first left.second) read);
      moved = λ store' h. record {
        x = h.x;
        y = h.y;
        has = h.has;
        first = one_of IsEither left.x left.y h.x h.first left.first left.second;
        second = one_of IsEither left.x left.y h.y h.second left.first left.second;
        used_is = left.used_is;
        generation_is = left.generation_is;
        apart = left.apart;
      };
      may = λ seat made fit half fit2 half2.
          let one = may_of seat made before before fit half (inl refl) in
          let two = may_of seat made after after fit2 half2 (inl refl) in
          (one_of (MayBegin (setup_of_seat seat)) before after left.x left.first one two, one_of (MayBegin (setup_of_seat seat)) before after left.y left.second one two);
    },
  )
  pair_left (Read found) left = let z = cond found after before in (
    left.x,
    left.y,
    record {
      has = left.has;
      first = of_found before after found left.x left.first;
      second = of_found before after found left.y left.second;
      chosen = λ r d is read. one_of (IsSavedOf z) left.x left.y d is left.first left.second;
      moved = λ store' h. moved_one z left.x left.y left.first left.second store' h;
      may = λ seat made fit half fit2 half2.
          let its_fit = chosen_of (StoppedIsFit seat) found before after fit fit2 in
          let its_half = chosen_of (IsInHalf seat) found before after half half2 in
          (may_of seat made z left.x its_fit its_half left.first, may_of seat made z left.y its_fit its_half left.second);
    },
  )

  -- what was read is there, perhaps saved anew
  saved_one : (z d : Durable) → IsSavedOf z d → model.holds store d (renewed d) → HasOne model z store
  saved_one z d is has = record { x = d; y = renewed d; has = has; first = is; second = inr (renewed_of z d is) }

  pub known_left : (doubt : Doubt) (r : HalfReading) (d : Durable) → (doubt ≡ Settled → before ≡ after) → IsSavedOf (cond (last_found doubt r) after before) d → model.holds store d (renewed d) → Leaves model (doubt_after doubt r) before after store
  known_left Settled r d one is has = (one refl, saved_one before d is has)
  known_left (Open bytes generation) r d one is has = saved_one (cond (last_found (Open bytes generation) r) after before) d is has
  known_left (Read found) r d one is has = saved_one (cond found after before) d is has

-- a restart that failed before it went on left the store as it was
pub early : {S : Type 0} → (model : StoreModel S) (store store' : S) (begun : Result (Running × HalfReading) RestartFault) → IfErr begun (λ fault. IsEarly fault → StandsStill model store store')
    → (e : RestartFault) → begun ≡ Err e → IsEarly e → StandsStill model store store'
early model store store' begun said e is = subst (λ b. IfErr b (λ fault. IsEarly fault → StandsStill model store store')) is said

-- what a restart says, of a store that tells its content
module _ {S : Type 0} (model : StoreModel S) (seat : Seat) (store store' : S) (life : ℕ) (begun : Result (Running × HalfReading) RestartFault) where
  pub record Says : Type 0 where
    pub found : IfOk begun (λ r. (x y : Durable) → model.holds store x y → (d : Durable) × ((d ≡ x) ⊎ (d ≡ y)) × StateIsRead r.1 d × IsBegun model (renewed d) store' r.0 seat (life + 1))
    pub still : (e : RestartFault) → begun ≡ Err e → IsEarly e → StandsStill model store store'
    pub unsaved : (r : HalfReading) → begun ≡ Err (SaveHalted r) → (x y : Durable) → model.holds store x y → (d : Durable) × ((d ≡ x) ⊎ (d ≡ y)) × StateIsRead r d × model.holds store' d (renewed d)
    pub ours : (x y : Durable) → model.holds store x y → MayBegin (setup_of_seat seat) x → MayBegin (setup_of_seat seat) y → begun ≢ Err NotOurs
    pub cause : IfErr begun (λ fault. IsHalt fault → model.rose store store')

module _ {S : Type 0} (model : StoreModel S) (seat : Seat) (made : IsSeat seat) (store store' : S) (life : ℕ) (doubt : Doubt) (state state' : State) (before after : Durable) where
  abbrev BeginsHere : Bool → Answer → Type 0
  BeginsHere found answer = Begins model seat store store' state' life before after found answer

  -- the life that begins
  runs_again : (d z : Durable) (me : Running) → renewed d ≡ renewed z → IsBegun model (renewed d) store' me seat (life + 1) → IsRunning model seat store' me (restarted seat.number (suc life) (renewed z))
  unfolding restarted
  runs_again d z me same begun =
      let next : life + 1 ≡ suc life = omega arith in
      subst (λ e. IsRunning model seat store' me (restarted seat.number (suc life) e)) same
      (subst (λ n. IsRunning model seat store' me (restarted seat.number n (renewed d))) next
      (record { stands = begun.stands; is = begun.is; setup = begun.setup }))

  stops_so : (known : Doubt) → Leaves model known before after store' → IsInHalf seat before → IsInHalf seat after → state' ≡ Stopped (life + 1) known → Meets model seat store' state' (StoppedIs (suc life) before after)
  stops_so known left half half2 is = subst (λ z. Meets model seat store' z (StoppedIs (suc life) before after)) (sym is) (record { life_is = omega arith; left = left; first = half; second = half2 })

  module _ (left : Leaves model doubt before after store) (one : doubt ≡ Settled → before ≡ after) (fit : StoppedIsFit seat before) (half : IsInHalf seat before) (fit2 : StoppedIsFit seat after) (half2 : IsInHalf seat after) where
    abbrev pair : (x : Durable) × (y : Durable) × IsPair model before after store doubt x y
    pair = pair_left model before after store doubt left

    begins_ok : (me : Running) (r : HalfReading) → Says model seat store store' life (Ok (me, r)) → state' ≡ Runs (quieted me) → BeginsHere (last_found doubt r) Done
    begins_ok me r says is =
        let read = says.found pair.0 pair.1 pair.2.has in
        let z = cond (last_found doubt r) after before in
        let same = renewed_of z read.0 (pair.2.chosen r read.0 read.1 read.2) in
        let next = restarted seat.number (suc life) (renewed z) in
        subst (λ y. Meets model seat store' y (RunningIs next)) (sym is) (quieted_runs model seat store' me next (runs_again read.0 z me same read.3)).meets

    begins_unread : Says model seat store store' life (Err ReadHalted) → state' ≡ Stopped (life + 1) doubt → BeginsHere false (Refused Halted)
    begins_unread says is =
        let still : HasSome model pair.0 pair.1 store' = record { x = pair.0; y = pair.1; has = (says.still ReadHalted refl tt).holds_same pair.0 pair.1 pair.2.has; first = inl refl; second = inr refl } in
        (stops_so doubt (pair.2.moved store' still) half half2 is, says.cause tt)

    begins_unsaved : (r : HalfReading) → Says model seat store store' life (Err (SaveHalted r)) → state' ≡ Stopped (life + 1) (doubt_after doubt r) → BeginsHere (last_found doubt r) (Refused Halted)
    begins_unsaved r says is =
        let read = says.unsaved r refl pair.0 pair.1 pair.2.has in
        (stops_so (doubt_after doubt r) (known_left model before after store' doubt r read.0 one (pair.2.chosen r read.0 read.1 read.2) read.3) half half2 is, says.cause tt)

    not_ours : {P : Type 0} → Says model seat store store' life (Err NotOurs) → P
    not_ours says = let may = pair.2.may seat made fit half fit2 half2 in absurd (says.ours pair.0 pair.1 pair.2.has may.0 may.1 refl)

    -- whatever it comes to
    pub begins : (P : Result (Answer × Bool) NoMemory → Type 0) → ((answer : Answer) (found : Bool) → BeginsHere found answer → P (Ok (answer, found))) → (begun : Result (Running × HalfReading) RestartFault) (result : Result (Answer × Bool) NoMemory)
        → (begun ≡ Err WantsMemory → state' ≡ state → P (Err (record {}))) → Says model seat store store' life begun → Restarts life doubt state state' begun result → P result
    begins P ok (Ok (me, r)) result err says ends = subst P (sym ends.0) (ok Done (last_found doubt r) (begins_ok me r says ends.1))
    begins P ok (Err WantsMemory) result err says ends = subst P (sym ends.0) (err refl ends.1)
    begins P ok (Err ReadHalted) result err says ends = subst P (sym ends.0) (ok (Refused Halted) false (begins_unread says ends.1))
    begins P ok (Err (SaveHalted r)) result err says ends = subst P (sym ends.0) (ok (Refused Halted) (last_found doubt r) (begins_unsaved r says ends.1))
    begins P ok (Err NotOurs) result err says ends = not_ours says

settled_same : {S : Type 0} (model : StoreModel S) (doubt : Doubt) (before after : Durable) (store : S) → Leaves model doubt before after store → doubt ≡ Settled → before ≡ after
settled_same model doubt before after store left is = (subst (λ k. Leaves model k before after store) is left).0

-- what memory and a store that stands still stood for before, they stand for after
module _ {S : Type 0} (model : StoreModel S) (seat : Seat) (store store' : S) (still : StandsStill model store store') where
  still_runs : (me : Running) (s : Server) → IsRunning model seat store me s → IsRunning model seat store' me s
  still_runs me s runs = record {
    stands = record { recorded = still.holds_same s.durable s.durable runs.stands.recorded; used_is = still.used_same ∙ runs.stands.used_is; within = runs.stands.within; half = still.format_same ∙ runs.stands.half; cached = runs.stands.cached };
    is = runs.is;
    setup = runs.setup;
  }

  still_stopped : (l : ℕ) (known : Doubt) (there : ℕ) (before after : Durable) → IsStopped model seat l known there before after store → IsStopped model seat l known there before after store'
  still_stopped l known there before after stopped =
      let pair = pair_left model before after store known stopped.left in
      record {
        life_is = stopped.life_is;
        left = pair.2.moved store' (record { x = pair.0; y = pair.1; has = still.holds_same pair.0 pair.1 pair.2.has; first = inl refl; second = inr refl });
        first = stopped.first;
        second = stopped.second;
      }

  still_meets : (state : State) (c : Condition) → Meets model seat store state c → Meets model seat store' state c
  still_meets (Runs me) (RunningIs s) meets = still_runs me s meets
  still_meets (Runs me) (StoppedIs there before after) meets = absurd meets
  still_meets (Runs me) UnformattedIs meets = absurd meets
  still_meets (Stopped l k) (RunningIs s) meets = absurd meets
  still_meets (Stopped l k) (StoppedIs there before after) meets = still_stopped l k there before after meets
  still_meets (Stopped l k) UnformattedIs meets = absurd meets
  still_meets Unformatted (RunningIs s) meets = absurd meets
  still_meets Unformatted (StoppedIs there before after) meets = absurd meets
  still_meets Unformatted UnformattedIs meets = meets

module _ {S : Type 0} (model : StoreModel S) (seat : Seat) (made : IsSeat seat) (store store' : S) (life : ℕ) (doubt : Doubt) (state' : State) (begun : Result (Running × HalfReading) RestartFault) (result : Result (Answer × Bool) NoMemory) (says : Says model seat store store' life begun) where
  from_running : (me : Running) (s : Server) → (life ≡ me.life) × (doubt ≡ Settled) → IsRunning model seat store me s → StoppedIsFit seat s.durable → Restarts life doubt (Runs me) state' begun result → BeginsAgain model seat store store' state' (RunningIs s) result
  from_running me s last runs fit ends =
      let its : life ≡ s.life = last.0 ∙ same_life model seat store me s runs in
      let d = s.durable in
      let one : HasOne model d store = record { x = d; y = d; has = runs.stands.recorded; first = inl refl; second = inl refl } in
      let left : Leaves model doubt d d store = subst (λ k. Leaves model k d d store) (sym last.1) (refl, one) in
      let half = in_half model seat store me s runs in
      begins model seat made store store' life doubt (Runs me) state' d d left (λ _. refl) fit half fit half
      (BeginsAgain model seat store store' state' (RunningIs s))
      (λ answer found b. subst (λ n. Begins model seat store store' state' n d d found answer) its b) begun result
      (λ none same. subst (λ z. Meets model seat store' z (RunningIs s)) (sym same) (still_runs model seat store store' (says.still WantsMemory none tt) me s runs)) says ends

  from_stopped : (l : ℕ) (known : Doubt) (there : ℕ) (before after : Durable) → (life ≡ l) × (doubt ≡ known) → IsStopped model seat l known there before after store → StoppedIsFit seat before → StoppedIsFit seat after → Restarts life doubt (Stopped l known) state' begun result
      → BeginsAgain model seat store store' state' (StoppedIs there before after) result
  from_stopped l known there before after last stopped fit fit2 ends =
      let its : life ≡ there = last.0 ∙ stopped.life_is in
      let left : Leaves model doubt before after store = subst (λ k. Leaves model k before after store) (sym last.1) stopped.left in
      begins model seat made store store' life doubt (Stopped l known) state' before after left (settled_same model doubt before after store left) fit stopped.first fit2 stopped.second
      (BeginsAgain model seat store store' state' (StoppedIs there before after))
      (λ answer found b. subst (λ n. Begins model seat store store' state' n before after found answer) its b) begun result
      (λ none same. subst (λ z. Meets model seat store' z (StoppedIs there before after)) (sym same) (still_stopped model seat store store' (says.still WantsMemory none tt) l known there before after stopped)) says ends

  pub again : (state : State) (c : Condition) → IsLastLife state life doubt → Meets model seat store state c → IsHonest seat c → Restarts life doubt state state' begun result → BeginsAgain model seat store store' state' c result
  again (Runs me) (RunningIs s) last meets known ends = from_running me s last meets known ends
  again (Runs me) (StoppedIs there before after) last meets known ends = absurd meets
  again (Runs me) UnformattedIs last meets known ends = absurd meets
  again (Stopped l k) (RunningIs s) last meets known ends = absurd meets
  again (Stopped l k) (StoppedIs there before after) last meets known ends = from_stopped l k there before after last meets known.0 known.1 ends
  again (Stopped l k) UnformattedIs last meets known ends = absurd meets
  again Unformatted c last meets known ends = absurd last

module _ {S : Type 0} (model : StoreModel S) (seat : Seat) (store : S) (life : ℕ) (doubt : Doubt) where
  -- no life is near the end of its type
  pub last_low : (state : State) (c : Condition) → IsLastLife state life doubt → Meets model seat store state c → IsKnown seat c → life < far
  last_low (Runs me) (RunningIs s) last meets known = omega (arith, last.0, low_life model seat store me s meets known)
  last_low (Runs me) (StoppedIs there before after) last meets known = absurd meets
  last_low (Runs me) UnformattedIs last meets known = absurd meets
  last_low (Stopped l k) (RunningIs s) last meets known = absurd meets
  last_low (Stopped l k) (StoppedIs there before after) last meets known = omega (arith, last.0, meets.life_is, known)
  last_low (Stopped l k) UnformattedIs last meets known = absurd meets
  last_low Unformatted c last meets known = absurd last

-- what became of the disks
module _ {S : Type 0} (model : StoreModel S) (seat : Seat) (store store' : S) (begun : (x y : Durable) → model.holds store x y → WasBegun model.was x y store store') where
  begun_from : (doubt : Doubt) (before after : Durable) → Leaves model doubt before after store → WasBegunFrom model.was store store' before after
  begun_from doubt before after left =
      let pair = pair_left model before after store doubt left in
      record { x = pair.0; y = pair.1; first = pair.2.first; second = pair.2.second; begun = begun pair.0 pair.1 pair.2.has }

  pub begun_in : (life : ℕ) (doubt : Doubt) (state : State) (c : Condition) → IsLastLife state life doubt → Meets model seat store state c → WasBegunIn model.was store store' c
  begun_in life doubt (Runs me) (RunningIs s) last meets = record { x = s.durable; y = s.durable; first = inl (inl refl); second = inl (inl refl); begun = begun s.durable s.durable meets.stands.recorded }
  begun_in life doubt (Runs me) (StoppedIs there before after) last meets = absurd meets
  begun_in life doubt (Runs me) UnformattedIs last meets = absurd meets
  begun_in life doubt (Stopped l k) (RunningIs s) last meets = absurd meets
  begun_in life doubt (Stopped l k) (StoppedIs there before after) last meets = begun_from k before after meets.left
  begun_in life doubt (Stopped l k) UnformattedIs last meets = absurd meets
  begun_in life doubt Unformatted c last meets = absurd last

-- a life begins without answers
pub quiet_again : (life : ℕ) (doubt : Doubt) (state state' : State) (begun : Result (Running × HalfReading) RestartFault) (result : Result (Answer × Bool) NoMemory) → Restarts life doubt state state' begun result → untaken_answers state ≡ [] → untaken_answers state' ≡ []
quiet_again life doubt state state' (Ok (me, r)) result ends none = ap untaken_answers ends.1
quiet_again life doubt state state' (Err WantsMemory) result ends none = ap untaken_answers ends.1 ∙ none
quiet_again life doubt state state' (Err ReadHalted) result ends none = ap untaken_answers ends.1
quiet_again life doubt state state' (Err (SaveHalted r)) result ends none = ap untaken_answers ends.1
quiet_again life doubt state state' (Err NotOurs) result ends none = ap untaken_answers ends.1 ∙ by state none
  where
    by : (z : State) → untaken_answers z ≡ [] → untaken_answers (stopped_by life doubt z) ≡ []
    by (Runs me) e = refl
    by (Stopped its known) e = refl
    by Unformatted e = refl

-- over any disks
module _ {S : Type 0} (model : StoreModel S) (seat : Seat) (store store' : S) (life : ℕ) (doubt : Doubt) (state state' : State) where
  pub record SaysOfAny (begun : Result (Running × HalfReading) RestartFault) : Type 0 where
    pub begun_some : IfOk begun (λ r. (d : Durable) × IsBegun model d store' r.0 seat (life + 1))
    pub still : (e : RestartFault) → begun ≡ Err e → IsEarly e → StandsStill model store store'
    pub unsaved : (r : HalfReading) → begun ≡ Err (SaveHalted r) → (d : Durable) × ServerHasBegun (setup_of_seat seat) d × model.holds store' d (renewed d)

  life_of : (c : Condition) → IsLastLife state life doubt → Meets model seat store state c → suc life ≡ next_life c
  life_of c last meets = by state c last meets
    where
      by : (z : State) (k : Condition) → IsLastLife z life doubt → Meets model seat store z k → suc life ≡ next_life k
      by (Runs me) (RunningIs s) l m = ap suc (l.0 ∙ same_life model seat store me s m)
      by (Runs me) (StoppedIs there before after) l m = absurd m
      by (Runs me) UnformattedIs l m = absurd m
      by (Stopped its known) (RunningIs s) l m = absurd m
      by (Stopped its known) (StoppedIs there before after) l m = ap suc (l.0 ∙ m.life_is)
      by (Stopped its known) UnformattedIs l m = absurd m
      by Unformatted k l m = absurd l

  never_open : (r : HalfReading) (bytes generation : ℕ) → doubt_after doubt r ≡ Open bytes generation → ⊥
  never_open r bytes generation is = by doubt is
    where
      by : (k : Doubt) → doubt_after k r ≡ Open bytes generation → ⊥
      by Settled e = grind (arith, e)
      by (Open b q) e = grind (arith, e)
      by (Read found) e = grind (arith, e)

  over : (known : Doubt) (d : Durable) → ((bytes generation : ℕ) → known ≡ Open bytes generation → ⊥) → model.holds store' d (renewed d) → Leaves model known d d store'
  over Settled d never has = (refl, record { x = d; y = renewed d; has = has; first = inl refl; second = inr refl })
  over (Open bytes generation) d never has = absurd (never bytes generation refl)
  over (Read found) d never has = subst (λ z. HasOne model z store') (sym (chosen found)) (record { x = d; y = renewed d; has = has; first = inl refl; second = inr refl })
    where
      chosen : (b : Bool) → cond b d d ≡ d
      chosen true = refl
      chosen false = refl

  half_of : (d : Durable) → ServerHasBegun (setup_of_seat seat) d → IsInHalf seat d
  half_of d fits = record { format = fits.half.format; within = fits.half.within }

  module _ (c : Condition) (last : IsLastLife state life doubt) (meets : Meets model seat store state c) where
    begins_over : (me : Running) (d : Durable) → IsBegun model d store' me seat (life + 1) → state' ≡ Runs (quieted me) → BeginsOver model seat store' state' c
    unfolding restarted
    begins_over me d begun is =
        let next : life + 1 ≡ next_life c = (omega arith) ∙ life_of c last meets in
        let runs : IsRunning model seat store' me (restarted seat.number (next_life c) d) = subst (λ n. IsRunning model seat store' me (restarted seat.number n d)) next (record { stands = begun.stands; is = begun.is; setup = begun.setup }) in
        record {
          life = life;
          next = life_of c last meets;
          d = d;
          fits = begun.begun;
          meets = subst (λ z. Meets model seat store' z (RunningIs (restarted seat.number (next_life c) d))) (sym is) (quieted_runs model seat store' me (restarted seat.number (next_life c) d) runs).meets;
        }

    stops_over : (r : HalfReading) (d : Durable) → ServerHasBegun (setup_of_seat seat) d → model.holds store' d (renewed d) → state' ≡ Stopped (life + 1) (doubt_after doubt r) → StopsOver model seat store' state' c
    stops_over r d fits has is = record {
      life = life;
      next = life_of c last meets;
      d = d;
      fits = fits;
      meets = subst (λ z. Meets model seat store' z (StoppedIs (next_life c) d d)) (sym is)
          (record { life_is = (omega arith) ∙ life_of c last meets; left = over (doubt_after doubt r) d (never_open r) has; first = half_of d fits; second = half_of d fits });
    }

    unread_by : ((x y : Durable) → model.holds store x y → model.holds store' x y) → state' ≡ Stopped (life + 1) doubt → (z : State) (k : Condition) → IsLastLife z life doubt → Meets model seat store z k → StopsUnread model seat store' state' c k
    unread_by unread is (Runs me) (RunningIs s) l m =
        let half = in_half model seat store me s m in
        let one : HasOne model s.durable store' = record { x = s.durable; y = s.durable; has = unread s.durable s.durable m.stands.recorded; first = inl refl; second = inl refl } in
        subst (λ y. Meets model seat store' y (StoppedIs (suc s.life) s.durable s.durable)) (sym is) (record {
          life_is = omega (arith, l.0, same_life model seat store me s m);
          left = subst (λ q. Leaves model q s.durable s.durable store') (sym l.1) (refl, one);
          first = half;
          second = half;
        })
    unread_by unread is (Runs me) (StoppedIs there before after) l m = absurd m
    unread_by unread is (Runs me) UnformattedIs l m = absurd m
    unread_by unread is (Stopped its known) (RunningIs s) l m = absurd m
    unread_by unread is (Stopped its known) (StoppedIs there before after) l m =
        let pair = pair_left model before after store known m.left in
        let still : HasSome model pair.0 pair.1 store' = record { x = pair.0; y = pair.1; has = unread pair.0 pair.1 pair.2.has; first = inl refl; second = inr refl } in
        subst (λ y. Meets model seat store' y (StoppedIs (suc there) before after)) (sym is) (record {
          life_is = omega (arith, l.0, m.life_is);
          left = subst (λ q. Leaves model q before after store') (sym l.1) (pair.2.moved store' still);
          first = m.first;
          second = m.second;
        })
    unread_by unread is (Stopped its known) UnformattedIs l m = absurd m
    unread_by unread is Unformatted k l m = absurd l

    stops_unread : (unread : (x y : Durable) → model.holds store x y → model.holds store' x y) → state' ≡ Stopped (life + 1) doubt → StopsUnread model seat store' state' c c
    stops_unread unread is = unread_by unread is state c last meets

    -- no state of it was found
    not_found : StandsStill model store store' → state' ≡ stopped_by life doubt state → Meets model seat store' state' (stopped_in c)
    not_found still is = by state c last meets is
      where
        by : (z : State) (k : Condition) → IsLastLife z life doubt → Meets model seat store z k → state' ≡ stopped_by life doubt z → Meets model seat store' state' (stopped_in k)
        by (Runs me) (RunningIs s) l m e = unread_by still.holds_same e (Runs me) (RunningIs s) l m
        by (Runs me) (StoppedIs there before after) l m e = absurd m
        by (Runs me) UnformattedIs l m e = absurd m
        by (Stopped its known) (RunningIs s) l m e = absurd m
        by (Stopped its known) (StoppedIs there before after) l m e = subst (λ z. Meets model seat store' z (StoppedIs there before after)) (sym e) (still_meets model seat store store' still (Stopped its known) (StoppedIs there before after) m)
        by (Stopped its known) UnformattedIs l m e = absurd m
        by Unformatted k l m e = absurd l

    pub somehow : (begun : Result (Running × HalfReading) RestartFault) (result : Result (Answer × Bool) NoMemory) → SaysOfAny begun → Restarts life doubt state state' begun result → BeginsSomehow model seat store' state' c result
    somehow (Ok (me, r)) result says ends = subst (BeginsSomehow model seat store' state' c) (sym ends.0) (begins_over me says.begun_some.0 says.begun_some.1 ends.1)
    somehow (Err WantsMemory) result says ends =
        subst (BeginsSomehow model seat store' state' c) (sym ends.0) (subst (λ z. Meets model seat store' z c) (sym ends.1) (still_meets model seat store store' (says.still WantsMemory refl tt) state c meets))
    somehow (Err ReadHalted) result says ends = subst (BeginsSomehow model seat store' state' c) (sym ends.0) (inr (stops_unread (says.still ReadHalted refl tt).holds_same ends.1))
    somehow (Err (SaveHalted r)) result says ends = let w = says.unsaved r refl in subst (BeginsSomehow model seat store' state' c) (sym ends.0) (inl (stops_over r w.0 w.1 w.2 ends.1))
    somehow (Err NotOurs) result says ends = subst (BeginsSomehow model seat store' state' c) (sym ends.0) (refl, not_found (says.still NotOurs refl tt) ends.1)

  -- a halt has its cause
  pub halt_cause : (begun : Result (Running × HalfReading) RestartFault) (result : Result (Answer × Bool) NoMemory) → IfErr begun (λ fault. IsHalt fault → model.rose store store') → Restarts life doubt state state' begun result → IfOk result (λ r. r.0 ≡ Refused Halted → model.rose store store')
  halt_cause (Ok (me, r)) result cause ends = subst (λ x. IfOk x (λ (y : Answer × Bool). y.0 ≡ Refused Halted → model.rose store store')) (sym ends.0) (λ e. absurd (grind (arith, e)))
  halt_cause (Err WantsMemory) result cause ends = subst (λ x. IfOk x (λ (y : Answer × Bool). y.0 ≡ Refused Halted → model.rose store store')) (sym ends.0) tt
  halt_cause (Err ReadHalted) result cause ends = subst (λ x. IfOk x (λ (y : Answer × Bool). y.0 ≡ Refused Halted → model.rose store store')) (sym ends.0) (λ _. cause tt)
  halt_cause (Err (SaveHalted r)) result cause ends = subst (λ x. IfOk x (λ (y : Answer × Bool). y.0 ≡ Refused Halted → model.rose store store')) (sym ends.0) (λ _. cause tt)
  halt_cause (Err NotOurs) result cause ends = subst (λ x. IfOk x (λ (y : Answer × Bool). y.0 ≡ Refused Halted → model.rose store store')) (sym ends.0) (λ e. absurd (grind (arith, e)))
