-- A read as the turn of a server.
use Rattle.std.proofs.Common.{◌≡◌, ℕ, ◌<◌, Bool, true, false, not, List, [], ◌∷◌, length, map, Option, Some, None, Result, Ok, Err, slice_get, arith, refl, sym, ap, subst, ◌∙◌}
use Rattle.std.proofs.lemmas.Bool.{false≢true, true≢false}
use Rattle.std.proofs.lemmas.List.{length-append}
use Rattle.std.specs.Option.{option_map}
use Rattle.pf_base.specs.Span.{Span, IsWritable, fits_in}
use Rattle.pf_base.specs.declared.errors.NoMemory.{NoMemory}
use Rattle.pf_protocol.specs.declared.answers.Answer.{Answer}
use Rattle.pf_protocol.specs.declared.answers.Answer.TheVariants.{Done, Slot, Term, Read as ReadIs, Base, Job, Refused}
use Rattle.pf_protocol.specs.declared.answers.Refusal.{Refusal}
use Rattle.pf_protocol.specs.declared.answers.Refusal.TheVariants.{BadRange, Halted, NotLeader}
use Rattle.pf_protocol.specs.declared.events.Event.TheVariants.{Fetch}
use Rattle.pf_protocol.specs.Servers.{Setup, Role, Follower, Candidate, Merging, Serving, Server as ServerIs, Condition, Running as RunningIs, Stopped as StoppedIs, Unformatted as UnformattedIs}
use Rattle.pf_protocol.specs.Outcomes.{Outcome}
use Rattle.pf_protocol.specs.Leading.{on_fetch}
use Rattle.pf_protocol.specs.Groups.{Group, Whole, at_server, ending, happens, reads_after}
use Rattle.pf_protocol.specs.Histories.{RunsAs}
use Rattle.pf_protocol.specs.Answers.{ServerTurn, answer_to, fetch_refusal as group_fetch_refusal, fetch_turn, is_serving, may_halt, refuse, room_refusal as group_room_refusal}
use Rattle.pf_server_store.specs.Stores.{StoreModel}
use Rattle.pf_group_network.specs.Pasts.{GroupPast, PastIsShort, IsViablePast}
use Rattle.pf_protocol.proofs.ForRows.{fetch_asks, fetch_silent}
use Rattle.pf_group_network.proofs.Laws.{viable_asks}
use Rattle.pf_protocol.proofs.ForRows.{refuse_none}
use Rattle.pf_server_memory.specs.Outgoing.{Outgoing}
use Rattle.pf_server_memory.specs.Standing.{room_refusal}
use Rattle.pf_server_apply.specs.Fetching.{fetch_refusal}
use Rattle.pf_server_restart.specs.Beginning.{setup_of_seat}
use Rattle.pf_server.specs.declared.server.Server.{Server}
use Rattle.pf_server.specs.Conditions.{IsNextRead, Meets}
use Rattle.pf_group_network.specs.declared.network.Network.{Network}
use Rattle.pf_group_network.specs.declared.acked.AckedList.{AckedList}
use Rattle.pf_group_network.specs.declared.kept.Reading.{Reading}
use Rattle.pf_group_network.specs.declared.kept.Reading.TheVariants.{Waiting}
use Rattle.pf_entry.specs.Lists.{Every}
use Rattle.pf_protocol.specs.Asked.{AreBelow}
use Rattle.pf_group_network.specs.Going.{Goes, HasFault, IsReached, KeepsStores, KeepsTelling, Touches}
use Rattle.pf_group_network.specs.Readings.{is_taken, readings_after, readings_with}
use Rattle.pf_group_network.specs.Unread.{ReadingsAre}
use Rattle.pf_group_network.specs.Showing.{AreReadings, HasTraffic, Shows, seat_of, taken_of}
use Rattle.pf_group_network.specs.Turned.{Ends, HasTurned, IsTurnOf, reads_with}
use Rattle.pf_group_network.proofs.TurnBegins.{its_condition}
use Rattle.pf_group_network.proofs.TurnOutcomes.{fault_of}
use Rattle.pf_group_network.proofs.Events.{IsMid, IsTurnEvent, turn_answer, turn_canonical, turned_so}
use Rattle.pf_group_network.proofs.Laws.{answered_below}
use Rattle.pf_group_network.proofs.Plain.{DidTurn, here, mid_of, spared}
use Rattle.pf_group_network.proofs.Readings.{one_more_taken, one_more_waits}
use Rattle.pf_group_network.proofs.Rules.{leaves_all, packets_fit}
use Rattle.pf_group_network.proofs.Simple.{never_halts}
use Rattle.pf_group_network.proofs.Stores.{others_kept, stores_kept, telling_kept}
use Rattle.pf_group_network.proofs.CrashedDisks.{touches_none, turn_touches}

fetch_disk : (s : ServerIs) (range : Span) (number : ℕ) (role : Role) → (on_fetch s range number role).server.durable ≡ s.durable
unfolding on_fetch
fetch_disk s range number Follower = refl
fetch_disk s range number (Candidate own) = refl
fetch_disk s range number (Merging l) = refl
fetch_disk s range number (Serving l) = refl

fetch_whole : (s : ServerIs) (range : Span) (number : ℕ) (role : Role) → is_serving role ≡ true → ending (on_fetch s range number role).answer ≡ Whole
unfolding on_fetch
fetch_whole s range number Follower serves = absurd (true≢false (sym serves))
fetch_whole s range number (Candidate own) serves = absurd (true≢false (sym serves))
fetch_whole s range number (Merging l) serves = absurd (true≢false (sym serves))
fetch_whole s range number (Serving l) serves = refl

not_false : (b : Bool) → not b ≡ false → b ≡ true
not_false true is = refl
not_false false is = absurd (true≢false is)

-- nothing but room refuses it
record MayGo (setup : Setup) (g : Group) (range : Span) (s : ServerIs) : Type 0 where
  fits : fits_in range setup.chunk ≡ true
  serves : is_serving s.role ≡ true
  room : group_room_refusal g (on_fetch s range g.reads s.role) ≡ None

may_go : (setup : Setup) (g : Group) (range : Span) (s : ServerIs) → group_fetch_refusal setup g range s ≡ None → MayGo setup g range s
unfolding group_fetch_refusal
may_go setup g range s none =
    let first = refuse_none (not (fits_in range setup.chunk)) BadRange _ none in
    let second = refuse_none (not (is_serving s.role)) NotLeader _ first.1 in
    record { fits = not_false (fits_in range setup.chunk) first.0; serves = not_false (is_serving s.role) second.0; room = second.1 }

pub fetch_event : (setup : Setup) (g : Group) (i : ℕ) (range : Span) → IsTurnEvent setup g (Fetch i range) i (fetch_turn setup g range) (λ how. g)
unfolding answer_to may_halt happens
fetch_event setup g i range = record { answers = refl; halts = never_halts (fetch_turn setup g range) (λ s. fetch_disk s range g.reads s.role) (slice_get g.servers i); goes = λ how. refl; servers = λ how. refl; acts = refl; loud = refl }

pub fetch_known : (setup : Setup) (past : GroupPast) → IsViablePast setup past → PastIsShort past → (i : ℕ) (range : Span) → i < 3 → IsWritable range.first range.count → (s : ServerIs) → RunsAs past.group i s → IsTurnOf past.group (fetch_turn setup past.group range) s
fetch_known setup past viable short i range low writable s at =
    let g = past.group in
    let turn = fetch_turn setup g range in
    let whole : turn.refusal s ≡ None → ending (turn.rule s).answer ≡ Whole = λ none. fetch_whole s range g.reads s.role (may_go setup g range s none).serves in
    record {
      leaves = leaves_all (turn.refusal s) (fetch_silent setup g range s);
      whole = whole;
      fits = λ none. packets_fit g (on_fetch s range g.reads s.role) (may_go setup g range s none).room;
      below = λ none. (fetch_asks setup setup.chunk g.reads s (viable_asks setup past viable i s at) range writable (may_go setup g range s none).fits).below;
      canonical = λ none. turn_canonical setup past viable short (Fetch i range) i turn (λ how. g) (fetch_event setup g i range) (low, writable) s at none (whole none);
    }

fetch_judged : (setup : Setup) (g : Group) (i : ℕ) (range : Span) (out : Outgoing) → ((o : Outcome) → room_refusal out o ≡ group_room_refusal g o) → (s : ServerIs) → fetch_refusal (setup_of_seat (seat_of setup i)) out range g.reads s ≡ group_fetch_refusal setup g range s
unfolding fetch_refusal group_fetch_refusal
fetch_judged setup g i range out room s = ap (λ (rest : Option Refusal). refuse (not (fits_in range setup.chunk)) BadRange (refuse (not (is_serving s.role)) NotLeader rest)) (room (on_fetch s range g.reads s.role))

same_length : (readings : List Reading) (answer : Answer) → length (readings_after readings answer) ≡ reads_after (length readings) answer
same_length readings Done = refl
same_length readings (Slot slot) = refl
same_length readings (Term term) = refl
same_length readings (ReadIs number) = omega (arith, length-append readings (Waiting ∷ []))
same_length readings (Base base) = refl
same_length readings (Job job) = refl
same_length readings (Refused refusal) = refl

still_readings : (setup : Setup) (past : GroupPast) → IsViablePast setup past → (readings : List Reading) → length readings ≡ past.group.reads → AreReadings past.group.answered readings → (answer : Answer) → AreReadings past.group.answered (readings_after readings answer)
still_readings setup past viable readings count are Done = are
still_readings setup past viable readings count are (Slot slot) = are
still_readings setup past viable readings count are (Term term) = are
still_readings setup past viable readings count are (ReadIs number) = one_more_waits past.group.answered readings (subst (λ n. Every (λ a. a.number < n) past.group.answered) (sym count) (answered_below setup past viable)) are
still_readings setup past viable readings count are (Base base) = are
still_readings setup past viable readings count are (Job job) = are
still_readings setup past viable readings count are (Refused refusal) = are

module _ {S : Type 0} (model : StoreModel S) (setup : Setup) (past : GroupPast) (old : Network S) (reached : IsReached model setup past old) where
  -- the number of the next read
  pub its_number : length old.readings.items ≡ past.group.reads
  its_number = reached.shows.reads

  pub is_next : (i : ℕ) (me : Server S) (number : ℕ) → number ≡ past.group.reads → slice_get old.servers.items i ≡ Some me → (c : Condition) × Meets model me.seat me.store me.state c × IsNextRead c number
  is_next i me number is here =
      let m = its_condition model setup past old reached i me here in
      (m.0, m.2.meets, next m.0 m.1)
    where
      next : (c : Condition) → slice_get past.group.servers i ≡ Some c → IsNextRead c number
      next (RunningIs s) there = subst (λ n. AreBelow n s.reads) (sym is) (viable_asks setup past reached.viable i s there).below
      next (StoppedIs life before after) there = tt
      next UnformattedIs there = tt

  module _ (i : ℕ) (range : Span) (writable : IsWritable range.first range.count) (me next : Server S) (acked : AckedList) (readings : ReadingsAre) (out out' : Outgoing) (number : ℕ) (numbered : number ≡ past.group.reads) (outcome : Result Answer NoMemory)
      (did : DidTurn model setup past old reached i me next acked out out' (fetch_refusal (setup_of_seat me.seat) out range number) (λ s. on_fetch s range number s.role) outcome)
      (kept : readings.items ≡ readings_with old.readings.items outcome) (room : (o : Outcome) → room_refusal out o ≡ group_room_refusal past.group o) where
    abbrev g : Group
    g = past.group

    abbrev turn : ServerTurn
    turn = fetch_turn setup g range

    abbrev mid : Network S
    mid = record (mid_of old i next acked) { readings = readings }

    there : slice_get old.servers.items i ≡ Some me
    there = here model setup past old reached i me next acked out out' (fetch_refusal (setup_of_seat me.seat) out range number) (λ s. on_fetch s range number s.role) outcome did

    pub middle : IsMid model setup past old reached i me next mid
    middle = record { here = there; servers = refl; seat = did.seat; told_same = did.told_same }

    are_readings : (o : Result Answer NoMemory) → AreReadings g.answered (readings_with old.readings.items o)
    are_readings (Ok answer) = still_readings setup past reached.viable old.readings.items reached.shows.reads reached.shows.traffic.readings answer
    are_readings (Err e) = reached.shows.traffic.readings

    pub traffic : HasTraffic mid g
    traffic = let t = reached.shows.traffic in record { packets = t.packets; places = t.places; room = t.room; acked = did.items ∙ t.acked; elections = t.elections; readings = subst (AreReadings g.answered) (sym kept) (are_readings outcome) }

    count : (o : Result Answer NoMemory) → length (readings_with old.readings.items o) ≡ reads_with g.reads o
    count (Ok answer) = same_length old.readings.items answer ∙ ap (λ n. reads_after n answer) reached.shows.reads
    count (Err e) = reached.shows.reads

    pub reads_are : length readings.items ≡ reads_with g.reads outcome
    reads_are = ap length kept ∙ count outcome

    pub same_judged : (s : ServerIs) → fetch_refusal (setup_of_seat me.seat) out range number s ≡ turn.refusal s
    same_judged s =
        let m = its_condition model setup past old reached i me there in
        ap (λ seat. fetch_refusal (setup_of_seat seat) out range number s) m.2.seat ∙ ap (λ n. fetch_refusal (setup_of_seat (seat_of setup i)) out range n s) numbered ∙ fetch_judged setup g i range out room s

    unfoldable pub fetch_turned : HasTurned model setup g i turn mid out' outcome
    fetch_turned = turned_so model setup past old reached i me next mid middle g refl turn outcome out out' (fetch_refusal (setup_of_seat me.seat) out range number) (λ s. on_fetch s range number s.role) same_judged
        (λ s. ap (λ n. on_fetch s range n s.role) numbered) did.tells did.down did.fresh (fetch_known setup past reached.viable reached.short i range did.low writable) traffic did.place (λ c took. reads_are)

    module _ (after : Network S) (same : outcome ≡ Ok (Refused Halted) → after ≡ mid) (stores : KeepsStores mid after) (taken : taken_of after ≡ taken_of mid) where
      cause : outcome ≡ Ok (Refused Halted) → HasFault model.rose i old after
      unfolding fetch_turned turned_so
      cause halted = fault_of model setup g i turn mid out' outcome fetch_turned old after refl (ap (λ (x : Network S). x.servers.items) (same halted)) halted

      crash : (answer : Answer) → outcome ≡ Ok answer → Touches model.was g (at_server (ending answer) g i turn.rule) (Some i) old after
      unfolding fetch_turned turned_so
      crash answer so = turn_touches model setup g i turn mid out' g refl outcome fetch_turned answer so old after refl stores

      telling : KeepsTelling model.told old after
      telling j = ap (option_map model.told) (stores j) ∙ telling_kept old mid i next refl model.told me there did.told_same j

      by_outcome : (o : Result Answer NoMemory) → outcome ≡ o → Ends model setup g i turn after o → Goes model setup g (Fetch i range) old after o
      by_outcome (Err e) so shows = record { shows = shows; crash = touches_none model.was g g old after; others = λ j own. stores j ∙ stores_kept old mid i next refl me there (spared model setup past old reached i me next acked out out' (fetch_refusal (setup_of_seat me.seat) out range number) (λ s. on_fetch s range number s.role) outcome did e so) j; tells = telling; taken = taken ∙ ap (map is_taken) kept ∙ ap (λ o. map is_taken (readings_with old.readings.items o)) so }
      by_outcome (Ok answer) so ended =
          let event_is = fetch_event setup g i range in
          record {
            answered = turn_answer setup g (Fetch i range) i turn (λ how. g) event_is answer ended.answered;
            shows = subst (Shows model setup after) (sym (event_is.goes (ending answer))) ended.shows;
            cause = λ halted. (i, refl, cause (so ∙ ap Ok halted));
            crash = subst (λ later. Touches model.was g later (Some i) old after) (sym (event_is.goes (ending answer))) (crash answer so);
            others = λ j apart. stores j ∙ others_kept old mid i next refl j apart;
            quiet = λ quiet. absurd (false≢true quiet);
            tells = telling;
            taken = taken ∙ ap (map is_taken) kept ∙ ap (λ o. map is_taken (readings_with old.readings.items o)) so ∙ one_more_taken old.readings.items answer;
          }

      pub fetch_goes : (result : Result Answer NoMemory) → result ≡ outcome → (HasTurned model setup g i turn mid out' outcome → Ends model setup g i turn after outcome) → Goes model setup g (Fetch i range) old after result
      fetch_goes result is_outcome ended = subst (λ r. Goes model setup g (Fetch i range) old after r) (sym is_outcome) (by_outcome outcome refl (ended fetch_turned))
