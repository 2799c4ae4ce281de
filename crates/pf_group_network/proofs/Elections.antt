-- An election as the turn of a server.
use Rattle.std.proofs.Common.{◌≡◌, inl, ℕ, ◌<◌, ◌≤◌, true, false, Option, Some, None, Result, Ok, Err, nat_le, slice_get, arith, refl, sym, ap, subst, ◌∙◌}
use Rattle.std.proofs.lemmas.Bool.{true≢false}
use Rattle.std.proofs.lemmas.Bool.Decides.{nat_tests}
use Rattle.pf_base.specs.declared.errors.NoMemory.{NoMemory}
use Rattle.pf_protocol.specs.declared.answers.Answer.{Answer}
use Rattle.pf_protocol.specs.declared.answers.Answer.TheVariants.{Refused}
use Rattle.pf_protocol.specs.declared.answers.Refusal.TheVariants.{Down, ElectionsFull, Halted}
use Rattle.pf_protocol.specs.declared.events.Event.TheVariants.{Elect}
use Rattle.pf_protocol.specs.Servers.{Setup, Server as ServerIs, Condition, Running as RunningIs, Stopped as StoppedIs, Unformatted as UnformattedIs}
use Rattle.pf_protocol.specs.Outcomes.{Outcome, store}
use Rattle.pf_protocol.specs.Leading.{on_elect}
use Rattle.pf_protocol.specs.Groups.{Group, Ending, Whole, CutOff, Missed, Untouched, acted, at_server, counted_election, cut_off, ending, happens, reads_after, server_step_of}
use Rattle.pf_protocol.specs.Answers.{answer_at, answer_by, answer_to, elect_refusal, elect_turn, may_halt, most_elections, refuse, room_refusal as group_room_refusal}
use Rattle.pf_server_store.specs.Stores.{StoreModel}
use Rattle.pf_group_network.specs.Pasts.{GroupPast, PastIsShort, IsViablePast}
use Rattle.pf_protocol.proofs.ForRows.{elect_asks}
use Rattle.pf_group_network.proofs.Laws.{viable_asks}
use Rattle.pf_protocol.proofs.ForRows.{elect_silent}
use Rattle.pf_server_memory.specs.Outgoing.{Outgoing}
use Rattle.pf_server_memory.specs.Standing.{room_refusal}
use Rattle.pf_server.specs.declared.server.Server.{Server}
use Rattle.pf_server.specs.declared.state.State.{State}
use Rattle.pf_server.specs.declared.state.State.TheVariants.{Runs as RunsHere, Stopped, Unformatted}
use Rattle.pf_server_restart.specs.declared.seat.Seat.{Seat}
use Rattle.pf_server.specs.Conditions.{Meets, state_runs}
use Rattle.pf_group_network.specs.declared.network.Network.{Network}
use Rattle.pf_group_network.specs.Elections.{elections_after, one_more_election}
use Rattle.pf_group_network.specs.Going.{HasGone, IsReached}
use Rattle.pf_group_network.specs.Showing.{Shows}
use Rattle.pf_group_network.proofs.TurnBegins.{its_condition}
use Rattle.pf_group_network.proofs.Events.{IsTurnEvent, turn_canonical}
use Rattle.pf_group_network.proofs.Plain.{IsTurnAs}
use Rattle.pf_group_network.proofs.ServerTurns.{stopped_idles, unformatted_idles}
use Rattle.pf_group_network.proofs.CrashedDisks.{touches_kept}
use Rattle.pf_group_network.proofs.Rules.{below_after, leaves_all, packets_fit}

elect_answer_whole : (s : ServerIs) → ending (on_elect s).answer ≡ Whole
unfolding on_elect
elect_answer_whole s = refl

elect_quiet : (s : ServerIs) (reads : ℕ) → reads_after reads (on_elect s).answer ≡ reads
unfolding on_elect
elect_quiet s reads = refl

same_servers : (g : Group) (how : Ending) → (counted_election how g).servers ≡ g.servers
same_servers g Whole = refl
same_servers g CutOff = refl
same_servers g Missed = refl
same_servers g Untouched = refl

pub elect_event : (setup : Setup) (g : Group) (i : ℕ) → IsTurnEvent setup g (Elect i) i (elect_turn g) (λ how. counted_election how g)
unfolding answer_to may_halt happens
elect_event setup g i = record { answers = refl; halts = λ is. is; goes = λ how. refl; servers = same_servers g; acts = refl; loud = refl }

-- the group has had less than 64 elections
few_judged : (g : Group) (s : ServerIs) → g.elections < 64 → elect_refusal g s ≡ group_room_refusal g (on_elect s)
unfolding elect_refusal most_elections
few_judged g s few =
    let no_more : nat_le 64 g.elections ≡ false = grind (arith, nat_tests) in
    ap (λ b. refuse b ElectionsFull (group_room_refusal g (on_elect s))) no_more

full_judged : (g : Group) (s : ServerIs) → 64 ≤ g.elections → elect_refusal g s ≡ Some ElectionsFull
unfolding elect_refusal most_elections
full_judged g s many =
    let so : nat_le 64 g.elections ≡ true = grind (arith, nat_tests) in
    ap (λ b. refuse b ElectionsFull (group_room_refusal g (on_elect s))) so

pub elects : (setup : Setup) (past : GroupPast) → IsViablePast setup past → PastIsShort past → (i : ℕ) → i < 3 → past.group.elections < 64 → (out : Outgoing) → ((o : Outcome) → room_refusal out o ≡ group_room_refusal past.group o)
    → IsTurnAs setup past (Elect i) i (elect_turn past.group) (λ how. counted_election how past.group) (λ s. room_refusal out (on_elect s)) on_elect
elects setup past viable short i low few out room =
    let g = past.group in
    record {
      event_is = elect_event setup g i;
      same_judged = λ s. room (on_elect s) ∙ sym (few_judged g s few);
      same_rule = λ s. refl;
      knows = λ s at. record {
        leaves = leaves_all (elect_refusal g s) (elect_silent g s);
        whole = λ none. elect_answer_whole s;
        fits = λ none. packets_fit g (on_elect s) (sym (few_judged g s few) ∙ none);
        below = λ none. below_after g.reads (on_elect s).answer (on_elect s).server.reads (elect_asks setup setup.chunk g.reads s (viable_asks setup past viable i s at)).below;
        canonical = λ none. turn_canonical setup past viable short (Elect i) i (elect_turn g) (λ how. counted_election how g) (elect_event setup g i) low s at none (elect_answer_whole s);
      };
      plain = λ s. elect_quiet s g.reads;
    }

-- an election is counted after the turn as well as before it
counted_step : (g : Group) (i : ℕ) (rule : ServerIs → Outcome) (how : Ending) (c : Option Condition) → server_step_of how (counted_election how g) i c rule ≡ record (server_step_of how g i c rule) { elections = one_more_election how g.elections }
unfolding acted cut_off
counted_step g i rule Whole (Some (RunningIs s)) = refl
counted_step g i rule Whole (Some (StoppedIs life before after)) = refl
counted_step g i rule Whole (Some UnformattedIs) = refl
counted_step g i rule Whole None = refl
counted_step g i rule CutOff (Some (RunningIs s)) = refl
counted_step g i rule CutOff (Some (StoppedIs life before after)) = refl
counted_step g i rule CutOff (Some UnformattedIs) = refl
counted_step g i rule CutOff None = refl
counted_step g i rule Missed (Some (RunningIs s)) = refl
counted_step g i rule Missed (Some (StoppedIs life before after)) = refl
counted_step g i rule Missed (Some UnformattedIs) = refl
counted_step g i rule Missed None = refl
counted_step g i rule Untouched (Some (RunningIs s)) = refl
counted_step g i rule Untouched (Some (StoppedIs life before after)) = refl
counted_step g i rule Untouched (Some UnformattedIs) = refl
counted_step g i rule Untouched None = refl

pub counted_after : (g : Group) (i : ℕ) (rule : ServerIs → Outcome) (how : Ending) → at_server how (counted_election how g) i rule ≡ record (at_server how g i rule) { elections = one_more_election how g.elections }
counted_after g i rule how = ap (λ xs. server_step_of how (counted_election how g) i (slice_get xs i) rule) (same_servers g how) ∙ counted_step g i rule how (slice_get g.servers i)

-- a step that does not take place
pub untouched : (g : Group) (i : ℕ) (rule : ServerIs → Outcome) (c : Option Condition) → server_step_of Untouched g i c rule ≡ g
untouched g i rule (Some (RunningIs s)) = refl
untouched g i rule (Some (StoppedIs life before after)) = refl
untouched g i rule (Some UnformattedIs) = refl
untouched g i rule None = refl

pub missed : (g : Group) (i : ℕ) (rule : ServerIs → Outcome) (c : Option Condition) → server_step_of Missed g i c rule ≡ g
missed g i rule (Some (RunningIs s)) = refl
missed g i rule (Some (StoppedIs life before after)) = refl
missed g i rule (Some UnformattedIs) = refl
missed g i rule None = refl

module _ {S : Type 0} (model : StoreModel S) where
  pub running_there : (seat : Seat) (store : S) (state : State) (s : ServerIs) → Meets model seat store state (RunningIs s) → state_runs state ≡ true
  running_there seat store (RunsHere me) s m = refl
  running_there seat store (Stopped life doubt) s m = absurd m
  running_there seat store Unformatted s m = absurd m

  -- another count of elections
  pub shows_count : (setup : Setup) (network : Network S) (g : Group) (n : ℕ) → Shows model setup network g → Shows model setup (record network { elections = n }) (record g { elections = n })
  shows_count setup network g n shows = record {
    three = shows.three;
    members = shows.members;
    traffic = (let t = shows.traffic in record { packets = t.packets; places = t.places; room = t.room; acked = t.acked; elections = refl; readings = t.readings });
    reads = shows.reads;
  }

  -- the election was counted after the turn
  pub counts_whole : (setup : Setup) (g : Group) (i : ℕ) (rule : ServerIs → Outcome) (before : ℕ) → before ≡ g.elections → (after : Network S) (n : ℕ) (outcome : Result Answer NoMemory) → n ≡ elections_after before outcome → (answer : Answer) → outcome ≡ Ok answer
      → Shows model setup after (at_server (ending answer) g i rule) → Shows model setup (record after { elections = n }) (at_server (ending answer) (counted_election (ending answer) g) i rule)
  counts_whole setup g i rule before same after n outcome is answer so shows =
      let count : n ≡ one_more_election (ending answer) g.elections = is ∙ ap (elections_after before) so ∙ ap (one_more_election (ending answer)) same in
      subst (Shows model setup (record after { elections = n })) (sym (counted_after g i rule (ending answer)))
      (subst (λ k. Shows model setup (record after { elections = n }) (record (at_server (ending answer) g i rule) { elections = k })) count (shows_count setup after (at_server (ending answer) g i rule) n shows))

  pub counts_none : (setup : Setup) (g : Group) (before : ℕ) → before ≡ g.elections → (after : Network S) (n : ℕ) (outcome : Result Answer NoMemory) → n ≡ elections_after before outcome → (e : NoMemory) → outcome ≡ Err e
      → Shows model setup after g → Shows model setup (record after { elections = n }) g
  counts_none setup g before same after n outcome is e so shows =
      let count : n ≡ g.elections = is ∙ ap (elections_after before) so ∙ same in
      subst (λ k. Shows model setup (record after { elections = n }) (record g { elections = k })) count (shows_count setup after g n shows)

  module _ (setup : Setup) (past : GroupPast) (old : Network S) (reached : IsReached model setup past old) (i : ℕ) (me : Server S) (here : slice_get old.servers.items i ≡ Some me) where
    elect_is : (answer right : Answer) → answer ≡ right → happens setup past.group (Elect i) (ending answer) ≡ at_server (ending right) (counted_election (ending right) past.group) i on_elect
    unfolding happens
    elect_is answer right is = ap (λ a. at_server (ending a) (counted_election (ending a) past.group) i on_elect) is

    elect_answers : (c : Condition) → slice_get past.group.servers i ≡ Some c → answer_to setup past.group (Elect i) ≡ answer_at (Some c) (elect_turn past.group)
    unfolding answer_to
    elect_answers c there = ap (λ x. answer_at x (elect_turn past.group)) there

    -- the server does not run
    pub elects_none : state_runs me.state ≡ false → HasGone model setup past.group (Elect i) old old (Refused Down)
    elects_none idle =
        let m = its_condition model setup past old reached i me here in
        record {
          answered = inl (sym (elect_answers m.0 m.1 ∙ down m.0 m.2.meets));
          shows = subst (Shows model setup old) (sym (elect_is (Refused Down) (Refused Down) refl ∙ missed past.group i on_elect (slice_get past.group.servers i))) reached.shows;
          cause = λ halted. absurd (apart halted);
          crash = touches_kept model.was _ _ _ old old (λ j. refl);
          others = λ j own. refl;
          quiet = λ quiet j. refl;
          tells = λ j. refl;
          taken = refl;
        }
      where
        apart : Refused Down ≡ Refused Halted → ⊥
        apart is = cc

        down : (c : Condition) → Meets model me.seat me.store me.state c → answer_at (Some c) (elect_turn past.group) ≡ Refused Down
        down (RunningIs s) meets = absurd (true≢false (sym (running_there me.seat me.store me.state s meets) ∙ idle))
        down (StoppedIs life before after) meets = refl
        down UnformattedIs meets = refl

    -- the group has had all its elections
    pub elects_full : state_runs me.state ≡ true → 64 ≤ old.elections → HasGone model setup past.group (Elect i) old old (Refused ElectionsFull)
    elects_full running many =
        let m = its_condition model setup past old reached i me here in
        record {
          answered = inl (sym (elect_answers m.0 m.1 ∙ full m.0 m.2.meets));
          shows = subst (Shows model setup old) (sym (elect_is (Refused ElectionsFull) (Refused ElectionsFull) refl ∙ untouched past.group i on_elect (slice_get past.group.servers i))) reached.shows;
          cause = λ halted. absurd (apart halted);
          crash = touches_kept model.was _ _ _ old old (λ j. refl);
          others = λ j own. refl;
          quiet = λ quiet j. refl;
          tells = λ j. refl;
          taken = refl;
        }
      where
        apart : Refused ElectionsFull ≡ Refused Halted → ⊥
        apart is = cc

        full : (c : Condition) → Meets model me.seat me.store me.state c → answer_at (Some c) (elect_turn past.group) ≡ Refused ElectionsFull
        full (RunningIs s) meets = ap (λ o. answer_by o (on_elect s).answer) (full_judged past.group s (subst (λ n. 64 ≤ n) reached.shows.traffic.elections many))
        full (StoppedIs life before after) meets = absurd (true≢false (sym running ∙ stopped_idles model me.seat me.store me.state life before after meets))
        full UnformattedIs meets = absurd (true≢false (sym running ∙ unformatted_idles model me.seat me.store me.state meets))
