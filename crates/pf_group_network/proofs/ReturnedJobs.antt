-- Jobs come back.
use Rattle.std.proofs.Common.{◌≡◌, ◌⊎◌, inr, ℕ, ◌+◌, ◌<◌, ◌≤◌, Bool, true, false, not, ◌||◌, ◌==◌, if◌then◌else◌, inl, [], length, map, Some, None, nat_lt, slice_get, sum_by, get_or, append-nil, vec_capacity, le_refl, arith, refl, sym, ap, subst, ◌∙◌}
use Rattle.std.proofs.lemmas.Bool.{true≢false, false≢true}
use Rattle.std.proofs.lemmas.Bool.Decides.{nat_tests}
use Rattle.std.proofs.lemmas.Option.{slice_get_within}
use Rattle.std.specs.Vec.{with_item}
use Rattle.pf_entry.specs.Lists.{Every}
use Rattle.pf_entry.specs.Records.{Durable}
use Rattle.pf_entry.specs.Canonical.{IsCanonicalPacket}
use Rattle.pf_entry.specs.Sizes.{packet_size}
use Rattle.pf_wire.specs.Packets.{packet_bytes}
use Rattle.pf_protocol.specs.declared.answers.Answer.{Answer}
use Rattle.pf_protocol.specs.declared.answers.Answer.TheVariants.{Done, Refused}
use Rattle.pf_protocol.specs.declared.answers.Refusal.{Refusal}
use Rattle.pf_protocol.specs.declared.answers.Refusal.TheVariants.{Down, Halted, Stale}
use Rattle.pf_protocol.specs.declared.events.Event.TheVariants.{Finish, GiveBack}
use Rattle.pf_protocol.specs.Servers.{Setup, Server as ServerIs, Condition, Running as RunningIs, Stopped as StoppedIs, Unformatted as UnformattedIs}
use Rattle.pf_protocol.specs.Outcomes.{Outcome, only_answers, sends}
use Rattle.pf_protocol.specs.Saving.{applied_op, on_finish, on_give_back}
use Rattle.pf_protocol.specs.Asked.{AreBelow}
use Rattle.pf_protocol.specs.Rows.{settled}
use Rattle.pf_protocol.specs.Groups.{Group, Ending, Whole, Missed, Untouched, at_server, ending, happens, reads_after, server_step_of}
use Rattle.pf_server_store.specs.Stores.{StoreModel}
use Rattle.pf_group_network.specs.Pasts.{GroupPast}
use Rattle.pf_protocol.specs.Answers.{answer_to, finish_answer, most_packet_bytes, most_packets, packets_full, refuse}
use Rattle.pf_protocol.proofs.ForRows.{finish_asks, give_back_asks}
use Rattle.pf_group_network.proofs.Laws.{viable_asks}
use Rattle.pf_entry.proofs.Cases.{by_test}
use Rattle.pf_group_network.proofs.Laws.{viable_room}
use Rattle.pf_server_memory.specs.Outgoing.{Outgoing}
use Rattle.pf_server.specs.declared.server.Server.{Server}
use Rattle.pf_server.specs.declared.state.State.{State}
use Rattle.pf_server.specs.declared.state.State.TheVariants.{Runs, Stopped, Unformatted}
use Rattle.pf_server.specs.declared.state.Doubt.{Doubt}
use Rattle.pf_server.specs.Conditions.{AreSized, Meets, untaken_answers, state_runs, BringsBack}
use Rattle.pf_server.specs.Turns.{ComesInMemory, IsSettled, finish_refusal}
use Rattle.pf_group_network.specs.declared.network.Network.{Network}
use Rattle.pf_base.specs.declared.filled.Filled.{Filled}
use Rattle.pf_entry.proofs.Lists.{every_get}
use Rattle.pf_protocol.specs.Answers.{Claimed, ClaimIsOpen}
use Rattle.pf_group_network.proofs.Laws.{viable_open}
use Rattle.pf_server.specs.Conditions.{BringsBack}
use Rattle.pf_group_network.specs.Going.{HasGone, IsBroughtBack, IsReached, KeepsStores}
use Rattle.pf_group_network.specs.Readings.{taken_after}
use Rattle.pf_group_network.specs.Unread.{ReadingsAre}
use Rattle.pf_group_network.specs.Showing.{HasTraffic, IsMember, Shows, taken_of}
use Rattle.pf_group_network.specs.Turned.{HasStepped, is_refused}
use Rattle.pf_group_network.proofs.StepResults.{read_there, shows_acted}
use Rattle.pf_group_network.proofs.Alone.{alone_still}
use Rattle.pf_group_network.proofs.TurnBegins.{its_condition}
use Rattle.pf_group_network.proofs.Elections.{running_there}
use Rattle.pf_group_network.proofs.Lists.{set_there}
use Rattle.pf_group_network.proofs.Readings.{have_places}
use Rattle.pf_group_network.proofs.Stores.{stores_kept}
use Rattle.pf_group_network.proofs.ServerTurns.{stopped_idles, unformatted_idles}
use Rattle.pf_group_network.proofs.CrashedDisks.{touches_kept}
use Rattle.pf_group_network.specs.Keeping.{HavePlaces, with_answers}
use Rattle.std.specs.FinMap
use Rattle.std.specs.Option.{option_map}

pub none_full : (g : Group) → length g.packets ≤ most_packets → sum_by (λ sent. packet_size sent.packet) g.packets ≤ most_packet_bytes → packets_full g [] ≡ false
unfolding most_packets most_packet_bytes
none_full g few short =
    let a : nat_lt 65536 (length g.packets + 0) ≡ false = grind (arith, nat_tests) in
    let b : nat_lt 134217728 (sum_by (λ sent. packet_size sent.packet) g.packets + 0) ≡ false = grind (arith, nat_tests) in
    ap (λ x. x || nat_lt 134217728 (sum_by (λ sent. packet_size sent.packet) g.packets + 0)) a ∙ b

-- nothing was sent
abbrev pub nothing_sent : Outgoing
nothing_sent = record { packets = []; packet_room = 0; byte_room = 0; acked = None }

-- the rule sends nothing and tells the host nothing
pub record IsStill (o : Outcome) : Type 0 where
  pub answer : o.answer ≡ Done
  pub packets : o.packets ≡ []
  pub acked : o.acked ≡ None

module _ {S : Type 0} (model : StoreModel S) (setup : Setup) (past : GroupPast) (old : Network S) (reached : IsReached model setup past old) (i : ℕ) (me next : Server S) (low : i < 3) (here : slice_get old.servers.items i ≡ Some me) (seat : next.seat ≡ me.seat) (told_same : model.told next.store ≡ model.told me.store) where
  abbrev g : Group
  g = past.group

  abbrev mid : Network S
  mid = record old { servers = with_item old.servers i next }

  pub traffic : HasTraffic mid g
  traffic = let t = reached.shows.traffic in record { packets = t.packets; places = t.places; room = t.room; acked = t.acked; elections = t.elections; readings = t.readings }

  member : (c : Condition) → IsMember model setup i me c → Meets model me.seat next.store next.state c → IsMember model setup i next c
  member c m meets = record { seat = seat ∙ m.seat; meets = subst (λ s. Meets model s next.store next.state c) (sym seat) meets }

  -- the step was carried out in memory
  unfoldable pub job_stepped : (s : ServerIs) (o : Outcome) (answer : Answer) → IsMember model setup i me (RunningIs s) → IsSettled model me.seat next.store next.state s o answer → IsStill o → AreBelow g.reads o.server.reads → HasStepped model setup g i o mid nothing_sent
  job_stepped s o answer m settles still below =
      let room = viable_room setup past reached.viable in
      record {
        before = old.servers.items;
        me = next;
        now = refl;
        three = reached.shows.three;
        low = low;
        members = reached.shows.members;
        seat = seat ∙ m.seat;
        meets = subst (λ x. Meets model x next.store next.state (RunningIs (settled o.server))) (sym seat) settles.meets;
        answers = settles.answers;
        sized = settles.sized;
        traffic = traffic;
        reads = reached.shows.reads ∙ sym (ap (reads_after g.reads) still.answer);
        below = subst (λ n. AreBelow n o.server.reads) (sym (ap (reads_after g.reads) still.answer)) below;
        fits = ap (packets_full g) still.packets ∙ none_full g room.count room.bytes;
        canonical = subst (Every IsCanonicalPacket) (sym still.packets) tt;
        sent = sym (ap (map packet_bytes) still.packets);
        acks = sym still.acked;
      }

  -- the rule was carried out in memory
  pub record JobDone (rule : ServerIs → Outcome) (answer : Answer) : Type 0 where
    pub s : ServerIs
    pub there : slice_get g.servers i ≡ Some (RunningIs s)
    pub member_is : IsMember model setup i me (RunningIs s)
    pub settles : IsSettled model me.seat next.store next.state s (rule s) answer
    pub still : IsStill (rule s)
    pub below : AreBelow g.reads (rule s).server.reads

  module _ (rule : ServerIs → Outcome) (answer : Answer) (done : JobDone rule answer) where
    unfoldable pub done_stepped : HasStepped model setup g i (rule done.s) mid nothing_sent
    done_stepped = job_stepped done.s (rule done.s) answer done.member_is done.settles done.still done.below

    module _ (lent : Server S) (read : lent ≡ get_or mid.servers.items i lent) where
      pub lent_is : lent ≡ next
      lent_is = read_there mid.servers.items i next lent (set_there old.servers.items i next (slice_get_within old.servers.items i me here)) read

      pub job_sized : AreSized (untaken_answers lent.state)
      job_sized = subst (λ (x : Server S). AreSized (untaken_answers x.state)) (sym lent_is) done.settles.sized

      pub job_places : HavePlaces old.readings.items (untaken_answers lent.state)
      job_places = subst (λ (x : Server S). HavePlaces old.readings.items (untaken_answers x.state)) (sym lent_is)
          (subst (HavePlaces old.readings.items) (sym done.settles.answers) (have_places old.readings.items (rule done.s).server (subst (λ n. AreBelow n (rule done.s).server.reads) (sym reached.shows.reads) done.below)))

      pub job_stores : next.store ≡ me.store → (after : Server S) (readings : ReadingsAre) → after.store ≡ lent.store → KeepsStores old (record mid { servers = with_item mid.servers i after; readings = readings })
      job_stores kept after readings same j =
          stores_kept mid (record mid { servers = with_item mid.servers i after; readings = readings }) i after refl lent (set_there old.servers.items i next (slice_get_within old.servers.items i me here) ∙ ap Some (sym lent_is)) same j
          ∙ stores_kept old mid i next refl me here kept j

      pub job_shows : (after : Server S) (readings : ReadingsAre) → after.seat ≡ lent.seat → after.store ≡ lent.store
          → ((s : ServerIs) → Meets model lent.seat lent.store lent.state (RunningIs s) → Meets model after.seat after.store after.state (RunningIs s))
          → readings.items ≡ with_answers old.readings.items (untaken_answers lent.state) → Shows model setup (record mid { servers = with_item mid.servers i after; readings = readings }) (at_server Whole g i rule)
      unfolding done_stepped job_stepped
      job_shows after readings same_seat same_store same items =
          let o = rule done.s in
          subst (Shows model setup (record mid { servers = with_item mid.servers i after; readings = readings })) (sym (ap (λ c. server_step_of Whole g i c rule) done.there))
          (shows_acted model setup g i o mid nothing_sent done_stepped (record mid { servers = with_item mid.servers i after; readings = readings }) after (record {
            servers = refl;
            seat = same_seat ∙ ap (λ (x : Server S). x.seat) lent_is;
            store = same_store ∙ ap (λ (x : Server S). x.store) lent_is;
            meets = same (settled o.server) (subst (λ (x : Server S). Meets model x.seat x.store x.state (RunningIs (settled o.server))) (sym lent_is) done_stepped.meets);
            packets = sym (append-nil old.packets.items);
            grown = le_refl (vec_capacity old.packets);
            room = omega arith;
            acked = sym (append-nil old.acked.list.items);
            readings = items ∙ ap (λ (x : Server S). with_answers old.readings.items (untaken_answers x.state)) lent_is;
            elections = refl;
          }))

done_apart : Done ≡ Refused Halted → ⊥
done_apart is = cc

given_back : (s : ServerIs) (life slot : ℕ) → IsStill (on_give_back s life slot)
unfolding on_give_back
given_back s life slot = by_test (life == s.life) (λ c. IsStill (if c then sends (record s { in_hand = FinMap.remove s.in_hand slot }) [] else sends s [])) (λ _. record { answer = refl; packets = refl; acked = refl }) (λ _. record { answer = refl; packets = refl; acked = refl })

finished : (s : ServerIs) (life slot : ℕ) → (life == s.life) ≡ true → IsStill (on_finish s life slot)
unfolding on_finish
finished s life slot same = by_test (life == s.life) (λ c. c ≡ true → IsStill (if c then sends (applied_op s slot (FinMap.get s.in_hand slot)) [] else only_answers s (Refused (Stale s.life)))) (λ _ is. record { answer = refl; packets = refl; acked = refl }) (λ _ is. absurd (false≢true is)) same

stale : (s : ServerIs) (life slot : ℕ) → (life == s.life) ≡ false → (on_finish s life slot).answer ≡ Refused (Stale s.life)
unfolding on_finish
stale s life slot other = by_test (life == s.life) (λ c. c ≡ false → (if c then sends (applied_op s slot (FinMap.get s.in_hand slot)) [] else only_answers s (Refused (Stale s.life))).answer ≡ Refused (Stale s.life)) (λ _ is. absurd (true≢false is)) (λ _ is. refl) other

module _ {S : Type 0} (model : StoreModel S) (setup : Setup) (past : GroupPast) (old : Network S) (reached : IsReached model setup past old) (i : ℕ) (me next : Server S) (low : i < 3) (here : slice_get old.servers.items i ≡ Some me) (seat : next.seat ≡ me.seat) (told_same : model.told next.store ≡ model.told me.store) (life slot : ℕ) where
  abbrev grp : Group
  grp = past.group

  abbrev back_done : Answer → Type 0
  back_done answer = JobDone model setup past old reached i me next low here seat told_same (λ s. on_give_back s life slot) answer

  -- a running server took a job back
  pub back_taken : state_runs me.state ≡ true → ((s : ServerIs) → Meets model me.seat me.store me.state (RunningIs s) → ComesInMemory model me.seat next.store next.state s None (on_give_back s life slot) Done) → back_done Done
  back_taken running step =
      let m = its_condition model setup past old reached i me here in
      by m.0 m.1 m.2
    where
      by : (c : Condition) → slice_get grp.servers i ≡ Some c → IsMember model setup i me c → back_done Done
      by (RunningIs s) there m = record {
        s = s;
        there = there;
        member_is = m;
        settles = step s m.meets;
        still = given_back s life slot;
        below = (give_back_asks setup setup.chunk grp.reads s (viable_asks setup past reached.viable i s there) life slot).below;
      }
      by (StoppedIs its before after) there m = absurd (true≢false (sym running ∙ stopped_idles model me.seat me.store me.state its before after m.meets))
      by UnformattedIs there m = absurd (true≢false (sym running ∙ unformatted_idles model me.seat me.store me.state m.meets))

  pub back_gone : (after : Network S) → KeepsStores old after → taken_of after ≡ taken_of old → Shows model setup after (at_server Whole grp i (λ s. on_give_back s life slot)) → HasGone model setup grp (GiveBack i life slot) old after Done
  unfolding answer_to happens
  back_gone after stores taken shows = record { answered = inl refl; shows = shows; cause = λ halted. absurd (done_apart halted); crash = touches_kept model.was _ _ _ old after stores; others = λ j own. stores j; quiet = λ quiet. stores; tells = λ j. ap (option_map model.told) (stores j); taken = taken }

  pub back_idle : state_runs me.state ≡ false → HasGone model setup grp (GiveBack i life slot) old old Done
  back_idle idle =
      let m = its_condition model setup past old reached i me here in
      back_gone old (λ j. refl) refl (subst (Shows model setup old) (sym (ap (λ c. server_step_of Whole grp i c (λ s. on_give_back s life slot)) m.1 ∙ by m.0 m.2.meets)) reached.shows)
    where
      by : (c : Condition) → Meets model me.seat me.store me.state c → server_step_of Whole grp i (Some c) (λ s. on_give_back s life slot) ≡ grp
      by (RunningIs s) meets = absurd (true≢false (sym (running_there model me.seat me.store me.state s meets) ∙ idle))
      by (StoppedIs its before after) meets = refl
      by UnformattedIs meets = refl

not_down : Refused Down ≡ Refused Halted → ⊥
not_down is = cc

not_stale : (life : ℕ) → Refused (Stale life) ≡ Refused Halted → ⊥
not_stale life is = cc

module _ {S : Type 0} (model : StoreModel S) (setup : Setup) (past : GroupPast) (old : Network S) (reached : IsReached model setup past old) (i : ℕ) (me next : Server S) (low : i < 3) (here : slice_get old.servers.items i ≡ Some me) (seat : next.seat ≡ me.seat) (told_same : model.told next.store ≡ model.told me.store) (life slot : ℕ) (answer : Answer)
    (step : (s : ServerIs) → Meets model me.seat me.store me.state (RunningIs s) → ComesInMemory model me.seat next.store next.state s (finish_refusal s life) (on_finish s life slot) answer)
    (stopped : (its : ℕ) (doubt : Doubt) → me.state ≡ Stopped its doubt → (answer ≡ Refused (Stale its)) × (next ≡ me)) (unformatted : me.state ≡ Unformatted → (answer ≡ Refused Down) × (next ≡ me)) where
  abbrev now : Group
  now = past.group

  abbrev done_so : Type 0
  done_so = JobDone model setup past old reached i me next low here seat told_same (λ s. on_finish s life slot) answer

  abbrev middle : Network S
  middle = record old { servers = with_item old.servers i next }

  at_stopped : (its : ℕ) (before after : Durable) → Meets model me.seat me.store me.state (StoppedIs its before after) → (answer ≡ Refused (Stale its)) × (next ≡ me)
  at_stopped its before after meets = by me.state refl meets
    where
      by : (state : State) → me.state ≡ state → Meets model me.seat me.store state (StoppedIs its before after) → (answer ≡ Refused (Stale its)) × (next ≡ me)
      by (Runs x) is m = absurd m
      by (Stopped l doubt) is m = let d = stopped l doubt is in (d.0 ∙ ap (λ n. Refused (Stale n)) m.life_is, d.1)
      by Unformatted is m = absurd m

  at_unformatted : Meets model me.seat me.store me.state UnformattedIs → (answer ≡ Refused Down) × (next ≡ me)
  at_unformatted meets = by me.state refl meets
    where
      by : (state : State) → me.state ≡ state → Meets model me.seat me.store state UnformattedIs → (answer ≡ Refused Down) × (next ≡ me)
      by (Runs x) is m = absurd m
      by (Stopped l doubt) is m = absurd m
      by Unformatted is m = unformatted is

  -- the job was of this life and is done, or it was of another
  at_running : (s : ServerIs) → Meets model me.seat me.store me.state (RunningIs s) → (((life == s.life) ≡ true) × IsSettled model me.seat next.store next.state s (on_finish s life slot) answer) ⊎ (((life == s.life) ≡ false) × (answer ≡ Refused (Stale s.life)) × Meets model me.seat next.store next.state (RunningIs s))
  at_running s meets = by (life == s.life) refl (step s meets)
    where
      by : (b : Bool) → (life == s.life) ≡ b → ComesInMemory model me.seat next.store next.state s (refuse (not b) (Stale s.life) None) (on_finish s life slot) answer → (((life == s.life) ≡ true) × IsSettled model me.seat next.store next.state s (on_finish s life slot) answer) ⊎ (((life == s.life) ≡ false) × (answer ≡ Refused (Stale s.life)) × Meets model me.seat next.store next.state (RunningIs s))
      by true same comes = inl (same, comes)
      by false other comes = inr (other, comes.answered, comes.kept.meets)

  -- it was done
  pub finish_done : is_refused answer ≡ false → done_so
  finish_done stands =
      let m = its_condition model setup past old reached i me here in
      by m.0 m.1 m.2
    where
      refuses : (refusal : Refusal) → answer ≡ Refused refusal → ⊥
      refuses refusal is = true≢false (sym (ap is_refused is) ∙ stands)

      by : (c : Condition) → slice_get now.servers i ≡ Some c → IsMember model setup i me c → done_so
      by (RunningIs s) there m = elim (at_running s m.meets) [
        | inl done ↦ record {
          s = s;
          there = there;
          member_is = m;
          settles = done.1;
          still = finished s life slot done.0;
          below = (finish_asks setup setup.chunk now.reads s (viable_asks setup past reached.viable i s there) life slot).below;
        }
        | inr other ↦ absurd (refuses (Stale s.life) other.1)
      ]
      by (StoppedIs its before after) there m = absurd (refuses (Stale its) (at_stopped its before after m.meets).0)
      by UnformattedIs there m = absurd (refuses Down (at_unformatted m.meets).0)

  finish_answers : (c : Condition) → slice_get now.servers i ≡ Some c → answer_to setup now (Finish i life slot) ≡ finish_answer (Some c) life slot
  unfolding answer_to
  finish_answers c there = ap (λ x. finish_answer x life slot) there

  finish_comes : (how : Ending) → ending answer ≡ how → happens setup now (Finish i life slot) (ending answer) ≡ at_server how now i (λ s. on_finish s life slot)
  unfolding happens
  finish_comes how is = ap (λ h. at_server h now i (λ s. on_finish s life slot)) is

  pub finish_gone : (done : done_so) → (after : Network S) → KeepsStores old after → taken_of after ≡ taken_of old → Shows model setup after (at_server Whole now i (λ s. on_finish s life slot)) → HasGone model setup now (Finish i life slot) old after answer
  finish_gone done after stores taken shows =
      let is : answer ≡ Done = done.settles.answered ∙ done.still.answer in
      record {
        answered = inl (done.settles.answered ∙ sym (finish_answers (RunningIs done.s) done.there));
        shows = subst (Shows model setup after) (sym (finish_comes Whole (ap ending is))) shows;
        cause = λ halted. absurd (done_apart (sym is ∙ halted));
        crash = touches_kept model.was _ _ _ old after stores;
        others = λ j own. stores j;
        quiet = λ quiet. stores;
        tells = λ j. ap (option_map model.told) (stores j);
        taken = taken ∙ ap (taken_after (taken_of old)) (sym is);
      }

  -- it was refused
  pub finish_refused : next.store ≡ me.store → is_refused answer ≡ true → HasGone model setup now (Finish i life slot) old middle answer
  finish_refused kept refused_so =
      let m = its_condition model setup past old reached i me here in
      by m.0 m.1 m.2
    where
      stores : KeepsStores old middle
      stores = stores_kept old middle i next refl me here kept

      gone : (c : Condition) → slice_get now.servers i ≡ Some c → IsMember model setup i next c → (right : Answer) → finish_answer (Some c) life slot ≡ right → answer ≡ right → (how : Ending) → ending right ≡ how → server_step_of how now i (Some c) (λ s. on_finish s life slot) ≡ now → (right ≡ Refused Halted → ⊥) → taken_after (taken_of old) right ≡ taken_of old → HasGone model setup now (Finish i life slot) old middle answer
      gone c there m right is same how ends idle apart quiet = record {
        answered = inl (same ∙ sym (finish_answers c there ∙ is));
        shows = subst (Shows model setup middle) (sym (finish_comes how (ap ending same ∙ ends) ∙ ap (λ x. server_step_of how now i x (λ s. on_finish s life slot)) there ∙ idle))
            (alone_still model setup now old reached.shows i next c there m);
        cause = λ halted. absurd (apart (sym same ∙ halted));
        crash = touches_kept model.was _ _ _ old middle stores;
        others = λ j own. stores j;
        quiet = λ quiet. stores;
        tells = λ j. ap (option_map model.told) (stores j);
        taken = sym (ap (taken_after (taken_of old)) same ∙ quiet);
      }

      by : (c : Condition) → slice_get now.servers i ≡ Some c → IsMember model setup i me c → HasGone model setup now (Finish i life slot) old middle answer
      by (RunningIs s) there m = elim (at_running s m.meets) [
        | inl done ↦ absurd (false≢true (sym (ap is_refused (done.1.answered ∙ (finished s life slot done.0).answer)) ∙ refused_so))
        | inr other ↦ gone (RunningIs s) there (record { seat = seat ∙ m.seat; meets = subst (λ x. Meets model x next.store next.state (RunningIs s)) (sym seat) other.2 }) (Refused (Stale s.life)) (stale s life slot other.0) other.1 Untouched refl refl (not_stale s.life) refl
      ]
      by (StoppedIs its before after) there m = let d = at_stopped its before after m.meets in
          gone (StoppedIs its before after) there (subst (λ (x : Server S). IsMember model setup i x (StoppedIs its before after)) (sym d.1) m) (Refused (Stale its)) refl d.0 Untouched refl refl (not_stale its) refl
      by UnformattedIs there m = let d = at_unformatted m.meets in
          gone UnformattedIs there (subst (λ (x : Server S). IsMember model setup i x UnformattedIs) (sym d.1) m) (Refused Down) refl d.0 Missed refl refl not_down refl

-- the job is in hand where its life lasts
pub brings_back : {S : Type 0} → (model : StoreModel S) (setup : Setup) (past : GroupPast) (old : Network S) (filled : Filled) → IsBroughtBack model setup past old filled → (me : Server S) → slice_get old.servers.items filled.server ≡ Some me → (c : Condition) × Meets model me.seat me.store me.state c × BringsBack c filled
brings_back model setup past old filled job me here =
    let m = its_condition model setup past old job.reached filled.server me here in
    (m.0, m.2.meets, by m.0 m.1)
  where
    by : (c : Condition) → slice_get past.group.servers filled.server ≡ Some c → BringsBack c filled
    by (RunningIs s) there = λ same.
        let claim : Claimed = record { server = filled.server; life = filled.life; slot = filled.slot; op = job.op } in
        let open_so = every_get (ClaimIsOpen past.group.servers) past.claims job.k claim (viable_open setup past job.reached.viable) job.claim in
        (job.op, (open_so.running s there).1 same, job.brought)
    by (StoppedIs its before after) there = tt
    by UnformattedIs there = tt
