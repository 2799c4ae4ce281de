-- Events that are the turn of one server, and no more.
use Rattle.std.proofs.Common.{◌≡◌, ℕ, ◌<◌, Option, Some, None, Result, Ok, Err, slice_get, get_or, refl, sym, ap, subst, ◌∙◌}
use Rattle.std.proofs.lemmas.Bool.{false≢true}
use Rattle.std.specs.Vec.{with_item}
use Rattle.std.specs.Option.{option_map}
use Rattle.pf_base.specs.declared.errors.NoMemory.{NoMemory}
use Rattle.pf_protocol.specs.declared.answers.Answer.{Answer}
use Rattle.pf_protocol.specs.declared.answers.Answer.TheVariants.{Refused}
use Rattle.pf_protocol.specs.declared.answers.Refusal.{Refusal}
use Rattle.pf_protocol.specs.declared.answers.Refusal.TheVariants.{Down, Halted}
use Rattle.pf_protocol.specs.declared.events.Event.{Event}
use Rattle.pf_protocol.specs.Servers.{Setup, Server as ServerIs, Condition, Running as RunningIs, Stopped as StoppedIs, Unformatted as UnformattedIs}
use Rattle.pf_protocol.specs.Outcomes.{Outcome}
use Rattle.pf_protocol.specs.Groups.{Group, Ending, at_server, ending, happens, reads_after}
use Rattle.pf_protocol.specs.Histories.{RunsAs}
use Rattle.pf_server_store.specs.Stores.{StoreModel}
use Rattle.pf_group_network.specs.Pasts.{GroupPast}
use Rattle.pf_protocol.specs.Answers.{ServerTurn}
use Rattle.pf_server_memory.specs.Outgoing.{Outgoing}
use Rattle.pf_server.specs.declared.server.Server.{Server}
use Rattle.pf_server.specs.Conditions.{Meets}
use Rattle.pf_server.specs.Turns.{Comes}
use Rattle.pf_group_network.specs.declared.network.Network.{Network}
use Rattle.pf_group_network.specs.AckedSlots.{AckedHasRoom}
use Rattle.pf_group_network.specs.declared.acked.AckedList.{AckedList}
use Rattle.pf_group_network.specs.Going.{Goes, HasFault, IsReached, KeepsOthers, KeepsStores, KeepsTelling, Touches, acts_at}
use Rattle.pf_group_network.specs.Showing.{HasTraffic, Shows, taken_of}
use Rattle.pf_group_network.specs.Turned.{Ends, HasTurned, IsTurnOf, outbox_of, reads_with}
use Rattle.pf_group_network.proofs.TurnBegins.{its_condition, server_there}
use Rattle.pf_group_network.proofs.TurnOutcomes.{fault_of}
use Rattle.pf_group_network.proofs.Events.{IsMid, IsTurnEvent, turn_answer, turned_so}
use Rattle.pf_group_network.proofs.Readings.{no_more}
use Rattle.pf_group_network.proofs.Stores.{others_kept, stores_kept, telling_kept}
use Rattle.pf_group_network.proofs.ServerTurns.{IsDown, Tells, no_read, stopped_idles, unformatted_idles}
use Rattle.pf_group_network.proofs.CrashedDisks.{touches_none, turn_touches}
use Rattle.pf_group_network.proofs.TurnEnds.{no_ok}

-- the event is this turn, of which the server has another form
pub record IsTurnAs (setup : Setup) (past : GroupPast) (event : Event) (i : ℕ) (turn : ServerTurn) (pre : Ending → Group) (judged : ServerIs → Option Refusal) (rule : ServerIs → Outcome) : Type 0 where
  pub event_is : IsTurnEvent setup past.group event i turn pre
  pub same_judged : (s : ServerIs) → judged s ≡ turn.refusal s
  pub same_rule : (s : ServerIs) → rule s ≡ turn.rule s
  pub knows : (s : ServerIs) → RunsAs past.group i s → IsTurnOf past.group turn s
  pub plain : (s : ServerIs) → reads_after past.group.reads (turn.rule s).answer ≡ past.group.reads

-- after a server's step, with room for a slot that it acknowledged
abbrev pub mid_of : {S : Type 0} → Network S → (i : ℕ) → Server S → AckedList → Network S
mid_of network i next acked = record network { servers = with_item network.servers i next; acked = acked }

module _ {S : Type 0} (model : StoreModel S) where
  module _ (setup : Setup) (past : GroupPast) (old : Network S) (reached : IsReached model setup past old) (i : ℕ) (me next : Server S) (acked : AckedList) (out out' : Outgoing) (judged : ServerIs → Option Refusal) (rule : ServerIs → Outcome) (outcome : Result Answer NoMemory) where
    -- what the code did
    pub record DidTurn : Type 0 where
      pub low : i < 3
      pub read : me ≡ get_or old.servers.items i me
      pub seat : next.seat ≡ me.seat
      pub told_same : model.told next.store ≡ model.told me.store
      pub items : acked.list.items ≡ old.acked.list.items
      pub place : AckedHasRoom acked.list acked.known
      pub fresh : out ≡ outbox_of old
      pub tells : Tells model me next out out' judged rule outcome
      pub down : IsDown model me next out out' judged rule outcome

    module _ (did : DidTurn) where
      pub here : slice_get old.servers.items i ≡ Some me
      here = server_there model setup past old reached i me did.low did.read

      pub middle : IsMid model setup past old reached i me next (mid_of old i next acked)
      middle = record { here = here; servers = refl; seat = did.seat; told_same = did.told_same }

      pub traffic : HasTraffic (mid_of old i next acked) past.group
      traffic = let t = reached.shows.traffic in record { packets = t.packets; places = t.places; room = t.room; acked = did.items ∙ t.acked; elections = t.elections; readings = t.readings }

      -- without memory for the turn the server's disks are as they were
      pub spared : (e : NoMemory) → outcome ≡ Err e → next.store ≡ me.store
      spared e so = let m = its_condition model setup past old reached i me here in by m.0 m.2.meets
        where
          kept : (s : ServerIs) (j : Option Refusal) → Comes model me.seat me.store next.store next.state s out out' j (rule s) (Err e) → next.store ≡ me.store
          kept s None x = x.store_same
          kept s (Some refusal) x = x.store_same

          by : (c : Condition) → Meets model me.seat me.store me.state c → next.store ≡ me.store
          by (RunningIs s) meets = kept s (judged s) (subst (λ (r : Result Answer NoMemory). Comes model me.seat me.store next.store next.state s out out' (judged s) (rule s) r) so (did.tells s meets))
          by (StoppedIs life before after) meets = no_ok e (Refused Down) (sym so ∙ (did.down (stopped_idles model me.seat me.store me.state life before after meets)).0)
          by UnformattedIs meets = no_ok e (Refused Down) (sym so ∙ (did.down (unformatted_idles model me.seat me.store me.state meets)).0)

      unfoldable pub plain_turned : (event : Event) (turn : ServerTurn) (pre : Ending → Group) → IsTurnAs setup past event i turn pre judged rule → HasTurned model setup past.group i turn (mid_of old i next acked) out' outcome
      plain_turned event turn pre is = turned_so model setup past old reached i me next (mid_of old i next acked) middle past.group refl turn outcome out out' judged rule is.same_judged is.same_rule did.tells did.down did.fresh is.knows traffic did.place
          (λ c took. reached.shows.reads ∙ sym (no_read model past.group.reads turn me next out out' outcome is.plain c took))

      module _ (event : Event) (turn : ServerTurn) (pre : Ending → Group) (is : IsTurnAs setup past event i turn pre judged rule) (after final : Network S) (same : outcome ≡ Ok (Refused Halted) → final.servers.items ≡ (mid_of old i next acked).servers.items) (stores : KeepsStores (mid_of old i next acked) final) (taken : taken_of final ≡ taken_of old) where
        cause : outcome ≡ Ok (Refused Halted) → (j : ℕ) × (acts_at past.group event ≡ Some j) × HasFault model.rose j old final
        unfolding plain_turned turned_so
        cause halted = (i, is.event_is.acts, fault_of model setup past.group i turn (mid_of old i next acked) out' outcome (plain_turned event turn pre is) old final refl (same halted) halted)

        crash : (answer : Answer) → outcome ≡ Ok answer → Touches model.was past.group (happens setup past.group event (ending answer)) (acts_at past.group event) old final
        unfolding plain_turned turned_so
        crash answer so =
            let g = past.group in
            subst (λ own. Touches model.was g (happens setup g event (ending answer)) own old final) (sym is.event_is.acts)
            (subst (λ later. Touches model.was g later (Some i) old final) (sym (is.event_is.goes (ending answer)))
            (turn_touches model setup g i turn (mid_of old i next acked) out' (pre (ending answer)) (is.event_is.servers (ending answer)) outcome (plain_turned event turn pre is) answer so old final refl stores))

        others : KeepsOthers (acts_at past.group event) old final
        others = subst (λ own. KeepsOthers own old final) (sym is.event_is.acts) (λ j apart. stores j ∙ others_kept old (mid_of old i next acked) i next refl j apart)

        telling : KeepsTelling model.told old final
        telling j = ap (option_map model.told) (stores j) ∙ telling_kept old (mid_of old i next acked) i next refl model.told me here did.told_same j

        module _ (whole : (answer : Answer) → outcome ≡ Ok answer → Shows model setup after (at_server (ending answer) past.group i turn.rule) → Shows model setup final (at_server (ending answer) (pre (ending answer)) i turn.rule)) (none : (e : NoMemory) → outcome ≡ Err e → Shows model setup after past.group → Shows model setup final past.group) where
          by_outcome : (o : Result Answer NoMemory) → outcome ≡ o → Ends model setup past.group i turn after o → Goes model setup past.group event old final o
          by_outcome (Err e) so shows = record { shows = none e so shows; crash = touches_none model.was past.group past.group old final; others = λ j own. stores j ∙ stores_kept old (mid_of old i next acked) i next refl me here (spared e so) j; tells = telling; taken = taken }
          by_outcome (Ok answer) so ended = record {
            answered = turn_answer setup past.group event i turn pre is.event_is answer ended.answered;
            shows = subst (Shows model setup final) (sym (is.event_is.goes (ending answer))) (whole answer so ended.shows);
            cause = λ halted. cause (so ∙ ap Ok halted);
            crash = crash answer so;
            others = others;
            quiet = λ quiet. absurd (false≢true (sym is.event_is.loud ∙ quiet));
            tells = telling;
            taken = taken ∙ sym (no_more (taken_of old) past.group.reads answer (ap (reads_with past.group.reads) (sym so) ∙ sym (plain_turned event turn pre is).reads ∙ reached.shows.reads));
          }

          -- what was made of the network after the turn's end is what the event makes of the group
          pub event_goes : (result : Result Answer NoMemory) → result ≡ outcome → (HasTurned model setup past.group i turn (mid_of old i next acked) out' outcome → Ends model setup past.group i turn after outcome) → Goes model setup past.group event old final result
          event_goes result is_outcome ended = subst (λ r. Goes model setup past.group event old final r) (sym is_outcome) (by_outcome outcome refl (ended (plain_turned event turn pre is)))

      -- nothing more is made of it
      pub plain_goes : (event : Event) (turn : ServerTurn) → IsTurnAs setup past event i turn (λ how. past.group) judged rule → (after : Network S) → (outcome ≡ Ok (Refused Halted) → after ≡ mid_of old i next acked) → KeepsStores (mid_of old i next acked) after → taken_of after ≡ taken_of old → (result : Result Answer NoMemory) → result ≡ outcome
          → (HasTurned model setup past.group i turn (mid_of old i next acked) out' outcome → Ends model setup past.group i turn after outcome) → Goes model setup past.group event old after result
      plain_goes event turn is after same stores taken result is_outcome ended = event_goes event turn (λ how. past.group) is after after (λ halted. ap (λ (x : Network S). x.servers.items) (same halted)) stores taken (λ answer so shows. shows) (λ e so shows. shows) result is_outcome ended
