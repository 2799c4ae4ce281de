-- What a crash inside an event leaves on the disks of its server.
use Rattle.std.proofs.Common.{◌≡◌, ◌⊎◌, ℕ, suc, ◌<◌, inl, inr, List, length, Option, Some, None, Result, Ok, slice_get, refl, sym, ap, subst, ◌∙◌}
use Rattle.std.specs.Option.{option_map}
use Rattle.std.proofs.lemmas.Option.{same_Some, slice_get_within}
use Rattle.pf_base.specs.declared.errors.NoMemory.{NoMemory}
use Rattle.pf_entry.specs.Records.{Durable}
use Rattle.pf_protocol.specs.declared.answers.Answer.{Answer}
use Rattle.pf_protocol.specs.declared.answers.Refusal.{Refusal}
use Rattle.pf_protocol.specs.Servers.{Setup, Server as ServerIs, Condition, Running as RunningIs, Stopped as StoppedIs, Unformatted as UnformattedIs}
use Rattle.pf_protocol.specs.Outcomes.{Outcome}
use Rattle.pf_protocol.specs.Saving.{renewed}
use Rattle.pf_protocol.specs.Kept.{MayHold, Now, Without, With}
use Rattle.pf_protocol.specs.Rows.{settled}
use Rattle.pf_protocol.specs.Groups.{Group, Ending, Whole, CutOff, acted, at_server, cut_off, step_ended, ending, server_step_of}
use Rattle.pf_protocol.specs.Answers.{ServerTurn}
use Rattle.pf_server_store.specs.Stores.{StoreModel}
use Rattle.pf_server_memory.specs.Outgoing.{Outgoing}
use Rattle.pf_server.specs.declared.server.Server.{Server}
use Rattle.pf_server.specs.Turns.{Comes, IsSavedOf, WasBegunFrom, WasBegunIn}
use Rattle.pf_server.proofs.SavedStates.{renewed_of}
use Rattle.pf_group_network.specs.declared.network.Network.{Network}
use Rattle.pf_group_network.specs.Going.{StateIsHeld, KeepsStores, Passes, Touches, WasTouched, store_at}
use Rattle.pf_group_network.specs.Turned.{HasTurned, Took, outbox_of}
use Rattle.pf_group_network.proofs.StepResults.{settled_disk}
use Rattle.pf_group_network.proofs.Lists.{set_there}

nowhere : {X : Type 0} → (i : ℕ) → ◌≡◌ {A = Option ℕ} None (Some i) → X
nowhere i is = cc

module _ {S : Type 0} (was : S → S → Durable → Durable → Type 0) (before after : Group) where
  abbrev its_store : Server S → S
  its_store server = server.store

  untouched : (i : ℕ) (old new : S) → new ≡ old → WasTouched was before after i old new
  untouched i old new same = record { between = old; first = inl refl; second = inl same }

  touched : (i : ℕ) (old new : S) → Passes was before after i old new → WasTouched was before after i old new
  touched i old new passes = record { between = new; first = inr passes; second = inl refl }

  pub touches_none : (old new : Network S) → Touches was before after None old new
  touches_none old new i server next own here there = nowhere i own

  -- disks that were kept were not touched
  pub touches_kept : (own : Option ℕ) (old new : Network S) → KeepsStores old new → Touches was before after own old new
  touches_kept own old new kept i server next is here there = untouched i server.store next.store (same_Some next.store server.store (sym (ap (option_map its_store) there) ∙ kept i ∙ ap (option_map its_store) here))

  -- server i alone was touched
  pub touches_one : (i : ℕ) (old new : Network S) (me next : Server S) → slice_get old.servers.items i ≡ Some me → store_at new i ≡ Some next.store → WasTouched was before after i me.store next.store → Touches was before after (Some i) old new
  touches_one i old new me next here there way j server later own at now =
      let same : i ≡ j = same_Some i j own in
      let mine : me ≡ server = same_Some me server (sym here ∙ ap (slice_get old.servers.items) same ∙ at) in
      let its : next.store ≡ later.store = same_Some next.store later.store (sym there ∙ ap (store_at new) same ∙ ap (option_map its_store) now) in
      subst (λ k. WasTouched was before after k server.store later.store) same
      (subst (λ (x : S). WasTouched was before after i server.store x) its (subst (λ (x : Server S). WasTouched was before after i x.store next.store) mine way))

  held_before : (i : ℕ) (d x : Durable) → MayHold before i d → IsSavedOf d x → StateIsHeld before after i x
  held_before i d x held is = record { state = d; held = inl held; is = is }

  held_after : (i : ℕ) (d : Durable) → MayHold after i d → StateIsHeld before after i d
  held_after i d held = record { state = d; held = inr held; is = inl refl }

  -- A restart reads one of two states of before it, and may save it anew
  module _ (i : ℕ) (old new : S) where
    held_anew : (x : Durable) → StateIsHeld before after i x → StateIsHeld before after i (renewed x)
    held_anew x h = record { state = h.state; held = h.held; is = inr (renewed_of h.state x h.is) }

    begun_from : (d e : Durable) → MayHold before i d → MayHold before i e → WasBegunFrom was old new d e → WasTouched was before after i old new
    begun_from d e first second b = record {
      between = b.begun.between;
      first = inr (record { x = b.x; y = b.y; first = x_held; second = y_held; left = b.begun.read });
      second = elim b.begun.saved [
        | inl same ↦ inl same
        | inr anew ↦ inr (record { x = anew.0; y = renewed anew.0; first = read anew.0 anew.1; second = held_anew anew.0 (read anew.0 anew.1); left = anew.2 })
      ];
    }
      where
        either : (x : Durable) → IsSavedOf d x ⊎ IsSavedOf e x → StateIsHeld before after i x
        either x (inl is) = held_before i d x first is
        either x (inr is) = held_before i e x second is

        x_held : StateIsHeld before after i b.x
        x_held = either b.x b.first

        y_held : StateIsHeld before after i b.y
        y_held = either b.y b.second

        read : (z : Durable) → (z ≡ b.x) ⊎ (z ≡ b.y) → StateIsHeld before after i z
        read z (inl is) = subst (StateIsHeld before after i) (sym is) x_held
        read z (inr is) = subst (StateIsHeld before after i) (sym is) y_held

    pub begun_touches : (c : Condition) → slice_get before.servers i ≡ Some c → WasBegunIn was old new c → WasTouched was before after i old new
    begun_touches (RunningIs s) there b = begun_from s.durable s.durable (Now s there) (Now s there) b
    begun_touches (StoppedIs life d e) there b = begun_from d e (Without life d e there) (With life d e there) b
    begun_touches UnformattedIs there b = untouched i old new b

-- what a step leaves is what its server may hold after it
module _ (g pre : Group) (same : pre.servers ≡ g.servers) (i : ℕ) (rule : ServerIs → Outcome) (s : ServerIs) (at : slice_get g.servers i ≡ Some (RunningIs s)) where
  inside : i < length pre.servers
  inside = subst (λ (xs : List Condition). i < length xs) (sym same) (slice_get_within g.servers i (RunningIs s) at)

  steps : (how : Ending) → at_server how pre i rule ≡ step_ended how pre i s (rule s)
  steps how = ap (λ c. server_step_of how pre i c rule) (ap (λ (xs : List Condition). slice_get xs i) same ∙ at)

  whole_holds : MayHold (at_server Whole pre i rule) i (rule s).server.durable
  unfolding acted
  whole_holds = subst (λ x. MayHold x i (rule s).server.durable) (sym (steps Whole))
      (subst (MayHold (acted pre i (rule s)) i) (settled_disk (rule s).server) (Now (settled (rule s).server) (set_there pre.servers i (RunningIs (settled (rule s).server)) inside)))

  cut_holds : MayHold (at_server CutOff pre i rule) i (rule s).server.durable
  unfolding cut_off
  cut_holds = subst (λ x. MayHold x i (rule s).server.durable) (sym (steps CutOff)) (With (suc s.life) s.durable (rule s).server.durable (set_there pre.servers i (StoppedIs (suc s.life) s.durable (rule s).server.durable) inside))

module _ {S : Type 0} (model : StoreModel S) (setup : Setup) (g : Group) (i : ℕ) (turn : ServerTurn) (network : Network S) (out : Outgoing) (pre : Group) (same : pre.servers ≡ g.servers) where
  module _ (answer : Answer) (t : HasTurned model setup g i turn network out (Ok answer)) where
    abbrev later : Group
    later = at_server (ending answer) pre i turn.rule

    by_judged : (s : ServerIs) → slice_get g.servers i ≡ Some (RunningIs s) → (j : Option Refusal) → (j ≡ None → ending (turn.rule s).answer ≡ Whole) → Comes model t.me.seat t.me.store t.next.store t.next.state s (outbox_of network) out j (turn.rule s) (Ok answer) → WasTouched model.was g later i t.me.store t.next.store
    by_judged s at None whole took = elim took [
      | inl done ↦ elim done.crash [
        | inl kept ↦ untouched model.was g later i t.me.store t.next.store kept
        | inr left ↦ passed Whole (ap ending done.settles.answered ∙ whole refl) (whole_holds g pre same i turn.rule s at) left
      ]
      | inr cut ↦ passed CutOff (ap ending cut.answered) (cut_holds g pre same i turn.rule s at) cut.crash
    ]
      where
        passed : (how : Ending) → ending answer ≡ how → MayHold (at_server how pre i turn.rule) i (turn.rule s).server.durable → model.was t.me.store t.next.store s.durable (turn.rule s).server.durable → WasTouched model.was g later i t.me.store t.next.store
        passed how is held left = touched model.was g later i t.me.store t.next.store (record {
          x = s.durable;
          y = (turn.rule s).server.durable;
          first = held_before model.was g later i s.durable s.durable (Now s at) (inl refl);
          second = held_after model.was g later i (turn.rule s).server.durable (subst (λ h. MayHold (at_server h pre i turn.rule) i (turn.rule s).server.durable) (sym is) held);
          left = left;
        })
    by_judged s at (Some refusal) whole took = untouched model.was g later i t.me.store t.next.store took.1

    by_condition : (c : Condition) → t.c ≡ c → Took model turn t.me t.next (outbox_of network) out (Ok answer) c → WasTouched model.was g later i t.me.store t.next.store
    by_condition (RunningIs s) is took = by_judged s (t.there ∙ ap Some is) (turn.refusal s) (t.knows s is).whole took
    by_condition (StoppedIs life before after) is took = untouched model.was g later i t.me.store t.next.store (ap (λ (x : Server S). x.store) took.0)
    by_condition UnformattedIs is took = untouched model.was g later i t.me.store t.next.store (ap (λ (x : Server S). x.store) took.0)

    turned_touches : (old final : Network S) → t.before ≡ old.servers.items → KeepsStores network final → Touches model.was g later (Some i) old final
    turned_touches old final first stores =
        touches_one model.was g later i old final t.me t.next (ap (λ (xs : List (Server S)). slice_get xs i) (sym first) ∙ t.here)
        (stores i ∙ ap (option_map (λ (x : Server S). x.store)) (ap (λ (xs : List (Server S)). slice_get xs i) t.now ∙ set_there t.before i t.next (slice_get_within t.before i t.me t.here)))
        (by_condition t.c refl t.took)

  -- a turn leaves what its server may hold before it or after it
  pub turn_touches : (outcome : Result Answer NoMemory) (t : HasTurned model setup g i turn network out outcome) (answer : Answer) → outcome ≡ Ok answer → (old final : Network S) → t.before ≡ old.servers.items → KeepsStores network final → Touches model.was g (at_server (ending answer) pre i turn.rule) (Some i) old final
  turn_touches outcome t answer so old final first stores =
      let moved = subst (λ r. (x : HasTurned model setup g i turn network out r) × (x.before ≡ old.servers.items)) so (t, first) in
      turned_touches answer moved.0 old final moved.1 stores
