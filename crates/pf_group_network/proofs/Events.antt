-- Events that are one server's turn.
use Rattle.std.proofs.Common.{◌≡◌, ℕ, true, false, inl, inr, ◌++◌, length, Option, Some, None, Result, slice_get, slice_set, refl, sym, ap, subst, ◌∙◌}
use Rattle.pf_base.specs.declared.errors.NoMemory.{NoMemory}
use Rattle.pf_entry.specs.Lists.{Every}
use Rattle.pf_entry.specs.Canonical.{IsCanonicalPacket}
use Rattle.pf_protocol.specs.declared.answers.Answer.{Answer}
use Rattle.pf_protocol.specs.declared.answers.Refusal.{Refusal}
use Rattle.pf_protocol.specs.declared.events.Event.{Event}
use Rattle.pf_protocol.specs.Servers.{Setup, Server as ServerIs, Condition, Running as RunningIs}
use Rattle.pf_protocol.specs.Outcomes.{Outcome}
use Rattle.pf_protocol.specs.Groups.{Group, Ending, Whole, acted, at_server, ending, happens, send, server_step_of}
use Rattle.pf_protocol.specs.Histories.{RunsAs}
use Rattle.pf_protocol.specs.Answers.{ServerTurn, MayHappen, IsAnswer, answer_at, answer_by, answer_to, can_halt, may_halt}
use Rattle.pf_server_store.specs.Stores.{StoreModel}
use Rattle.pf_group_network.specs.Pasts.{GroupPast, PastIsShort, IsViablePast}
use Rattle.pf_server_memory.specs.Outgoing.{Outgoing}
use Rattle.pf_server.specs.declared.server.Server.{Server}
use Rattle.pf_group_network.specs.AckedSlots.{AckedHasRoom}
use Rattle.pf_group_network.specs.declared.network.Network.{Network}
use Rattle.pf_group_network.specs.Going.{IsReached, acts_at, is_quiet_event}
use Rattle.pf_group_network.specs.Showing.{AreMembers, HasTraffic}
use Rattle.pf_group_network.specs.Turned.{HasTurned, IsTurnOf, IsTurned, Took, outbox_of, reads_with}
use Rattle.pf_group_network.proofs.TurnBegins.{its_condition}
use Rattle.pf_group_network.proofs.Laws.{sent_canonical}
use Rattle.pf_group_network.proofs.ServerTurns.{IsDown, Tells, took_by}

-- the event is this turn of server i, of the group that this makes of the group before
pub record IsTurnEvent (setup : Setup) (g : Group) (event : Event) (i : ℕ) (turn : ServerTurn) (pre : Ending → Group) : Type 0 where
  pub answers : answer_to setup g event ≡ answer_at (slice_get g.servers i) turn
  pub halts : can_halt (slice_get g.servers i) turn ≡ true → may_halt setup g event ≡ true
  pub goes : (how : Ending) → happens setup g event how ≡ at_server how (pre how) i turn.rule
  pub servers : (how : Ending) → (pre how).servers ≡ g.servers
  pub acts : acts_at g event ≡ Some i
  pub loud : is_quiet_event event ≡ false

acted_packets : (g : Group) (i : ℕ) (o : Outcome) → (acted g i o).packets ≡ g.packets ++ send o.packets
unfolding acted
acted_packets g i o = refl

-- what such an event sends has a spelling
pub turn_canonical : (setup : Setup) (past : GroupPast) (reached : IsViablePast setup past) → PastIsShort past → (event : Event) (i : ℕ) (turn : ServerTurn) (pre : Ending → Group) → IsTurnEvent setup past.group event i turn pre → MayHappen past.claims event
    → (s : ServerIs) → RunsAs past.group i s → turn.refusal s ≡ None → ending (turn.rule s).answer ≡ Whole → Every IsCanonicalPacket (turn.rule s).packets
turn_canonical setup past viable short event i turn pre is asked s at free whole =
    let g = past.group in
    let right : answer_to setup g event ≡ (turn.rule s).answer = is.answers ∙ ap (λ c. answer_at c turn) at ∙ ap (λ o. answer_by o (turn.rule s).answer) free in
    let how : ending (answer_to setup g event) ≡ Whole = ap ending right ∙ whole in
    let there : slice_get (pre Whole).servers i ≡ Some (RunningIs s) = ap (λ xs. slice_get xs i) (is.servers Whole) ∙ at in
    sent_canonical setup past viable short event asked (pre Whole).packets (turn.rule s).packets
    (ap (λ h. (happens setup g event h).packets) how ∙ ap (λ (x : Group). x.packets) (is.goes Whole ∙ ap (λ c. server_step_of Whole (pre Whole) i c turn.rule) there) ∙ acted_packets (pre Whole) i (turn.rule s))

-- the turn was answered as the event is
pub turn_answer : (setup : Setup) (g : Group) (event : Event) (i : ℕ) (turn : ServerTurn) (pre : Ending → Group) → IsTurnEvent setup g event i turn pre → (answer : Answer) → IsTurned (slice_get g.servers i) turn answer → IsAnswer setup g event answer
turn_answer setup g event i turn pre is answer turned = elim turned [
  | inl right ↦ inl (right ∙ sym is.answers)
  | inr cut ↦ inr (is.halts cut.0, cut.1)
]

module _ {S : Type 0} (model : StoreModel S) where
  module _ (setup : Setup) (past : GroupPast) (network : Network S) (reached : IsReached model setup past network) (i : ℕ) (me next : Server S) (mid : Network S) where
    -- the server of this place had its turn
    pub record IsMid : Type 0 where
      pub here : slice_get network.servers.items i ≡ Some me
      pub servers : mid.servers.items ≡ slice_set network.servers.items i next
      pub seat : next.seat ≡ me.seat
      pub told_same : model.told next.store ≡ model.told me.store

    module _ (middle : IsMid) where
      -- what it sent, acknowledged and answered is still to be kept
      unfoldable pub turned_so : (g : Group) → g.servers ≡ past.group.servers → (turn : ServerTurn) (outcome : Result Answer NoMemory) (out out' : Outgoing) (judged : ServerIs → Option Refusal) (rule : ServerIs → Outcome)
          → ((s : ServerIs) → judged s ≡ turn.refusal s) → ((s : ServerIs) → rule s ≡ turn.rule s)
          → Tells model me next out out' judged rule outcome → IsDown model me next out out' judged rule outcome
          → out ≡ outbox_of mid → ((s : ServerIs) → RunsAs past.group i s → IsTurnOf g turn s)
          → HasTraffic mid g → AckedHasRoom mid.acked.list mid.acked.known → ((c : Condition) → Took model turn me next out out' outcome c → length mid.readings.items ≡ reads_with g.reads outcome)
          → HasTurned model setup g i turn mid out' outcome
      turned_so g same turn outcome out out' judged rule same_judged same_rule tells down fresh knows traffic place reads =
          let m = its_condition model setup past network reached i me middle.here in
          let took = took_by model me next out out' judged rule turn outcome same_judged same_rule tells down m.0 m.2.meets in
          record {
            before = network.servers.items;
            me = me;
            next = next;
            c = m.0;
            here = middle.here;
            there = ap (λ xs. slice_get xs i) same ∙ m.1;
            now = middle.servers;
            three = reached.shows.three;
            members = subst (AreMembers model setup network.servers.items) (sym same) reached.shows.members;
            seat = middle.seat;
            tells = middle.told_same;
            took = subst (λ o. Took model turn me next o out' outcome m.0) fresh took;
            knows = λ s is. knows s (m.1 ∙ ap Some is);
            traffic = traffic;
            place = place;
            reads = reads m.0 took;
          }
