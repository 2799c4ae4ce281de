-- What pends in the mover's ports is what the mover asks, and what tells its answer is of its kind.
use Rattle.std.proofs.Common.{◌≡◌, ◌≢◌, ℕ, inl, inr, if◌then◌else◌, List, Option, Some, None, slice_get, slice_set, refl, sym, ap, subst, ◌∙◌}
use Rattle.std.specs.Option.{option_and_then, option_map}
use Rattle.std.proofs.lemmas.Option.{none-some, same_Some, slice_get_within}
use Rattle.pf_base.specs.declared.asks.Ask.{Ask}
use Rattle.pf_base.specs.declared.asks.Ask.TheVariants as asks
use Rattle.pf_base.specs.declared.asks.Reply.{Reply}
use Rattle.pf_entry.specs.declared.ops.Op.TheVariants.{Write}
use Rattle.pf_entry.proofs.Cases.{by_test}
use Rattle.pf_entry.proofs.Lists.{set_cases}
use Rattle.pf_protocol.specs.declared.events.Event.{Event}
use Rattle.pf_protocol.specs.declared.events.Event.TheVariants.{Fetch, Submit}
use Rattle.pf_law_movers.specs.pf_group_network.proofs.Lists.{set_there}
use Rattle.pf_law_movers.specs.pf_law_ports.specs.Calls.{number_in, slot_in}
use Rattle.pf_asks.specs.declared.port.Sent.TheVariants.{Number, Slot}
use Rattle.pf_asks.specs.Ports.{IsSentOf, PortIs, ask_answered as answered_port, goes_to}
use Rattle.pf_move.specs.declared.mover.MoverAsk.{MoverAsk}
use Rattle.pf_move.specs.declared.mover.MoverAsk.TheVariants.{Reading, Writing}
use Rattle.pf_move.specs.declared.mover.MoveNext.{MoveNext}
use Rattle.pf_move.specs.declared.mover.MoveNext.TheVariants as nexts
use Rattle.pf_move.specs.Movers.{MoverIs}
use Rattle.pf_move.specs.Routes.{Between, RoutesIs, between}
use Rattle.pf_world.specs.pf_group_rounds.specs.Chunks.{event_answered}
use Rattle.pf_world.specs.pf_group_rounds.specs.Halts.{Halt}
use Rattle.pf_world.specs.pf_chunk.specs.Asks.{serving_leader, ask_reply}
use Rattle.pf_world.specs.pf_chunk.specs.Driving.{Driven, ask_after, port_asked, driven, driven_at, driven_for, event_of_ask, handed_to, idle, led_to, replied, sent_of, with_port}
use Rattle.pf_world.specs.pf_chunk.specs.Runs.{ChunkRun, mover_port}
use Rattle.pf_world.specs.pf_world_moments.specs.Moments.{Heard}
use Rattle.pf_world.specs.pf_world_moments.specs.Hosts.{drove, drove_of, put_at, run_after, with_run}
use Rattle.pf_world.specs.pf_world_hosts.specs.Volumes.{VolumeRun, asks_in, carries}
use Rattle.pf_law_movers.specs.Movers.{role_of_ask, role_of_reply}
use Rattle.pf_law_runs.proofs.MoverStepsTold.{asked_by}
use Rattle.pf_law_movers.proofs.OfKinds.{kind_role, reply_kind, sent_none}
use Rattle.pf_law_movers.proofs.Ports.{drives_port, happened_ports, put_elsewhere, put_there}
use Rattle.pf_law_movers.proofs.GroupReplies.{driven_replies}
use Rattle.pf_law_movers.proofs.SubmitAnswers.{is_answer, read_sent, write_sent}

-- this is the port of number n into group k
pub record IsPortOf (chunks : List ChunkRun) (n k : ℕ) (port : PortIs) : Type 0 where
  pub group : ChunkRun
  pub there : slice_get chunks k ≡ Some group
  pub its : slice_get group.ports n ≡ Some port

-- each port of this number was there before
abbrev pub ArePortsOf : (n : ℕ) → (old new : List ChunkRun) → Type 0
ArePortsOf n old new = (k : ℕ) (port : PortIs) → IsPortOf new n k port → IsPortOf old n k port

pub same_ports : (n : ℕ) (chunks : List ChunkRun) (k : ℕ) (c d : ChunkRun) → slice_get chunks k ≡ Some c → slice_get d.ports n ≡ slice_get c.ports n → ArePortsOf n chunks (slice_set chunks k d)
same_ports n chunks k c d at same j port p = elim (set_cases chunks k d j p.group p.there) [
  | inl here ↦ record { group = c; there = ap (slice_get chunks) here.0 ∙ at; its = sym same ∙ ap (λ (x : ChunkRun). slice_get x.ports n) here.1 ∙ p.its }
  | inr away ↦ record { group = p.group; there = away.1; its = p.its }
]

-- where an ask is put into another one
pub put_apart : (n m : ℕ) (ask : Ask) → n ≢ m → (chunks : List ChunkRun) (group : Option ℕ) → ArePortsOf n chunks (put_at chunks group m ask)
put_apart n m ask other chunks None = λ k port p. p
put_apart n m ask other chunks (Some g) = by (slice_get chunks g) refl
  where
    by : (o : Option ChunkRun) → slice_get chunks g ≡ o → ArePortsOf n chunks (with_run chunks g (run_after o (λ c. port_asked c m ask)))
    by None there = λ k port p. p
    by (Some c) there = same_ports n chunks g c (port_asked c m ask) there (put_elsewhere m ask n c (slice_get c.ports m) other)

-- What the mover asks, and of which group

abbrev pub role_asked : Option MoverIs → Option MoverAsk
role_asked mover = option_and_then (λ (m : MoverIs). m.asked) mover

abbrev pub group_asked : RoutesIs → Option MoverIs → Option ℕ
group_asked r mover = asks_in (between r) (role_asked mover)

pub record IsWanted (r : RoutesIs) (mover : Option MoverIs) (k : ℕ) (port : PortIs) (ask : Ask) : Type 0 where
  pub group : group_asked r mover ≡ Some k
  pub role : role_asked mover ≡ Some (role_of_ask ask)
  pub kind : IsSentOf (Some ask) port.sent

abbrev pub AreWanted : RoutesIs → Option MoverIs → List ChunkRun → Type 0
AreWanted r mover chunks = (k : ℕ) (port : PortIs) (ask : Ask) → IsPortOf chunks mover_port k port → port.ask ≡ Some ask → IsWanted r mover k port ask

-- or nothing pends there
abbrev pub AreFree : List ChunkRun → Type 0
AreFree chunks = (k : ℕ) (port : PortIs) (ask : Ask) → IsPortOf chunks mover_port k port → port.ask ≡ Some ask → ⊥

pub wanted_still : (r : RoutesIs) (mover : Option MoverIs) (old new : List ChunkRun) → ArePortsOf mover_port old new → AreWanted r mover old → AreWanted r mover new
wanted_still r mover old new same are k port ask p pending = are k port ask (same k port p) pending

-- it asks nothing of any group
pub free_of : (r : RoutesIs) (mover : Option MoverIs) (chunks : List ChunkRun) → group_asked r mover ≡ None → AreWanted r mover chunks → AreFree chunks
free_of r mover chunks none are k port ask p pending = none-some k (sym none ∙ (are k port ask p pending).group)

-- A step of a port

module _ (halts : List Halt) (c : ChunkRun) (m : ℕ) where
  sent_kind : (ask : Ask) (server : ℕ) → IsSentOf (Some ask) (sent_of (event_answered halts c.group (event_of_ask ask server)))
  sent_kind (asks.Write chunk span sectors) server =
      let event : Event = Submit server (Write span sectors) in
      let answer = event_answered halts c.group event in
      subst (IsSentOf (Some (asks.Write chunk span sectors))) (sym (write_sent c.group.setup c.group.state server (Write span sectors) answer (is_answer halts c.group event))) (by (slot_in answer))
    where
      by : (o : Option ℕ) → IsSentOf (Some (asks.Write chunk span sectors)) (option_map Slot o)
      by None = tt
      by (Some slot) = tt
  sent_kind (asks.Read chunk span) server =
      let event : Event = Fetch server span in
      let answer = event_answered halts c.group event in
      subst (IsSentOf (Some (asks.Read chunk span))) (sym (read_sent c.group.setup c.group.state server span answer (is_answer halts c.group event))) (by (number_in answer))
    where
      by : (o : Option ℕ) → IsSentOf (Some (asks.Read chunk span)) (option_map Number o)
      by None = tt
      by (Some number) = tt

  -- what tells the answer of the ask that pends is of its kind, where it was
  abbrev KeepsKind : Driven → Type 0
  KeepsKind d =
      (port : PortIs) (ask : Ask) → slice_get d.chunk.ports m ≡ Some port → port.ask ≡ Some ask
      → ((before : PortIs) → slice_get c.ports m ≡ Some before → before.ask ≡ Some ask → IsSentOf (Some ask) before.sent) → IsSentOf (Some ask) port.sent

  idle_kind : KeepsKind (idle c)
  idle_kind port ask at pending was = was port at pending

  module _ (p : PortIs) (there : slice_get c.ports m ≡ Some p) where
    -- this port stands in its place
    now_is : (q : PortIs) (ports : List PortIs) → ports ≡ slice_set c.ports m q → (port : PortIs) → slice_get ports m ≡ Some port → q ≡ port
    now_is q ports are port at = same_Some q port (sym (set_there c.ports m q (slice_get_within c.ports m p there)) ∙ ap (λ ps. slice_get ps m) (sym are) ∙ at)

    hands_kind : (its : Ask) → p.ask ≡ Some its → (term server : ℕ) → KeepsKind (handed_to halts c m p (event_of_ask its server) term)
    hands_kind its asks_it term server port ask at pending was =
        let event : Event = event_of_ask its server in
        let q : PortIs = record p { sent = sent_of (event_answered halts c.group event); last = term } in
        let same : q ≡ port = now_is q (handed_to halts c m p event term).chunk.ports (happened_ports halts (with_port c m q) event) port at in
        let same_ask : its ≡ ask = same_Some its ask (sym asks_it ∙ ap (λ (x : PortIs). x.ask) same ∙ pending) in
        subst (λ (x : PortIs). IsSentOf (Some ask) x.sent) same (subst (λ (a : Ask). IsSentOf (Some a) q.sent) same_ask (sent_kind its server))

    leads_kind : (its : Ask) → p.ask ≡ Some its → (leader : Option (ℕ × ℕ)) → KeepsKind (led_to halts c m p its leader)
    leads_kind its asks_it None = idle_kind
    leads_kind its asks_it (Some (term, server)) =
        by_test (goes_to p.sent p.last term) (λ b. KeepsKind (if b then handed_to halts c m p (event_of_ask its server) term else idle c)) (λ _. hands_kind its asks_it term server) (λ _. idle_kind)

    replies_kind : (its : Ask) → p.ask ≡ Some its → (reply : Option Reply) → KeepsKind (replied halts c m p its reply)
    replies_kind its asks_it None = leads_kind its asks_it (serving_leader c.group.state)
    replies_kind its asks_it (Some reply) = λ port ask at pending was.
        let same : answered_port p ≡ port = now_is (answered_port p) (with_port c m (answered_port p)).ports refl port at in
        absurd (none-some ask (ap (λ (x : PortIs). x.ask) same ∙ pending))

    asks_kind : (its : Option Ask) → p.ask ≡ its → KeepsKind (driven_for halts c m p its)
    asks_kind None asks_it = idle_kind
    asks_kind (Some its) asks_it = replies_kind its asks_it (ask_reply c.group.state p.sent p.last)

  port_kind : (o : Option PortIs) → slice_get c.ports m ≡ o → KeepsKind (driven_at halts c m o)
  port_kind None there = idle_kind
  port_kind (Some p) there = asks_kind p there p.ask refl

  driven_kind : KeepsKind (driven halts c m)
  driven_kind = port_kind (slice_get c.ports m) refl

-- what pends after it pended before
pended : (reply : Option Reply) (o : Option Ask) (ask : Ask) → ask_after reply o ≡ Some ask → o ≡ Some ask
pended None o ask is = is
pended (Some reply) o ask is = absurd (none-some ask is)

module _ (halts : List Halt) (r : RoutesIs) (mover : Option MoverIs) (chunks : List ChunkRun) (are : AreWanted r mover chunks) (k : ℕ) where
  drove_wanted : (o : Option ChunkRun) → slice_get chunks k ≡ o → AreWanted r mover (drove_of halts chunks mover_port k o).chunks
  drove_wanted None there = are
  drove_wanted (Some c) there = λ j port ask p pending.
      let d : Driven = driven halts c mover_port in
      elim (set_cases chunks k d.chunk j p.group p.there) [
        | inl here ↦
            let at : slice_get d.chunk.ports mover_port ≡ Some port = ap (λ (x : ChunkRun). slice_get x.ports mover_port) here.1 ∙ p.its in
            let before = (drives_port halts c mover_port).its port at in
            let was = are k before.0 ask (record { group = c; there = there; its = before.1 }) (pended d.reply before.0.ask ask (sym before.2 ∙ pending)) in record {
              group = was.group ∙ ap (λ i. Some i) (sym here.0);
              role = was.role;
              kind = driven_kind halts c mover_port port ask at pending (λ q its asks_it. (are k q ask (record { group = c; there = there; its = its }) asks_it).kind);
            }
        | inr away ↦ are j port ask (record { group = p.group; there = away.1; its = p.its }) pending
      ]

  -- where the port of the mover takes a step
  pub hauls_wanted : AreWanted r mover (drove halts chunks mover_port k).chunks
  hauls_wanted = drove_wanted (slice_get chunks k) refl

  -- its ask is answered, and no other pends
  answered_free : (o : Option ChunkRun) → slice_get chunks k ≡ o → group_asked r mover ≡ Some k → (reply : Reply) → (drove_of halts chunks mover_port k o).reply ≡ Some reply → AreFree (drove_of halts chunks mover_port k o).chunks
  answered_free None there group reply is = absurd (none-some reply is)
  answered_free (Some c) there group reply is = λ j port ask p pending.
      let d : Driven = driven halts c mover_port in
      let same : k ≡ j = same_Some k j (sym group ∙ (drove_wanted (Some c) there j port ask p pending).group) in
      elim (set_cases chunks k d.chunk j p.group p.there) [
        | inl here ↦
            let before = (drives_port halts c mover_port).its port (ap (λ (x : ChunkRun). slice_get x.ports mover_port) here.1 ∙ p.its) in
            none-some ask (sym (before.2 ∙ ap (λ o. ask_after o before.0.ask) is) ∙ pending)
        | inr away ↦ absurd (away.0 (sym same))
      ]

  pub hauled_free : group_asked r mover ≡ Some k → (reply : Reply) → (drove halts chunks mover_port k).reply ≡ Some reply → AreFree (drove halts chunks mover_port k).chunks
  hauled_free = answered_free (slice_get chunks k) refl

  -- by a reply of the group that it asked
  replied_role : (o : Option ChunkRun) → slice_get chunks k ≡ o → (reply : Reply) → (drove_of halts chunks mover_port k o).reply ≡ Some reply → role_asked mover ≡ Some (role_of_reply reply)
  replied_role None there reply is = absurd (none-some reply is)
  replied_role (Some c) there reply is =
      let s = driven_replies halts c mover_port reply is in
      let was = are k s.port s.ask (record { group = c; there = there; its = s.there }) s.pending in
      was.role ∙ ap (λ role. Some role) (sym (kind_role s.ask reply (reply_kind c.group.state s.ask s.port.sent s.port.last was.kind reply s.told)))

  pub hauled_role : (reply : Reply) → (drove halts chunks mover_port k).reply ≡ Some reply → role_asked mover ≡ Some (role_of_reply reply)
  hauled_role = replied_role (slice_get chunks k) refl

-- The mover goes on

module _ (chunks : List ChunkRun) (free : AreFree chunks) (r : RoutesIs) (mover : MoverIs) (ask : Ask) (asks_it : mover.asked ≡ Some (role_of_ask ask)) where
  puts_wanted : (g : ℕ) → asks_in (between r) (Some (role_of_ask ask)) ≡ Some g → (o : Option ChunkRun) → slice_get chunks g ≡ o → AreWanted r (Some mover) (with_run chunks g (run_after o (λ c. port_asked c mover_port ask)))
  puts_wanted g group None there k port its p pending = absurd (free k port its p pending)
  puts_wanted g group (Some c) there k port its p pending = elim (set_cases chunks g (port_asked c mover_port ask) k p.group p.there) [
    | inl here ↦
        let now = put_there mover_port ask c (slice_get c.ports mover_port) port refl (ap (λ (x : ChunkRun). slice_get x.ports mover_port) here.1 ∙ p.its) in
        let same : ask ≡ its = same_Some ask its (sym now.0 ∙ pending) in record {
          group = ap (asks_in (between r)) asks_it ∙ group ∙ ap (λ i. Some i) (sym here.0);
          role = asks_it ∙ ap (λ a. Some (role_of_ask a)) same;
          kind = subst (IsSentOf (Some its)) (sym now.1) (sent_none (Some its));
        }
    | inr away ↦ absurd (free k port its (record { group = p.group; there = away.1; its = p.its }) pending)
  ]

  put_wanted : (group : Option ℕ) → asks_in (between r) (Some (role_of_ask ask)) ≡ group → AreWanted r (Some mover) (put_at chunks group mover_port ask)
  put_wanted None is = λ k port its p pending. absurd (free k port its p pending)
  put_wanted (Some g) is = puts_wanted g is (slice_get chunks g) refl

from_asked : (b : Option Between) → asks_in b (Some Reading) ≡ option_map (λ (x : Between). x.from) b
from_asked None = refl
from_asked (Some b) = refl

to_asked : (b : Option Between) → asks_in b (Some Writing) ≡ option_map (λ (x : Between). x.to) b
to_asked None = refl
to_asked (Some b) = refl

pub carries_wanted : (v : VolumeRun) (mover : MoverIs) (heard : Option Heard) (next : MoveNext) → AreFree v.chunks → mover.asked ≡ asked_by next → let w = (carries v mover heard next).volume in AreWanted w.routes w.mover w.chunks
carries_wanted v mover heard (nexts.Read span) free asks_it =
    put_wanted v.chunks free v.routes mover (asks.Read mover.chunk span) asks_it (option_map (λ (b : Between). b.from) (between v.routes)) (from_asked (between v.routes))
carries_wanted v mover heard (nexts.Write span sectors) free asks_it =
    put_wanted v.chunks free v.routes mover (asks.Write mover.chunk span sectors) asks_it (option_map (λ (b : Between). b.to) (between v.routes)) (to_asked (between v.routes))
carries_wanted v mover heard nexts.Switch free asks_it = λ k port ask p pending. absurd (free k port ask p pending)
