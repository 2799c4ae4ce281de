-- What a step of a port, or a half of it, is to the service of its chunk.
use Rattle.std.proofs.Common.{◌≡◌, ℕ, suc, ◌<◌, true, false, Bool, List, [], ◌∷◌, ◌++◌, length, Option, Some, None, arith, refl, sym, ap, subst, ◌∙◌, length-append}
use Rattle.std.specs.Option.{option_map}
use Rattle.pf_entry.specs.Sets
use Rattle.std.proofs.lemmas.Option.{none-some, same_Some}
use Rattle.pf_base.specs.declared.asks.Ask.{Ask}
use Rattle.pf_base.specs.declared.asks.Ask.TheVariants as asks
use Rattle.pf_base.specs.declared.asks.Reply.{Reply}
use Rattle.pf_base.specs.declared.asks.Reply.TheVariants.{Bytes, Written}
use Rattle.pf_entry.specs.declared.ops.Op.TheVariants.{Write}
use Rattle.pf_protocol.specs.declared.answers.Answer.{Answer}
use Rattle.pf_protocol.specs.declared.events.Event.{Event}
use Rattle.pf_protocol.specs.declared.events.Event.TheVariants.{Fetch, Submit}
use Rattle.pf_protocol.specs.declared.events.Happening.{Happening as GroupEvent}
use Rattle.pf_protocol.specs.Groups.{Answered, Group}
use Rattle.pf_protocol.specs.Histories.{History, replay}
use Rattle.pf_protocol.specs.Servers.{Setup}
use Rattle.pf_asks.specs.declared.port.Sent.{Sent}
use Rattle.pf_asks.specs.declared.port.Sent.TheVariants.{Slot, Number}
use Rattle.pf_asks.specs.Desks.{DeskCall, Fetched, Led, Submitted, Took, WasAcked}
use Rattle.pf_asks.specs.Ports.{LooksFor, PortIs, ask_answered as answered_port, goes_to, reply_if}
use Rattle.pf_law_runs.specs.pf_law_ports.specs.Calls.{PortPast, PastSays, fetching_of, number_in, slot_in, submission_of, with_read, with_write}
use Rattle.pf_law_runs.specs.pf_law_ports.specs.Driven.{IsUndisturbedStep}
use Rattle.pf_law_runs.specs.pf_group_network.specs.Shown.{is_acked}
use Rattle.pf_law_runs.specs.pf_law_service.specs.Services as services
use Rattle.pf_law_runs.specs.pf_law_service.specs.Services.{Service, last_ask_number, past_of}
use Rattle.pf_law_runs.specs.pf_law_service.specs.Served.{IsAskAnsweredBy, PortSteps, group_by_now}
use Rattle.pf_law_runs.specs.pf_world.specs.pf_group_rounds.specs.Halts.{Halt}
use Rattle.pf_law_runs.specs.pf_world.specs.pf_group_rounds.specs.Chunks.{event_answered, event_listed}
use Rattle.pf_law_runs.specs.pf_world.specs.pf_chunk.specs.Asks.{serving_leader, ask_reply}
use Rattle.pf_law_runs.specs.pf_world.specs.pf_chunk.specs.Driving.{event_of_ask, sent_of}
use Rattle.pf_law_runs.specs.pf_world.specs.pf_chunk.specs.Runs.{ChunkRun}
use Rattle.pf_law_runs.specs.pf_law_movers.specs.Pasts.{PortTrace, handed_by, past_in}
use Rattle.pf_law_runs.specs.pf_law_movers.proofs.PortLooks.{looked_up}
use Rattle.pf_law_runs.specs.pf_law_movers.proofs.SubmitAnswers.{is_answer, read_sent, write_sent}
use Rattle.pf_law_runs.specs.pf_law_movers.proofs.MoverAsTold.{hand_step, reply_step}

-- an answer of no read
abbrev pub any_answer : Answered
any_answer = record { number = 0; server = 0; term = 0; range = record { first = 0; count = 0 }; base = 0; applied = Sets.empty; bytes = [] }

-- a reply that is looked up is one of the group's
pub record IsLookedUp (sent : Option Sent) (g : Group) (reply : Reply) : Type 0 where
  pub answer : Answered
  pub is : IsAskAnsweredBy sent g reply answer

module _ (setup : Setup) (past : PortPast) where
  abbrev g : Group
  g = replay setup past.history

  slot_up : (sent : Option Sent) (acked : Bool) (reply : Reply) → reply_if acked ≡ Some reply → IsLookedUp sent g reply
  slot_up sent true Written is = record { answer = any_answer; is = tt }
  slot_up sent true (Bytes sectors) is = absurd (grind (arith, is))
  slot_up sent false reply is = absurd (none-some reply is)

  number_up : (n last : ℕ) (reply : Reply) (look : DeskCall) → LooksFor (Number n) last look (Some reply) → PastSays setup past look past → IsLookedUp (Some (Number n)) g reply
  number_up n last reply (Took number None) looks says = absurd (none-some reply (sym looks.1))
  number_up n last Written (Took number (Some sectors)) looks says = record { answer = any_answer; is = tt }
  number_up n last (Bytes its) (Took number (Some sectors)) looks says =
      let a = says.1 in record {
        answer = a.answer;
        is = record {
          told = ap (λ (i : ℕ). Some (Number i)) (sym looks.0 ∙ sym a.numbered);
          k = a.k;
          at = a.there;
          gives = a.sectors ∙ bytes_same sectors its (same_Some (Bytes its) (Bytes sectors) looks.1);
        };
      }
    where
      bytes_of : Reply → List (List ℕ)
      bytes_of Written = []
      bytes_of (Bytes x) = x

      bytes_same : (x y : List (List ℕ)) → Bytes y ≡ Bytes x → x ≡ y
      bytes_same x y same = ap bytes_of (sym same)
  number_up n last reply (Led leader) looks says = absurd looks
  number_up n last reply (Submitted server range sectors slot) looks says = absurd looks
  number_up n last reply (Fetched server range number) looks says = absurd looks
  number_up n last reply (WasAcked term slot is) looks says = absurd looks

  pub reply_up : (sent : Option Sent) (last : ℕ) (reply : Reply) → ask_reply g sent last ≡ Some reply → IsLookedUp sent g reply
  reply_up None last reply is = absurd (none-some reply is)
  reply_up (Some (Slot slot)) last reply is = slot_up (Some (Slot slot)) (is_acked g last slot) reply is
  reply_up (Some (Number n)) last reply is = let l = looked_up setup past (Number n) last (Some reply) is in number_up n last reply l.look l.looks l.says

-- A port of a mount into the group that serves the chunk

module _ (s : Service) (mount : ℕ) (small : mount < 16) (c : ChunkRun) (setup : c.group.setup ≡ s.setup s.epoch) (history : c.group.history ≡ s.history s.epoch) (stands : c.group.state ≡ replay c.group.setup c.group.history)
    (steady : s.moving ≡ false) (owes : services.Owed) (is : s.owed mount ≡ Some owes) (pending : (s.port mount).ask ≡ Some owes.ask) where
  abbrev p : PortIs
  p = s.port mount

  abbrev t : PortTrace
  t = record { asks = last_ask_number (s.owed mount); writes = s.writes s.epoch mount; reads = s.reads s.epoch mount }

  past_is : past_in c.group.history t ≡ past_of s mount
  past_is = ap (λ (h : History). past_in h t) history

  group_is : c.group.state ≡ group_by_now s
  group_is = stands ∙ ap (λ (x : Setup). replay x c.group.history) setup ∙ ap (replay (s.setup s.epoch)) history

  -- it is answered
  module _ (reply : Reply) (told : ask_reply c.group.state p.sent p.last ≡ Some reply) where
    pub heard_steps : PortSteps s mount owes (Some reply) (past_of s mount) (answered_port p)
    heard_steps = record {
      serves = steady;
      small = small;
      owes = is;
      step = subst (λ (past : PortPast). IsUndisturbedStep (s.setup s.epoch) past p owes.ask (Some reply) past (answered_port p)) past_is
          (subst (λ (x : Setup). IsUndisturbedStep x (past_in c.group.history t) p owes.ask (Some reply) (past_in c.group.history t) (answered_port p)) setup (reply_step c stands t p owes.ask pending reply p.sent refl told));
    }

    pub heard_up : IsLookedUp p.sent (group_by_now s) reply
    heard_up = reply_up (s.setup s.epoch) (past_of s mount) p.sent p.last reply (ap (λ g. ask_reply g p.sent p.last) (sym group_is) ∙ told)

  -- or it hands on
  module _ (halts : List Halt) (term server : ℕ) (led : serving_leader c.group.state ≡ Some (term, server)) (goes : goes_to p.sent p.last term ≡ true) (untold : ask_reply c.group.state p.sent p.last ≡ None) where
    -- by this event
    abbrev pub event_for : Ask → GroupEvent
    event_for ask = let event : Event = event_of_ask ask server in record { event = event_listed halts c.group event; answer = event_answered halts c.group event }

    abbrev pub past_after : Ask → PortPast
    past_after ask = let x = event_for ask in past_in (c.group.history ++ x ∷ []) (handed_by c.group.history x.event x.answer t)

    abbrev pub port_after : Ask → PortIs
    port_after ask = record p { sent = sent_of (event_answered halts c.group (event_of_ask ask server)); last = term }

    event_step : (ask : Ask) → p.ask ≡ Some ask → IsUndisturbedStep c.group.setup (past_in c.group.history t) p ask None (past_after ask) (port_after ask)
    event_step (asks.Write chunk range sectors) its =
        let event : Event = Submit server (Write range sectors) in
        let answer : Answer = event_answered halts c.group event in
        let past : PortPast = past_in c.group.history t in
        let sent = write_sent c.group.setup c.group.state server (Write range sectors) answer (is_answer halts c.group event) in
        hand_step c stands t p (asks.Write chunk range sectors) its term server led goes (Submitted server range sectors (slot_in answer)) (option_map Slot (slot_in answer))
        (with_write past (submission_of past server range sectors answer)) (port_after (asks.Write chunk range sectors))
        (refl, refl, refl, refl) (answer, refl, refl) (ap (λ (s : Option Sent). let q : PortIs = record p { sent = s; last = term } in q) sent) p.sent refl untold
    event_step (asks.Read chunk range) its =
        let event : Event = Fetch server range in
        let answer : Answer = event_answered halts c.group event in
        let past : PortPast = past_in c.group.history t in
        let sent = read_sent c.group.setup c.group.state server range answer (is_answer halts c.group event) in
        hand_step c stands t p (asks.Read chunk range) its term server led goes (Fetched server range (number_in answer)) (option_map Number (number_in answer))
        (with_read past (fetching_of past server range answer)) (port_after (asks.Read chunk range))
        (refl, refl, refl) (answer, refl, refl) (ap (λ (s : Option Sent). let q : PortIs = record p { sent = s; last = term } in q) sent) p.sent refl untold

    pub handed_steps : PortSteps s mount owes None (past_after owes.ask) (port_after owes.ask)
    handed_steps = record {
      serves = steady;
      small = small;
      owes = is;
      step = subst (λ (past : PortPast). IsUndisturbedStep (s.setup s.epoch) past p owes.ask None (past_after owes.ask) (port_after owes.ask)) past_is
          (subst (λ (x : Setup). IsUndisturbedStep x (past_in c.group.history t) p owes.ask None (past_after owes.ask) (port_after owes.ask)) setup (event_step owes.ask pending));
    }

    pub handed_once : length (past_after owes.ask).history ≡ suc (length (s.history s.epoch))
    handed_once = let more = length-append c.group.history (event_for owes.ask ∷ []) in let same = ap length history in omega (arith, more, same)
