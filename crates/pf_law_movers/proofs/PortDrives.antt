-- A step of a port, and what follows on it, is as it was told.
use Rattle.std.proofs.Common.{◌≡◌, ◌≢◌, ◌⊎◌, ℕ, ◌<◌, inl, inr, true, if◌then◌else◌, List, [], ◌∷◌, ◌++◌, length, Option, Some, None, slice_get, take, arith, refl, sym, ap, subst, ◌∙◌}
use Rattle.std.specs.Option.{option_map}
use Rattle.std.proofs.lemmas.List.{append_assoc, length-append, take-append-le}
use Rattle.std.proofs.lemmas.Option.{none-some, same_Some, slice_get_within}
use Rattle.std.proofs.Math.Seq.{take-append_seam}
use Rattle.pf_base.specs.declared.asks.Ask.{Ask}
use Rattle.pf_base.specs.declared.asks.Ask.TheVariants as asks
use Rattle.pf_base.specs.declared.asks.Reply.{Reply}
use Rattle.pf_entry.specs.Lists.{Every}
use Rattle.pf_entry.specs.declared.ops.Op.TheVariants.{Write}
use Rattle.pf_entry.proofs.Cases.{by_test}
use Rattle.pf_entry.proofs.Lists.{every_append}
use Rattle.pf_law_movers.specs.pf_group_network.proofs.Lists.{at_end, at_front, set_there}
use Rattle.pf_protocol.specs.declared.answers.Answer.{Answer}
use Rattle.pf_protocol.specs.declared.events.Event.{Event}
use Rattle.pf_protocol.specs.declared.events.Event.TheVariants.{Fetch, Submit}
use Rattle.pf_protocol.specs.declared.events.Happening.{Happening}
use Rattle.pf_protocol.specs.Histories.{History, replay}
use Rattle.pf_protocol.specs.Servers.{Setup}
use Rattle.pf_move.specs.declared.mover.MoverAsk.{MoverAsk}
use Rattle.pf_move.specs.declared.mover.MoverAsk.TheVariants.{Reading, Writing}
use Rattle.pf_asks.specs.declared.port.Sent.{Sent}
use Rattle.pf_asks.specs.declared.port.Sent.TheVariants.{Slot, Number}
use Rattle.pf_asks.specs.Desks.{Fetched, Submitted}
use Rattle.pf_asks.specs.Ports.{PortIs, ask_answered as answered_port, goes_to}
use Rattle.pf_law_movers.specs.pf_law_ports.specs.Calls.{PortPast, fetching_of, number_in, slot_in, submission_of, with_read, with_write}
use Rattle.pf_law_movers.specs.pf_law_ports.specs.Driven.{IsDriven, IsUndisturbedStep, Others, Steps}
use Rattle.pf_law_movers.specs.pf_group_rounds.specs.Halts.{Halt}
use Rattle.pf_law_movers.specs.pf_group_rounds.specs.Chunks.{after, event_answered, event_listed}
use Rattle.pf_law_movers.specs.pf_chunk.specs.Asks.{serving_leader, ask_reply}
use Rattle.pf_law_movers.specs.pf_chunk.specs.Driving.{Driven, driven, driven_at, driven_for, event_of_ask, handed_to, idle, led_to, replied, sent_of, with_port}
use Rattle.pf_law_movers.specs.pf_chunk.specs.Runs.{ChunkRun, mover_port}
use Rattle.pf_law_movers.specs.pf_world_moments.specs.Hosts.{handed_moments}
use Rattle.pf_law_movers.specs.pf_world_moments.specs.Moments.{Hands, Moment, Writes}
use Rattle.pf_law_movers.specs.Pasts.{MoverTrace, PortTrace, handed_at, handed_by, mover_trace, moves_into, past_in, trace_in, with_trace_of_port as with_port_of}
use Rattle.pf_law_movers.proofs.HistoryGrowth.{after_grows, after_history, followed_grows, followed_ports}
use Rattle.pf_law_movers.proofs.Handovers.{IsHandedAt, IsHandedIf, driven_hands}
use Rattle.pf_law_movers.proofs.Ports.{drives_port}
use Rattle.pf_law_movers.proofs.GroupReplies.{driven_grows}
use Rattle.pf_law_movers.proofs.SubmitAnswers.{is_answer, read_sent, write_sent}
use Rattle.pf_law_movers.proofs.MoverAsTold.{IsAsTold, MoverAsTold, hand_step, passed, regrown, reply_step}
use Rattle.pf_law_movers.proofs.PortTraces.{IsWithin, handed_if, moves_longer, moves_more, test_same, writes_pass}

-- The mover's ports

pub same_role : (one other : MoverAsk) → (one ≡ other) ⊎ (one ≢ other)
same_role Reading Reading = inl refl
same_role Writing Writing = inl refl
same_role Reading Writing = inr (λ same. cc)
same_role Writing Reading = inr (λ same. cc)

port_of : (change : PortTrace → PortTrace) (role : MoverAsk) (t : MoverTrace) → trace_in (with_port_of change (Some role) t) role ≡ change (trace_in t role)
port_of change Reading t = refl
port_of change Writing t = refl

port_not_of : (change : PortTrace → PortTrace) (role its : MoverAsk) → its ≢ role → (t : MoverTrace) → trace_in (with_port_of change (Some role) t) its ≡ trace_in t its
port_not_of change Reading Reading apart t = absurd (apart refl)
port_not_of change Writing Writing apart t = absurd (apart refl)
port_not_of change Reading Writing apart t = refl
port_not_of change Writing Reading apart t = refl

of_role : (change : PortTrace → PortTrace) (role : MoverAsk) (t : MoverTrace) → t.role ≡ Some role → (with_port_of change (Some role) t).role ≡ t.role
of_role change Reading t has = refl
of_role change Writing t has = refl

module _ (halts : List Halt) (c : ChunkRun) (stands : c.group.state ≡ replay c.group.setup c.group.history) (m : ℕ) (t : PortTrace) where
  -- the event by which an ask is handed to a server
  abbrev event_for : Ask → (server : ℕ) → Happening
  event_for ask server =
      let event : Event = event_of_ask ask server in
      record { event = event_listed halts c.group event; answer = event_answered halts c.group event }

  abbrev past_after : Happening → PortPast
  past_after x = past_in (c.group.history ++ x ∷ []) (handed_by c.group.history x.event x.answer t)

  abbrev port_after : PortIs → Ask → (term server : ℕ) → PortIs
  port_after p ask term server = record p { sent = sent_of (event_answered halts c.group (event_of_ask ask server)); last = term }

  module _ (p : PortIs) (term server : ℕ) (led : serving_leader c.group.state ≡ Some (term, server)) (goes : goes_to p.sent p.last term ≡ true) (untold : ask_reply c.group.state p.sent p.last ≡ None) where
    event_step : (ask : Ask) → p.ask ≡ Some ask → IsUndisturbedStep c.group.setup (past_in c.group.history t) p ask None (past_after (event_for ask server)) (port_after p ask term server)
    event_step (asks.Write chunk range sectors) pending =
        let event : Event = Submit server (Write range sectors) in
        let answer : Answer = event_answered halts c.group event in
        let past : PortPast = past_in c.group.history t in
        let sent = write_sent c.group.setup c.group.state server (Write range sectors) answer (is_answer halts c.group event) in
        hand_step c stands t p (asks.Write chunk range sectors) pending term server led goes (Submitted server range sectors (slot_in answer)) (option_map Slot (slot_in answer))
        (with_write past (submission_of past server range sectors answer)) (port_after p (asks.Write chunk range sectors) term server)
        (refl, refl, refl, refl) (answer, refl, refl) (ap (λ (s : Option Sent). let q : PortIs = record p { sent = s; last = term } in q) sent) p.sent refl untold
    event_step (asks.Read chunk range) pending =
        let event : Event = Fetch server range in
        let answer : Answer = event_answered halts c.group event in
        let past : PortPast = past_in c.group.history t in
        let sent = read_sent c.group.setup c.group.state server range answer (is_answer halts c.group event) in
        hand_step c stands t p (asks.Read chunk range) pending term server led goes (Fetched server range (number_in answer)) (option_map Number (number_in answer))
        (with_read past (fetching_of past server range answer)) (port_after p (asks.Read chunk range) term server)
        (refl, refl, refl) (answer, refl, refl) (ap (λ (s : Option Sent). let q : PortIs = record p { sent = s; last = term } in q) sent) p.sent refl untold

  -- after a step its port stands there, and was driven with what was handed on
  pub record DrivesOn (d : Driven) : Type 0 where
    pub port : PortIs
    pub there : slice_get d.chunk.ports m ≡ Some port
    pub its : IsDriven d.chunk.group.setup (past_in d.chunk.group.history (handed_if d.chunk.group.history d.place t)) port

  module _ (p : PortIs) (there : slice_get c.ports m ≡ Some p) (driven_so : IsDriven c.group.setup (past_in c.group.history t) p) where
    idle_on : DrivesOn (idle c)
    idle_on = record { port = p; there = there; its = driven_so }

    module _ (ask : Ask) (pending : p.ask ≡ Some ask) where
      -- the event happened, and what followed on it
      handed_on : (term server : ℕ) → serving_leader c.group.state ≡ Some (term, server) → goes_to p.sent p.last term ≡ true → ask_reply c.group.state p.sent p.last ≡ None → DrivesOn (handed_to halts c m p (event_of_ask ask server) term)
      handed_on term server led goes untold =
          let event : Event = event_of_ask ask server in
          let answer : Answer = event_answered halts c.group event in
          let next : PortIs = port_after p ask term server in
          let x : Happening = event_for ask server in
          let grown : ChunkRun = record c { group = after halts c.group event } in
          let mid : ChunkRun = with_port grown m next in
          let d : Driven = handed_to halts c m p event term in
          let history = c.group.history in
          let later = (followed_grows halts mid answer).later in
          let setup : d.chunk.group.setup ≡ c.group.setup = (followed_grows halts mid answer).setup ∙ (after_grows halts c.group event).setup in
          let whole : (history ++ x ∷ []) ++ later.rest ≡ d.chunk.group.history = ap (λ (h : History). h ++ later.rest) (sym (after_history halts c.group event)) ∙ later.whole in
          let place = length history in
          let front : take place d.chunk.group.history ≡ history =
          ap (take place) (sym whole) ∙ take-append-le place (history ++ x ∷ []) later.rest (omega (arith, length-append history (x ∷ []))) ∙ take-append_seam history (x ∷ []) in
          let here : slice_get d.chunk.group.history place ≡ Some x = ap (λ (h : History). slice_get h place) (sym whole) ∙ at_front (history ++ x ∷ []) later.rest place x (at_end history x) in
          let traced : handed_at (take place d.chunk.group.history) (slice_get d.chunk.group.history place) t ≡ handed_by history x.event x.answer t =
          ap (λ before. handed_at before (slice_get d.chunk.group.history place) t) front ∙ ap (λ h. handed_at history h t) here in
          let stepped : IsDriven c.group.setup (past_after x) next = Steps (past_in history t) (past_after x) p next ask None (event_step p term server led goes untold ask pending) driven_so in
          let on : IsDriven c.group.setup (past_in ((history ++ x ∷ []) ++ later.rest) (handed_by history x.event x.answer t)) next = Others (past_after x) next later.rest stepped in record {
            port = next;
            there = ap (λ (ps : List PortIs). slice_get ps m) (followed_ports halts mid answer) ∙ set_there c.ports m next (slice_get_within c.ports m p there);
            its = subst (λ (s : Setup). IsDriven s (past_in d.chunk.group.history (handed_at (take place d.chunk.group.history) (slice_get d.chunk.group.history place) t)) next) (sym setup)
                (subst (λ (u : PortTrace). IsDriven c.group.setup (past_in d.chunk.group.history u) next) (sym traced)
                (subst (λ (h : History). IsDriven c.group.setup (past_in h (handed_by history x.event x.answer t)) next) whole on));
          }

      leader_on : ask_reply c.group.state p.sent p.last ≡ None → (leader : Option (ℕ × ℕ)) → serving_leader c.group.state ≡ leader → DrivesOn (led_to halts c m p ask leader)
      leader_on untold None led = idle_on
      leader_on untold (Some (term, server)) led =
          by_test (goes_to p.sent p.last term) (λ b. DrivesOn (if b then handed_to halts c m p (event_of_ask ask server) term else idle c)) (λ goes. handed_on term server led goes untold) (λ _. idle_on)

      reply_on : (reply : Option Reply) → ask_reply c.group.state p.sent p.last ≡ reply → DrivesOn (replied halts c m p ask reply)
      reply_on None untold = leader_on untold (serving_leader c.group.state) refl
      reply_on (Some reply) told_so =
          let past : PortPast = past_in c.group.history t in record {
            port = answered_port p;
            there = set_there c.ports m (answered_port p) (slice_get_within c.ports m p there);
            its = Steps past past p (answered_port p) ask (Some reply) (reply_step c stands t p ask pending reply p.sent refl told_so) driven_so;
          }

    ask_on : (ask : Option Ask) → p.ask ≡ ask → DrivesOn (driven_for halts c m p ask)
    ask_on None pending = idle_on
    ask_on (Some ask) pending = reply_on ask pending (ask_reply c.group.state p.sent p.last) refl

    port_on : (o : Option PortIs) → slice_get c.ports m ≡ o → DrivesOn (driven_at halts c m o)
    port_on None none = absurd (none-some p (sym none ∙ there))
    port_on (Some q) at = subst (λ (x : PortIs). DrivesOn (driven_for halts c m x x.ask)) (same_Some p q (sym there ∙ at)) (ask_on p.ask refl)

    pub drives_on : DrivesOn (driven halts c m)
    drives_on = port_on (slice_get c.ports m) refl

-- What is told of a step

-- the group grew, and the port of mount m is different
module _ (count : ℕ) (told : List Moment) (k : ℕ) (d : ChunkRun) (old : List PortIs) (is : IsAsTold count told k (record d { ports = old })) (m : ℕ) (others : (j : ℕ) → j ≢ m → slice_get d.ports j ≡ slice_get old j) (q : PortIs) (there : slice_get d.ports m ≡ Some q) where
  abbrev history : History
  history = d.group.history

  hands_within : (place : ℕ) → place < length history → Every (IsWithin k (length history)) (told ++ Hands m k place ∷ [])
  hands_within place low = every_append (IsWithin k (length history)) told (Hands m k place ∷ []) is.within ((λ same. low), tt)

  -- that of the mover, who has this role here
  module _ (mine : m ≡ mover_port) (role : MoverAsk) (has : (moves_into history k count told).role ≡ Some role) where
    abbrev moves : MoverTrace
    moves = moves_into history k count told

    one_role : (its : MoverAsk) → its ≢ role → moves.role ≡ Some its → ⊥
    one_role its apart is_its = apart (same_Some its role (sym is_its ∙ has))

    pub mover_replaced : IsDriven d.group.setup (past_in history (mover_trace history k role count told)) q → IsAsTold count told k d
    mover_replaced its = record {
      number = is.number;
      stands = is.stands;
      within = is.within;
      hauled = λ its_role. elim (same_role its_role role) [
        | inl same ↦ subst (MoverAsTold count told k d) (sym same) (record { port = q; its = its; there = λ _. ap (slice_get d.ports) (sym mine) ∙ there })
        | inr apart ↦ let was = is.hauled its_role in record { port = was.port; its = was.its; there = λ is_its. absurd (one_role its_role apart is_its) }
      ];
    }

    pub mover_handed : (place : ℕ) → place < length history → IsDriven d.group.setup (past_in history (handed_at (take place history) (slice_get history place) (mover_trace history k role count told))) q → IsAsTold count (told ++ Hands m k place ∷ []) k d
    mover_handed place low its =
        let change = handed_at (take place history) (slice_get history place) in
        let all = told ++ Hands m k place ∷ [] in
        let now : moves_into history k count all ≡ with_port_of change (Some role) moves =
        moves_more history k count told (Hands m k place) ∙ test_same m mover_port k k (with_port_of change moves.role moves) moves mine refl ∙ ap (λ o. with_port_of change o moves) has in record {
          number = is.number;
          stands = is.stands;
          within = hands_within place low;
          hauled = λ its_role. elim (same_role its_role role) [
            | inl same ↦ subst (MoverAsTold count all k d) (sym same) (record {
              port = q;
              its = subst (λ (t : PortTrace). IsDriven d.group.setup (past_in history t) q) (sym (ap (λ (x : MoverTrace). trace_in x role) now ∙ port_of change role moves)) its;
              there = λ _. ap (slice_get d.ports) (sym mine) ∙ there;
            })
            | inr apart ↦
                let was = is.hauled its_role in record {
                  port = was.port;
                  its = subst (λ (t : PortTrace). IsDriven d.group.setup (past_in history t) was.port) (sym (ap (λ (x : MoverTrace). trace_in x its_role) now ∙ port_not_of change role its_role apart moves)) was.its;
                  there = λ is_its. absurd (one_role its_role apart (sym (of_role change role moves has) ∙ sym (ap (λ (x : MoverTrace). x.role) now) ∙ is_its));
                }
          ];
        }

-- The step of a port

module _ (halts : List Halt) (count : ℕ) (told : List Moment) (k : ℕ) (c : ChunkRun) (is : IsAsTold count told k c) (m : ℕ) where
  abbrev d : Driven
  d = driven halts c m

  abbrev IsDone : Type 0
  IsDone = IsAsTold count (told ++ (handed_moments m k d.place ++ Writes d.text ∷ [])) k d.chunk

  grown : IsAsTold count told k (record d.chunk { ports = c.ports })
  grown = regrown count told k c (record d.chunk { ports = c.ports }) refl (driven_grows halts c m) is

  -- a trace of what was told before is that of the longer history
  longer : d.chunk.group.history ≡ c.group.history ++ (driven_grows halts c m).later.rest
  longer = sym (driven_grows halts c m).later.whole

  after_text : (all : List Moment) → IsAsTold count all k d.chunk → IsAsTold count (all ++ Writes d.text ∷ []) k d.chunk
  after_text all told_so = passed count all k d.chunk (Writes d.text) told_so (writes_pass k d.text)

  low : (place : ℕ) → d.place ≡ Some place → place < length d.chunk.group.history
  low place same = by (subst (IsHandedIf m c d) same (driven_hands halts c m))
    where
      by : IsHandedAt m c d place → place < length d.chunk.group.history
      by h = slice_get_within d.chunk.group.history place (record { event = event_of_ask h.ask h.server; answer = h.answer }) h.is

  -- of the mover's, where it has a role
  module _ (mine : m ≡ mover_port) (role : MoverAsk) (has : (moves_into c.group.history k count told).role ≡ Some role) where
    abbrev u : PortTrace
    u = mover_trace c.group.history k role count told

    mover_on : DrivesOn halts c is.stands m u d
    mover_on = let port = is.hauled role in drives_on halts c is.stands m u port.port (ap (slice_get c.ports) mine ∙ port.there has) port.its

    same_moves : moves_into d.chunk.group.history k count told ≡ moves_into c.group.history k count told
    same_moves = ap (λ (h : History). moves_into h k count told) longer ∙ moves_longer c.group.history (driven_grows halts c m).later.rest k count told is.within

    same_mover : mover_trace d.chunk.group.history k role count told ≡ u
    same_mover = ap (λ (x : MoverTrace). trace_in x role) same_moves

    has_still : (moves_into d.chunk.group.history k count told).role ≡ Some role
    has_still = ap (λ (x : MoverTrace). x.role) same_moves ∙ has

    mover_place : (place : Option ℕ) → d.place ≡ place → IsDriven d.chunk.group.setup (past_in d.chunk.group.history (handed_if d.chunk.group.history place u)) mover_on.port → IsAsTold count (told ++ (handed_moments m k place ++ Writes d.text ∷ [])) k d.chunk
    mover_place None same its =
        after_text told (mover_replaced count told k d.chunk c.ports grown m (drives_port halts c m).others mover_on.port mover_on.there mine role has_still
        (subst (λ (x : PortTrace). IsDriven d.chunk.group.setup (past_in d.chunk.group.history x) mover_on.port) (sym same_mover) its))
    mover_place (Some place) same its =
        subst (λ (all : List Moment). IsAsTold count all k d.chunk) (append_assoc told (Hands m k place ∷ []) (Writes d.text ∷ []))
        (after_text (told ++ Hands m k place ∷ []) (mover_handed count told k d.chunk c.ports grown m (drives_port halts c m).others mover_on.port mover_on.there mine role has_still place (low place same)
        (subst (λ (x : PortTrace). IsDriven d.chunk.group.setup (past_in d.chunk.group.history (handed_at (take place d.chunk.group.history) (slice_get d.chunk.group.history place) x)) mover_on.port) (sym same_mover) its)))

    pub mover_told : IsDone
    mover_told = mover_place d.place refl mover_on.its
