-- A step of a port is what the run makes of it.
use Rattle.std.proofs.Common.{◌≡◌, ◌≢◌, ℕ, inl, inr, Bool, true, false, cond, if◌then◌else◌, List, [], ◌∷◌, ◌++◌, Option, Some, None, length, slice_get, slice_set, arith, refl, sym, ap, subst, ◌∙◌, append-nil}
use Rattle.std.specs.Prelude.{IfSome, IsTrue}
use Rattle.std.proofs.lemmas.Bool.{cases_eq}
use Rattle.std.proofs.lemmas.List.{length-append}
use Rattle.std.proofs.lemmas.Option.{none-some, same_Some, slice_get_within}
use Rattle.pf_base.specs.Span.{Span}
use Rattle.pf_base.specs.Asks.{Answers}
use Rattle.pf_base.specs.declared.asks.Ask.{Ask}
use Rattle.pf_base.specs.declared.asks.Ask.TheVariants as asks
use Rattle.pf_base.specs.declared.asks.Reply.{Reply}
use Rattle.pf_entry.proofs.Cases.{by_test}
use Rattle.pf_entry.proofs.Lists.{every_get, every_more}
use Rattle.pf_protocol.specs.declared.answers.Answer.{Answer}
use Rattle.pf_protocol.specs.declared.answers.Answer.TheVariants.{Done, Slot as SlotIs, Term as TermIs, Read as ReadIs, Base as BaseIs, Job as JobIs, Refused}
use Rattle.pf_protocol.specs.declared.events.Event.TheVariants.{Fetch}
use Rattle.pf_protocol.specs.declared.events.Happening.{Happening}
use Rattle.pf_protocol.specs.Answers.{IsLegal, claims_after}
use Rattle.pf_law_ports.specs.pf_group_network.specs.Readings.{taken_after}
use Rattle.pf_law_ports.specs.pf_group_network.proofs.Lists.{at_end, set_again, set_elsewhere, set_length, set_same, set_there}
use Rattle.pf_asks.specs.declared.port.Sent.TheVariants.{Number}
use Rattle.pf_asks.specs.Ports.{PortGoes, AskIsHanded, PortIs, PortStays, ask_answered as answered_port, goes_to, new_port}
use Rattle.pf_group_rounds.specs.pf_group.specs.Events.{rule_event}
use Rattle.pf_group_rounds.specs.pf_group.specs.GroupIs.{GroupIs, state_of}
use Rattle.pf_group_rounds.specs.pf_group.specs.Steps.{GroupHasStepped}
use Rattle.pf_group_rounds.specs.Agreeing.{chunk_standing}
use Rattle.pf_group_rounds.specs.Chunks.{event_answered}
use Rattle.pf_group_rounds.specs.Halts.{Halt}
use Rattle.pf_group_rounds.proofs.RunHistories.{Extends, extends_refl}
use Rattle.pf_group_rounds.proofs.GroupGrowth.{grown_refl, taken_grows}
use Rattle.pf_group_rounds.proofs.Told.{told_length}
use Rattle.pf_chunk_waiting.specs.declared.waiting.Waiting.{Waiting}
use Rattle.pf_chunk.specs.declared.driving.PortStep.{PortStep}
use Rattle.pf_chunk.specs.declared.driving.PortStep.TheVariants.{Hear, Lead, Drive}
use Rattle.pf_chunk.specs.Asks.{serving_leader, ask_reply}
use Rattle.pf_chunk.specs.Driving.{Driven, HandsOn, HasDriven, ChunkHasGone, HasHeard, Heeds, PortDrove, ask_after, driven, driven_at, driven_for, event_of_ask, handed_by_event, handed_to, port_heard, heard_at, heard_for, heard_if, idle, led, led_at, led_for, led_to, replied, run_by, sent_of, with_port}
use Rattle.pf_chunk.specs.Runs.{ChunkRun}
use Rattle.pf_chunk.specs.Views.{ArePorts, ChunkIs, IsFetched, ChunkIsKept, ChunkIsReady, run_of}
use Rattle.pf_chunk.proofs.Begun.{happened_extends}
use Rattle.pf_chunk.proofs.Calls.{GivesReply, HandsIt, IsNotTold, Keeps, LedOn, Replies, StaysThere, WasHanded, WasLed, WentOn, hand, went_on}
use Rattle.pf_chunk.proofs.EventRuns.{Comes, Fills, IsMidway, filled_up}
use Rattle.pf_chunk_waiting.proofs.Filters.{every_place}
use Rattle.pf_chunk.proofs.Midway.{claims, kept_quietly, next_read}
use Rattle.pf_chunk.proofs.Ready.{IsFor, port_put}

-- the port goes on with what tells the answer
abbrev pub sends : (m : ℕ) → PortIs → (term : ℕ) → Fills
sends m p term c g answer = record c { group = g; ports = slice_set c.ports m (record p { sent = sent_of answer; last = term }) }

sent_read : (answer : Answer) (n : ℕ) → sent_of answer ≡ Some (Number n) → answer ≡ ReadIs n
sent_read (ReadIs k) n is = cc
sent_read (SlotIs slot) n is = cc
sent_read Done n is = cc
sent_read (TermIs term) n is = cc
sent_read (BaseIs base) n is = cc
sent_read (JobIs job) n is = cc
sent_read (Refused refusal) n is = cc

same_event : (ask : Ask) (server : ℕ) → event_of_ask ask server ≡ rule_event (hand ask server) false
same_event (asks.Write chunk range sectors) server = refl
same_event (asks.Read chunk range) server = refl

no_claim : (ask : Ask) (server : ℕ) (found : Bool) (answer : Answer) → claims_after [] (rule_event (hand ask server) found) answer ≡ []
no_claim (asks.Write chunk range sectors) server found answer = refl
no_claim (asks.Read chunk range) server found answer = refl

no_number : (n : ℕ) → None ≡ Some (Number n) → ⊥
no_number n is = none-some (Number n) is

-- a step only adds to the history of its chunk
module _ (halts : List Halt) (c : ChunkRun) (m : ℕ) where
  handed_extends : (p : PortIs) (ask : Ask) (leader : Option (ℕ × ℕ)) → Extends c.group (led_to halts c m p ask leader).chunk.group
  handed_extends p ask None = extends_refl c.group
  handed_extends p ask (Some (term, server)) =
      by_test (goes_to p.sent p.last term) (λ b. Extends c.group (if b then handed_to halts c m p (event_of_ask ask server) term else idle c).chunk.group)
      (λ _. happened_extends halts (with_port c m (record p { sent = sent_of (event_answered halts c.group (event_of_ask ask server)); last = term })) (event_of_ask ask server))
      (λ _. extends_refl c.group)

  reply_extends : (p : PortIs) (ask : Ask) (reply : Option Reply) → Extends c.group (replied halts c m p ask reply).chunk.group
  reply_extends p ask None = handed_extends p ask (serving_leader c.group.state)
  reply_extends p ask (Some reply) = extends_refl c.group

  ask_extends : (p : PortIs) (ask : Option Ask) → Extends c.group (driven_for halts c m p ask).chunk.group
  ask_extends p None = extends_refl c.group
  ask_extends p (Some ask) = reply_extends p ask (ask_reply c.group.state p.sent p.last)

  port_extends : (p : Option PortIs) → Extends c.group (driven_at halts c m p).chunk.group
  port_extends None = extends_refl c.group
  port_extends (Some p) = ask_extends p p.ask

  pub driven_extends : Extends c.group (driven halts c m).chunk.group
  driven_extends = port_extends (slice_get c.ports m)

  led_for_extends : (p : PortIs) (ask : Option Ask) → Extends c.group (led_for halts c m p ask).chunk.group
  led_for_extends p None = extends_refl c.group
  led_for_extends p (Some ask) = handed_extends p ask (serving_leader c.group.state)

  led_at_extends : (p : Option PortIs) → Extends c.group (led_at halts c m p).chunk.group
  led_at_extends None = extends_refl c.group
  led_at_extends (Some p) = led_for_extends p p.ask

  pub led_extends : Extends c.group (led halts c m).chunk.group
  led_extends = led_at_extends (slice_get c.ports m)

module _ (c : ChunkRun) (m : ℕ) where
  heard_if_extends : (p : PortIs) (reply : Option Reply) → Extends c.group (heard_if c m p reply).chunk.group
  heard_if_extends p None = extends_refl c.group
  heard_if_extends p (Some reply) = extends_refl c.group

  heard_for_extends : (p : PortIs) (ask : Option Ask) → Extends c.group (heard_for c m p ask).chunk.group
  heard_for_extends p None = extends_refl c.group
  heard_for_extends p (Some ask) = heard_if_extends p (ask_reply c.group.state p.sent p.last)

  heard_at_extends : (p : Option PortIs) → Extends c.group (heard_at c m p).chunk.group
  heard_at_extends None = extends_refl c.group
  heard_at_extends (Some p) = heard_for_extends p p.ask

  pub heard_extends : Extends c.group (port_heard c m).chunk.group
  heard_extends = heard_at_extends (slice_get c.ports m)

pub run_extends : (step : PortStep) (halts : List Halt) (c : ChunkRun) (m : ℕ) → Extends c.group (run_by step halts c m).chunk.group
run_extends Hear halts c m = heard_extends c m
run_extends Lead halts c m = led_extends halts c m
run_extends Drive halts c m = driven_extends halts c m

module _ (m : ℕ) (old : ChunkIs) (p : PortIs) (ask : Ask) (there : slice_get old.ports m ≡ Some p) (pending : p.ask ≡ Some ask) (ready : ChunkIsReady old) where
  -- the run looks for a reply
  looks_for : (halts : List Halt) (r : Option Reply) → ask_reply (state_of old.group) p.sent p.last ≡ r → driven halts (run_of halts old) m ≡ replied halts (run_of halts old) m p ask r
  looks_for halts r told =
      ap (driven_at halts (run_of halts old) m) there ∙ ap (driven_for halts (run_of halts old) m p) pending ∙ ap (replied halts (run_of halts old) m p ask) told

  -- and in the first half of a step
  pub hears_for : (halts : List Halt) (r : Option Reply) → ask_reply (state_of old.group) p.sent p.last ≡ r → port_heard (run_of halts old) m ≡ heard_if (run_of halts old) m p r
  hears_for halts r told = ap (heard_at (run_of halts old) m) there ∙ ap (heard_for (run_of halts old) m p) pending ∙ ap (heard_if (run_of halts old) m p) told

  -- or at once for the leader
  pub leads_for : (halts : List Halt) → led halts (run_of halts old) m ≡ led_to halts (run_of halts old) m p ask (serving_leader (state_of old.group))
  leads_for halts = ap (led_at halts (run_of halts old) m) there ∙ ap (led_for halts (run_of halts old) m p) pending

  -- there is one, and the port is silent then
  module _ (taken : List Bool) (count : length taken ≡ length old.group.taken) (same : (j : ℕ) → (p.sent ≡ Some (Number j) → ⊥) → slice_get taken j ≡ slice_get old.group.taken j) (q : PortIs) (silent : q.sent ≡ None) where
    abbrev told_group : GroupIs
    told_group = record old.group { taken = taken }

    abbrev told_ports : List PortIs
    told_ports = slice_set old.ports m q

    line_still : (k : ℕ) (w : Waiting) → slice_get old.waiting k ≡ Some w → slice_get taken w.number ≡ Some false
    line_still k w at =
        same w.number (λ sent. every_get (λ x. x.number ≢ w.number) old.waiting k w (ready.kept.ports_fit.reads m p w.number there sent).no_line at refl)
        ∙ every_get (λ x. slice_get old.group.taken x.number ≡ Some false) old.waiting k w ready.kept.listed.pending at

    -- no number is sent at its place
    none_there : (other : PortIs) (n : ℕ) → slice_get told_ports m ≡ Some other → other.sent ≡ Some (Number n) → ⊥
    none_there other n at sent =
        let is : other ≡ q = same_Some other q (sym at ∙ set_there old.ports m q (slice_get_within old.ports m p there)) in
        no_number n (sym silent ∙ ap (λ (x : PortIs). x.sent) (sym is) ∙ sent)

    ports_still : ArePorts told_group old.waiting told_ports
    ports_still = record {
      count = set_length old.ports m q ∙ ready.kept.ports_fit.count;
      reads = λ k x n at sent. elim (cases_eq k m) [
        | inl here ↦ absurd (none_there x n (ap (slice_get told_ports) (sym here) ∙ at) sent)
        | inr apart ↦
            let was = sym (set_elsewhere old.ports m k q apart) ∙ at in
            let r = ready.kept.ports_fit.reads k x n was sent in record {
              pending = same n (λ its. apart ((ready.kept.ports_fit.reads m p n there its).alone k x was sent)) ∙ r.pending;
              no_line = r.no_line;
              alone = λ j other other_at other_sent. elim (cases_eq j m) [
                | inl here ↦ absurd (none_there other n (ap (slice_get told_ports) (sym here) ∙ other_at) other_sent)
                | inr away ↦ r.alone j other (sym (set_elsewhere old.ports m j q away) ∙ other_at) other_sent
              ];
              asked = r.asked;
            }
      ];
    }

    abbrev told_chunk : ChunkIs
    told_chunk = record old { group = told_group; ports = told_ports }

    has_taken : (reply : Option Reply) → ((halts : List Halt) → IsTrue old.group.told → driven halts (run_of halts old) m ≡ record { chunk = run_of halts told_chunk; reply = reply; text = []; place = None }) → (before : List ℕ) → HasDriven m old before reply before told_chunk
    has_taken reply run before =
        let grown = taken_grows old.group told_group refl in record {
          grown = grown;
          ready = record {
            claims = ready.claims;
            applied = ready.applied;
            kept = record {
              numbered = λ told. count ∙ ready.kept.numbered told;
              listed = record { ascending = ready.kept.listed.ascending; servers = ready.kept.listed.servers; pending = every_place (λ w. slice_get taken w.number ≡ Some false) old.waiting line_still };
              ports_fit = ports_still;
            };
            few = ready.few;
            first_sent = ready.first_sent;
            none_left = ready.none_left;
          };
          left = λ told k is. inl is;
          first = refl;
          text = [];
          place = None;
          put = sym (append-nil before);
          run = λ halts tells. run halts tells.told;
        }

  -- it stays
  by_goes : (halts : List Halt) (term server : ℕ) (goes : Bool) → cond goes (AskIsHanded p ask term server [] p) (PortStays p [] p)
      → (if goes then handed_to halts (run_of halts old) m p (event_of_ask ask server) term else idle (run_of halts old)) ≡ idle (run_of halts old)
  by_goes halts term server true h = absurd (let e = h.once in cc)
  by_goes halts term server false h = refl

  by_leader : (halts : List Halt) (leader : Option (ℕ × ℕ)) → PortGoes p ask leader [] p → led_to halts (run_of halts old) m p ask leader ≡ idle (run_of halts old)
  by_leader halts None goes = refl
  by_leader halts (Some (term, server)) goes = by_goes halts term server (goes_to p.sent p.last term) goes

  -- where the run looks for the leader
  module _ (step : PortStep) (leads : (halts : List Halt) → IsTrue old.group.told → run_by step halts (run_of halts old) m ≡ led_to halts (run_of halts old) m p ask (serving_leader (state_of old.group))) where
    has_stayed : (leader : Option (ℕ × ℕ)) → (IsTrue old.group.told → serving_leader (state_of old.group) ≡ leader) → PortGoes p ask leader [] p → (before : List ℕ) → ChunkHasGone step m old before None before old
    has_stayed leader led goes before = record {
      grown = grown_refl old.group;
      ready = ready;
      left = λ told k is. inl is;
      first = refl;
      text = [];
      place = None;
      put = sym (append-nil before);
      run = λ halts tells. leads halts tells.told ∙ ap (led_to halts (run_of halts old) m p ask) (led tells.told) ∙ by_leader halts leader goes;
    }

    -- it is handed on
    run_handed : (halts : List Halt) (term server : ℕ) → IsTrue old.group.told → serving_leader (state_of old.group) ≡ Some (term, server) → goes_to p.sent p.last term ≡ true
        → run_by step halts (run_of halts old) m ≡ handed_by_event (length old.group.history) (filled_up (sends m p term) (rule_event (hand ask server) false) halts (run_of halts old))
    run_handed halts term server told led goes =
        let c = run_of halts old in
        leads halts told
        ∙ ap (led_to halts c m p ask) led
        ∙ ap (λ b. if b then handed_to halts c m p (event_of_ask ask server) term else idle c) goes
        ∙ ap (λ event. handed_by_event (length c.group.history) (filled_up (sends m p term) event halts c)) (same_event ask server)
        ∙ ap (λ n. handed_by_event n (filled_up (sends m p term) (rule_event (hand ask server) false) halts c)) (told_length halts old.group.number 0 old.group.history)

  module _ (term server : ℕ) (answer : Answer) (new : GroupIs) (stepped : GroupHasStepped old.group (hand ask server) answer new) where
    abbrev h : Happening
    h = record { event = rule_event (hand ask server) stepped.found; answer = answer }

    abbrev next : PortIs
    next = record p { sent = sent_of answer; last = term }

    kept_now : ChunkIsKept new old.waiting old.ports
    kept_now = kept_quietly old.group new (rule_event (hand ask server) stepped.found) answer stepped.steps old.waiting old.ports ready.kept

    is_next : (n : ℕ) → answer ≡ ReadIs n → n ≡ length old.group.taken
    is_next n told = next_read old.group new (rule_event (hand ask server) stepped.found) answer stepped.steps n told

    its_place : (n chunk : ℕ) (range : Span) → answer ≡ ReadIs n → p.ask ≡ Some (asks.Read chunk range) → IsFetched new.history n range
    its_place n chunk range told is =
        let its : ask ≡ asks.Read chunk range = same_Some ask (asks.Read chunk range) (sym pending ∙ is) in record {
          server = server;
          place = length old.group.history;
          happened =
              ap (λ (g : GroupIs). slice_get g.history (length old.group.history)) stepped.steps.recorded
              ∙ at_end old.group.history h
              ∙ ap (λ a. Some (let x : Happening = record { event = rule_event (hand a server) stepped.found; answer = answer } in x)) its
              ∙ ap (λ a. Some (let x : Happening = record { event = Fetch server range; answer = a } in x)) told;
        }

    fits : (n : ℕ) → sent_of answer ≡ Some (Number n) → IsFor new old.waiting old.ports m next n
    fits n sent =
        let told = sent_read answer n sent in
        let here = is_next n told in record {
          pending = ap (λ (g : GroupIs). slice_get g.taken n) stepped.steps.recorded ∙ ap (λ a. slice_get (taken_after old.group.taken a) n) told ∙ ap (slice_get (old.group.taken ++ false ∷ [])) here ∙ at_end old.group.taken false;
          no_line = every_more (λ w. slice_get old.group.taken w.number ≡ Some false) (λ w. w.number ≢ n) (λ w is same. omega (arith, slice_get_within old.group.taken w.number false is, same, here)) old.waiting ready.kept.listed.pending;
          alone = λ k q at its. absurd (omega (arith, slice_get_within old.group.taken n false (ready.kept.ports_fit.reads k q n at its).pending, here));
          asked = λ chunk range is. its_place n chunk range told is;
        }

    abbrev handed_chunk : ChunkIs
    handed_chunk = record old { group = new; ports = slice_set old.ports m next }

    midway_handed : IsMidway (sends m p term) old (hand ask server) answer handed_chunk
    midway_handed = record {
      found = stepped.found;
      steps = stepped.steps;
      first = refl;
      kept = record { numbered = kept_now.numbered; listed = kept_now.listed; ports_fit = port_put new old.waiting old.ports m next kept_now.ports_fit fits };
      none = claims old.group new (rule_event (hand ask server) stepped.found) answer stepped.steps ready.claims (no_claim ask server stepped.found answer);
      fills = λ told halts. refl;
    }

-- the ask was handed on by one event
pub record IsHandedOn (step : PortStep) (m : ℕ) (old : ChunkIs) (reply : Option Reply) (new : ChunkIs) : Type 0 where
  pub p : PortIs
  pub ask : Ask
  pub term : ℕ
  pub server : ℕ
  pub answer : Answer
  pub none : reply ≡ None
  pub stepped : GroupHasStepped old.group (hand ask server) answer new.group
  pub midway : IsMidway (sends m p term) old (hand ask server) answer new
  pub run : IsTrue old.group.told → (halts : List Halt) → run_by step halts (run_of halts old) m ≡ handed_by_event (length old.group.history) (filled_up (sends m p term) (rule_event (hand ask server) false) halts (run_of halts old))

-- the first half of a step
pub record IsHeard (m : ℕ) (old : ChunkIs) (reply : Option Reply) (new : ChunkIs) : Type 0 where
  pub went : HasHeard m old reply new
  pub port : PortDrove m reply old new
  pub quiet : new.group.history ≡ old.group.history

-- a reply that is not heeded is none that fits, and there is none such where the disks tell their content
record IsHeeded (m : ℕ) (old : ChunkIs) (reply : Option Reply) (new : ChunkIs) (h : HandsOn Drive m old reply new) (given : Reply) : Type 0 where
  next : PortIs
  is : h.next ≡ next
  silent : next.sent ≡ None
  asks : next.ask ≡ ask_after reply h.port.ask
  heeded : IsTrue old.group.told → (reply ≡ Some given) × (next ≡ answered_port h.port)

module _ (step : PortStep) (m : ℕ) (old new : ChunkIs) (reply : Option Reply) (h : HandsOn step m old reply new) (ready : ChunkIsReady old) where
  abbrev pub out : ChunkIs
  out = record old { ports = slice_set old.ports m new_port }

  -- where it stands in its place again
  pub back : (group : GroupIs) (port : PortIs) → h.after ≡ record out { group = group } → h.next ≡ port → new ≡ record old { group = group; ports = slice_set old.ports m port }
  back group port after_is next_is =
      h.is
      ∙ ap (λ (c : ChunkIs). let x : ChunkIs = record c { ports = slice_set c.ports m h.next } in x) after_is
      ∙ ap (λ (ps : List PortIs). let x : ChunkIs = record old { group = group; ports = ps } in x) (set_again old.ports m new_port h.next ∙ ap (slice_set old.ports m) next_is)

  -- no reply was given
  pub none_given : h.given ≡ None → (reply ≡ None) × (h.next ≡ h.left)
  none_given none = subst (λ o. Heeds h.ask o h.left reply h.next) none h.heeds

  -- all is as it was
  pub same_again : h.given ≡ None → h.after ≡ out → h.left ≡ h.port → new ≡ old
  same_again none after_is left_is = back old.group h.port after_is ((none_given none).1 ∙ left_is) ∙ ap (λ (ps : List PortIs). let x : ChunkIs = record old { ports = ps } in x) (set_same old.ports m h.port h.there)

  stayed : Keeps out h.port h.ask h.given h.left h.after → new ≡ old
  stayed k = same_again k.none k.same k.next_is

  handed_is : (k : HandsIt out h.port h.ask h.given h.left h.after) → new ≡ record old { group = h.after.group; ports = slice_set old.ports m (record h.port { sent = sent_of k.hands.answer; last = k.term }) }
  handed_is k = back h.after.group _ k.hands.rest ((none_given k.none).1 ∙ k.next_is)

  longer : HandsIt out h.port h.ask h.given h.left h.after → length new.group.history ≡ length old.group.history → ⊥
  longer k same =
      omega (arith, same, ap (λ (c : ChunkIs). length c.group.history) (handed_is k), ap (λ (g : GroupIs). length g.history) k.hands.stepped.steps.recorded, length-append old.group.history (record { event = rule_event (hand h.ask k.server) k.hands.stepped.found; answer = k.hands.answer } ∷ []))

  -- what it did to its port
  pub port_facts : (port : PortIs) → new.ports ≡ slice_set old.ports m port → port.ask ≡ ask_after reply h.port.ask → (h.port.sent ≡ None → reply ≡ None) → PortDrove m reply old new
  port_facts port ports asks unsent = record {
    port = port;
    ports = ports;
    asks = λ before at. asks ∙ ap (λ (q : PortIs). ask_after reply q.ask) (same_Some h.port before (sym h.there ∙ at));
    unsent = λ before at none. unsent (ap (λ (q : PortIs). q.sent) (same_Some h.port before (sym h.there ∙ at)) ∙ none);
  }

  pub led_port : LedOn out h.port h.ask h.given h.left h.after → PortDrove m reply old new
  led_port led = elim led [
    | StaysThere k ↦
        let none = (none_given k.none).0 in
        port_facts h.port (ap (λ (c : ChunkIs). c.ports) (stayed k) ∙ sym (set_same old.ports m h.port h.there)) (ap (λ (o : Option Reply). ask_after o h.port.ask) (sym none)) (λ _. none)
    | WasHanded k ↦
        let none = (none_given k.none).0 in
        port_facts (record h.port { sent = sent_of k.hands.answer; last = k.term }) (ap (λ (c : ChunkIs). c.ports) (handed_is k)) (ap (λ (o : Option Reply). ask_after o h.port.ask) (sym none)) (λ _. none)
  ]

  module _ (leads : (halts : List Halt) → IsTrue old.group.told → run_by step halts (run_of halts old) m ≡ led_to halts (run_of halts old) m h.port h.ask (serving_leader (state_of old.group))) where
    -- no event took place
    pub led_still : LedOn out h.port h.ask h.given h.left h.after → length new.group.history ≡ length old.group.history → (before : List ℕ) → ChunkHasGone step m old before reply before new
    led_still led same before = elim led [
      | StaysThere k ↦
          subst (λ o. ChunkHasGone step m old before o before new) (sym (none_given k.none).0) (subst (ChunkHasGone step m old before None before) (sym (stayed k))
          (has_stayed m old h.port h.ask h.there h.pending ready step leads k.leader k.led k.goes before))
      | WasHanded k ↦ absurd (longer k same)
    ]

    -- one did
    pub led_away : LedOn out h.port h.ask h.given h.left h.after → (length new.group.history ≡ length old.group.history → ⊥) → IsHandedOn step m old reply new
    led_away led more = elim led [
      | StaysThere k ↦ absurd (more (ap (λ (c : ChunkIs). length c.group.history) (stayed k)))
      | WasHanded k ↦
          let is = handed_is k in record {
            p = h.port;
            ask = h.ask;
            term = k.term;
            server = k.server;
            answer = k.hands.answer;
            none = (none_given k.none).0;
            stepped = subst (λ (c : ChunkIs). GroupHasStepped old.group (hand h.ask k.server) k.hands.answer c.group) (sym is) k.hands.stepped;
            midway = subst (IsMidway (sends m h.port k.term) old (hand h.ask k.server) k.hands.answer) (sym is)
                (midway_handed m old h.port h.ask h.there h.pending ready k.term k.server k.hands.answer h.after.group k.hands.stepped);
            run = λ told halts. run_handed m old h.port h.ask h.there h.pending ready step leads halts k.term k.server told (k.led told) k.goes;
          }
    ]

module _ (m : ℕ) (old new : ChunkIs) (reply : Option Reply) (h : HandsOn Drive m old reply new) (ready : ChunkIsReady old) (legal : IsTrue old.group.told → IsLegal old.group.setup old.group.history) where
  abbrev around : ChunkIs
  around = out Drive m old new reply h ready

  went : WentOn around h.port h.ask h.given h.left h.after
  went = went_on around h.port h.ask h.given h.left h.after legal (λ n sent. (ready.kept.ports_fit.reads m h.port n h.there sent).pending) h.calls h.steps h.leads

  -- one was
  heeded : (r : Replies around h.port h.ask h.given h.left h.after) → IsHeeded m old reply new h r.given
  heeded r = elim (subst (λ o. Heeds h.ask o h.left reply h.next) r.is h.heeds) [
    | inl fits ↦ record {
      next = answered_port h.port;
      is = fits.2 ∙ r.next_is;
      silent = refl;
      asks = ap (λ (o : Option Reply). ask_after o h.port.ask) (sym fits.1);
      heeded = λ told. (fits.1, refl);
    }
    | inr other ↦ record {
      next = record h.port { ask = Some h.ask; sent = None };
      is = other.2 ∙ ap (λ (q : PortIs). let x : PortIs = record q { ask = Some h.ask; sent = None } in x) r.next_is;
      silent = refl;
      asks = sym h.pending ∙ ap (λ (o : Option Reply). ask_after o h.port.ask) (sym other.1);
      heeded = λ told. absurd (other.0 (subst (λ o. IfSome o (Answers h.ask)) r.is (h.fits told)));
    }
  ]

  -- the run gives that reply
  module _ (r : Replies around h.port h.ask h.given h.left h.after) (group : GroupIs) where
    abbrev ends_at : ChunkIs
    ends_at = record old { group = group; ports = slice_set old.ports m (heeded r).next }

    run_replies : ((halts : List Halt) → chunk_standing halts group ≡ chunk_standing halts old.group) → (halts : List Halt) → IsTrue old.group.told → driven halts (run_of halts old) m ≡ record { chunk = run_of halts ends_at; reply = reply; text = []; place = None }
    run_replies same halts told =
        let its = (heeded r).heeded told in
        looks_for m old h.port h.ask h.there h.pending ready halts (Some r.given) (r.told told)
        ∙ ap (λ o. let d : Driven = record { chunk = with_port (run_of halts old) m (answered_port h.port); reply = o; text = []; place = None } in d) (sym its.0)
        ∙ ap (λ q. let d : Driven = record { chunk = with_port (run_of halts old) m q; reply = reply; text = []; place = None } in d) (sym its.1)
        ∙ ap (λ c. let d : Driven = record { chunk = record { group = c; waiting = old.waiting; ports = slice_set old.ports m (heeded r).next }; reply = reply; text = []; place = None } in d) (sym (same halts))

  -- the chunk then
  record Ended (r : Replies around h.port h.ask h.given h.left h.after) : Type 0 where
    taken : List Bool
    count : length taken ≡ length old.group.taken
    same : (j : ℕ) → (h.port.sent ≡ Some (Number j) → ⊥) → slice_get taken j ≡ slice_get old.group.taken j
    is : new ≡ ends_at r (record old.group { taken = taken })

  ended : (r : Replies around h.port h.ask h.given h.left h.after) → Ended r
  ended r = elim r.takes [
    | inl same ↦ record { taken = old.group.taken; count = refl; same = λ j _. refl; is = back Drive m old new reply h ready old.group (heeded r).next same (heeded r).is }
    | inr took ↦ record {
      taken = slice_set old.group.taken took.0 true;
      count = set_length old.group.taken took.0 true;
      same = λ j other. set_elsewhere old.group.taken took.0 j true (λ same. other (took.1 ∙ ap (λ n. Some (Number n)) (sym same)));
      is = back Drive m old new reply h ready (record old.group { taken = slice_set old.group.taken took.0 true }) (heeded r).next took.2 (heeded r).is;
    }
  ]

  module _ (r : Replies around h.port h.ask h.given h.left h.after) where
    abbrev its_group : GroupIs
    its_group = record old.group { taken = (ended r).taken }

    its_end : (before : List ℕ) → HasDriven m old before reply before (ends_at r its_group)
    its_end before = has_taken m old h.port h.ask h.there h.pending ready (ended r).taken (ended r).count (ended r).same (heeded r).next (heeded r).silent reply (run_replies r its_group (λ halts. refl)) before

    replied_so : (before : List ℕ) → HasDriven m old before reply before new × (new.group.history ≡ old.group.history)
    replied_so before = (subst (HasDriven m old before reply before) (sym (ended r).is) (its_end before), ap (λ (c : ChunkIs). c.group.history) (ended r).is)

    -- so the first half comes to it too
    hears_so : (halts : List Halt) → IsTrue old.group.told → port_heard (run_of halts old) m ≡ record { chunk = run_of halts (ends_at r its_group); reply = reply; text = []; place = None }
    hears_so halts told =
        let its = r.told told in
        hears_for m old h.port h.ask h.there h.pending ready halts (Some r.given) its
        ∙ sym (looks_for m old h.port h.ask h.there h.pending ready halts (Some r.given) its)
        ∙ run_replies r its_group (λ halts. refl) halts told

    heard_so : HasHeard m old reply new
    heard_so =
        let d = its_end [] in
        subst (HasHeard m old reply) (sym (ended r).is)
        (record { grown = d.grown; ready = d.ready; left = d.left; first = d.first; run = λ halts tells. hears_so halts (subst IsTrue d.grown.told tells.told) })

  replied_port : (r : Replies around h.port h.ask h.given h.left h.after) → PortDrove m reply old new
  replied_port r = port_facts Drive m old new reply h ready (heeded r).next (ap (λ (c : ChunkIs). c.ports) (ended r).is) (heeded r).asks (λ none. absurd (none-some r.sent (sym none ∙ r.was)))

  pub port_drove : PortDrove m reply old new
  port_drove = elim went [
    | GivesReply r ↦ replied_port r
    | WasLed un led ↦ led_port Drive m old new reply h ready led
  ]

  leads : IsNotTold around h.port h.ask h.given h.left h.after → (halts : List Halt) → IsTrue old.group.told → driven halts (run_of halts old) m ≡ led_to halts (run_of halts old) m h.port h.ask (serving_leader (state_of old.group))
  leads un halts told = looks_for m old h.port h.ask h.there h.pending ready halts None (un.untold told)

  -- no event took place
  pub no_event : length new.group.history ≡ length old.group.history → (before : List ℕ) → HasDriven m old before reply before new
  no_event same before = elim went [
    | GivesReply r ↦ (replied_so r before).0
    | WasLed un led ↦ led_still Drive m old new reply h ready (leads un) led same before
  ]

  -- one did
  pub an_event : (length new.group.history ≡ length old.group.history → ⊥) → IsHandedOn Drive m old reply new
  an_event more = elim went [
    | GivesReply r ↦ absurd (more (ap length (replied_so r []).1))
    | WasLed un led ↦ led_away Drive m old new reply h ready (leads un) led more
  ]

  -- it gave a reply: so did its first half
  pub heard_reply : (given : Reply) → h.given ≡ Some given → IsHeard m old reply new
  heard_reply given is = elim went [
    | GivesReply r ↦ record { went = heard_so r; port = replied_port r; quiet = (replied_so r []).1 }
    | WasLed un led ↦ absurd (none-some given (sym un.none ∙ is))
  ]

-- what followed on the event
pub has_gone : (step : PortStep) (m : ℕ) (old mid new : ChunkIs) (reply : Option Reply) (h : IsHandedOn step m old reply mid) (before after : List ℕ) → Comes (sends m h.p h.term) old (hand h.ask h.server) h.answer mid before after new → ChunkHasGone step m old before reply after new
has_gone step m old mid new reply h before after comes =
    subst (λ o. ChunkHasGone step m old before o after new) (sym h.none) (record {
      grown = comes.grown;
      ready = comes.ready;
      left = comes.left;
      first = comes.first;
      text = comes.text;
      place = Some (length old.group.history);
      put = comes.put_is;
      run = λ halts tells. h.run (subst IsTrue comes.grown.told tells.told) halts ∙ ap (handed_by_event (length old.group.history)) (comes.run halts tells);
    })

-- what follows on it leaves the ports alone
pub port_after : (m : ℕ) (old mid new : ChunkIs) (reply : Option Reply) → PortDrove m reply old mid → new.ports ≡ mid.ports → PortDrove m reply old new
port_after m old mid new reply p same = record { port = p.port; ports = same ∙ p.ports; asks = p.asks; unsent = p.unsent }

-- an ask is put into the port at a place
pub put_ready : (m : ℕ) (c : ChunkIs) (port : PortIs) → ChunkIsReady c → port.sent ≡ None → ChunkIsReady (record c { ports = slice_set c.ports m port })
put_ready m c port ready none = record {
  claims = ready.claims;
  applied = ready.applied;
  kept = record {
    numbered = ready.kept.numbered;
    listed = ready.kept.listed;
    ports_fit = port_put c.group c.waiting c.ports m port ready.kept.ports_fit (λ n sent. absurd (no_number n (sym none ∙ sent)));
  };
  few = ready.few;
  first_sent = ready.first_sent;
  none_left = ready.none_left;
}
