-- What the calls of a port's step come to.
use Rattle.std.proofs.Common.{◌≡◌, ◌≢◌, ◌⊎◌, inl, inr, ℕ, true, false, Bool, cond, List, [], ◌∷◌, Option, Some, None, slice_get, slice_set, refl, sym, ap, subst, ◌∙◌}
use Rattle.std.specs.Option.{option_map}
use Rattle.std.specs.Prelude.{IsTrue}
use Rattle.pf_base.specs.Span.{Span}
use Rattle.pf_base.specs.declared.asks.Ask.{Ask}
use Rattle.pf_base.specs.declared.asks.Ask.TheVariants as asks
use Rattle.pf_base.specs.declared.asks.Reply.{Reply}
use Rattle.pf_base.specs.declared.asks.Reply.TheVariants.{Bytes}
use Rattle.pf_entry.specs.Lists.{Every}
use Rattle.pf_entry.proofs.Lists.{every_get}
use Rattle.pf_entry.specs.Ops.{Sector}
use Rattle.pf_entry.specs.declared.ops.Op.{Op}
use Rattle.pf_protocol.specs.declared.answers.Answer.{Answer}
use Rattle.pf_protocol.specs.declared.answers.Answer.TheVariants.{Done, Slot as SlotIs, Term as TermIs, Read as ReadIs, Base as BaseIs, Job as JobIs, Refused}
use Rattle.pf_protocol.specs.declared.answers.Refusal.{Refusal}
use Rattle.pf_protocol.specs.declared.answers.Refusal.TheVariants.{Down, Halted, NotLeader}
use Rattle.pf_protocol.specs.declared.events.Event.TheVariants.{Fetch, Submit}
use Rattle.pf_protocol.specs.Servers.{Candidate, Condition, Follower, Merging, Role, Running, Server, Serving, Setup, Stopped, Unformatted}
use Rattle.pf_protocol.specs.Leading.{on_fetch}
use Rattle.pf_protocol.specs.Groups.{Answered, Group}
use Rattle.pf_protocol.specs.Answers.{IsAnswer, IsLegal, answer_at, answer_by, answer_to, fetch_refusal, fetch_turn}
use Rattle.pf_asks.specs.declared.port.Sent.{Sent}
use Rattle.pf_asks.specs.declared.port.Sent.TheVariants.{Slot, Number}
use Rattle.pf_asks.specs.Desks.{DeskCall, CallsLead, CallIsLook, Led, Submitted, Fetched, WasAcked, Took}
use Rattle.pf_asks.specs.Ports.{Drives, DrivesFrom, PortGoes, PortGoesOn, Hands, Hears, HearsFrom, AskIsHanded, IsLed, LooksFor, PortIs, PortStays, ask_answered, goes_to, reply_if}
use Rattle.pf_law_ports.specs.Calls.{number_in, slot_in}
use Rattle.pf_group_rounds.specs.pf_group.specs.declared.event.GroupEvent.{GroupEvent}
use Rattle.pf_group_rounds.specs.pf_group.specs.declared.event.GroupEvent.TheVariants as asked
use Rattle.pf_group_rounds.specs.pf_group.specs.GroupIs.{GroupIs, state_of}
use Rattle.pf_group_rounds.specs.pf_group.specs.Readers.{LacksAnswer}
use Rattle.pf_group_rounds.specs.pf_group.specs.Steps.{GroupHasStepped}
use Rattle.pf_law_ports.specs.pf_group_network.specs.Shown.{is_acked}
use Rattle.pf_chunk.specs.Asks.{ChunkSays, serving_leader, ask_reply}
use Rattle.pf_chunk.specs.Driving.{sent_of}
use Rattle.pf_chunk.specs.Views.{ChunkIs}
use Rattle.pf_chunk.specs.Waiting.{answers_of_read}
use Rattle.pf_chunk.proofs.Answers.{its_answer, no_answers}
use Rattle.pf_chunk.proofs.WaitingLists.{taken_up}
use Rattle.pf_chunk.proofs.Once.{reads_wait_once}

-- no call changes a port
says_ports : (old : ChunkIs) (call : DeskCall) (new : ChunkIs) → ChunkSays old call new → new.ports ≡ old.ports
says_ports old (Led leader) new says = ap (λ (c : ChunkIs). c.ports) says.0
says_ports old (Submitted server range sectors slot) new says = ap (λ (c : ChunkIs). c.ports) says.rest
says_ports old (Fetched server range number) new says = ap (λ (c : ChunkIs). c.ports) says.rest
says_ports old (WasAcked term slot is) new says = ap (λ (c : ChunkIs). c.ports) says.0
says_ports old (Took number None) new says = ap (λ (c : ChunkIs). c.ports) says.0
says_ports old (Took number (Some sectors)) new says = ap (λ (c : ChunkIs). c.ports) says.1

pub lead_ports : (old : ChunkIs) (calls : List DeskCall) (new : ChunkIs) → CallsLead ChunkSays old calls new → new.ports ≡ old.ports
lead_ports old [] new lead = ap (λ (c : ChunkIs). c.ports) lead
lead_ports old (call ∷ calls) new lead = lead_ports lead.0 calls new lead.2 ∙ says_ports old call lead.0 lead.1

look_same : (old : ChunkIs) (call : DeskCall) (new : ChunkIs) → CallIsLook call → ChunkSays old call new → new ≡ old
look_same old (Led leader) new look says = says.0
look_same old (WasAcked term slot is) new look says = says.0
look_same old (Took number None) new look says = says.0
look_same old call new look says = absurd look

-- looks change nothing
pub looks_same : (old : ChunkIs) (calls : List DeskCall) (new : ChunkIs) → Every CallIsLook calls → CallsLead ChunkSays old calls new → new ≡ old
looks_same old [] new looks lead = lead
looks_same old (call ∷ calls) new looks lead = looks_same lead.0 calls new looks.1 lead.2 ∙ look_same old call lead.0 looks.0 lead.1

-- the event that hands an ask to a server
abbrev pub hand : Ask → (server : ℕ) → GroupEvent
hand (asks.Write chunk range sectors) server = asked.Submit server range sectors
hand (asks.Read chunk range) server = asked.Fetch server range

-- what tells the answer of an ask
submit_apart : (i j : ℕ) (op : Op) (range : Span) → Submit i op ≡ Fetch j range → ⊥
submit_apart i j op range same = cc

write_sent : (setup : Setup) (g : Group) (i : ℕ) (op : Op) (answer : Answer) → IsAnswer setup g (Submit i op) answer → option_map Slot (slot_in answer) ≡ sent_of answer
write_sent setup g i op (ReadIs n) is = let t = taken_up setup g (Submit i op) (ReadIs n) is n refl in absurd (submit_apart i t.server op t.range t.fetched)
write_sent setup g i op (SlotIs slot) is = refl
write_sent setup g i op Done is = refl
write_sent setup g i op (TermIs term) is = refl
write_sent setup g i op (BaseIs base) is = refl
write_sent setup g i op (JobIs job) is = refl
write_sent setup g i op (Refused refusal) is = refl

slot_apart : (slot : ℕ) (refusal : Refusal) → SlotIs slot ≡ Refused refusal → ⊥
slot_apart slot refusal e = cc

slot_read : (slot n : ℕ) → SlotIs slot ≡ ReadIs n → ⊥
slot_read slot n e = cc

module _ (setup : Setup) (g : Group) (i slot : ℕ) (range : Span) where
  by_role : (s : Server) (role : Role) → SlotIs slot ≡ (on_fetch s range g.reads role).answer → ⊥
  unfolding on_fetch
  by_role s Follower is = slot_apart slot NotLeader is
  by_role s (Candidate own) is = slot_apart slot NotLeader is
  by_role s (Merging l) is = slot_apart slot NotLeader is
  by_role s (Serving l) is = slot_read slot g.reads is

  by_refusal : (s : Server) (r : Option Refusal) → SlotIs slot ≡ answer_by r (on_fetch s range g.reads s.role).answer → ⊥
  by_refusal s None is = by_role s s.role is
  by_refusal s (Some refusal) is = slot_apart slot refusal is

  by_condition : (c : Option Condition) → SlotIs slot ≡ answer_at c (fetch_turn setup g range) → ⊥
  by_condition (Some (Running s)) is = by_refusal s (fetch_refusal setup g range s) is
  by_condition (Some (Stopped life before after)) is = slot_apart slot Down is
  by_condition (Some Unformatted) is = slot_apart slot Down is
  by_condition None is = slot_apart slot Down is

  no_slot : IsAnswer setup g (Fetch i range) (SlotIs slot) → ⊥
  unfolding answer_to
  no_slot answer = elim answer [
    | inl is ↦ by_condition (slice_get g.servers i) is
    | inr halted ↦ slot_apart slot Halted halted.1
  ]

read_sent : (setup : Setup) (g : Group) (i : ℕ) (range : Span) (answer : Answer) → IsAnswer setup g (Fetch i range) answer → option_map Number (number_in answer) ≡ sent_of answer
read_sent setup g i range (SlotIs slot) is = absurd (no_slot setup g i slot range is)
read_sent setup g i range (ReadIs n) is = refl
read_sent setup g i range Done is = refl
read_sent setup g i range (TermIs term) is = refl
read_sent setup g i range (BaseIs base) is = refl
read_sent setup g i range (JobIs job) is = refl
read_sent setup g i range (Refused refusal) is = refl

-- one event of the group hands the ask on
pub record HandsTo (old : ChunkIs) (ask : Ask) (server : ℕ) (sent : Option Sent) (new : ChunkIs) : Type 0 where
  pub answer : Answer
  pub stepped : GroupHasStepped old.group (hand ask server) answer new.group
  pub rest : new ≡ record old { group = new.group }
  pub sent_is : sent ≡ sent_of answer

hands_to : (old : ChunkIs) (ask : Ask) (server : ℕ) (call : DeskCall) (sent : Option Sent) (new : ChunkIs) → Hands ask server call sent → ChunkSays old call new → HandsTo old ask server sent new
hands_to old (asks.Write chunk range sectors) server (Submitted i span payload slot) sent new hands says =
    let stepped = subst (λ n. GroupHasStepped old.group (asked.Submit n range sectors) says.answer new.group) hands.0
    (subst (λ (r : Span). GroupHasStepped old.group (asked.Submit i r sectors) says.answer new.group) hands.1
    (subst (λ (p : List Sector). GroupHasStepped old.group (asked.Submit i span p) says.answer new.group) hands.2 says.stepped)) in record {
      answer = says.answer;
      stepped = stepped;
      rest = says.rest;
      sent_is = hands.3 ∙ ap (option_map Slot) says.tells ∙ write_sent old.group.setup stepped.steps.before server _ says.answer (stepped.steps.answered (inr tt));
    }
hands_to old (asks.Read chunk range) server (Fetched i span number) sent new hands says =
    let stepped = subst (λ n. GroupHasStepped old.group (asked.Fetch n range) says.answer new.group) hands.0
    (subst (λ (r : Span). GroupHasStepped old.group (asked.Fetch i r) says.answer new.group) hands.1 says.stepped) in record {
      answer = says.answer;
      stepped = stepped;
      rest = says.rest;
      sent_is = hands.2 ∙ ap (option_map Number) says.tells ∙ read_sent old.group.setup stepped.steps.before server range says.answer (stepped.steps.answered (inr tt));
    }
hands_to old ask server call sent new hands says = absurd hands

module _ (old : ChunkIs) (p : PortIs) (ask : Ask) (reply : Option Reply) (next : PortIs) (after : ChunkIs) where
  abbrev g : Group
  g = state_of old.group

  -- its last submission was answered
  pub record Replies : Type 0 where
    pub given : Reply
    pub is : reply ≡ Some given
    pub sent : Sent
    pub was : p.sent ≡ Some sent
    pub told : IsTrue old.group.told → ask_reply g p.sent p.last ≡ Some given
    pub takes : (after ≡ old) ⊎ ((n : ℕ) × (p.sent ≡ Some (Number n)) × (after ≡ record old { group = record old.group { taken = slice_set old.group.taken n true } }))
    pub next_is : next ≡ ask_answered p

  pub record IsNotTold : Type 0 where
    pub none : reply ≡ None
    pub untold : IsTrue old.group.told → ask_reply g p.sent p.last ≡ None

  -- it stays
  pub record Keeps : Type 0 where
    pub none : reply ≡ None
    pub leader : Option (ℕ × ℕ)
    pub led : IsTrue old.group.told → serving_leader g ≡ leader
    pub goes : PortGoes p ask leader [] p
    pub next_is : next ≡ p
    pub same : after ≡ old

  -- it was handed on
  pub record HandsIt : Type 0 where
    pub none : reply ≡ None
    pub term : ℕ
    pub server : ℕ
    pub led : IsTrue old.group.told → serving_leader g ≡ Some (term, server)
    pub goes : goes_to p.sent p.last term ≡ true
    pub sent : Option Sent
    pub hands : HandsTo old ask server sent after
    pub next_is : next ≡ record p { sent = sent_of hands.answer; last = term }

  pub data LedOn : Type 0 where
    StaysThere : Keeps → LedOn
    WasHanded : HandsIt → LedOn

  pub data WentOn : Type 0 where
    GivesReply : Replies → WentOn
    WasLed : IsNotTold → LedOn → WentOn

  module _ (legal : IsTrue old.group.told → IsLegal old.group.setup old.group.history) (fresh : (n : ℕ) → p.sent ≡ Some (Number n) → slice_get old.group.taken n ≡ Some false) where
    by_leader : (mid : ChunkIs) → mid ≡ old → reply ≡ None → (leader : Option (ℕ × ℕ)) → (IsTrue old.group.told → serving_leader g ≡ leader) → (rest : List DeskCall) → PortGoes p ask leader rest next → CallsLead ChunkSays mid rest after → LedOn
    by_leader mid same none None led rest goes lead =
        let here : after ≡ mid = subst (λ calls. CallsLead ChunkSays mid calls after) goes.none lead in
        StaysThere (record { none = none; leader = None; led = led; goes = record { none = refl; same = refl }; next_is = goes.same; same = here ∙ same })
    by_leader mid same none (Some (term, server)) led rest goes lead = by_test (goes_to p.sent p.last term) refl goes
      where
        by_test : (b : Bool) → goes_to p.sent p.last term ≡ b → cond b (AskIsHanded p ask term server rest next) (PortStays p rest next) → LedOn
        by_test false is stays =
            let here : after ≡ mid = subst (λ calls. CallsLead ChunkSays mid calls after) stays.none lead in
            StaysThere (record {
              none = none;
              leader = Some (term, server);
              led = led;
              goes = subst (λ b. cond b (AskIsHanded p ask term server [] p) (PortStays p [] p)) (sym is) (record { none = refl; same = refl });
              next_is = stays.same;
              same = here ∙ same;
            })
        by_test true is h =
            let lead_one = subst (λ calls. CallsLead ChunkSays mid calls after) h.once lead in
            let says = subst (λ (x : ChunkIs). ChunkSays x h.call after) same (subst (λ (x : ChunkIs). ChunkSays mid h.call x) (sym lead_one.2) lead_one.1) in
            let hands = hands_to old ask server h.call h.sent after h.hands says in
            WasHanded (record {
              none = none;
              term = term;
              server = server;
              led = led;
              goes = is;
              sent = h.sent;
              hands = hands;
              next_is = h.is ∙ ap (λ s. let q : PortIs = record p { sent = s; last = term } in q) hands.sent_is;
            })

    led : (mid : ChunkIs) → mid ≡ old → reply ≡ None → (calls : List DeskCall) → IsLed p ask calls next → CallsLead ChunkSays mid calls after → LedOn
    led mid same none calls is lead =
        let l = subst (λ all. CallsLead ChunkSays mid all after) is.asked lead in
        by_leader l.0 (l.1.0 ∙ same) none is.leader (λ told. sym (l.1.1 (subst (λ (c : ChunkIs). IsTrue c.group.told) (sym same) told) ∙ ap (λ (c : ChunkIs). serving_leader (state_of c.group)) same)) is.rest is.goes l.2

    -- what a look tells
    record Looked (sent : Sent) (mid : ChunkIs) (r : Option Reply) : Type 0 where
      told : IsTrue old.group.told → ask_reply g (Some sent) p.last ≡ r
      idle : r ≡ None → mid ≡ old
      takes : (mid ≡ old) ⊎ ((n : ℕ) × (sent ≡ Number n) × (mid ≡ record old { group = record old.group { taken = slice_set old.group.taken n true } }))

    no_bytes : (sectors : List Sector) → Some (Bytes sectors) ≡ None → ⊥
    no_bytes sectors e = cc

    looked : (sent : Sent) → p.sent ≡ Some sent → (look : DeskCall) (mid : ChunkIs) (r : Option Reply) → LooksFor sent p.last look r → ChunkSays old look mid → Looked sent mid r
    looked (Slot slot) is (WasAcked t s acked) mid r looks says = record {
      told = λ told. ap (λ b. reply_if b) (ap (λ n. is_acked g n slot) (sym looks.0) ∙ ap (is_acked g t) (sym looks.1) ∙ sym (says.1 told)) ∙ sym looks.2;
      idle = λ _. says.0;
      takes = inl says.0;
    }
    looked (Number n) is (Took k None) mid r looks says =
        let lacks = subst (LacksAnswer old.group) looks.0 says.1 in
        let none : IsTrue old.group.told → answers_of_read g n ≡ [] = λ told. no_answers g n (λ x. every_get (λ a. a.number ≢ n) g.answered x.place x.answer (lacks told (fresh n is)) x.there x.numbered) in record {
          told = λ told. ap (λ found. option_map (λ (a : Answered). Bytes a.bytes) (slice_get found 0)) (none told) ∙ sym looks.1;
          idle = λ _. says.0;
          takes = inl says.0;
        }
    looked (Number n) is (Took k (Some sectors)) mid r looks says =
        record {
          told = λ told.
              let a = says.0.answer told in
              let one = ap (answers_of_read g) (sym (a.numbered ∙ looks.0)) ∙ its_answer g (reads_wait_once old.group.setup old.group.history (legal told)) a.k a.answer a.there in
              ap (λ found. option_map (λ (x : Answered). Bytes x.bytes) (slice_get found 0)) one ∙ ap (λ bytes. Some (Bytes bytes)) a.sectors ∙ sym looks.1;
          idle = λ none. absurd (no_bytes sectors (sym looks.1 ∙ none));
          takes = inr (n, refl, says.1 ∙ ap (λ group. let c : ChunkIs = record old { group = group } in c) (says.0.is ∙ ap (λ x. let h : GroupIs = record old.group { taken = slice_set old.group.taken x true } in h) looks.0));
        }
    looked (Slot slot) is look mid r looks says = absurd looks
    looked (Number n) is look mid r looks says = absurd looks

    by_reply : (sent : Sent) → p.sent ≡ Some sent → (mid : ChunkIs) (r : Option Reply) → reply ≡ r → Looked sent mid r → (rest : List DeskCall) → PortGoesOn r p ask rest next → CallsLead ChunkSays mid rest after → WentOn
    by_reply sent is mid None none l rest goes lead = WasLed (record { none = none; untold = λ told. ap (λ s. ask_reply g s p.last) is ∙ l.told told }) (led mid (l.idle refl) none rest goes lead)
    by_reply sent is mid (Some given) some l rest goes lead =
        let here : after ≡ mid = subst (λ calls. CallsLead ChunkSays mid calls after) goes.0 lead in
        GivesReply (record {
          given = given;
          is = some;
          sent = sent;
          was = is;
          told = λ told. ap (λ s. ask_reply g s p.last) is ∙ l.told told;
          takes = elim l.takes [ inl same ↦ inl (here ∙ same) | inr took ↦ inr (took.0, is ∙ ap Some took.1, here ∙ took.2) ];
          next_is = goes.1;
        })

    by_sent : (sent : Option Sent) → p.sent ≡ sent → (calls : List DeskCall) → DrivesFrom sent p ask calls reply next → CallsLead ChunkSays old calls after → WentOn
    by_sent None is calls drives lead = WasLed (record { none = drives.0; untold = λ told. ap (λ s. ask_reply g s p.last) is }) (led old refl drives.0 calls drives.1 lead)
    by_sent (Some sent) is calls drives lead =
        let l = subst (λ all. CallsLead ChunkSays old all after) drives.asked lead in
        by_reply sent is l.0 reply refl (looked sent is drives.look l.0 reply drives.looks l.1) drives.rest drives.goes l.2

    -- its ask was led alone
    pub led_on : (calls : List DeskCall) → reply ≡ None → IsLed p ask calls next → CallsLead ChunkSays old calls after → LedOn
    led_on calls none is lead = led old refl none calls is lead

    pub went_on : (calls : List DeskCall) → Drives p ask calls reply next → CallsLead ChunkSays old calls after → WentOn
    went_on calls drives lead = by_sent p.sent refl calls drives lead

    silent_by : (sent : Option Sent) → p.sent ≡ sent → (calls : List DeskCall) → HearsFrom sent p calls None next → reply ≡ None → CallsLead ChunkSays old calls after → IsNotTold × (after ≡ old) × (next ≡ p)
    silent_by None is calls hears none lead = (
      record { none = none; untold = λ told. ap (λ s. ask_reply g s p.last) is },
      subst (λ cs. CallsLead ChunkSays old cs after) hears.1.none lead,
      hears.1.same,
    )
    silent_by (Some sent) is calls hears none lead =
        let l = subst (λ cs. CallsLead ChunkSays old cs after) hears.once lead in
        let told = looked sent is hears.look l.0 None hears.looks l.1 in
        (record { none = none; untold = λ its. ap (λ s. ask_reply g s p.last) is ∙ told.told its }, l.2 ∙ told.idle refl, hears.is)

    -- where none was heard, there is none, and nothing is different
    pub heard_none : (calls : List DeskCall) → Hears p calls reply next → reply ≡ None → CallsLead ChunkSays old calls after → IsNotTold × (after ≡ old) × (next ≡ p)
    heard_none calls hears none lead = silent_by p.sent refl calls (subst (λ r. HearsFrom p.sent p calls r next) none hears) none lead
