-- A group gives a write a slot, and a read a number, or it refuses them.
use Rattle.std.proofs.Common.{◌≡◌, inl, inr, ℕ, Bool, true, false, ◌&&◌, if◌then◌else◌, List, length, Option, Some, None, slice_get, refl}
use Rattle.std.specs.Option.{option_map}
use Rattle.pf_base.specs.Span.{Span}
use Rattle.pf_entry.specs.declared.ops.Op.{Op}
use Rattle.pf_protocol.specs.declared.answers.Answer.{Answer}
use Rattle.pf_protocol.specs.declared.answers.Answer.TheVariants.{Done, Slot as SlotIs, Term as TermIs, Read as ReadIs, Base as BaseIs, Job as JobIs, Refused}
use Rattle.pf_protocol.specs.declared.answers.Refusal.{Refusal}
use Rattle.pf_protocol.specs.declared.answers.Refusal.TheVariants.{Down, Halted, NotLeader}
use Rattle.pf_protocol.specs.declared.events.Event.{Event}
use Rattle.pf_protocol.specs.declared.events.Event.TheVariants.{Fetch, Submit}
use Rattle.pf_protocol.specs.Servers.{Candidate, Condition, Follower, Merging, Role, Running, Server, Serving, Setup, Stopped, Unformatted}
use Rattle.pf_protocol.specs.Leading.{on_fetch}
use Rattle.pf_protocol.specs.Groups.{Group}
use Rattle.pf_protocol.specs.Answers.{IsAnswer, answer_at, answer_by, answer_to, fetch_refusal, fetch_turn, may_halt}
use Rattle.pf_asks.specs.declared.port.Sent.TheVariants.{Slot, Number}
use Rattle.pf_law_movers.specs.pf_law_ports.specs.Calls.{number_in, slot_in}
use Rattle.pf_law_movers.specs.pf_group_rounds.specs.Chunks.{Chunk, event_answered}
use Rattle.pf_law_movers.specs.pf_group_rounds.specs.Halts.{Halt, is_cut}
use Rattle.pf_law_movers.specs.pf_chunk.specs.Driving.{sent_of}
use Rattle.pf_law_movers.specs.pf_chunk.proofs.WaitingLists.{taken_up}

-- a run answers as the group may
by_halt : (setup : Setup) (g : Group) (event : Event) (cut may : Bool) → may_halt setup g event ≡ may → IsAnswer setup g event (if cut && may then Refused Halted else answer_to setup g event)
by_halt setup g event true true is = inr (is, refl)
by_halt setup g event true false is = inl refl
by_halt setup g event false may is = inl refl

pub is_answer : (halts : List Halt) (c : Chunk) (event : Event) → IsAnswer c.setup c.state event (event_answered halts c event)
is_answer halts c event = by_halt c.setup c.state event (is_cut halts c.number (length c.history)) (may_halt c.setup c.state event) refl

submit_apart : (i j : ℕ) (op : Op) (range : Span) → Submit i op ≡ Fetch j range → ⊥
submit_apart i j op range same = cc

pub write_sent : (setup : Setup) (g : Group) (i : ℕ) (op : Op) (answer : Answer) → IsAnswer setup g (Submit i op) answer → sent_of answer ≡ option_map Slot (slot_in answer)
write_sent setup g i op (ReadIs n) is = let t = taken_up setup g (Submit i op) (ReadIs n) is n refl in absurd (submit_apart i t.server op t.range t.fetched)
write_sent setup g i op (SlotIs slot) is = refl
write_sent setup g i op Done is = refl
write_sent setup g i op (TermIs term) is = refl
write_sent setup g i op (BaseIs base) is = refl
write_sent setup g i op (JobIs job) is = refl
write_sent setup g i op (Refused refusal) is = refl

slot_apart : (slot : ℕ) (refusal : Refusal) → SlotIs slot ≡ Refused refusal → ⊥
slot_apart slot refusal e = cc

slot_read : (slot n : ℕ) → SlotIs slot ≡ ReadIs n → ⊥
slot_read slot n e = cc

module _ (setup : Setup) (g : Group) (i slot : ℕ) (range : Span) where
  by_role : (s : Server) (role : Role) → SlotIs slot ≡ (on_fetch s range g.reads role).answer → ⊥
  unfolding on_fetch
  by_role s Follower is = slot_apart slot NotLeader is
  by_role s (Candidate own) is = slot_apart slot NotLeader is
  by_role s (Merging l) is = slot_apart slot NotLeader is
  by_role s (Serving l) is = slot_read slot g.reads is

  by_refusal : (s : Server) (r : Option Refusal) → SlotIs slot ≡ answer_by r (on_fetch s range g.reads s.role).answer → ⊥
  by_refusal s None is = by_role s s.role is
  by_refusal s (Some refusal) is = slot_apart slot refusal is

  by_condition : (c : Option Condition) → SlotIs slot ≡ answer_at c (fetch_turn setup g range) → ⊥
  by_condition (Some (Running s)) is = by_refusal s (fetch_refusal setup g range s) is
  by_condition (Some (Stopped life before after)) is = slot_apart slot Down is
  by_condition (Some Unformatted) is = slot_apart slot Down is
  by_condition None is = slot_apart slot Down is

  no_slot : IsAnswer setup g (Fetch i range) (SlotIs slot) → ⊥
  unfolding answer_to
  no_slot answer = elim answer [
    | inl is ↦ by_condition (slice_get g.servers i) is
    | inr halted ↦ slot_apart slot Halted halted.1
  ]

pub read_sent : (setup : Setup) (g : Group) (i : ℕ) (range : Span) (answer : Answer) → IsAnswer setup g (Fetch i range) answer → sent_of answer ≡ option_map Number (number_in answer)
read_sent setup g i range (SlotIs slot) is = absurd (no_slot setup g i slot range is)
read_sent setup g i range (ReadIs n) is = refl
read_sent setup g i range Done is = refl
read_sent setup g i range (TermIs term) is = refl
read_sent setup g i range (BaseIs base) is = refl
read_sent setup g i range (JobIs job) is = refl
read_sent setup g i range (Refused refusal) is = refl
