-- Only a claim is answered by a job, and a job is of one of the three servers.
use Rattle.std.proofs.Common.{◌≡◌, ℕ, ◌+◌, Bool, true, false, if◌then◌else◌, ◌==◌, ◌||◌, nat_lt, Option, Some, None, slice_get, refl, sym, subst, inl, inr}
use Rattle.pf_base.specs.Span.{Span}
use Rattle.pf_entry.specs.declared.ops.Op.{Op}
use Rattle.pf_protocol.specs.declared.answers.Answer.{Answer}
use Rattle.pf_protocol.specs.declared.answers.Answer.TheVariants.{Done, Slot as SlotIs, Term as TermIs, Read as ReadIs, Base as BaseIs, Job as JobIs, Refused}
use Rattle.pf_protocol.specs.declared.answers.Refusal.{Refusal}
use Rattle.pf_protocol.specs.declared.answers.Refusal.TheVariants.{NotOurs, LostPacket}
use Rattle.pf_protocol.specs.declared.events.Event.{Event}
use Rattle.pf_protocol.specs.declared.events.Event.TheVariants.{Submit, Fetch, Deliver, Lose, Elect, Resend, Stop, Restart, Claim, Finish, GiveBack, Checkpoint}
use Rattle.pf_protocol.specs.Servers.{Setup, Role, Follower, Candidate, Merging, Serving, Server, Condition, Running, Stopped, Unformatted, upto}
use Rattle.pf_protocol.specs.Outcomes.{Outcome}
use Rattle.pf_protocol.specs.Leading.{on_submit, on_fetch, on_elect, on_resend}
use Rattle.pf_protocol.specs.Saving.{is_short_of, on_checkpoint, on_finish}
use Rattle.pf_protocol.specs.Groups.{Group, Sent}
use Rattle.pf_protocol.specs.Answers.{IsAnswer, ServerTurn, answer_at, answer_by, answer_to, deliver_turn, delivery_answer, elect_turn, fetch_turn, finish_answer, is_formatted, loss_answer, plain_turn, stop_answer, submit_turn}
use Rattle.pf_group_network.proofs.Deliveries.{packet_done}

-- no job
abbrev pub IsPlain : Answer → Type 0
IsPlain (JobIs job) = ⊥
IsPlain _ = Unit {0}

-- no job; and if the number of a read, then this one
abbrev IsSimple : (n : ℕ) → Answer → Type 0
IsSimple n (JobIs job) = ⊥
IsSimple n (ReadIs number) = number ≡ n
IsSimple n _ = Unit {0}

simple_plain : (n : ℕ) (answer : Answer) → IsSimple n answer → IsPlain answer
simple_plain n (JobIs job) is = is
simple_plain n Done is = tt
simple_plain n (SlotIs slot) is = tt
simple_plain n (TermIs term) is = tt
simple_plain n (ReadIs number) is = tt
simple_plain n (BaseIs base) is = tt
simple_plain n (Refused refusal) is = tt

abbrev pub IsNoClaim : Event → Type 0
IsNoClaim Claim = ⊥
IsNoClaim _ = Unit {0}

module _ (n : ℕ) where
  either_plain : (b : Bool) (x y : Answer) → IsSimple n x → IsSimple n y → IsSimple n (if b then x else y)
  either_plain true x y p q = p
  either_plain false x y p q = q

  either_outcome : (b : Bool) (x y : Outcome) → IsSimple n x.answer → IsSimple n y.answer → IsSimple n (if b then x else y).answer
  either_outcome true x y p q = p
  either_outcome false x y p q = q

  submit_plain : (setup : Setup) (s : Server) (op : Op) (role : Role) → IsSimple n (on_submit setup s op role).answer
  unfolding on_submit
  submit_plain setup s op (Serving l) = either_outcome (nat_lt (s.durable.base + setup.window) l.next) _ _ tt tt
  submit_plain setup s op Follower = tt
  submit_plain setup s op (Candidate own) = tt
  submit_plain setup s op (Merging l) = tt

  fetch_plain : (s : Server) (range : Span) (number : ℕ) → number ≡ n → (role : Role) → IsSimple n (on_fetch s range number role).answer
  unfolding on_fetch
  fetch_plain s range number next (Serving l) = next
  fetch_plain s range number next Follower = tt
  fetch_plain s range number next (Candidate own) = tt
  fetch_plain s range number next (Merging l) = tt

  elect_plain : (s : Server) → IsSimple n (on_elect s).answer
  unfolding on_elect
  elect_plain s = tt

  resend_plain : (s : Server) (role : Role) → IsSimple n (on_resend s role).answer
  unfolding on_resend
  resend_plain s (Serving l) = tt
  resend_plain s Follower = tt
  resend_plain s (Candidate own) = tt
  resend_plain s (Merging l) = tt

  checkpoint_plain : (s : Server) → IsSimple n (on_checkpoint s).answer
  unfolding on_checkpoint
  checkpoint_plain s = either_outcome (upto s == s.durable.base || is_short_of s.role (upto s)) _ _ tt tt

  finish_plain : (life slot : ℕ) (s : Server) → IsSimple n (on_finish s life slot).answer
  unfolding on_finish
  finish_plain life slot s = either_outcome (life == s.life) _ _ tt tt

  by_plain : (refusal : Option Refusal) (answer : Answer) → IsSimple n answer → IsSimple n (answer_by refusal answer)
  by_plain None answer is = is
  by_plain (Some refusal) answer is = tt

  turn_plain : (c : Option Condition) (turn : ServerTurn) → ((s : Server) → IsSimple n (turn.rule s).answer) → IsSimple n (answer_at c turn)
  turn_plain (Some (Running s)) turn is = by_plain (turn.refusal s) (turn.rule s).answer (is s)
  turn_plain (Some (Stopped life before after)) turn is = tt
  turn_plain (Some Unformatted) turn is = tt
  turn_plain None turn is = tt

  delivery_plain : (setup : Setup) (g : Group) (sent : Option Sent) → IsSimple n (delivery_answer setup g sent)
  delivery_plain setup g None = tt
  delivery_plain setup g (Some sent) = either_plain sent.lost (Refused LostPacket) (answer_at (slice_get g.servers sent.packet.to) (deliver_turn setup g sent)) tt
      (turn_plain (slice_get g.servers sent.packet.to) (deliver_turn setup g sent) (λ s. subst (IsSimple n) (sym (packet_done setup s sent.packet)) tt))

  loss_plain : (sent : Option Sent) → IsSimple n (loss_answer sent)
  loss_plain None = tt
  loss_plain (Some sent) = either_plain sent.lost (Refused LostPacket) Done tt tt

  stop_plain : (c : Option Condition) → IsSimple n (stop_answer c)
  stop_plain (Some (Running s)) = tt
  stop_plain (Some (Stopped life before after)) = tt
  stop_plain (Some Unformatted) = tt
  stop_plain None = tt

  finished_plain : (c : Option Condition) (life slot : ℕ) → IsSimple n (finish_answer c life slot)
  finished_plain (Some (Running s)) life slot = finish_plain life slot s
  finished_plain (Some (Stopped now before after)) life slot = tt
  finished_plain (Some Unformatted) life slot = tt
  finished_plain None life slot = tt

  -- what is answered where no disk fails
  pub to_plain : (setup : Setup) (g : Group) → g.reads ≡ n → (event : Event) → IsNoClaim event → IsSimple n (answer_to setup g event)
  unfolding answer_to
  to_plain setup g next (Submit i op) other = turn_plain (slice_get g.servers i) (submit_turn setup g op) (λ s. submit_plain setup s op s.role)
  to_plain setup g next (Fetch i range) other = turn_plain (slice_get g.servers i) (fetch_turn setup g range) (λ s. fetch_plain s range g.reads next s.role)
  to_plain setup g next (Deliver k) other = delivery_plain setup g (slice_get g.packets k)
  to_plain setup g next (Lose k) other = loss_plain (slice_get g.packets k)
  to_plain setup g next (Elect i) other = turn_plain (slice_get g.servers i) (elect_turn g) elect_plain
  to_plain setup g next (Resend i) other = turn_plain (slice_get g.servers i) (plain_turn g (λ s. on_resend s s.role)) (λ s. resend_plain s s.role)
  to_plain setup g next (Stop i) other = stop_plain (slice_get g.servers i)
  to_plain setup g next (Restart i found) other = either_plain (is_formatted (slice_get g.servers i)) Done (Refused NotOurs) tt tt
  to_plain setup g next Claim other = absurd other
  to_plain setup g next (Finish i life slot) other = finished_plain (slice_get g.servers i) life slot
  to_plain setup g next (GiveBack i life slot) other = tt
  to_plain setup g next (Checkpoint i) other = turn_plain (slice_get g.servers i) (plain_turn g on_checkpoint) checkpoint_plain

simple_answer : (setup : Setup) (g : Group) (event : Event) (answer : Answer) → IsNoClaim event → IsAnswer setup g event answer → IsSimple g.reads answer
simple_answer setup g event answer other is =
    elim is [
      | inl right ↦ subst (IsSimple g.reads) (sym right) (to_plain g.reads setup g refl event other)
      | inr cut ↦ subst (IsSimple g.reads) (sym cut.1) tt
    ]

pub plain_answer : (setup : Setup) (g : Group) (event : Event) (answer : Answer) → IsNoClaim event → IsAnswer setup g event answer → IsPlain answer
plain_answer setup g event answer other is = simple_plain g.reads answer (simple_answer setup g event answer other is)

-- the number of a read is the next one
pub next_read : (setup : Setup) (g : Group) (event : Event) (number : ℕ) → IsNoClaim event → IsAnswer setup g event (ReadIs number) → number ≡ g.reads
next_read setup g event number other is = simple_answer setup g event (ReadIs number) other is
