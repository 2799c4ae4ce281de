-- What the events of a worked history are answered.
use Rattle.std.proofs.Common.{◌≡◌, ℕ, Bool, true, false, List, ◌∷◌, Option, Some, None, refl, sym, ap, subst, ◌∙◌, nat_lt, nat_le, arith, inl, inr}
use Rattle.std.specs.Prelude.{slice_get}
use Rattle.pf_base.specs.Span.{Span, fits_in}
use Rattle.pf_entry.specs.Ops.{range_of}
use Rattle.pf_entry.specs.declared.ops.Op.{Op}
use Rattle.pf_entry.specs.declared.packets.Packet.{Packet}
use Rattle.pf_protocol.specs.declared.answers.Answer.{Answer}
use Rattle.pf_protocol.specs.declared.answers.Answer.TheVariants.{Job as JobIs, Refused}
use Rattle.pf_protocol.specs.declared.answers.Refusal.TheVariants.{NoneFree}
use Rattle.pf_protocol.specs.declared.events.Event.TheVariants.{Submit, Fetch, Deliver, Elect, Claim, Finish}
use Rattle.pf_protocol.specs.declared.events.Happening.{Happening}
use Rattle.pf_protocol.specs.Servers.{Setup, Server, Condition, Running, Stopped, Unformatted}
use Rattle.pf_protocol.specs.Outcomes.{Outcome}
use Rattle.pf_protocol.specs.Leading.{op_at, on_submit, on_fetch, on_elect}
use Rattle.pf_protocol.specs.Saving.{claimable, on_finish}
use Rattle.pf_protocol.specs.Rows.{on_packet}
use Rattle.pf_protocol.specs.Groups.{least_claim, Group, ending, happens}
use Rattle.pf_protocol.specs.Histories.{History}
use Rattle.pf_protocol.specs.Answers.{answer_to, room_refusal, packets_full, half_size, most_elections, claim_answer_at, submit_refusal, fetch_refusal, elect_refusal, is_mark, is_serving, window_full, Claimed, claims_after, MayHappen, IsLegalFrom, IsSetup}
use Rattle.pf_protocol.specs.Shown.{small_group}

-- the packets of a step fit, and its record
pub has_room : (g : Group) (o : Outcome) → packets_full g o.packets ≡ false → nat_lt half_size o.server.durable.used ≡ false → room_refusal g o ≡ None
unfolding room_refusal
has_room g o packets used = rw (packets, used) refl

pub submit_answer : (setup : Setup) (g : Group) (i : ℕ) (op : Op) (s : Server) (o : Outcome) → slice_get g.servers i ≡ Some (Running s) → is_mark op ≡ false → fits_in (range_of op) setup.chunk ≡ true → is_serving s.role ≡ true → window_full setup s s.role ≡ false → on_submit setup s op s.role ≡ o → room_refusal g o ≡ None → answer_to setup g (Submit i op) ≡ o.answer
unfolding answer_to submit_refusal
submit_answer setup g i op s o at plain fits serves room_left is room = rw (at, plain, fits, serves, room_left, is, room) refl

pub deliver_answer : (setup : Setup) (g : Group) (k : ℕ) (packet : Packet) (before : Bool) (s : Server) (o : Outcome) → slice_get g.packets k ≡ Some (record { packet = packet; delivered = before; lost = false }) → slice_get g.servers packet.to ≡ Some (Running s) → on_packet setup s packet ≡ o → room_refusal g o ≡ None → answer_to setup g (Deliver k) ≡ o.answer
unfolding answer_to
deliver_answer setup g k packet before s o sent at is room = rw (sent, at, is, room) refl

pub fetch_answer : (setup : Setup) (g : Group) (i : ℕ) (range : Span) (s : Server) (o : Outcome) → slice_get g.servers i ≡ Some (Running s) → fits_in range setup.chunk ≡ true → is_serving s.role ≡ true → on_fetch s range g.reads s.role ≡ o → room_refusal g o ≡ None → answer_to setup g (Fetch i range) ≡ o.answer
unfolding answer_to fetch_refusal
fetch_answer setup g i range s o at fits serves is room = rw (at, fits, serves, is, room) refl

pub elect_answer : (setup : Setup) (g : Group) (i : ℕ) (s : Server) (o : Outcome) → slice_get g.servers i ≡ Some (Running s) → nat_le most_elections g.elections ≡ false → on_elect s ≡ o → room_refusal g o ≡ None → answer_to setup g (Elect i) ≡ o.answer
unfolding answer_to elect_refusal
elect_answer setup g i s o at few is room = rw (at, few, is, room) refl

pub finish_answer : (setup : Setup) (g : Group) (i life slot : ℕ) (s : Server) (o : Outcome) → slice_get g.servers i ≡ Some (Running s) → on_finish s life slot ≡ o → answer_to setup g (Finish i life slot) ≡ o.answer
unfolding answer_to
finish_answer setup g i life slot s o at is = rw at (ap (λ (x : Outcome). x.answer) is)

abbrev job_of : ℕ → Server → ℕ → Answer
job_of i s slot = JobIs (record { server = i; life = s.life; slot = slot; op = op_at s.durable.log slot })

pub claim_answer_0 : (setup : Setup) (g : Group) (s : Server) (slot : ℕ) → slice_get g.servers 0 ≡ Some (Running s) → claimable setup.window s ≡ Some slot → answer_to setup g Claim ≡ job_of 0 s slot
unfolding answer_to
claim_answer_0 setup g s slot at is = rw (at, is) refl

-- a server without a slot to apply leaves the claim to the next
next_server : (i window : ℕ) (c : Option Condition) (rest : Answer) → least_claim window c ≡ None → claim_answer_at i c (least_claim window c) rest ≡ rest
next_server i window (Some (Running s)) rest none = rw none refl
next_server i window (Some (Stopped life before after)) rest none = refl
next_server i window (Some Unformatted) rest none = refl
next_server i window None rest none = refl

pub claim_answer_1 : (setup : Setup) (g : Group) → least_claim setup.window (slice_get g.servers 0) ≡ None → (s : Server) (slot : ℕ) → slice_get g.servers 1 ≡ Some (Running s) → claimable setup.window s ≡ Some slot → answer_to setup g Claim ≡ job_of 1 s slot
unfolding answer_to
claim_answer_1 setup g none s slot at is = next_server 0 setup.window (slice_get g.servers 0) _ none ∙ rw (at, is) refl

pub claim_answer_2 : (setup : Setup) (g : Group) → least_claim setup.window (slice_get g.servers 0) ≡ None → least_claim setup.window (slice_get g.servers 1) ≡ None → (s : Server) (slot : ℕ) → slice_get g.servers 2 ≡ Some (Running s) → claimable setup.window s ≡ Some slot → answer_to setup g Claim ≡ job_of 2 s slot
unfolding answer_to
claim_answer_2 setup g none nor s slot at is = next_server 0 setup.window (slice_get g.servers 0) _ none ∙ next_server 1 setup.window (slice_get g.servers 1) _ nor ∙ rw (at, is) refl

pub claim_answer_none : (setup : Setup) (g : Group) → least_claim setup.window (slice_get g.servers 0) ≡ None → least_claim setup.window (slice_get g.servers 1) ≡ None → least_claim setup.window (slice_get g.servers 2) ≡ None → answer_to setup g Claim ≡ Refused NoneFree
unfolding answer_to
claim_answer_none setup g none nor neither =
    next_server 0 setup.window (slice_get g.servers 0) _ none ∙ next_server 1 setup.window (slice_get g.servers 1) _ nor ∙ next_server 2 setup.window (slice_get g.servers 2) _ neither

-- one more event, with its answer
pub goes_on : (setup : Setup) (g later : Group) (claims : List Claimed) (h : Happening) (hs : History) → MayHappen claims h.event → answer_to setup g h.event ≡ h.answer → happens setup g h.event (ending h.answer) ≡ later → IsLegalFrom setup later (claims_after claims h.event h.answer) hs → IsLegalFrom setup g claims (h ∷ hs)
goes_on setup g later claims h hs asked answered after rest =
    (record { asked = asked; answered = inl (sym answered) }, subst (λ x. IsLegalFrom setup x (claims_after claims h.event h.answer) hs) (sym after) rest)

pub is_small_group : IsSetup small_group
is_small_group = record { few_names = omega arith; some_sectors = omega arith; few_sectors = omega arith; blocks = (2, refl); format = inr refl; window = refl }
