-- Lines of scripts are given answers that have a text.
use Rattle.std.proofs.Common.{ℕ, ◌+◌, inl, inr, Bool, true, false, not, ◌&&◌, ◌||◌, ◌==◌, if◌then◌else◌, IsSome, Option, Some, None, nat_lt, nat_le, slice_get, refl, sym, subst}
use Rattle.pf_base.specs.Span.{Span, fits_in}
use Rattle.pf_entry.specs.Ops.{range_of}
use Rattle.pf_entry.specs.Records.{holds}
use Rattle.pf_entry.specs.declared.ops.Op.{Op}
use Rattle.pf_entry.specs.declared.entries.VoteLog.{VoteLog}
use Rattle.pf_entry.specs.declared.packets.Body.{Body}
use Rattle.pf_entry.specs.declared.packets.Body.TheVariants.{RequestVote, Vote, Accept, Ack, Nack, Commit, Probe, ProbeOk, Image}
use Rattle.pf_protocol.specs.declared.answers.Answer.{Answer}
use Rattle.pf_protocol.specs.declared.answers.Answer.TheVariants.{Refused}
use Rattle.pf_protocol.specs.declared.answers.Refusal.{Refusal}
use Rattle.pf_protocol.specs.declared.answers.Refusal.TheVariants.{BadRange, WindowFull, LogFull, NotLeader, PacketsFull, ElectionsFull, OldFormat}
use Rattle.pf_protocol.specs.declared.events.Event.{Event}
use Rattle.pf_protocol.specs.declared.events.Event.TheVariants.{Submit, Fetch, Deliver, Lose, Elect, Resend, Stop, Restart, Claim, Finish, GiveBack, Checkpoint}
use Rattle.pf_protocol.specs.Servers.{Setup, Role, Follower, Candidate, Merging, Serving, Server, Condition, Running, Stopped, Unformatted, upto}
use Rattle.pf_protocol.specs.Outcomes.{Outcome}
use Rattle.pf_protocol.specs.Leading.{on_submit, on_fetch, on_elect, on_resend, on_vote, on_ack, on_probe_ok}
use Rattle.pf_protocol.specs.Following.{on_request_vote, on_accept, on_nack, on_commit, on_probe, on_image}
use Rattle.pf_protocol.specs.Saving.{is_short_of, on_checkpoint}
use Rattle.pf_protocol.specs.Rows.{on_message, on_packet}
use Rattle.pf_protocol.specs.Groups.{Group, Sent}
use Rattle.pf_protocol.specs.Answers.{ServerTurn, IsAnswer, answer_at, answer_by, answer_to, delivery_answer, deliver_turn, elect_refusal, elect_turn, fetch_refusal, fetch_turn, is_mark, is_serving, loss_answer, most_elections, packets_full, half_size, plain_turn, refuse, restart_answer, room_refusal, stop_answer, submit_refusal, submit_turn, window_full}
use Rattle.pf_entry.proofs.Cases.{by_test}
use Rattle.pf_group_rounds.specs.pf_group.specs.Steps.{EndsSo, GoesByRules}
use Rattle.pf_report.specs.Texts.{answer_text}

abbrev pub HasText : Answer → Type 0
HasText answer = IsSome (answer_text answer)

either : (c : Bool) (x y : Outcome) → HasText x.answer → HasText y.answer → HasText (if c then x else y).answer
either true x y a b = a
either false x y a b = b

submit_said : (setup : Setup) (op : Op) (s : Server) (role : Role) → HasText (on_submit setup s op role).answer
unfolding on_submit
submit_said setup op s Follower = refl
submit_said setup op s (Candidate own) = refl
submit_said setup op s (Merging l) = refl
submit_said setup op s (Serving l) = either (nat_lt (s.durable.base + setup.window) l.next) _ _ refl refl

fetch_said : (s : Server) (range : Span) (number : ℕ) (role : Role) → HasText (on_fetch s range number role).answer
unfolding on_fetch
fetch_said s range number Follower = refl
fetch_said s range number (Candidate own) = refl
fetch_said s range number (Merging l) = refl
fetch_said s range number (Serving l) = refl

elect_said : (s : Server) → HasText (on_elect s).answer
unfolding on_elect
elect_said s = refl

resend_said : (s : Server) (role : Role) → HasText (on_resend s role).answer
unfolding on_resend
resend_said s Follower = refl
resend_said s (Candidate own) = refl
resend_said s (Merging l) = refl
resend_said s (Serving l) = refl

vote_said : (s : Server) (term : ℕ) (vote : VoteLog) (role : Role) → HasText (on_vote s term vote role).answer
unfolding on_vote
vote_said s term vote Follower = refl
vote_said s term vote (Candidate own) = either (term == s.durable.term && nat_le vote.base s.durable.base) _ _ refl refl
vote_said s term vote (Merging l) = refl
vote_said s term vote (Serving l) = refl

ack_said : (s : Server) (from term slot upto_there : ℕ) (role : Role) → HasText (on_ack s from term slot upto_there role).answer
unfolding on_ack
ack_said s from term slot upto_there Follower = refl
ack_said s from term slot upto_there (Candidate own) = refl
ack_said s from term slot upto_there (Merging l) = either (term == s.durable.term) _ _ refl refl
ack_said s from term slot upto_there (Serving l) = either (term == s.durable.term) _ _ refl refl

probe_ok_said : (s : Server) (from term number upto_there : ℕ) (role : Role) → HasText (on_probe_ok s from term number upto_there role).answer
unfolding on_probe_ok
probe_ok_said s from term number upto_there Follower = refl
probe_ok_said s from term number upto_there (Candidate own) = refl
probe_ok_said s from term number upto_there (Merging l) = refl
probe_ok_said s from term number upto_there (Serving l) = either (term == s.durable.term) _ _ refl refl

message_said : (setup : Setup) (s : Server) (from term : ℕ) (body : Body) → HasText (on_message setup s from term body).answer
unfolding on_message on_request_vote on_accept on_nack on_commit on_probe on_image
message_said setup s from term (RequestVote base) = either (nat_le term s.durable.term || nat_lt base s.durable.base) _ _ refl refl
message_said setup s from term (Vote vote) = vote_said s term vote s.role
message_said setup s from term (Accept e) =
    either (nat_lt e.term s.durable.term) _ _ refl
    (either (nat_le e.slot s.durable.base) _ _ refl
    (either (nat_lt (s.durable.base + setup.window) e.slot) _ _ refl (either (holds s.durable e.slot e.term) _ _ refl refl)))
message_said setup s from term (Ack slot upto_there) = ack_said s from term slot upto_there s.role
message_said setup s from term Nack = refl
message_said setup s from term (Commit slot) = either (holds s.durable slot term) _ _ refl refl
message_said setup s from term (Probe number) = either (nat_lt term s.durable.term) _ _ refl refl
message_said setup s from term (ProbeOk number upto_there) = probe_ok_said s from term number upto_there s.role
message_said setup s from term (Image base applied sectors) = either (nat_lt term s.durable.term) _ _ refl (either (nat_le base (upto s)) _ _ refl refl)

packet_said : (setup : Setup) (s : Server) (sent : Sent) → HasText (on_packet setup s sent.packet).answer
unfolding on_packet
packet_said setup s sent = message_said setup s sent.packet.from sent.packet.term sent.packet.body

checkpoint_said : (s : Server) → HasText (on_checkpoint s).answer
unfolding on_checkpoint
checkpoint_said s = either (upto s == s.durable.base || is_short_of s.role (upto s)) _ _ refl refl

-- a refusal that is told, if there is one
abbrev pub IsTold : Option Refusal → Type 0
IsTold None = Unit {0}
IsTold (Some refusal) = HasText (Refused refusal)

refuse_told : (fault : Bool) (refusal : Refusal) (rest : Option Refusal) → HasText (Refused refusal) → IsTold rest → IsTold (refuse fault refusal rest)
refuse_told true refusal rest told more = told
refuse_told false refusal rest told more = more

room_told : (g : Group) (o : Outcome) → IsTold (room_refusal g o)
unfolding room_refusal
room_told g o = refuse_told (packets_full g o.packets) PacketsFull _ refl (refuse_told (nat_lt half_size o.server.durable.used) LogFull None refl tt)

submit_told : (setup : Setup) (g : Group) (op : Op) (s : Server) → IsTold (submit_refusal setup g op s)
unfolding submit_refusal
submit_told setup g op s =
    refuse_told (is_mark op && setup.format == 1) OldFormat _ refl
    (refuse_told (not (fits_in (range_of op) setup.chunk)) BadRange _ refl
    (refuse_told (not (is_serving s.role)) NotLeader _ refl
    (refuse_told (window_full setup s s.role) WindowFull _ refl (room_told g (on_submit setup s op s.role)))))

fetch_told : (setup : Setup) (g : Group) (range : Span) (s : Server) → IsTold (fetch_refusal setup g range s)
unfolding fetch_refusal
fetch_told setup g range s =
    refuse_told (not (fits_in range setup.chunk)) BadRange _ refl
    (refuse_told (not (is_serving s.role)) NotLeader _ refl (room_told g (on_fetch s range g.reads s.role)))

elect_told : (g : Group) (s : Server) → IsTold (elect_refusal g s)
unfolding elect_refusal
elect_told g s = refuse_told (nat_le most_elections g.elections) ElectionsFull _ refl (room_told g (on_elect s))

by_said : (o : Option Refusal) (answer : Answer) → IsTold o → HasText answer → HasText (answer_by o answer)
by_said None answer told is = is
by_said (Some refusal) answer told is = told

-- the answer of one server
at_said : (c : Option Condition) (turn : ServerTurn) → ((s : Server) → IsTold (turn.refusal s)) → ((s : Server) → HasText (turn.rule s).answer) → HasText (answer_at c turn)
at_said (Some (Running s)) turn told is = by_said (turn.refusal s) (turn.rule s).answer (told s) (is s)
at_said (Some (Stopped life before after)) turn told is = refl
at_said (Some Unformatted) turn told is = refl
at_said None turn told is = refl

delivery_said : (setup : Setup) (g : Group) (o : Option Sent) → HasText (delivery_answer setup g o)
delivery_said setup g None = refl
delivery_said setup g (Some sent) =
    by_test sent.lost (λ c. HasText (if c then delivery_answer setup g (Some (record sent { lost = true })) else answer_at (slice_get g.servers sent.packet.to) (deliver_turn setup g sent)))
    (λ _. refl) (λ _. at_said (slice_get g.servers sent.packet.to) (deliver_turn setup g sent) (λ s. room_told g (on_packet setup s sent.packet)) (λ s. packet_said setup s sent))

loss_said : (o : Option Sent) → HasText (loss_answer o)
loss_said None = refl
loss_said (Some sent) = by_test sent.lost (λ c. HasText (loss_answer (Some (record sent { lost = c })))) (λ _. refl) (λ _. refl)

stop_said : (c : Option Condition) → HasText (stop_answer c)
stop_said (Some (Running s)) = refl
stop_said (Some (Stopped life before after)) = refl
stop_said (Some Unformatted) = refl
stop_said None = refl

restart_said : (c : Option Condition) → HasText (restart_answer c)
restart_said (Some (Running s)) = refl
restart_said (Some (Stopped life before after)) = refl
restart_said (Some Unformatted) = refl
restart_said None = refl

-- events that a line asks for
abbrev pub IsAsked : Event → Type 0
IsAsked Claim = ⊥
IsAsked (Finish server life slot) = ⊥
IsAsked (GiveBack server life slot) = ⊥
IsAsked event = Unit {0}

answer_said : (setup : Setup) (g : Group) (event : Event) → IsAsked event → HasText (answer_to setup g event)
unfolding answer_to
answer_said setup g (Submit i op) asks = at_said (slice_get g.servers i) (submit_turn setup g op) (submit_told setup g op) (λ s. submit_said setup op s s.role)
answer_said setup g (Fetch i range) asks = at_said (slice_get g.servers i) (fetch_turn setup g range) (fetch_told setup g range) (λ s. fetch_said s range g.reads s.role)
answer_said setup g (Deliver k) asks = delivery_said setup g (slice_get g.packets k)
answer_said setup g (Lose k) asks = loss_said (slice_get g.packets k)
answer_said setup g (Elect i) asks = at_said (slice_get g.servers i) (elect_turn g) (elect_told g) elect_said
answer_said setup g (Resend i) asks = at_said (slice_get g.servers i) (plain_turn g (λ s. on_resend s s.role)) (λ s. room_told g (on_resend s s.role)) (λ s. resend_said s s.role)
answer_said setup g (Stop i) asks = stop_said (slice_get g.servers i)
answer_said setup g (Restart i found) asks = restart_said (slice_get g.servers i)
answer_said setup g Claim asks = absurd asks
answer_said setup g (Finish i life slot) asks = absurd asks
answer_said setup g (GiveBack i life slot) asks = absurd asks
answer_said setup g (Checkpoint i) asks = at_said (slice_get g.servers i) (plain_turn g on_checkpoint) (λ s. room_told g (on_checkpoint s)) checkpoint_said

-- each answer of these has a text
pub said_of : (setup : Setup) (g : Group) (event : Event) (answer : Answer) → IsAsked event → IsAnswer setup g event answer → HasText answer
said_of setup g event answer asks is = elim is [
  | inl right ↦ subst HasText (sym right) (answer_said setup g event asks)
  | inr cut ↦ subst HasText (sym (cut.1)) refl
]

-- so has each over any disks
pub said_somehow : (setup : Setup) (g : Group) (told : Bool) (event : Event) (answer : Answer) → IsAsked event → (GoesByRules told event → IsAnswer setup g event answer) → EndsSo event answer → HasText answer
said_somehow setup g told (Restart i found) answer asks rules ends = elim ends [
  | inl done ↦ subst HasText (sym done) refl
  | inr rest ↦ elim rest [ inl halted ↦ subst HasText (sym halted) refl | inr not_ours ↦ subst HasText (sym not_ours) refl ]
]
said_somehow setup g told event answer asks rules ends = said_of setup g event answer asks (rules (inr tt))
