-- Which number a rule answers: only a read that is taken up has one, the group's next.
use Rattle.std.proofs.Common.{◌≡◌, ℕ, ◌+◌, Bool, true, false, ◌&&◌, ◌||◌, ◌==◌, if◌then◌else◌, nat_lt, nat_le, arith, refl}
use Rattle.pf_base.specs.Span.{Span}
use Rattle.pf_entry.specs.Records.{holds}
use Rattle.pf_entry.specs.declared.ops.Op.{Op}
use Rattle.pf_entry.specs.declared.entries.VoteLog.{VoteLog}
use Rattle.pf_entry.specs.declared.packets.Body.{Body}
use Rattle.pf_entry.specs.declared.packets.Body.TheVariants.{RequestVote, Vote, Accept, Ack, Nack, Commit, Probe, ProbeOk, Image}
use Rattle.pf_protocol.specs.declared.answers.Answer.{Answer}
use Rattle.pf_protocol.specs.declared.answers.Answer.TheVariants.{Done, Read as ReadIs, Base as BaseIs, Refused}
use Rattle.pf_protocol.specs.declared.answers.Refusal.{Refusal}
use Rattle.pf_protocol.specs.declared.answers.Refusal.TheVariants.{NotLeader, Stale}
use Rattle.pf_protocol.specs.declared.events.Event.{Event}
use Rattle.pf_protocol.specs.declared.events.Event.TheVariants.{Fetch}
use Rattle.pf_protocol.specs.Servers.{Setup, Role, Follower, Candidate, Merging, Serving, Server, upto}
use Rattle.pf_protocol.specs.Outcomes.{Outcome}
use Rattle.pf_protocol.specs.Leading.{on_submit, on_fetch, on_elect, on_resend, on_vote, on_ack, on_probe_ok}
use Rattle.pf_protocol.specs.Following.{on_request_vote, on_accept, on_nack, on_commit, on_probe, on_image}
use Rattle.pf_protocol.specs.Saving.{is_short_of, on_checkpoint, on_finish, on_give_back}
use Rattle.pf_protocol.specs.Rows.{on_message, on_packet}
use Rattle.pf_protocol.specs.Groups.{Group}
use Rattle.pf_protocol.proofs.ForMoments.{IsRule, BySubmit, ByFetch, ByPacket, ByElect, ByResend, ByFinish, ByGiveBack, ByCheckpoint}

-- the answer takes up no read
abbrev pub NoRead : Answer → Type 0
NoRead answer = (n : ℕ) → answer ≡ ReadIs n → ⊥

pub refused_reads : (r : Refusal) → NoRead (Refused r)
refused_reads r n e = grind (arith, e)

pub done_reads : NoRead Done
done_reads n e = grind (arith, e)

base_reads : (base : ℕ) → NoRead (BaseIs base)
base_reads base n e = grind (arith, e)

either : (c : Bool) (x y : Outcome) → NoRead x.answer → NoRead y.answer → NoRead (if c then x else y).answer
either true x y a b = a
either false x y a b = b

submit_reads : (setup : Setup) (op : Op) (s : Server) (role : Role) → NoRead (on_submit setup s op role).answer
unfolding on_submit
submit_reads setup op s Follower = refused_reads NotLeader
submit_reads setup op s (Candidate own) = refused_reads NotLeader
submit_reads setup op s (Merging l) = refused_reads NotLeader
submit_reads setup op s (Serving l) = either (nat_lt (s.durable.base + setup.window) l.next) _ _ (λ n e. grind (arith, e)) (λ n e. grind (arith, e))

elect_reads : (s : Server) → NoRead (on_elect s).answer
unfolding on_elect
elect_reads s n e = grind (arith, e)

resend_reads : (s : Server) (role : Role) → NoRead (on_resend s role).answer
unfolding on_resend
resend_reads s Follower = done_reads
resend_reads s (Candidate own) = done_reads
resend_reads s (Merging l) = done_reads
resend_reads s (Serving l) = done_reads

vote_reads : (s : Server) (term : ℕ) (vote : VoteLog) (role : Role) → NoRead (on_vote s term vote role).answer
unfolding on_vote
vote_reads s term vote Follower = done_reads
vote_reads s term vote (Candidate own) = either (term == s.durable.term && nat_le vote.base s.durable.base) _ _ done_reads done_reads
vote_reads s term vote (Merging l) = done_reads
vote_reads s term vote (Serving l) = done_reads

ack_reads : (s : Server) (from term slot upto_there : ℕ) (role : Role) → NoRead (on_ack s from term slot upto_there role).answer
unfolding on_ack
ack_reads s from term slot upto_there Follower = done_reads
ack_reads s from term slot upto_there (Candidate own) = done_reads
ack_reads s from term slot upto_there (Merging l) = either (term == s.durable.term) _ _ done_reads done_reads
ack_reads s from term slot upto_there (Serving l) = either (term == s.durable.term) _ _ done_reads done_reads

probe_ok_reads : (s : Server) (from term number upto_there : ℕ) (role : Role) → NoRead (on_probe_ok s from term number upto_there role).answer
unfolding on_probe_ok
probe_ok_reads s from term number upto_there Follower = done_reads
probe_ok_reads s from term number upto_there (Candidate own) = done_reads
probe_ok_reads s from term number upto_there (Merging l) = done_reads
probe_ok_reads s from term number upto_there (Serving l) = either (term == s.durable.term) _ _ done_reads done_reads

message_reads : (setup : Setup) (s : Server) (from term : ℕ) (body : Body) → NoRead (on_message setup s from term body).answer
unfolding on_message on_request_vote on_accept on_nack on_commit on_probe on_image
message_reads setup s from term (RequestVote base) = either (nat_le term s.durable.term || nat_lt base s.durable.base) _ _ done_reads done_reads
message_reads setup s from term (Vote vote) = vote_reads s term vote s.role
message_reads setup s from term (Accept e) =
    either (nat_lt e.term s.durable.term) _ _ done_reads
    (either (nat_le e.slot s.durable.base) _ _ done_reads
    (either (nat_lt (s.durable.base + setup.window) e.slot) _ _ done_reads (either (holds s.durable e.slot e.term) _ _ done_reads done_reads)))
message_reads setup s from term (Ack slot upto_there) = ack_reads s from term slot upto_there s.role
message_reads setup s from term Nack = done_reads
message_reads setup s from term (Commit slot) = either (holds s.durable slot term) _ _ done_reads done_reads
message_reads setup s from term (Probe number) = either (nat_lt term s.durable.term) _ _ done_reads done_reads
message_reads setup s from term (ProbeOk number upto_there) = probe_ok_reads s from term number upto_there s.role
message_reads setup s from term (Image base applied sectors) = either (nat_lt term s.durable.term) _ _ done_reads (either (nat_le base (upto s)) _ _ done_reads done_reads)

finish_reads : (s : Server) (life slot : ℕ) → NoRead (on_finish s life slot).answer
unfolding on_finish
finish_reads s life slot = either (life == s.life) _ _ done_reads (refused_reads (Stale s.life))

give_back_reads : (s : Server) (life slot : ℕ) → NoRead (on_give_back s life slot).answer
unfolding on_give_back
give_back_reads s life slot = either (life == s.life) _ _ done_reads done_reads

checkpoint_reads : (s : Server) → NoRead (on_checkpoint s).answer
unfolding on_checkpoint
checkpoint_reads s = either (upto s == s.durable.base || is_short_of s.role (upto s)) _ _ (base_reads s.durable.base) (base_reads (upto s))

fetch_number : (s : Server) (range : Span) (number : ℕ) (role : Role) (n : ℕ) → (on_fetch s range number role).answer ≡ ReadIs n → n ≡ number
unfolding on_fetch
fetch_number s range number Follower n e = absurd (refused_reads NotLeader n e)
fetch_number s range number (Candidate own) n e = absurd (refused_reads NotLeader n e)
fetch_number s range number (Merging l) n e = absurd (refused_reads NotLeader n e)
fetch_number s range number (Serving l) n e = cc

-- every rule
pub rule_number : (setup : Setup) (g : Group) (i : ℕ) (s : Server) (event : Event) (o : Outcome) → IsRule setup g i s event o → (n : ℕ) → o.answer ≡ ReadIs n → (range : Span) × (event ≡ Fetch i range) × (n ≡ g.reads)
unfolding on_packet
rule_number setup g i s event _ (BySubmit op) n e = absurd (submit_reads setup op s s.role n e)
rule_number setup g i s event _ (ByFetch range) n e = (range, refl, fetch_number s range g.reads s.role n e)
rule_number setup g i s event _ (ByPacket k p at to) n e = absurd (message_reads setup s p.packet.from p.packet.term p.packet.body n e)
rule_number setup g i s event _ ByElect n e = absurd (elect_reads s n e)
rule_number setup g i s event _ ByResend n e = absurd (resend_reads s s.role n e)
rule_number setup g i s event _ (ByFinish life slot) n e = absurd (finish_reads s life slot n e)
rule_number setup g i s event _ (ByGiveBack life slot) n e = absurd (give_back_reads s life slot n e)
rule_number setup g i s event _ ByCheckpoint n e = absurd (checkpoint_reads s n e)
