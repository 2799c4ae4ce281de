-- How a group and the ballots of its history go together.
use Rattle.std.proofs.Common.{◌≡◌, ℕ, ◌<◌, ◌≤◌, ◌≢◌, ◌⊎◌, inl, inr, true, Option, Some, slice_get, sym, ◌∙◌}
use Rattle.pf_entry.specs.declared.entries.Entry.{Entry}
use Rattle.pf_entry.specs.declared.entries.VoteLog.{VoteLog}
use Rattle.pf_entry.specs.declared.packets.Packet.{Packet}
use Rattle.pf_entry.specs.declared.packets.Body.{Body}
use Rattle.pf_entry.specs.declared.packets.Body.TheVariants.{RequestVote, Vote, Accept, Ack, Nack, Commit, Probe, ProbeOk, Image}
use Rattle.pf_entry.specs.Records.{Durable, holds}
use Rattle.pf_protocol.proofs.Ballots.{Cast, Ballot, first_of, Ballots, Sound}
use Rattle.pf_protocol.proofs.Changes.{Grows, Extends}
use Rattle.pf_protocol.specs.Servers.{Leader, Role, Follower, Candidate, Merging, Serving, Server, Condition, Running, Stopped, Unformatted}
use Rattle.pf_protocol.specs.Outcomes.{Outcome}
use Rattle.pf_protocol.specs.Groups.{Group}
use Rattle.pf_entry.specs.Lists.{Every}
use Rattle.pf_protocol.proofs.Law.{IsChosenBy}
use Rattle.pf_protocol.proofs.LookBehinds.{chosen_there, Served}
use Rattle.pf_entry.specs.Applying.{is_applied}
use Rattle.pf_protocol.proofs.ChosenKnown.{IsAcked, AppliedKnown, AckIs, ServerKnows, applied_there, ack_there, knows_there}

-- it voted for itself, and has not merged
pub record IsCandidate (vote : ℕ → ℕ → Option Cast) (ballot : ℕ → Option Ballot) (i : ℕ) (d : Durable) (own : VoteLog) : Type 0 where
  pub own_vote : vote i d.term ≡ Some (record { to = i; log = own })
  pub own_base : own.base ≤ d.base
  pub not_yet : (m : Ballot) → ballot d.term ≡ Some m → m.leader ≢ i

-- it merged in this term, and its next proposal is the term's
pub record IsLeader (ballot : ℕ → Option Ballot) (next : ℕ → ℕ) (i : ℕ) (d : Durable) (l : Leader) : Type 0 where
  pub merge : Ballot
  pub is : ballot d.term ≡ Some merge
  pub leads : merge.leader ≡ i
  pub has_first : l.first ≡ first_of merge
  pub has_next : l.next ≡ next d.term
  pub has_base : l.b0 ≡ merge.base
  pub base_low : merge.base ≤ d.base

abbrev pub RoleIs : (ℕ → ℕ → Option Cast) → (ℕ → Option Ballot) → (ℕ → ℕ) → ℕ → Durable → Role → Type 0
RoleIs vote ballot next i d Follower = Unit {0}
RoleIs vote ballot next i d (Candidate own) = IsCandidate vote ballot i d own
RoleIs vote ballot next i d (Merging l) = IsLeader ballot next i d l
RoleIs vote ballot next i d (Serving l) = IsLeader ballot next i d l

pub record ServerIs (b : Ballots) (i : ℕ) (s : Server) : Type 0 where
  pub number : s.number ≡ i
  pub disk : b.disk i ≡ s.durable
  pub role : RoleIs b.vote b.ballot b.next i s.durable s.role
  pub knows : ServerKnows b i s

-- a stopped server's disk has gone on, or not
pub record StoppedIs (b : Ballots) (i : ℕ) (before after : Durable) : Type 0 where
  pub disk : b.disk i ≡ before
  pub grows : Grows b.proposal b.ballot before after
  pub before_known : AppliedKnown b before.term before.base before.saved before.sectors
  pub after_known : AppliedKnown b after.term after.base after.saved after.sectors

abbrev pub ConditionIs : Ballots → ℕ → Condition → Type 0
ConditionIs b i (Running s) = ServerIs b i s
ConditionIs b i (Stopped life before after) = StoppedIs b i before after
ConditionIs b i Unformatted = Unit {0}

-- the sender accepted the proposal of this slot and term, and its op is chosen
pub record CommitIs (b : Ballots) (from slot term : ℕ) : Type 0 where
  pub entry : Entry
  pub is : b.proposal slot term ≡ Some entry
  pub own : b.accepted from slot term ≡ true
  pub chosen : IsChosenBy b slot term entry.op

abbrev pub BodyIs : Ballots → (from to term : ℕ) → Body → Type 0
BodyIs b from to term (Vote v) = b.vote from term ≡ Some (record { to = to; log = v })
BodyIs b from to term (Accept e) = b.proposal e.slot e.term ≡ Some e
BodyIs b from to term (Ack slot upto_there) = 0 < slot → AckIs b from slot term
BodyIs b from to term (Commit slot) = CommitIs b from slot term
BodyIs b from to term (Image base applied sectors) = AppliedKnown b term base applied sectors
BodyIs b from to term _ = Unit {0}

pub record PacketIs (b : Ballots) (p : Packet) : Type 0 where
  pub from_below : p.from < 3
  pub apart : p.from ≢ p.to
  pub body : BodyIs b p.from p.to p.term p.body

pub record Follows (g : Group) (b : Ballots) : Type 0 where
  pub servers : (i : ℕ) (c : Condition) → slice_get g.servers i ≡ Some c → (i < 3) × ConditionIs b i c
  pub packets : Every (λ p. PacketIs b p.packet) g.packets
  pub acked : Every (λ a. IsAcked b a.term a.slot) g.acked

-- what one server's step makes: first its proposals, then its record, then the rest
pub record Row (b : Ballots) (i : ℕ) (s : Server) (o : Outcome) : Type 0 where
  pub made : Ballots
  pub made_sound : Sound made
  pub made_served : Served made
  pub made_extends : Extends i b made
  pub made_disk : made.disk i ≡ s.durable
  pub made_accepted : (j slot term : ℕ) → made.accepted j slot term ≡ true → b.accepted j slot term ≡ true
  pub grows : Grows made.proposal made.ballot s.durable o.server.durable
  pub after_known : AppliedKnown made o.server.durable.term o.server.durable.base o.server.durable.saved o.server.durable.sectors
  pub done : Ballots
  pub done_sound : Sound done
  pub done_served : Served done
  pub done_extends : Extends i b done
  pub done_accepted : (j slot term : ℕ) → done.accepted j slot term ≡ true → (b.accepted j slot term ≡ true) ⊎ ((j ≡ i) × (holds o.server.durable slot term ≡ true))
  pub server_is : ServerIs done i o.server
  pub packets : Every (PacketIs done) o.packets
  pub acked : (slot : ℕ) → o.acked ≡ Some slot → IsAcked done o.server.durable.term slot

-- what others know stays so
pub commit_there : (i : ℕ) (b after : Ballots) → Extends i b after → (from slot term : ℕ) → CommitIs b from slot term → CommitIs after from slot term
commit_there i b after x from slot term c = record { entry = c.entry; is = x.proposals slot term c.entry c.is; own = x.accepted from slot term c.own; chosen = chosen_there i b after x slot term c.entry.op c.chosen }

pub body_stays : (i : ℕ) (b after : Ballots) → Extends i b after → Sound after → (from to term : ℕ) (body : Body) → BodyIs b from to term body → BodyIs after from to term body
body_stays i b after x sound from to term (Vote v) h = x.votes from term _ h
body_stays i b after x sound from to term (Accept e) h = x.proposals e.slot e.term e h
body_stays i b after x sound from to term (RequestVote base) h = h
body_stays i b after x sound from to term (Ack slot upto_there) h = λ above. ack_there i b after x from slot term (h above)
body_stays i b after x sound from to term Nack h = h
body_stays i b after x sound from to term (Commit slot) h = commit_there i b after x from slot term h
body_stays i b after x sound from to term (Probe number) h = h
body_stays i b after x sound from to term (ProbeOk number upto_there) h = h
body_stays i b after x sound from to term (Image base applied sectors) h = applied_there i b after x sound term (is_applied base applied) sectors h

pub packet_stays : (i : ℕ) (b after : Ballots) → Extends i b after → Sound after → (p : Packet) → PacketIs b p → PacketIs after p
packet_stays i b after x sound p is = record { from_below = is.from_below; apart = is.apart; body = body_stays i b after x sound p.from p.to p.term p.body is.body }

pub grows_stays : (i : ℕ) (b after : Ballots) → Extends i b after → (before later : Durable) → Grows b.proposal b.ballot before later → Grows after.proposal after.ballot before later
grows_stays i b after x before later g = record {
  term = g.term;
  base = g.base;
  news = λ s e is. elim (g.news s e is) [
    | inl old ↦ inl old
    | inr new ↦ inr (record { not_old = new.not_old; not_above = new.not_above; is = x.proposals s e.term e new.is; started = new.started })
  ];
  keeps = g.keeps;
  starts = g.starts;
  true_starts = λ t first is. elim (g.true_starts t first is) [
    | inl old ↦ inl old
    | inr new ↦ inr (new.0, record { merge = new.1.merge; is = x.ballots t new.1.merge new.1.is; first_slot = new.1.first_slot })
  ];
}

candidate_stays : (i j : ℕ) (b after : Ballots) → Extends i b after → j ≢ i → (d : Durable) (own : VoteLog) → IsCandidate b.vote b.ballot j d own → IsCandidate after.vote after.ballot j d own
candidate_stays i j b after x apart d own c = record {
  own_vote = x.votes j d.term _ c.own_vote;
  own_base = c.own_base;
  not_yet = λ m is. elim (x.new_ballots d.term m is) [ inl old ↦ c.not_yet m old | inr new ↦ λ same. apart (sym same ∙ new) ];
}

leader_stays : (i j : ℕ) (b after : Ballots) → Extends i b after → j ≢ i → (d : Durable) (l : Leader) → IsLeader b.ballot b.next j d l → IsLeader after.ballot after.next j d l
leader_stays i j b after x apart d l c = record {
  merge = c.merge;
  is = x.ballots d.term c.merge c.is;
  leads = c.leads;
  has_first = c.has_first;
  has_next = c.has_next ∙ sym (x.nexts d.term c.merge c.is (λ same. apart (sym c.leads ∙ same)));
  has_base = c.has_base;
  base_low = c.base_low;
}

role_stays : (i j : ℕ) (b after : Ballots) → Extends i b after → j ≢ i → (d : Durable) (role : Role) → RoleIs b.vote b.ballot b.next j d role → RoleIs after.vote after.ballot after.next j d role
role_stays i j b after x apart d Follower h = h
role_stays i j b after x apart d (Candidate own) h = candidate_stays i j b after x apart d own h
role_stays i j b after x apart d (Merging l) h = leader_stays i j b after x apart d l h
role_stays i j b after x apart d (Serving l) h = leader_stays i j b after x apart d l h

-- another server's step leaves this one as it was
pub stopped_stays : (i j : ℕ) (b after : Ballots) → Extends i b after → Sound after → after.disk j ≡ b.disk j → (before later : Durable) → StoppedIs b j before later → StoppedIs after j before later
stopped_stays i j b after x sound same before later h = record {
  disk = same ∙ h.disk;
  grows = grows_stays i b after x before later h.grows;
  before_known = applied_there i b after x sound before.term (is_applied before.base before.saved) before.sectors h.before_known;
  after_known = applied_there i b after x sound later.term (is_applied later.base later.saved) later.sectors h.after_known;
}

pub condition_stays : (i j : ℕ) (b after : Ballots) → Extends i b after → Sound after → j ≢ i → (c : Condition) → ConditionIs b j c → ConditionIs after j c
condition_stays i j b after x sound apart (Running s) h = record {
  number = h.number;
  disk = x.other_disks j apart ∙ h.disk;
  role = role_stays i j b after x apart s.durable s.role h.role;
  knows = knows_there i b after x sound j s h.knows;
}
condition_stays i j b after x sound apart Unformatted h = tt
condition_stays i j b after x sound apart (Stopped life before later) h = stopped_stays i j b after x sound (x.other_disks j apart) before later h
