-- A running server over its records, and what a step of it may end in.
use Rattle.std.specs.Prelude.{◌≡◌, ◌⊎◌, ◌≢◌, ℕ, ◌+◌, ◌<◌, ◌≤◌, ◌^◌, true, [], length, map, Option, Some, None, Result, Ok, Err, nat_lt}
use Rattle.std.specs.FinMap
use Rattle.pf_base.specs.Sizes.{half_bytes}
use Rattle.pf_entry.specs.Sets
use Rattle.pf_entry.specs.Records.{Durable}
use Rattle.pf_entry.specs.declared.ops.Op.TheVariants.{Mark}
use Rattle.pf_election.specs.Reads.{confirmed_in}
use Rattle.pf_election.specs.declared.probes.ProbedRead.{ProbedRead as Asked}
use Rattle.pf_protocol.specs.Servers.{Setup, Server, Read, Leader, Role, Follower, Candidate, Merging, Serving}
use Rattle.pf_protocol.specs.declared.answers.Answer.{Answer}
use Rattle.pf_protocol.specs.declared.answers.Refusal.{Refusal}
use Rattle.pf_protocol.specs.declared.answers.Refusal.TheVariants.{PacketsFull, LogFull}
use Rattle.pf_protocol.specs.Leading.{members}
use Rattle.pf_protocol.specs.Outcomes.{Outcome}
use Rattle.pf_protocol.specs.Fitting.{ServerFits}
use Rattle.pf_protocol.specs.Answers.{IsSetup, refuse, has_stored}
use Rattle.pf_server_store.specs.Stores.{StoreModel}
use Rattle.pf_server_memory.specs.Bounds.{far}
use Rattle.pf_server_memory.specs.declared.running.Leader.{Leader as LeaderHere}
use Rattle.pf_server_memory.specs.declared.running.Role.{Role as RoleHere}
use Rattle.pf_server_memory.specs.declared.running.Role.TheVariants.{Follower as FollowerHere, Candidate as CandidateHere, Merging as MergingHere, Serving as ServingHere}
use Rattle.pf_server_memory.specs.declared.running.Running.{Running}
use Rattle.pf_server_memory.specs.declared.faults.StepFault.{StepFault}
use Rattle.pf_server_memory.specs.declared.faults.StepFault.TheVariants.{NoMemory, Refused, Halted}
use Rattle.pf_server_memory.specs.Outgoing.{Outgoing, exceeds, sent_by}

-- as the rules see it

abbrev pub read_in_memory : Asked → Read
read_in_memory r = record { number = r.number; range = r.range; waits_for = r.named; confirmed = r.confirmed }

abbrev pub leader_in_memory : LeaderHere → Leader
leader_in_memory l = record { first = l.first; next = l.next; b0 = l.acks.base; acks = l.acks.acks; known = l.known }

abbrev pub role_in_memory : RoleHere → Role
role_in_memory FollowerHere = Follower
role_in_memory (CandidateHere c) = Candidate c.own
role_in_memory (MergingHere l) = Merging (leader_in_memory l)
role_in_memory (ServingHere l) = Serving (leader_in_memory l)

unfoldable pub server_of : Durable → Running → Server
server_of d me = record {
  number = me.number;
  life = me.life;
  durable = d;
  role = role_in_memory me.role;
  committed = me.log.committed;
  applied = Sets.retain me.applied.slots (nat_lt me.log.base);
  sectors = me.sectors;
  in_hand = me.in_hand;
  reads = map read_in_memory me.reads;
  snapshots = me.snapshots;
}

unfoldable pub setup_of : Running → Setup
setup_of me = record { names = me.names; window = 4096; chunk = length me.sectors; format = me.format; failed = [] }

-- a leader's table of acknowledgements has a place for each of its proposals, and up to `settled` each merged slot was acknowledged
-- by another server
pub record IsLeaderKept (number : ℕ) (l : LeaderHere) : Type 0 where
  pub counted : l.acks.base + l.acks.count + 1 ≡ l.next
  pub low : l.acks.base ≤ l.settled
  pub high : l.settled < l.first
  pub heard : (slot : ℕ) → l.acks.base < slot → slot ≤ l.settled → (i : ℕ) × (i ≢ number) × (i < 3)
      × (Sets.contains (members (FinMap.get l.acks.acks slot)) i ≡ true)

-- a candidate's votes name the server itself as the candidate, and none came from another server yet
abbrev pub IsRoleKept : ℕ → RoleHere → Type 0
IsRoleKept number FollowerHere = Unit {0}
IsRoleKept number (CandidateHere c) = (c.number ≡ number) × (c.other ≡ None)
IsRoleKept number (MergingHere l) = IsLeaderKept number l
IsRoleKept number (ServingHere l) = IsLeaderKept number l

-- memory has what the records say, and the room that jobs in hand and confirmed reads will need
pub record IsCached (d : Durable) (me : Running) : Type 0 where
  pub number : me.number < 3
  pub term : me.term ≡ d.term
  pub generation : me.generation ≡ d.generation
  pub base : me.log.base ≡ d.base
  pub starts : me.starts.starts ≡ d.starts
  pub log : me.log.entries ≡ d.log
  pub format : (d.format ≡ 2) ⊎ (d.format ≡ me.format)
  pub prefix : (slot : ℕ) → 0 < slot → slot ≤ me.log.base → Sets.contains me.applied.slots slot ≡ true
  pub role : IsRoleKept me.number me.role
  pub jobs : me.jobs ≡ FinMap.len me.in_hand
  pub places : me.jobs ≤ me.applied.spare
  pub rooms : (slot : ℕ) → FinMap.get me.in_hand slot ≡ Some Mark → FinMap.get me.rooms slot ≡ Some (length me.sectors)
  pub near : (slot : ℕ) → FinMap.contains_key me.rooms slot ≡ true → FinMap.contains_key me.in_hand slot ≡ true
  pub replies : confirmed_in me.reads ≤ me.replies.rooms

-- the state that memory alone tells
abbrev pub state_in_memory : Running → Durable
state_in_memory me = record {
  format = me.format;
  used = 0;
  generation = me.generation;
  term = me.term;
  base = me.log.base;
  starts = me.starts.starts;
  log = me.log.entries;
  saved = Sets.empty;
  sectors = me.sectors;
}

-- numbers are far from the ends of their types
pub record IsBounded (me : Running) : Type 0 where
  pub setup : IsSetup (setup_of me)
  pub n : ℕ
  pub t : ℕ
  pub low : n < far
  pub t_low : t < far
  pub fits : ServerFits (setup_of me) n t (server_of (state_in_memory me) me)
  pub few : FinMap.len me.starts.starts < 2 ^ 15

module _ {S : Type 0} (model : StoreModel S) where
  -- the records stand for this state, in whatever a crash leaves, and memory has what they say
  pub record Stands (d : Durable) (store : S) (me : Running) : Type 0 where
    pub recorded : model.holds store d d
    pub used_is : model.used store ≡ d.used
    pub within : d.used ≤ half_bytes
    pub half : model.format store ≡ d.format
    pub cached : IsCached d me

-- the outcome without what it sends
abbrev pub quiet : Outcome → Outcome
quiet o = record o { packets = [] }

-- a step's packets have to fit, and its record
unfoldable pub room_refusal : Outgoing → Outcome → Option Refusal
room_refusal out o = refuse (exceeds out o.packets) PacketsFull (refuse (nat_lt half_bytes o.server.durable.used) LogFull None)

module _ {S : Type 0} (model : StoreModel S) (d : Durable) (store : S) (me : Running) (out : Outgoing) (store' : S) (me' : Running) (out' : Outgoing) where
  -- nothing has changed as the rules see it; there may be more room
  pub record IsUntouched : Type 0 where
    pub store_same : store' ≡ store
    pub server_same : server_of d me' ≡ server_of d me
    pub setup_same : setup_of me' ≡ setup_of me
    pub stands : Stands model d store' me'

  pub record IsRefused (judged : Option Refusal) (refusal : Refusal) : Type 0 where
    pub judged_so : judged ≡ Some refusal
    pub untouched : IsUntouched

  -- a disk failed: a restart finds the state from before the step, or the one after it
  pub record IsHalted (judged : Option Refusal) (o : Outcome) : Type 0 where
    pub may : judged ≡ None
    pub stores : has_stored d o.server.durable ≡ true
    pub half : (o.server.durable.format ≡ 2) ⊎ (o.server.durable.format ≡ d.format)
    pub in_doubt : model.holds store' d o.server.durable
    pub told_same : model.told store' ≡ model.told store
    pub crash : model.was store store' d o.server.durable
    pub cause : model.rose store store'

  pub record IsDone (judged : Option Refusal) (o : Outcome) (answer : Answer) : Type 0 where
    pub may : judged ≡ None
    pub answered : answer ≡ o.answer
    pub server_is : server_of o.server.durable me' ≡ o.server
    pub setup_same : setup_of me' ≡ setup_of me
    pub stands : Stands model o.server.durable store' me'
    pub told_same : model.told store' ≡ model.told store
    pub crash : (store' ≡ store) ⊎ model.was store store' d o.server.durable
    pub sent : out' ≡ record (sent_by out o.packets) { acked = o.acked }

  -- the rule was carried out, or there is a reason why it was not
  abbrev pub Steps : Option Refusal → Outcome → Result Answer StepFault → Type 0
  Steps judged o (Ok answer) = IsDone judged o answer
  Steps judged o (Err NoMemory) = IsUntouched
  Steps judged o (Err (Refused refusal)) = IsRefused judged refusal
  Steps judged o (Err Halted) = IsHalted judged o

-- a step may begin: the records stand for a state, and memory has what they say
abbrev pub CanStep : {S : Type 0} → StoreModel S → S → Running → Type 0
CanStep model store me = (d : Durable) × Stands model d store me

module _ {S : Type 0} (model : StoreModel S) where
  -- this rule was carried out where nothing so judged spoke against it
  abbrev pub StepsJudged : (judged : Server → Option Refusal) (rule : Server → Outcome) → S → Running → Outgoing → S → Running → Outgoing
      → Result Answer StepFault → Type 0
  StepsJudged judged rule store me out store' me' out' result =
      (d : Durable) → Stands model d store me → (let s = server_of d me in Steps model d store me out store' me' out' (judged s) (rule s) result)

  -- this rule was carried out, or there is a reason why it was not
  abbrev pub StepsBy : (rule : Server → Outcome) → S → Running → Outgoing → S → Running → Outgoing → Result Answer StepFault → Type 0
  StepsBy rule store me out store' me' out' result = StepsJudged (λ s. room_refusal out (rule s)) rule store me out store' me' out' result

  -- so does a step that sends nothing, whatever was sent before it
  abbrev pub StepsQuietly : (rule : Server → Outcome) → S → Running → S → Running → Result Answer StepFault → Type 0
  StepsQuietly rule store me store' me' result =
      (d : Durable) (out : Outgoing) → Stands model d store me → out.acked ≡ None
      → (let o = rule (server_of d me) in Steps model d store me out store' me' out (room_refusal out o) o result)
