-- What an acknowledgement makes of a role.
use Rattle.std.specs.Prelude.{◌≡◌, ◌⊎◌, ℕ, suc, ◌+◌, ◌-◌, ◌<◌, ◌≤◌, Bool, true, false, not, ◌&&◌, List, [], ◌∷◌, Option, Some, None, nat_le, if◌then◌else◌}
use Rattle.std.specs.List.{list_all, range_with_len}
use Rattle.std.specs.FinMap
use Rattle.pf_entry.specs.Sets
use Rattle.pf_entry.specs.Records.{holds}
use Rattle.pf_entry.specs.declared.packets.Packet.{Packet}
use Rattle.pf_entry.specs.declared.packets.Body.TheVariants.{Commit}
use Rattle.pf_protocol.specs.Servers.{Leader, Role, Follower, Candidate, Merging, Serving, Server}
use Rattle.pf_protocol.specs.Outcomes.{Outcome, to_one}
use Rattle.pf_protocol.specs.Leading.{acknowledged, counted, is_own, other_acked}
use Rattle.pf_protocol.specs.declared.answers.Answer.TheVariants.{Done}
use Rattle.pf_server_memory.specs.declared.running.Leader.{Leader as LeaderHere}
use Rattle.pf_server_memory.specs.Standing.{leader_in_memory}

-- whether the slot is a proposal of this leader
abbrev pub owns : Role → ℕ → Bool
owns (Serving l) slot = is_own l slot
owns (Merging l) slot = is_own l slot
owns _ slot = false

-- whether an acknowledgement of the slot is told to the host: it is the first of a new entry by another server
abbrev pub announces : ℕ → Role → ℕ → Bool
announces me (Serving l) slot = is_own l slot && nat_le l.first slot && not (other_acked l me slot)
announces me _ slot = false

-- a leader serves once each slot that it merged was acknowledged by another server
abbrev pub served : ℕ → Leader → Role
served me l = if list_all (other_acked l me) (range_with_len (suc l.b0) (l.first - suc l.b0)) then Serving l else Merging l

abbrev pub after_ack : (me from slot upto : ℕ) → Role → Role
after_ack me from slot upto (Serving l) = Serving (counted l from slot upto)
after_ack me from slot upto (Merging l) = served me (counted l from slot upto)
after_ack me from slot upto Follower = Follower
after_ack me from slot upto (Candidate own) = Candidate own

abbrev pub commits : Server → Role → (from slot : ℕ) → List Packet
commits s role from slot = if owns role slot then to_one s from (Commit slot) ∷ [] else []

abbrev pub slot_told : Server → Role → ℕ → Option ℕ
slot_told s role slot = if announces s.number role slot then Some slot else None

-- the rule of an acknowledgement in the server's term
abbrev pub counted_ack : Server → (from slot upto : ℕ) → Role → Outcome
counted_ack s from slot upto role = record {
  server = record s {
    committed = if owns role slot && holds s.durable slot s.durable.term then Sets.insert s.committed slot else s.committed;
    role = after_ack s.number from slot upto role;
  };
  packets = commits s role from slot;
  answer = Done;
  acked = slot_told s role slot;
}

-- a leader that has counted an acknowledgement
pub record AckIsCounted (from slot upto : ℕ) (l k : LeaderHere) : Type 0 where
  pub is : k ≡ record l { known = k.known; acks = k.acks }
  pub known : k.known ≡ FinMap.insert l.known from upto
  pub base : k.acks.base ≡ l.acks.base
  pub count : k.acks.count ≡ l.acks.count
  pub acks : k.acks.acks ≡ (if is_own (leader_in_memory l) slot then acknowledged l.acks.acks from slot else l.acks.acks)

-- each merged slot up to this one was acknowledged by another server, and the next was not, if there is one
pub record IsSettled (number : ℕ) (l : LeaderHere) (upto : ℕ) : Type 0 where
  pub low : l.settled ≤ upto
  pub high : upto < l.first
  pub heard : (slot : ℕ) → l.settled < slot → slot ≤ upto → other_acked (leader_in_memory l) number slot ≡ true
  pub ended : (upto + 1 ≡ l.first) ⊎ (other_acked (leader_in_memory l) number (upto + 1) ≡ false)
