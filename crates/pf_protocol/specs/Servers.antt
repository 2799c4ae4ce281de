-- The state of one server.
use Rattle.std.specs.Prelude.{ℕ, zero, suc, Bool, cond, List}
use Rattle.pf_entry.specs.Sets
use Rattle.pf_entry.specs.Maps.{Map, Numbers}
use Rattle.pf_entry.specs.Ops.{Sector}
use Rattle.pf_base.specs.Span.{Span}
use Rattle.pf_entry.specs.declared.ops.Op.{Op}
use Rattle.pf_entry.specs.declared.entries.VoteLog.{VoteLog}
use Rattle.pf_entry.specs.Records.{Durable}
use Rattle.pf_entry.specs.Applying.{is_applied}

-- how a group was made: the numbers that the rules depend on, and which servers' disks failed
pub record Setup : Type 0 where
  pub names : ℕ  -- the most slots that a look-behind list names
  pub window : ℕ  -- the slots above a checkpoint that a log has room for
  pub chunk : ℕ  -- sectors
  pub format : ℕ  -- of the first halves, 1 or 2
  pub failed : List ℕ  -- the servers that the making of the group could not format

-- what a leader keeps
pub record Leader : Type 0 where
  pub first : ℕ  -- its first new slot
  pub next : ℕ  -- the slot of its next proposal
  pub b0 : ℕ  -- its checkpoint when it became leader
  pub acks : Map Numbers  -- for each slot, the servers that acknowledged it in this term
  pub known : Map ℕ  -- for each other server, the slots up to this one that it has applied

pub data Role : Type 0 where
  Follower : Role
  Candidate : (own : VoteLog) → Role
  Merging : Leader → Role
  Serving : Leader → Role

-- a read that has not been answered
pub record Read : Type 0 where
  pub number : ℕ
  pub range : Span
  pub waits_for : Numbers
  pub confirmed : Bool

-- a running server. The life counts its beginnings; it outlives a crash
pub record Server : Type 0 where
  pub number : ℕ
  pub life : ℕ
  pub durable : Durable
  pub role : Role
  pub committed : Numbers
  pub applied : Numbers  -- above the checkpoint
  pub sectors : List Sector
  pub in_hand : Map Op  -- the jobs of this life, by their slots
  pub reads : List Read
  pub snapshots : Map (List Sector)  -- the sectors at the greatest marks that were applied in this life

abbrev pub has_applied : Server → ℕ → Bool
has_applied s slot = is_applied s.durable.base s.applied slot

abbrev pub climb : (steps : ℕ) → Numbers → ℕ → ℕ
climb zero applied n = n
climb (suc steps) applied n = cond (Sets.contains applied (suc n)) (climb steps applied (suc n)) n

-- the greatest slot up to which every slot is applied
unfoldable pub upto : Server → ℕ
upto s = climb (Sets.len s.applied) s.applied s.durable.base

-- a stopped server's records are those from before its last step, or those with that step's record; the next restart tells.
-- A server whose disks could not be formatted never runs
pub data Condition : Type 0 where
  Running : Server → Condition
  Stopped : (life : ℕ) → (before after : Durable) → Condition
  Unformatted : Condition
