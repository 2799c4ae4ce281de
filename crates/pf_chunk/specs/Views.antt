-- A chunk on its disks, as contracts see it.
use Rattle.std.specs.Prelude.{◌≡◌, ◌≢◌, ℕ, ◌<◌, ◌≤◌, Bool, true, false, IsTrue, List, [], length, map, Some, slice_get}
use Rattle.pf_base.specs.Span.{Span}
use Rattle.pf_base.specs.declared.asks.Ask.TheVariants.{Read}
use Rattle.pf_entry.specs.Lists.{Every}
use Rattle.pf_entry.specs.Tables.{ascends}
use Rattle.pf_protocol.specs.declared.answers.Answer.TheVariants.{Read as ReadIs}
use Rattle.pf_protocol.specs.declared.events.Event.TheVariants.{Fetch}
use Rattle.pf_protocol.specs.Answers.{claims_of}
use Rattle.pf_protocol.specs.Histories.{History}
use Rattle.pf_asks.specs.declared.port.Sent.TheVariants.{Number}
use Rattle.pf_asks.specs.Ports.{PortIs}
use Rattle.pf_group_rounds.specs.pf_group.specs.GroupIs.{GroupIs, state_of}
use Rattle.pf_group_rounds.specs.pf_group.specs.Packets.{is_left_in}
use Rattle.pf_group_rounds.specs.Agreeing.{chunk_standing}
use Rattle.pf_group_rounds.specs.Halts.{Halt}
use Rattle.pf_group_rounds.specs.Rounds.{IsApplied}
use Rattle.pf_chunk_waiting.specs.declared.waiting.Waiting.{Waiting}
use Rattle.pf_chunk.specs.Runs.{ChunkRun, most_ports}

-- a group with what is kept beside it
pub record ChunkIs : Type 0 where
  pub group : GroupIs
  pub waiting : List Waiting
  pub first_left : ℕ  -- no packet below this one is left
  pub next : ℕ  -- where a settling goes on
  pub ports : List PortIs

-- where a run stands that came to this chunk
abbrev pub run_of : List Halt → ChunkIs → ChunkRun
run_of halts c = record { group = chunk_standing halts c.group; waiting = c.waiting; ports = c.ports }

-- the reads that wait can be gone through
pub record IsListed (taken : List Bool) (waiting : List Waiting) : Type 0 where
  pub ascending : ascends (map (λ w. w.number) waiting) ≡ true
  pub servers : Every (λ w. w.server < 3) waiting
  pub pending : Every (λ w. slice_get taken w.number ≡ Some false) waiting

-- the read of this number was taken up, for this range
pub record IsFetched (history : History) (number : ℕ) (range : Span) : Type 0 where
  pub server : ℕ
  pub place : ℕ
  pub happened : slice_get history place ≡ Some (record { event = Fetch server range; answer = ReadIs number })

-- a read of the port of mount m: its answer was not handed out, and it is of no line and of no other port
pub record IsPortRead (group : GroupIs) (waiting : List Waiting) (ports : List PortIs) (m : ℕ) (p : PortIs) (number : ℕ) : Type 0 where
  pub pending : slice_get group.taken number ≡ Some false
  pub no_line : Every (λ w. w.number ≢ number) waiting
  pub alone : (k : ℕ) (q : PortIs) → slice_get ports k ≡ Some q → q.sent ≡ Some (Number number) → k ≡ m
  pub asked : (chunk : ℕ) (range : Span) → p.ask ≡ Some (Read chunk range) → IsFetched group.history number range

pub record ArePorts (group : GroupIs) (waiting : List Waiting) (ports : List PortIs) : Type 0 where
  pub count : length ports ≡ most_ports
  pub reads : (m : ℕ) (p : PortIs) (number : ℕ) → slice_get ports m ≡ Some p → p.sent ≡ Some (Number number) → IsPortRead group waiting ports m p number

-- what is kept beside a group fits it
pub record ChunkIsKept (group : GroupIs) (waiting : List Waiting) (ports : List PortIs) : Type 0 where
  pub numbered : IsTrue group.told → length group.taken ≡ (state_of group).reads
  pub listed : IsListed group.taken waiting
  pub ports_fit : ArePorts group waiting ports

-- Between two events: no job is in hand; and where the disks tell their content, what can be applied is applied, and no packet below the first
-- one that is left is
pub record ChunkIsReady (c : ChunkIs) : Type 0 where
  pub claims : claims_of [] c.group.history ≡ []
  pub applied : IsTrue c.group.told → IsApplied c.group.setup (state_of c.group)
  pub kept : ChunkIsKept c.group c.waiting c.ports
  pub few : c.first_left ≤ 65536
  pub first_sent : IsTrue c.group.told → c.first_left ≤ length (state_of c.group).packets
  pub none_left : IsTrue c.group.told → (k : ℕ) → k < c.first_left → is_left_in (state_of c.group) k ≡ false
