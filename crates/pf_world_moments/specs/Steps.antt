-- What steps of ports come to, over the groups of a volume.
use Rattle.std.specs.Prelude.{◌≡◌, ◌≢◌, ℕ, List, length, map, Some, slice_get}
use Rattle.pf_chunk.specs.pf_group.specs.GroupIs.{state_of}
use Rattle.pf_chunk.specs.pf_group.specs.Packets.{NoneComesBack}
use Rattle.pf_chunk.specs.pf_group_rounds.specs.Halts.{Halt}
use Rattle.pf_chunk.specs.pf_group_rounds.specs.Agreeing.{TellsOfGroup}
use Rattle.pf_chunk.specs.pf_group_rounds.specs.Begun.{GroupHasBegun}
use Rattle.pf_chunk.specs.pf_group_rounds.specs.Growing.{HasGrown}
use Rattle.pf_chunk.specs.Runs.{ChunkRun}
use Rattle.pf_chunk.specs.Views.{ChunkIs, ChunkIsReady, run_of}

-- where a run stands that came to these chunks
abbrev pub chunk_runs : List Halt → List ChunkIs → List ChunkRun
chunk_runs halts chunks = map (run_of halts) chunks

-- the list tells of the group of each
abbrev pub TellsAll : List Halt → List ChunkIs → Type 0
TellsAll halts chunks = (k : ℕ) (c : ChunkIs) → slice_get chunks k ≡ Some c → TellsOfGroup halts c.group

-- each stands between two events, and has its number
abbrev pub AreReady : List ChunkIs → Type 0
AreReady chunks = (k : ℕ) (c : ChunkIs) → slice_get chunks k ≡ Some c → (c.group.number ≡ k) × ChunkIsReady c

-- More happened to the group, no packet that is not left comes back, and a settling goes on where it stood. Ports of mounts but this one
-- are as they were
pub record ChunkGoes (mount : ℕ) (was is : ChunkIs) : Type 0 where
  pub grown : HasGrown was.group is.group
  pub left : NoneComesBack (state_of was.group) (state_of is.group)
  pub first : is.first_left ≡ was.first_left
  pub next : is.next ≡ was.next
  pub others : (m : ℕ) → m ≢ mount → slice_get is.ports m ≡ slice_get was.ports m

pub record HaveGone (mount : ℕ) (old new : List ChunkIs) : Type 0 where
  pub count : length new ≡ length old
  pub each : (k : ℕ) (was is : ChunkIs) → slice_get old k ≡ Some was → slice_get new k ≡ Some is → ChunkGoes mount was is

-- each group stands at a beginning of what would have happened to it
pub record HaveBegun (halts : List Halt) (old : List ChunkIs) (would : List ChunkRun) (new : List ChunkIs) : Type 0 where
  pub count : length would ≡ length new
  pub each : (k : ℕ) (was is : ChunkIs) (run : ChunkRun) → slice_get old k ≡ Some was → slice_get new k ≡ Some is → slice_get would k ≡ Some run
      → GroupHasBegun halts was.group run.group is.group

-- more happened to each group
pub record HaveGrown (old new : List ChunkIs) : Type 0 where
  pub count : length new ≡ length old
  pub each : (k : ℕ) (was is : ChunkIs) → slice_get old k ≡ Some was → slice_get new k ≡ Some is → HasGrown was.group is.group
