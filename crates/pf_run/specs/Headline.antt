-- The headline.
use Rattle.std.specs.Prelude.{◌≡◌, ℕ, ◌<◌, List, Some, length, slice_get}
use Rattle.pf_protocol.specs.Histories.{History, IsPrefix}
use Rattle.pf_protocol.specs.Safety.{Agrees, AppliesInOrder, KeepsAcknowledged}
use Rattle.pf_protocol.specs.Servers.{Setup}
use Rattle.pf_group_rounds.specs.Halts.{Halt}
use Rattle.pf_chunk.specs.Runs.{ChunkRun}
use Rattle.pf_live_session.specs.Sessions.{Session}
use Rattle.pf_world.specs.Headline.{EndEach}
use Rattle.pf_world.specs.Reports.{report_of, world_run}
use Rattle.pf_world.specs.Worlds.{World, no_world}
use Rattle.pf_world.specs.declared.line.Line.{Line}
use Rattle.pf_law_mounts.specs.Lists.{HasOneList}

-- it holds of each group of the run at every moment
abbrev pub AlwaysInEach : (Setup → History → Type 0) → World → Type 0
AlwaysInEach Holds world =
    (k : ℕ) (c : ChunkRun) (earlier : History) → slice_get world.volume.chunks k ≡ Some c → IsPrefix earlier c.group.history → Holds c.group.setup earlier

-- the run of these lines under these halts, with these sessions, has one list of transactions, if it has mounts
abbrev pub HasOneListOf : List Halt → List Session → List Line → Type 0
HasOneListOf halts sessions lines = let run = world_run halts sessions lines in 0 < length run.world.volume.hosts → HasOneList run.world.volume run.told

-- For the run of these lines under these halts, in which the threads of the live lines did what these sessions tell: no two servers of a group
-- ever hold different committed writes in one slot; each server's sectors are its applied writes in slot order; every acknowledged write is
-- committed in each later leader's log; every mount's tree comes from a prefix of one transaction list, wherever the journal lies, and each
-- sector of each chunk is one register, through all moves of the chunk; each session is one that its line can have, and each settling ends by
-- itself; and the text shows exactly that run
pub record Headline (halts : List Halt) (sessions : List Session) (lines : List Line) (text : List ℕ) : Type 0 where
  pub one_write_in_a_slot : AlwaysInEach Agrees (world_run halts sessions lines).world
  pub sectors_are_applied_writes : AlwaysInEach AppliesInOrder (world_run halts sessions lines).world
  pub acknowledged_writes_stay : AlwaysInEach KeepsAcknowledged (world_run halts sessions lines).world
  pub one_list : HasOneListOf halts sessions lines
  pub ends : EndEach halts (no_world sessions) lines
  pub shown : report_of halts sessions lines ≡ text
