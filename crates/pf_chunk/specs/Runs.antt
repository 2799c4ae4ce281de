-- A chunk of a run.
use Rattle.std.specs.Prelude.{ℕ, List, [], map, replicate}
use Rattle.pf_asks.specs.Ports.{PortIs, new_port, rehomed}
use Rattle.pf_group_rounds.specs.Chunks.{Chunk}
use Rattle.pf_chunk_waiting.specs.declared.waiting.Waiting.{Waiting}

-- its group, the reads of lines that wait, and the ports of hosts, each by the number of its mount; behind them one for the mover of a chunk
pub record ChunkRun : Type 0 where
  pub group : Chunk
  pub waiting : List Waiting
  pub ports : List PortIs

abbrev pub most_ports : ℕ
most_ports = 17

-- the port of the mover
abbrev pub mover_port : ℕ
mover_port = 16

abbrev pub new_ports : List PortIs
new_ports = replicate most_ports new_port

-- a group that was made, of a chunk of a new volume or of one that moves
abbrev pub new_run : Chunk → ChunkRun
new_run c = record { group = c; waiting = []; ports = new_ports }

-- A chunk goes from one group to the other: with it go the ports of hosts into it, which begin anew there, and the mover begins with new
-- ports into both
abbrev pub left_by_ports : (from : ChunkRun) → ChunkRun
left_by_ports from = record from { ports = new_ports }

abbrev pub taking_ports : (from to : ChunkRun) → ChunkRun
taking_ports from to = record to { ports = map rehomed from.ports }
