-- The groups of a run, and what movers wrote into them.
use Rattle.std.specs.Prelude.{ℕ, pred, unwrap_or, List, [], length, map, take, Option, Some, None, slice_get}
use Rattle.pf_protocol.specs.Servers.{Setup}
use Rattle.pf_protocol.specs.Histories.{History}
use Rattle.pf_protocol.specs.Ports.{Submission}
use Rattle.pf_protocol.specs.Shown.{small_group}
use Rattle.pf_world_moments.specs.pf_chunk.specs.Runs.{ChunkRun}
use Rattle.pf_volume.specs.Volumes.{Extent}
use Rattle.pf_world_moments.specs.Moments.{Moment}
use Rattle.pf_move.specs.Turns.{MoverTurn, pieces_written}
use Rattle.pf_move.specs.declared.mover.MoverAsk.TheVariants.{Writing}
use Rattle.pf_law_movers.specs.Carrying.{moves_of}
use Rattle.pf_law_movers.specs.Pasts.{mover_trace}

-- of a group that is not there, any
abbrev pub setup_of : Option ChunkRun → Setup
setup_of None = small_group
setup_of (Some c) = c.group.setup

abbrev pub history_of_run : Option ChunkRun → History
history_of_run None = []
history_of_run (Some c) = c.group.history

abbrev pub setup_of_group : List ChunkRun → Option ℕ → Setup
setup_of_group chunks None = small_group
setup_of_group chunks (Some group) = setup_of (slice_get chunks group)

-- a write of the mover's port has for its number its place among those that the mover asked in that move
abbrev pub among_copies : (turns : List MoverTurn) → Submission → Submission
among_copies turns a = record a { write = pred (length (pieces_written (take a.write turns))) }

-- what the mover wrote into this group as the chunk moved there from the group of this epoch
abbrev pub carried_into : Extent → List ChunkRun → (told : List Moment) → (chunk epoch : ℕ) → Option ℕ → List Submission
carried_into v chunks told chunk epoch None = []
carried_into v chunks told chunk epoch (Some group) =
    map (among_copies (unwrap_or (slice_get (moves_of told chunk) epoch) []))
    (mover_trace (history_of_run (slice_get chunks group)) group Writing v.chunks told).writes
