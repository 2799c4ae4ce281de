-- The sectors of a run.
use Rattle.std.specs.Prelude.{◌≡◌, ℕ, ◌+◌, ◌*◌, ◌<◌, List, Some, slice_get}
use Rattle.pf_protocol.specs.Groups.{Answered}
use Rattle.pf_volume.specs.Volumes.{Extent}
use Rattle.pf_law_positions.specs.Deeds.{Submits}
use Rattle.pf_move.specs.Turns.{MoverTurn}
use Rattle.pf_law_epochs.specs.Copying.{IsCarriedOut}
use Rattle.pf_law_epochs.specs.Sectors.{RoutedSector}
use Rattle.pf_law_homes.specs.Chunks.{ChunkGroups, groups_in}
use Rattle.pf_law_homes.specs.Ports.{PortEvent, deeds_on}
use Rattle.pf_law_homes.specs.Routed.{AreRoutedChunks}
use Rattle.pf_law_runs.specs.pf_world.specs.pf_chunk.specs.Runs.{mover_port}
use Rattle.pf_law_runs.specs.pf_world.specs.pf_world_moments.specs.Moments.{Hands, Moment}
use Rattle.pf_law_runs.specs.pf_world.specs.pf_world_hosts.specs.Volumes.{VolumeRun}
use Rattle.pf_law_runs.specs.pf_law_movers.specs.Carrying.{moves_of}
use Rattle.pf_law_runs.specs.pf_law_movers.specs.Epochs.{epoch_of, group_of_epoch}

-- The calls of a move that has ended went through the mover's ports: each piece was read of the group of its epoch, which gave this to the
-- last read of it, and written into the next
pub record WasCarried (v : Extent) (told : List Moment) (groups : ChunkGroups) (chunk epoch : ℕ) (last : (piece : ℕ) → Answered) : Type 0 where
  pub turns : List MoverTurn
  pub calls : slice_get (moves_of told chunk) epoch ≡ Some turns
  pub pieces : ℕ
  pub all : 8 * pieces ≡ v.sectors
  pub carried : IsCarriedOut (groups_in groups) chunk epoch pieces last turns

-- Each sector of each chunk is one register through all moves, to whoever asked by ports, of journal and file data alike: each ask of a port
-- is a deed at the chunk that it names. Whatever a mount's port was told to have handed on is one of the deeds of its chunk. What the mover
-- itself read last says both what a move carried, and which writes of an epoch that ended are in the order of a sector
pub record AreRoutedSectors (v : VolumeRun) (told : List Moment) (groups : (chunk : ℕ) → ChunkGroups) (events : List PortEvent) : Type 0 where
  pub handed : (chunk q m k place epoch : ℕ) → chunk < v.extent.chunks → slice_get told q ≡ Some (Hands m k place) → m < mover_port
      → group_of_epoch told chunk epoch ≡ Some k
      → (moment : ℕ) × (client : ℕ) × (slice_get (deeds_on events chunk) moment ≡ Some (Submits client chunk epoch place))
  pub last : (chunk epoch piece : ℕ) → Answered  -- to the mover's last read of the piece, in an epoch that ended
  pub carried : (chunk epoch : ℕ) → chunk < v.extent.chunks → epoch < epoch_of told chunk
      → WasCarried v.extent told (groups chunk) chunk epoch (last chunk epoch)
  pub routed : AreRoutedChunks v.extent groups events
  pub same : (chunk piece : ℕ) (small : chunk < v.extent.chunks) (within : 8 * piece < v.extent.sectors)
      → (routed chunk piece small within).last ≡ (λ epoch. last chunk epoch piece)
  pub registers : (chunk piece nth : ℕ) → chunk < v.extent.chunks → 8 * piece < v.extent.sectors → nth < 8
      → RoutedSector (groups_in (groups chunk)) (deeds_on events chunk) chunk (8 * piece + nth) (λ epoch. last chunk epoch piece)
