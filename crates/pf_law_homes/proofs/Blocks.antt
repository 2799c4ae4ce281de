-- The blocks of each position of a layout are registers, where each piece of each chunk is routed.
use Rattle.std.proofs.Common.{ℕ, ◌/◌, ◌%◌, ◌<◌, List, length, arith}
use Rattle.pf_volume.specs.Volumes.{Extent, IsVolume}
use Rattle.pf_paxos.specs.Registers.{AreRegisters}
use Rattle.pf_journal.proofs.BlockSpellings.{zeros}
use Rattle.pf_journal.specs.Layouts.{IsLayout, LayoutIs, home_on}
use Rattle.pf_law_homes.specs.Halves.{half_on}
use Rattle.pf_law_homes.specs.Chunks.{ChunkGroups}
use Rattle.pf_law_homes.specs.Ports.{AreEvents, PortEvent, port_turns_on}
use Rattle.pf_law_homes.specs.Routed.{AreRoutedChunks}
use Rattle.pf_law_homes.proofs.BlockOwners.{half_routed, half_within, piece_within}
use Rattle.pf_law_homes.proofs.Positions.{position_is}

pub positions_registers : (l : LayoutIs) (v : Extent) (events : List PortEvent) (groups : (chunk : ℕ) → ChunkGroups) → IsLayout l v → IsVolume v → AreEvents l v events → AreRoutedChunks v groups events
    → (anchor position : ℕ) → anchor < length l.anchors → position < l.positions → AreRegisters (port_turns_on anchor position events)
positions_registers l v events groups is volume can routed a q low_a low_q =
    let k = volume.blocks.0 in
    let eight = volume.blocks.1 in
    let large = volume.some_sectors in
    let some : 0 < k = omega (arith, eight, large) in
    position_is l v is k eight some a q low_a low_q events can groups
    (record {
      zeros = zeros;
      each = λ half low.
          half_routed l v is k eight some a q half low_a low_q low events can (groups ((home_on l v.sectors a q).chunk half))
          (routed ((home_on l v.sectors a q).chunk half) ((half_on l a q half / 8) % k) (half_within l v is k eight some a q half low_a low_q low) (piece_within l v is k eight some a q half low_a low_q low));
    })
