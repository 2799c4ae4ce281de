-- The chunks of a volume, served by groups from epoch to epoch, with what ports did at each.
use Rattle.std.specs.Prelude.{ℕ, ◌*◌, ◌<◌, List}
use Rattle.pf_volume.specs.Volumes.{Extent}
use Rattle.pf_law_epochs.specs.Routed.{IsRouted}
use Rattle.pf_law_homes.specs.Chunks.{ChunkGroups, groups_in}
use Rattle.pf_law_homes.specs.Ports.{PortEvent, deeds_on}

-- each piece of each chunk: of the journal and of file data alike
abbrev pub AreRoutedChunks : Extent → (groups : (chunk : ℕ) → ChunkGroups) → List PortEvent → Type 0
AreRoutedChunks v groups events = (chunk piece : ℕ) → chunk < v.chunks → 8 * piece < v.sectors
    → IsRouted (groups_in (groups chunk)) (deeds_on events chunk) chunk piece
