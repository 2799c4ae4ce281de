-- A position of the journal whose blocks lie in chunks that move.
use Rattle.std.specs.Prelude.{◌≡◌, ℕ, ◌*◌, ◌<◌, ◌≤◌, List, Some, slice_get}
use Rattle.pf_entry.specs.Ops.{Sector, zero_sector}
use Rattle.pf_protocol.specs.Ports.{Submission}
use Rattle.pf_law_registers.specs.Orders.{given}
use Rattle.pf_paxos.specs.declared.block.Block.{Block}
use Rattle.pf_paxos.specs.Blocks.{zero_block}
use Rattle.pf_law_positions.specs.Deeds.{Groups, Deed}
use Rattle.pf_paxos.specs.Journals.{ProposerDoing}
use Rattle.pf_law_positions.specs.Homes.{PositionHome, chunk_of_block, sector_of}
use Rattle.pf_law_positions.specs.Volumes.{home_of_position, IsSameJournal}
use Rattle.pf_law_epochs.specs.Routed.{IsRouted}

-- Each half is a piece that was moved with its chunk. No client but its own mount hands on a write of a block. A sector of zeros reads as
-- the block of zeros
pub record IsRoutedPosition (groups : Groups) (read : Sector → Block) (home : PositionHome) (deeds : List Deed) : Type 0 where
  pub zeros : read zero_sector ≡ zero_block
  pub piece : ℕ → ℕ
  pub at_piece : (half : ℕ) → half < 2 → home.first half ≡ 8 * piece half
  pub routed : (half : ℕ) → half < 2 → IsRouted groups deeds (home.chunk half) (piece half)
  pub own : (block epoch client k : ℕ) (a : Submission) (bytes : Sector) → block < 16 → epoch ≤ groups.moves (chunk_of_block home block)
      → slice_get (groups.writes (chunk_of_block home block) epoch client) k ≡ Some a → given a.op (sector_of home block) ≡ Some bytes → client ≡ block

-- the doings of a journal of so many positions are what the ports did, and each position lies in such chunks
pub record IsRoutedJournal (groups : Groups) (read : Sector → Block) (sectors count : ℕ) (deeds : List Deed) (doings : List ProposerDoing) : Type 0 where
  pub routed : (position : ℕ) → position < count → IsRoutedPosition groups read (home_of_position sectors position) deeds
  pub same : IsSameJournal read sectors count deeds doings
