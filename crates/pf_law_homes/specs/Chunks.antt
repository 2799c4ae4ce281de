-- A position whose two halves lie in chunks that groups serve, each chunk by groups and deeds of its own.
use Rattle.std.specs.Prelude.{◌≡◌, ℕ, suc, ◌*◌, ◌/◌, ◌<◌, ◌≤◌, ◌==◌, if◌then◌else◌, List, Option, Some, None, slice_get}
use Rattle.pf_entry.specs.Ops.{Sector, zero_sector}
use Rattle.pf_protocol.specs.Histories.{History}
use Rattle.pf_protocol.specs.Ports.{Submission}
use Rattle.pf_protocol.specs.Servers.{Setup}
use Rattle.pf_law_registers.specs.Orders.{given}
use Rattle.pf_paxos.specs.declared.block.Block.{Block}
use Rattle.pf_paxos.specs.Blocks.{zero_block}
use Rattle.pf_law_positions.specs.Deeds.{Deed, Gets, Got, Groups, PortAsk, PortReply, Put, Puts, Submits, Takes}
use Rattle.pf_law_positions.specs.Homes.{PositionHome, sector_of}
use Rattle.pf_law_epochs.specs.Routed.{IsRouted}

-- the groups of one chunk, each by its epoch
pub record ChunkGroups : Type 0 where
  pub moves : ℕ
  pub setup : (epoch : ℕ) → Setup
  pub history : (epoch : ℕ) → History
  pub writes : (epoch client : ℕ) → List Submission
  pub moved : (epoch : ℕ) → List Submission

-- in whichever chunk
abbrev pub groups_in : ChunkGroups → Groups
groups_in x = record {
  moves = λ chunk. x.moves;
  setup = λ chunk epoch. x.setup epoch;
  history = λ chunk epoch. x.history epoch;
  writes = λ chunk epoch client. x.writes epoch client;
  moved = λ chunk epoch. x.moved epoch;
}

-- the home of one half, as if the other one were in a chunk that is not there
abbrev pub only_half : PositionHome → (half : ℕ) → PositionHome
only_half home half = record {
  chunk = λ other. if other == half then home.chunk half else suc (home.chunk half);
  first = λ other. if other == half then home.first half else 0;
}

-- The half is a piece that was moved with its chunk. No client but its own mount hands on a write of a block, whatever else clients write in
-- the chunk
pub record IsRoutedHalf (groups : ChunkGroups) (home : PositionHome) (half : ℕ) (deeds : List Deed) : Type 0 where
  pub piece : ℕ
  pub at_piece : home.first half ≡ 8 * piece
  pub routed : IsRouted (groups_in groups) deeds (home.chunk half) piece
  pub own : (block epoch client k : ℕ) (a : Submission) (bytes : Sector) → block < 16 → block / 8 ≡ half → epoch ≤ groups.moves
      → slice_get (groups.writes epoch client) k ≡ Some a → given a.op (sector_of home block) ≡ Some bytes → client ≡ block

-- both halves. A sector of zeros reads as the block of zeros
pub record IsRoutedOver (groups : (chunk : ℕ) → ChunkGroups) (read : Sector → Block) (home : PositionHome) (deeds : (chunk : ℕ) → List Deed) : Type 0 where
  pub zeros : read zero_sector ≡ zero_block
  pub each : (half : ℕ) → half < 2 → IsRoutedHalf (groups (home.chunk half)) home half (deeds (home.chunk half))

-- a deed is of the chunk

abbrev pub IsAskAt : (chunk : ℕ) → Option PortAsk → Type 0
IsAskAt chunk None = Unit {0}
IsAskAt chunk (Some (Puts other op)) = other ≡ chunk
IsAskAt chunk (Some (Gets other range)) = other ≡ chunk

abbrev pub IsReplyAt : (chunk : ℕ) → Option PortReply → Type 0
IsReplyAt chunk None = Unit {0}
IsReplyAt chunk (Some (Put other epoch by op)) = other ≡ chunk
IsReplyAt chunk (Some (Got other epoch by answer)) = other ≡ chunk

abbrev pub IsDeedAt : (chunk : ℕ) → Deed → Type 0
IsDeedAt chunk (Takes client reply ask) = IsReplyAt chunk reply × IsAskAt chunk ask
IsDeedAt chunk (Submits client other epoch place) = other ≡ chunk

abbrev pub AreDeedsAt : (chunk : ℕ) → List Deed → Type 0
AreDeedsAt chunk deeds = (moment : ℕ) (deed : Deed) → slice_get deeds moment ≡ Some deed → IsDeedAt chunk deed
