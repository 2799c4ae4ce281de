-- A position whose blocks lie in chunks.
use Rattle.std.specs.Prelude.{◌≡◌, ℕ, ◌+◌, ◌<◌, ◌≤◌, ◌⊎◌, List, [], ◌∷◌, ◌++◌, Some}
use Rattle.pf_entry.specs.Ops.{Sector, zero_sector}
use Rattle.pf_entry.specs.declared.ops.Op.{Op}
use Rattle.pf_protocol.specs.declared.answers.Answer.{Answer}
use Rattle.pf_protocol.specs.declared.events.Event.TheVariants.{Submit}
use Rattle.pf_protocol.specs.Groups.{Answered, TookPlace, ending}
use Rattle.pf_protocol.specs.Histories.{History, IsPrefix}
use Rattle.pf_protocol.specs.Answers.{IsLegal}
use Rattle.pf_protocol.specs.Ports.{Submission}
use Rattle.pf_law_registers.specs.Orders.{given}
use Rattle.pf_law_registers.specs.Firsts.{IsPorts}
use Rattle.pf_paxos.specs.declared.block.Block.{Block}
use Rattle.pf_paxos.specs.Blocks.{zero_block}
use Rattle.pf_law_positions.specs.Deeds.{Groups, Deed, DeedsFit}
use Rattle.pf_law_positions.specs.Moves.{mover_into, ChunkIsMoved}
use Rattle.pf_law_positions.specs.Homes.{PositionHome, chunk_of_block, sector_of}

-- each submission that writes the sector and took place is of one of these two ports
abbrev pub AreAlone : History → (mover port : List Submission) → (x : ℕ) → Type 0
AreAlone history mover port x =
    (before : History) (server : ℕ) (op : Op) (answer : Answer) (bytes : Sector)
    → IsPrefix (before ++ record { event = Submit server op; answer = answer } ∷ []) history
    → TookPlace (ending answer)
    → given op x ≡ Some bytes
    → IsPorts mover before server op answer ⊎ IsPorts port before server op answer

-- The two halves lie in chunks whose groups have legal histories, which the deeds fit. Each block is written by its own mount's port alone,
-- beside the move's port. Between two epochs of a chunk its half was moved, and the last read of it is this one. A sector of zeros
-- reads as the block of zeros
pub record IsHosted (groups : Groups) (read : Sector → Block) (home : PositionHome) (deeds : List Deed) : Type 0 where
  pub zeros : read zero_sector ≡ zero_block
  pub legal : (half epoch : ℕ) → half < 2 → epoch ≤ groups.moves (home.chunk half)
      → IsLegal (groups.setup (home.chunk half) epoch) (groups.history (home.chunk half) epoch)
  pub inside : (half epoch : ℕ) → half < 2 → epoch ≤ groups.moves (home.chunk half) → home.first half + 8 ≤ (groups.setup (home.chunk half) epoch).chunk
  pub fits : (half : ℕ) → half < 2 → DeedsFit groups deeds (home.chunk half)
  pub alone : (block epoch : ℕ) → block < 16 → epoch ≤ groups.moves (chunk_of_block home block)
      → AreAlone (groups.history (chunk_of_block home block) epoch) (mover_into groups (chunk_of_block home block) epoch)
      (groups.writes (chunk_of_block home block) epoch block) (sector_of home block)
  pub last : (half epoch : ℕ) → Answered
  pub moved : (half epoch : ℕ) → half < 2 → epoch < groups.moves (home.chunk half)
      → ChunkIsMoved groups deeds (home.chunk half) (home.first half) epoch (last half epoch)
