-- How a mover carries a chunk from the group of one epoch into that of the next.
use Rattle.std.specs.Prelude.{◌≡◌, ℕ, suc, ◌+◌, ◌<◌, ◌⊎◌, true, List, Some, slice_get}
use Rattle.pf_entry.specs.Ops.{Sector, zero_sector}
use Rattle.pf_entry.specs.declared.ops.Op.TheVariants.{Write}
use Rattle.pf_protocol.specs.Groups.{Answered}
use Rattle.pf_protocol.specs.Histories.{replay}
use Rattle.pf_protocol.specs.Ports.{Submission}
use Rattle.pf_law_registers.specs.Orders.{given}
use Rattle.pf_law_positions.specs.Deeds.{Groups}
use Rattle.pf_law_positions.specs.Moves.{WasWritten}
use Rattle.pf_move.specs.Movers.{MoverIs, new_mover, piece}
use Rattle.pf_move.specs.Turns.{MoverTurn, Turns, Copy, pieces_given as given_to, pieces_written, answers, is_switched}

-- The mover's calls, up to its switch, went through its ports. What it was given of a piece are the bytes that the old group answered to the
-- last read of it; its port hands on the writes that it asked, whose numbers are their places among them; and each write that it was told to be
-- answered was acknowledged
pub record IsCarriedOut (groups : Groups) (chunk epoch pieces : ℕ) (last : ℕ → Answered) (turns : List MoverTurn) : Type 0 where
  pub some : 0 < pieces
  pub mover : MoverIs
  pub calls : Turns (new_mover chunk pieces) turns mover
  pub switched : is_switched turns ≡ true
  pub read : (n : ℕ) → n < pieces → (k : ℕ) × (slice_get (replay (groups.setup chunk epoch) (groups.history chunk epoch)).answered k ≡ Some (last n))
      × ((last n).range ≡ piece n)
  pub gave : (n : ℕ) (sectors : List Sector) → slice_get (given_to turns) n ≡ Some sectors → sectors ≡ (last n).bytes
  pub handed : (k : ℕ) (a : Submission) → slice_get (groups.moved chunk epoch) k ≡ Some a
      → (copy : Copy) × (slice_get (pieces_written turns) a.write ≡ Some copy) × (a.op ≡ Write copy.span copy.sectors)
  pub acked : (write x : ℕ) (copy : Copy) (bytes : Sector) → write < answers turns → slice_get (pieces_written turns) write ≡ Some copy
      → given (Write copy.span copy.sectors) x ≡ Some bytes → WasWritten (groups.setup chunk (suc epoch)) (groups.moved chunk epoch)
      (groups.history chunk (suc epoch)) x write

-- of eight sectors what the last read gave was written into the next group where it is not zeros, and nothing else
pub record WereCarried (groups : Groups) (chunk first epoch : ℕ) (last : Answered) : Type 0 where
  pub same : (k nth : ℕ) (a : Submission) (its : Sector) → slice_get (groups.moved chunk epoch) k ≡ Some a → nth < 8 → given a.op (first + nth) ≡ Some its
      → slice_get last.bytes nth ≡ Some its
  pub all : (nth : ℕ) (bytes : Sector) → nth < 8 → slice_get last.bytes nth ≡ Some bytes
      → (bytes ≡ zero_sector) ⊎ ((write : ℕ) × WasWritten (groups.setup chunk (suc epoch)) (groups.moved chunk epoch) (groups.history chunk (suc epoch))
      (first + nth) write)
