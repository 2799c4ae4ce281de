-- A chunk that is served by another group in each epoch.
use Rattle.std.specs.Prelude.{◌≡◌, ℕ, ◌+◌, ◌*◌, ◌<◌, ◌≤◌, ◌⊎◌, List, [], ◌∷◌, ◌++◌, Some}
use Rattle.pf_entry.specs.Ops.{Sector}
use Rattle.pf_entry.specs.declared.ops.Op.{Op}
use Rattle.pf_protocol.specs.declared.answers.Answer.{Answer}
use Rattle.pf_protocol.specs.declared.events.Event.TheVariants.{Submit}
use Rattle.pf_protocol.specs.Answers.{IsLegal}
use Rattle.pf_protocol.specs.Groups.{Answered, TookPlace, ending}
use Rattle.pf_protocol.specs.Histories.{History, IsPrefix}
use Rattle.pf_law_registers.specs.Firsts.{IsPorts}
use Rattle.pf_law_registers.specs.Orders.{given}
use Rattle.pf_law_positions.specs.Deeds.{Groups, Deed, DeedsFit}
use Rattle.pf_law_positions.specs.Moves.{mover_into, ChunkIsMoved}

-- each submission into the epoch's group that writes the sector and took place is the mover's or a client's
abbrev pub AreOfPorts : Groups → (chunk epoch x : ℕ) → Type 0
AreOfPorts groups chunk epoch x =
    (before : History) (server : ℕ) (op : Op) (answer : Answer) (bytes : Sector)
    → IsPrefix (before ++ record { event = Submit server op; answer = answer } ∷ []) (groups.history chunk epoch)
    → TookPlace (ending answer)
    → given op x ≡ Some bytes
    → IsPorts (mover_into groups chunk epoch) before server op answer ⊎ ((client : ℕ) × IsPorts (groups.writes chunk epoch client) before server op answer)

-- A piece of a chunk through the chunk's epochs: the deeds of clients fit the histories of its groups, which are legal, nobody but
-- ports writes its sectors, and between two epochs the piece was moved. The mover's last read of it in an ended epoch is this one
pub record IsRouted (groups : Groups) (deeds : List Deed) (chunk piece : ℕ) : Type 0 where
  pub fits : DeedsFit groups deeds chunk
  pub legal : (epoch : ℕ) → epoch ≤ groups.moves chunk → IsLegal (groups.setup chunk epoch) (groups.history chunk epoch)
  pub inside : (epoch : ℕ) → epoch ≤ groups.moves chunk → 8 * piece + 8 ≤ (groups.setup chunk epoch).chunk
  pub of_ports : (epoch nth : ℕ) → epoch ≤ groups.moves chunk → nth < 8 → AreOfPorts groups chunk epoch (8 * piece + nth)
  pub last : (epoch : ℕ) → Answered
  pub moved : (epoch : ℕ) → epoch < groups.moves chunk → ChunkIsMoved groups deeds chunk (8 * piece) epoch (last epoch)
