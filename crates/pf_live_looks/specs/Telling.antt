-- What one look of a seat does, and tells of a server.
use Rattle.std.specs.Prelude.{ℕ, Result}
use Rattle.pf_disk.specs.declared.disk.Disk.{Ghosts}
use Rattle.pf_protocol.specs.Servers.{Server}
use Rattle.pf_shared.specs.declared.parts.SharedGroup.{SharedGroup}
use Rattle.pf_shared.specs.declared.parts.GroupSeat.{GroupSeat}
use Rattle.pf_shared.specs.Calls.{IsHistory}
use Rattle.pf_shared.specs.Seats.{IsAlone, IsSameSeat, IsSeatOf, number_of, root_in, seen_by}
use Rattle.pf_live_looks.specs.declared.errors.LookFault.{LookFault}
use Rattle.pf_live_looks.specs.Looks.{LooksAt}

module _ {D : Type 0} {disk : Ghosts D} {A : Type 0} where
  -- The seat has seen one look more, and its history is one of the group. What is told was so of server i, which ran where the look stands, or is
  -- told to be down; where memory ran out, nothing is told and there is no look
  pub record TellsAt (shared : SharedGroup D disk) (old new : GroupSeat D disk) (i : ℕ) (result : Result A LookFault) (P : A → Server → Type 0) : Type 0 where
    pub seat : IsSeatOf shared new × IsSameSeat old new
    pub look : LooksAt (root_in shared) (number_of old) (IsAlone old) (seen_by old) i result P (seen_by new)
    pub history : IsHistory (root_in shared) (seen_by new)
