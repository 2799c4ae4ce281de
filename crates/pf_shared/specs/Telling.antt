-- What one look of a seat does, and tells.
use Rattle.std.specs.Prelude.{Result, IfOk, OnErr}
use Rattle.pf_base.specs.declared.errors.NoMemory.{NoMemory}
use Rattle.pf_disk.specs.declared.disk.Disk.{Ghosts}
use Rattle.pf_protocol.specs.Groups.{Group}
use Rattle.pf_shared.specs.declared.parts.SharedGroup.{SharedGroup}
use Rattle.pf_shared.specs.declared.parts.GroupSeat.{GroupSeat}
use Rattle.pf_shared.specs.Calls.{Finds, IsHistory}
use Rattle.pf_shared.specs.Looks.{Looks}
use Rattle.pf_shared.specs.Seats.{IsAlone, IsSameSeat, IsSeatOf, number_of, root_in, seen_by}

module _ {D : Type 0} {disk : Ghosts D} {A : Type 0} where
  -- The seat has seen one look more, and its history is one of the group. What is told was so of the group where the look stands; where memory
  -- ran out, nothing is told and there is no look
  pub record Tells (shared : SharedGroup D disk) (old new : GroupSeat D disk) (result : Result A NoMemory) (P : A → Group → Type 0) : Type 0 where
    pub seat : IsSeatOf shared new × IsSameSeat old new
    pub look : IfOk result (λ told. Looks (root_in shared) (number_of old) (IsAlone old) (seen_by old) (P told) (seen_by new))
    pub err : OnErr result (Finds (number_of old) (IsAlone old) (seen_by old) (seen_by new))
    pub history : IsHistory (root_in shared) (seen_by new)
