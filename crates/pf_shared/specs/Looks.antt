-- What one look of a seat tells.
use Rattle.std.specs.Prelude.{◌≡◌, ◌≢◌, ℕ, Bool, false, IsTrue, List, Option, Some, None, slice_get}
use Rattle.pf_turn.specs.declared.log.Stamped.{Stamped}
use Rattle.pf_entry.specs.Lists.{Every}
use Rattle.pf_entry.specs.Ops.{Sector}
use Rattle.pf_protocol.specs.Groups.{Group}
use Rattle.pf_group_rounds.specs.pf_group_network.specs.Showing.{HasAnswer}
use Rattle.pf_group_rounds.specs.pf_group.specs.GroupIs.{GroupIs}
use Rattle.pf_shared.specs.declared.moment.SeatMoment.{SeatMoment}
use Rattle.pf_shared.specs.declared.moment.SeatMoment.TheVariants.{Look}
use Rattle.pf_shared.specs.Calls.{Adds}
use Rattle.pf_shared.specs.Since.{state_by_now}

-- The seat added one look, which took no answer. This was so of the group where it stands in the list, if its disks tell their content
pub record Looks (root : GroupIs) (n : ℕ) (alone : Type 0) (seen : List (Stamped SeatMoment)) (P : Group → Type 0) (new : List (Stamped SeatMoment)) : Type 0
  where
    pub adds : Adds n alone seen (Look None) new
    pub shown : IsTrue root.told → P (state_by_now root adds.found)

-- the number of a read whose answer was taken
abbrev pub read_handed_out : (number : ℕ) → Option (List Sector) → Option ℕ
read_handed_out number (Some bytes) = Some number
read_handed_out number None = None

-- Sectors are handed out for the read, the first time: its answer, where the disks tell their content. Or none are: where they do, no read has
-- the number, its answer was handed out before, or it waits
abbrev pub HandsOut : (told : Bool) → Group → (taken : List Bool) → (number : ℕ) → Option (List Sector) → Type 0
HandsOut told g taken number (Some bytes) = (slice_get taken number ≡ Some false) × (IsTrue told → HasAnswer g.answered number bytes)
HandsOut told g taken number None = IsTrue told → slice_get taken number ≡ Some false → Every (λ a. a.number ≢ number) g.answered
