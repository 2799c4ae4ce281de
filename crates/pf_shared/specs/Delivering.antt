-- The least packet that is left is delivered.
use Rattle.std.specs.Prelude.{◌≡◌, ℕ, ◌<◌, ◌≤◌, IsTrue, List, Option, Some, None}
use Rattle.pf_turn.specs.declared.log.Stamped.{Stamped}
use Rattle.pf_protocol.specs.declared.answers.Answer.{Answer}
use Rattle.pf_protocol.specs.declared.events.Event.TheVariants.{Deliver}
use Rattle.pf_group_rounds.specs.pf_group.specs.GroupIs.{GroupIs}
use Rattle.pf_group_rounds.specs.pf_group.specs.Packets.{least_from}
use Rattle.pf_shared.specs.declared.moment.SeatMoment.{SeatMoment}
use Rattle.pf_shared.specs.Calls.{SeatSteps}
use Rattle.pf_shared.specs.Looks.{Looks}
use Rattle.pf_shared.specs.Since.{state_by_now}

-- One of the numbers of packets from the first on was delivered: that of the least one left, where its delivery stands in the list. Or none was
-- left. What was left is said of disks that tell their content
abbrev pub DeliversLeft : (root : GroupIs) (n : ℕ) (alone : Type 0) (seen : List (Stamped SeatMoment)) (first : ℕ) → Option (ℕ × Answer)
    → (new : List (Stamped SeatMoment)) → Type 0
DeliversLeft root n alone seen first (Some (k, answer)) new =
    (steps : SeatSteps root n alone seen (Deliver k) answer new) × (first ≤ k) × (k < 65536)
    × (IsTrue root.told → least_from first (state_by_now root steps.adds.found) ≡ Some k)
DeliversLeft root n alone seen first None new = Looks root n alone seen (λ g. least_from first g ≡ None) new
