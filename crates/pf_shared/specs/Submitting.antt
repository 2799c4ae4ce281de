-- A write is handed to a server.
use Rattle.std.specs.Prelude.{◌≡◌, ℕ, IsTrue, List, Result}
use Rattle.pf_turn.specs.declared.log.Stamped.{Stamped}
use Rattle.pf_entry.specs.declared.ops.Op.{Op}
use Rattle.pf_protocol.specs.declared.answers.Answer.{Answer}
use Rattle.pf_protocol.specs.declared.events.Event.TheVariants.{Submit}
use Rattle.pf_group_rounds.specs.pf_group.specs.declared.errors.Down.{Down}
use Rattle.pf_group_rounds.specs.pf_group.specs.GroupIs.{GroupIs}
use Rattle.pf_group_rounds.specs.pf_group.specs.Readers.{ServerTells}
use Rattle.pf_shared.specs.declared.moment.SeatMoment.{SeatMoment}
use Rattle.pf_shared.specs.Calls.{SeatSteps}
use Rattle.pf_shared.specs.Since.{state_by_now}

-- The write was answered, and the server had the term that is told, where the submission stands in the list, if the disks tell their content
abbrev pub HasSubmitted : (root : GroupIs) (n : ℕ) (alone : Type 0) (seen : List (Stamped SeatMoment)) (server : ℕ) → Op → Result ℕ Down × Answer
    → (new : List (Stamped SeatMoment)) → Type 0
HasSubmitted root n alone seen server op told new = (steps : SeatSteps root n alone seen (Submit server op) told.1 new)
    × (IsTrue root.told → ServerTells (state_by_now root steps.adds.found) server told.0 (λ term s. term ≡ s.durable.term))
