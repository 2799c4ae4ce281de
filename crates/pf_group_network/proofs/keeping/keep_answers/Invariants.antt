use Rattle.std.proofs.Common.{◌≡◌, ℕ, List, length}
use Rattle.pf_entry.specs.Ops.{Sector}
use Rattle.pf_protocol.specs.Servers.{Server as ServerIs, Running as RunningIs}
use Rattle.pf_server.specs.Conditions.{AreSized, Meets, untaken_answers}
use Rattle.pf_group_network.specs.declared.kept.Reading.{Reading}
use Rattle.pf_group_network.specs.Keeping.{HavePlaces, with_answers}
use Rattle.pf_group_network.proofs.keeping.keep_answers.Given as goal

-- some of the answers were moved
pub record AreMoving (old now : List Reading) (from left : List (ℕ × List Sector)) : Type 0 where
  pub readings : with_answers now left ≡ with_answers old from
  pub sized : AreSized left
  pub places : HavePlaces now left

abbrev pub invariant-loop-number : goal.invariant-loop-number
invariant-loop-number g l =
    AreMoving l.initial.readings.items l.readings.items (untaken_answers l.initial.server.state) (untaken_answers l.server.state)
    × (l.server.seat ≡ l.initial.server.seat) × (l.server.store ≡ l.initial.server.store)
    × ((s : ServerIs) → Meets g.S.Store.model l.initial.server.seat l.initial.server.store l.initial.server.state (RunningIs s) → Meets g.S.Store.model l.server.seat l.server.store l.server.state (RunningIs s))

abbrev pub decreases-loop-number : goal.decreases-loop-number
decreases-loop-number g l = length (untaken_answers l.server.state)
