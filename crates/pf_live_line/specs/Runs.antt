-- What the entries of one run's seats are.
use Rattle.std.specs.Prelude.{◌≡◌, ◌⊎◌, ℕ, ◌+◌, ◌<◌, ◌≤◌, [], ◌∷◌, ◌++◌, length}
use Rattle.pf_turn.specs.Lists.{Begins}
use Rattle.pf_live_seats.specs.pf_group.specs.GroupIs.{GroupIs}
use Rattle.pf_live_seats.specs.pf_shared.specs.declared.moment.SeatMoment.{SeatMoment}
use Rattle.pf_live_seats.specs.pf_shared.specs.Moments.{entry}
use Rattle.pf_live_seats.specs.declared.plan.LinePlan.{LinePlan}
use Rattle.pf_live_seats.specs.Deliveries.{LiveTrace}
use Rattle.pf_live_seats.specs.Roles.{Applies}
use Rattle.pf_live_seats.specs.Switches.{Delivers}

-- A run began after the list `begun`, when k seats had been split. The first of its seats submits: each entry of it stands in what that
-- seat has seen. The second delivers, and the others apply
abbrev pub IsOfRun : (plan : LinePlan) (root : GroupIs) (begun : LiveTrace) (k : ℕ) (submitted : LiveTrace) (n : ℕ) → LiveTrace → SeatMoment → Type 0
IsOfRun plan root begun k submitted n before what = ((n ≡ k + 1) × Begins (before ++ entry n what ∷ []) submitted)
    ⊎ (((n ≡ k + 2) × Delivers plan.turns root begun n before what) ⊎ ((k + 2 < n) × (n ≤ k + plan.workers + 2) × Applies before what))

-- an entry of the run, or one that stood before it
abbrev pub IsSince : (plan : LinePlan) (root : GroupIs) (begun : LiveTrace) (k : ℕ) (submitted : LiveTrace) (n : ℕ) → LiveTrace → SeatMoment → Type 0
IsSince plan root begun k submitted n before what = (length before < length begun) ⊎ IsOfRun plan root begun k submitted n before what
