-- A host of which nothing was taken yet.
use Rattle.std.specs.Prelude.{◌≡◌}
use Rattle.pf_live_seats.specs.declared.serving.Served.{Served}
use Rattle.pf_live_seats.specs.declared.serving.Standing.TheVariants.{Settled}

abbrev pub ServedIsNew : Served → Type 0
ServedIsNew s = (s.taken ≡ 0) × (s.standing ≡ Settled)
