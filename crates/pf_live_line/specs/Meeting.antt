-- The two passes of each ring, once they have met.
use Rattle.std.specs.Prelude.{◌≡◌, ℕ, ◌+◌, List, [], ◌∷◌}
use Rattle.pf_turn.specs.Lists.{Begins}
use Rattle.pf_rings.specs.Passes.{put_by, taken_by}
use Rattle.pf_live_seats.specs.declared.hosting.HostSeat.{HostSeat}
use Rattle.pf_live_seats.specs.declared.line.HostRings.{HostRings}
use Rattle.pf_live_seats.specs.declared.plan.LinePlan.{LinePlan}
use Rattle.pf_live_seats.specs.declared.serving.Served.{Served}
use Rattle.pf_live_seats.specs.Submitters.{IsFed, IsServedIn}
use Rattle.pf_live_seats.specs.Writes.{IsHostIn}

-- of host h: what the server thread's pass took begins what the host's put, and is the host's first requests; and what the host's took of the
-- answers begins what the server thread's put
pub record IsMet (plan : LinePlan) (rings : List HostRings) (h : ℕ) (a : HostSeat) (s : Served) : Type 0 where
  pub number : a.host ≡ h
  pub host : IsHostIn plan rings a
  pub served : IsServedIn plan rings h s
  pub order : Begins (taken_by s.pass) (put_by a.pass)
  pub fed : IsFed plan.sectors h s
  pub answers : Begins (taken_by a.answers) (put_by s.answers)

-- of the hosts with the numbers from h on, and below `end`
abbrev pub AreMet : (plan : LinePlan) (rings : List HostRings) (end h : ℕ) → List HostSeat → List Served → Type 0
AreMet plan rings end h [] [] = h ≡ end
AreMet plan rings end h [] (s ∷ ss) = ⊥
AreMet plan rings end h (a ∷ xs) [] = ⊥
AreMet plan rings end h (a ∷ xs) (s ∷ ss) = IsMet plan rings h a s × AreMet plan rings end (h + 1) xs ss

-- nothing changes but what the passes know of the host's
abbrev pub IsSameServed : Served → Served → Type 0
IsSameServed s t = (taken_by t.pass ≡ taken_by s.pass) × (t.taken ≡ s.taken) × (t.standing ≡ s.standing) × (put_by t.answers ≡ put_by s.answers)
