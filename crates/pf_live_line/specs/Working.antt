-- Any worker of a live line.
use Rattle.std.specs.Prelude.{◌≡◌, List}
use Rattle.std.proofs.Common.{◌∙◌, refl}
use Rattle.pf_disk.specs.declared.disk.Disk.{Ghosts}
use Rattle.pf_leadercell.specs.declared.cell.LeaderCell.{LeaderCell}
use Rattle.pf_live_seats.specs.pf_shared.specs.declared.parts.GroupSeat.{GroupSeat}
use Rattle.pf_live_seats.specs.pf_shared.specs.declared.parts.SharedGroup.{SharedGroup}
use Rattle.pf_live_seats.specs.pf_shared.specs.Seats.{IsSameSeat}
use Rattle.pf_live_seats.specs.declared.applying.Applier.{Applier}
use Rattle.pf_live_seats.specs.declared.hosting.HostSeat.{HostSeat}
use Rattle.pf_live_seats.specs.declared.line.HostRings.{HostRings}
use Rattle.pf_live_seats.specs.declared.plan.LinePlan.{LinePlan}
use Rattle.pf_live_seats.specs.declared.submitting.Submitter.{Submitter}
use Rattle.pf_live_seats.specs.declared.switching.Switch.{Switch}
use Rattle.pf_live_line.specs.declared.worker.Worker.{Worker}
use Rattle.pf_live_line.specs.declared.worker.Worker.TheVariants as any
use Rattle.pf_live_seats.specs.Submitters.{IsSameSubmitter, IsSubmitter}
use Rattle.pf_live_seats.specs.Switches.{IsSameSwitch, IsSwitch}
use Rattle.pf_live_seats.specs.Workers.{IsApplier}
use Rattle.pf_live_seats.specs.Writes.{IsHostIn}

module _ {D : Type 0} {disk : Ghosts D} where
  abbrev pub IsWorker : SharedGroup D disk → LeaderCell → LinePlan → List HostRings → Worker D disk → Type 0
  IsWorker group cell plan rings (any.Host a) = IsHostIn plan rings a
  IsWorker group cell plan rings (any.Submit a) = IsSubmitter group cell plan rings a
  IsWorker group cell plan rings (any.Switch a) = IsSwitch group cell plan.turns a
  IsWorker group cell plan rings (any.Apply a) = IsApplier group a

  -- a worker stays of its kind, with its seat or its host
  abbrev pub IsSameWorker : Worker D disk → Worker D disk → Type 0
  IsSameWorker (any.Host x) (any.Host y) = y.host ≡ x.host
  IsSameWorker (any.Submit x) (any.Submit y) = IsSameSubmitter x y
  IsSameWorker (any.Switch x) (any.Switch y) = IsSameSwitch x y
  IsSameWorker (any.Apply x) (any.Apply y) = IsSameSeat x.seat y.seat
  IsSameWorker x y = ⊥

  pub same_worker : (x : Worker D disk) → IsSameWorker x x
  same_worker (any.Host x) = refl
  same_worker (any.Submit x) = ((refl, refl, refl, refl), refl)
  same_worker (any.Switch x) = ((refl, refl, refl, refl), refl)
  same_worker (any.Apply x) = (refl, refl, refl, refl)

  seat_on : (x y z : GroupSeat D disk) → IsSameSeat x y → IsSameSeat y z → IsSameSeat x z
  seat_on x y z p q = (q.0 ∙ p.0, q.1 ∙ p.1, q.2 ∙ p.2, q.3 ∙ p.3)

  host_on : (x y : HostSeat) (z : Worker D disk) → y.host ≡ x.host → IsSameWorker (any.Host y) z → IsSameWorker (any.Host x) z
  host_on x y (any.Host z) p q = q ∙ p
  host_on x y z p q = absurd q

  submitter_on : (x y : Submitter D disk) (z : Worker D disk) → IsSameSubmitter x y → IsSameWorker (any.Submit y) z → IsSameWorker (any.Submit x) z
  submitter_on x y (any.Submit z) p q = (seat_on x.seat y.seat z.seat p.0 q.0, q.1 ∙ p.1)
  submitter_on x y z p q = absurd q

  switch_on : (x y : Switch D disk) (z : Worker D disk) → IsSameSwitch x y → IsSameWorker (any.Switch y) z → IsSameWorker (any.Switch x) z
  switch_on x y (any.Switch z) p q = (seat_on x.seat y.seat z.seat p.0 q.0, q.1 ∙ p.1)
  switch_on x y z p q = absurd q

  applier_on : (x y : Applier D disk) (z : Worker D disk) → IsSameSeat x.seat y.seat → IsSameWorker (any.Apply y) z → IsSameWorker (any.Apply x) z
  applier_on x y (any.Apply z) p q = seat_on x.seat y.seat z.seat p q
  applier_on x y z p q = absurd q

  pub worker_on : (x y z : Worker D disk) → IsSameWorker x y → IsSameWorker y z → IsSameWorker x z
  worker_on (any.Host x) (any.Host y) z p q = host_on x y z p q
  worker_on (any.Submit x) (any.Submit y) z p q = submitter_on x y z p q
  worker_on (any.Switch x) (any.Switch y) z p q = switch_on x y z p q
  worker_on (any.Apply x) (any.Apply y) z p q = applier_on x y z p q
  worker_on x y z p q = absurd p
