use Rattle.pf_shared.specs.Seats.{IsSameSeat}
use Rattle.pf_live_seats.specs.Workers.{IsApplier}
use Rattle.pf_live_seats.proofs.applying.Applier.end.Given as goal

abbrev pub invariant-loop : goal.invariant-loop
invariant-loop g l = IsApplier l.line.group l.self × IsSameSeat l.initial.self.seat l.self.seat
