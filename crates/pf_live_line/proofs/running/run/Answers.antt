use Rattle.std.proofs.Common.{◌+◌, ap, sym, subst, ◌∙◌}
use Rattle.pf_live_seats.specs.pf_shared.specs.Seats.{splits_of}
use Rattle.pf_live_line.specs.Crews.{AllEnded}
use Rattle.pf_live_line.proofs.WorkersMustered.{each_mustered, mustered_on}
use Rattle.pf_live_line.proofs.SeatsTakenIn.{neither}
use Rattle.pf_live_line.proofs.running.run.Goals as goal

pub run_or_keep-workers-requires-after_bounds : goal.run_or_keep-workers-requires-after_bounds
run_or_keep-workers-requires-after_bounds g c κs within = let line = c.args.line.now in let begun = c.of-begun.result.value in
    each_mustered line.group line.cell line.plan line.rings.items begun line.plan.hosts (splits_of begun + 3 + line.plan.workers) c.muster-first.result.1.items c.muster-first.ensures.workers

pub regroup-crew-requires-clause-workers : goal.regroup-crew-requires-clause-workers
regroup-crew-requires-clause-workers g c = let line = c.args.line.now in let begun = c.of-begun.result.value in
    mustered_on line.group line.cell line.plan line.rings.items begun line.plan.hosts (splits_of begun + 3 + line.plan.workers) c.muster-first.result.1.items c.run_or_keep-workers.result.0.items c.muster-first.ensures.workers c.run_or_keep-workers.ensures

pub returns-clause-ended : goal.returns-clause-ended
returns-clause-ended g c none old = c.regroup-crew.ensures.ended (neither c.regroup-crew.result.1 c.run_or_keep-workers.result.1 none) (subst (AllEnded c.args.line.now.plan) (sym c.of-begun.ensures) old)

pub returns-clause-seats : goal.returns-clause-seats
returns-clause-seats g c none = c.regroup-crew.ensures.seats ∙ ap (λ s. splits_of s + c.args.line.now.plan.workers + 2) c.of-begun.ensures
