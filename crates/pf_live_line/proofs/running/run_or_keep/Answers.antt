use Rattle.std.proofs.Common.{sym, subst}
use Rattle.pf_live_crew.specs.Places.{Pairs}
use Rattle.pf_live_line.specs.Working.{IsSameWorker, IsWorker}
use Rattle.pf_live_line.proofs.WorkersMustered.{went_none}
use Rattle.pf_live_line.proofs.running.run_or_keep.Goals as goal

pub returns-in-Err : goal.returns-in-Err
returns-in-Err g c = let line = c.args.line.now in
    subst (λ v. Pairs (λ x y. IsWorker line.group line.cell line.plan line.rings.items y × IsSameWorker x y) c.args.workers.items v.items) (sym c.in-Err.ensures.back) (went_none line.group line.cell line.plan line.rings.items c.args.workers.items c.requires)
