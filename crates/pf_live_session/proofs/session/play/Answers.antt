use Rattle.std.proofs.Common.{subst}
use Rattle.std.specs.Prelude.{IfOk}
use Rattle.pf_live_line.specs.pf_group_rounds.proofs.GroupGrowth.{grown_trans}
use Rattle.pf_live_line.specs.pf_shared.specs.Seats.{root_in}
use Rattle.pf_live_line.specs.Rounds.{HasRun}
use Rattle.pf_live_session.proofs.GroupSessions.{has_applied, listed, lived, stopped_begun, stopped_there}
use Rattle.pf_live_session.proofs.session.play.Goals as goal

pub apply_all-requires-clause-none : goal.apply_all-requires-clause-none
apply_all-requires-clause-none g c κs within = c.close-group.ensures.none c.requires.none

pub returns-in_default-clause-stopped : goal.returns-in_default-clause-stopped
returns-in_default-clause-stopped g c =
    let line = c.args.line in let b = c.run_to_end-crew.result.0 in let is = c.run_to_end-crew.ensures.crew in let then = c.close-group.result.0 in let e = c.close-group.ensures in
    stopped_there line.plan line.group line.cell line.rings.items b is then (listed line.plan line.group line.cell line.rings.items b is then e.history e.grown e.taken (e.none c.requires.none))

pub returns-in_default-apply_all-clause-grown : goal.returns-in_default-apply_all-clause-grown
returns-in_default-apply_all-clause-grown g c = grown_trans (root_in c.args.line.group) c.close-group.result.0 c.apply_all.new.group c.close-group.ensures.grown c.apply_all.ensures.grown

pub returns-in_default-apply_all-clause-stopped : goal.returns-in_default-apply_all-clause-stopped
returns-in_default-apply_all-clause-stopped g c =
    let line = c.args.line in let b = c.run_to_end-crew.result.0 in let is = c.run_to_end-crew.ensures.crew in let then = c.close-group.result.0 in let e = c.close-group.ensures in
    stopped_begun line.plan line.group line.cell line.rings.items b is then c.apply_all.new.group (listed line.plan line.group line.cell line.rings.items b is then e.history e.grown e.taken (e.none c.requires.none)) c.apply_all.ensures.grown c.in_default-apply_all.ensures.begun

pub returns-clause-grown : goal.returns-clause-grown
returns-clause-grown g c = grown_trans (root_in c.args.line.group) c.close-group.result.0 c.apply_all.new.group c.close-group.ensures.grown c.apply_all.ensures.grown

pub returns-clause-lived : goal.returns-clause-lived
returns-clause-lived g c =
    let line = c.args.line in let b = c.run_to_end-crew.result.0 in let is = c.run_to_end-crew.ensures.crew in let then = c.close-group.result.0 in let e = c.close-group.ensures in
    let new = c.apply_all.new.group in let a = c.apply_all.ensures in let ok = c.in-Ok-apply_all.ensures in
    let run = subst (λ r. IfOk r (HasRun line.group line.cell line.plan line.rings.items c.args.crew b)) c.in-Ok.is c.run_to_end-crew.ensures.run in
    lived line.plan line.group line.cell line.rings.items b is c.args.crew then new _ c.requires.seats run (listed line.plan line.group line.cell line.rings.items b is then e.history e.grown e.taken (e.none c.requires.none)) e.met (e.first.0, e.first.1) e.first.2 e.served
    (has_applied then new _ a.grown a.taken a.none ok.run ok.applied ok.adds ok.closed) (c.totals-totals.ensures (root_in line.group) c.requires.began (grown_trans (root_in line.group) then new e.grown a.grown))
