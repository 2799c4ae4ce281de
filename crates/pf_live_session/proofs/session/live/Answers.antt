use Rattle.std.proofs.Common.{◌≡◌, [], sym, subst}
use Rattle.std.specs.Prelude.{IfOk, OnErr}
use Rattle.pf_live_line.specs.pf_group.specs.GroupIs.{GroupIs}
use Rattle.pf_protocol.specs.Answers.{claims_of}
use Rattle.pf_live_line.specs.pf_group_rounds.specs.Growing.{HasGrown}
use Rattle.pf_live_line.specs.pf_group_rounds.proofs.GroupGrowth.{grown_refl}
use Rattle.pf_live_line.specs.pf_live_seats.specs.declared.plan.LinePlan.{LinePlan}
use Rattle.pf_live_session.specs.GroupSessions.{HasLived, LineHasStopped}
use Rattle.pf_live_session.specs.Totals.{IsBeginning}
use Rattle.pf_live_session.proofs.GroupSessions.{stopped_none}
use Rattle.pf_live_session.proofs.session.live.Goals as goal

pub play-requires-clause-seats : goal.play-requires-clause-seats
play-requires-clause-seats g c κs within = c.in-Ok.ensures.list.1

pub play-requires-clause-none : goal.play-requires-clause-none
play-requires-clause-none g c κs within = subst (λ (x : GroupIs). claims_of [] x.history ≡ []) (sym c.in-Ok.ensures.root.0) c.requires.none

pub play-requires-clause-began : goal.play-requires-clause-began
play-requires-clause-began g c κs within = subst (λ (x : GroupIs). IsBeginning x c.of-began.result) (sym c.in-Ok.ensures.root.0) c.of-began.ensures

pub returns-in-Ok-clause-grown : goal.returns-in-Ok-clause-grown
returns-in-Ok-clause-grown g c = subst (λ (x : GroupIs). HasGrown x c.play.result.0) c.in-Ok.ensures.root.0 c.play.ensures.grown

pub returns-in-Ok-clause-lived : goal.returns-in-Ok-clause-lived
returns-in-Ok-clause-lived g c =
    subst (λ (p : LinePlan). IfOk c.play.result.1 (λ its. HasLived p c.args.group its c.play.result.0)) c.in-Ok.ensures.root.1
    (subst (λ (x : GroupIs). IfOk c.play.result.1 (λ its. HasLived c.in-Ok.line.plan x its c.play.result.0)) c.in-Ok.ensures.root.0 c.play.ensures.lived)

pub returns-in-Ok-clause-stopped : goal.returns-in-Ok-clause-stopped
returns-in-Ok-clause-stopped g c =
    subst (λ (p : LinePlan). OnErr c.play.result.1 (LineHasStopped p c.args.group c.play.result.0)) c.in-Ok.ensures.root.1
    (subst (λ (x : GroupIs). OnErr c.play.result.1 (LineHasStopped c.in-Ok.line.plan x c.play.result.0)) c.in-Ok.ensures.root.0 c.play.ensures.stopped)

pub returns-in-Err-clause-grown : goal.returns-in-Err-clause-grown
returns-in-Err-clause-grown g c = subst (HasGrown c.args.group) (sym c.in-Err.ensures.back) (grown_refl c.args.group)

pub returns-in-Err-clause-stopped : goal.returns-in-Err-clause-stopped
returns-in-Err-clause-stopped g c = subst (LineHasStopped c.args.plan c.args.group) (sym c.in-Err.ensures.back) (stopped_none c.args.plan c.args.group c.requires.none)
