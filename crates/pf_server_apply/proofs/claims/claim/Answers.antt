use Rattle.std.proofs.Common.{arith, refl, subst, sym}
use Rattle.pf_server_memory.specs.Standing.{server_of}
use Rattle.pf_server_memory.specs.Turns.{IsAfter}
use Rattle.pf_server_apply.specs.Claims.{IsClaim, PlansClaim}
use Rattle.pf_server_apply.proofs.LeastClaims.{few_in_hand, roomy_after, roomy_bounded, roomy_cached, roomy_claim, roomy_plan}
use Rattle.pf_server_apply.proofs.FinishedJobs.{on_err}
use Rattle.pf_server_apply.proofs.claims.claim.Goals as goal

pub returns-in_default-clause-ok : goal.returns-in_default-clause-ok
returns-in_default-clause-ok c = λ d cached. (subst (PlansClaim d c.args.me.now) c.in_default.is (c.in_ok-plan.ensures d cached), refl)

pub overflow_add-me : goal.overflow_add-me
overflow_add-me c = let cached = c.requires.cached.1 in omega (arith, cached.jobs, few_in_hand c.args.me.now c.requires.bounded)

pub returns-in_err-reserve-clause-err : goal.returns-in_err-reserve-clause-err
returns-in_err-reserve-clause-err c =
    on_err c.from_residual-in_err-reserve.result _ (λ d cached. roomy_after c.args.me.now c.reserve.new.self c.reserve.ensures.same d c.reserve.ensures.kept cached)

pub take_in_hand-requires-clause-bounded : goal.take_in_hand-requires-clause-bounded
take_in_hand-requires-clause-bounded c = roomy_bounded c.args.me.now c.reserve.new.self c.reserve.ensures.same c.requires.bounded

pub take_in_hand-requires-clause-planned : goal.take_in_hand-requires-clause-planned
take_in_hand-requires-clause-planned c =
    let d = c.requires.cached.0 in
    let me = c.args.me.now in (
      d,
      roomy_cached me c.reserve.new.self c.reserve.ensures.same d c.reserve.ensures.kept c.requires.cached.1,
      roomy_plan me c.reserve.new.self c.reserve.ensures.same d c.in-Some.plan (subst (PlansClaim d me) c.in-Some.is (c.in_ok-plan.ensures d c.requires.cached.1)),
    )

pub returns-in_err-job-clause-err : goal.returns-in_err-job-clause-err
returns-in_err-job-clause-err c =
    let me = c.args.me.now in
    on_err c.from_residual-in_err-job.result _ (λ d cached.
    subst (λ m. IsAfter d me m (server_of d me)) (sym c.in_err-job.ensures.err) (roomy_after me c.reserve.new.self c.reserve.ensures.same d c.reserve.ensures.kept cached))

pub returns-clause-ok : goal.returns-clause-ok
returns-clause-ok c = λ d cached.
    let me = c.args.me.now in
    let room = c.reserve.new.self in
    let same = c.reserve.ensures.same in
    let plan = subst (PlansClaim d me) c.in-Some.is (c.in_ok-plan.ensures d cached) in
    subst (IsClaim d me c.take_in_hand.new.me) (sym c.in_ok-job.ensures.job) (record {
      least = plan.least;
      job_is = plan.job_is;
      after = roomy_claim me room same d c.take_in_hand.new.me c.in-Some.plan.job.slot
          (c.in_ok-job.ensures.after d (roomy_cached me room same d c.reserve.ensures.kept cached) (roomy_plan me room same d c.in-Some.plan plan));
    })
