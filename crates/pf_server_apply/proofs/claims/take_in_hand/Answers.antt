use Rattle.std.proofs.Common.{◌≡◌, ◌+◌, ◌∙◌, arith, ap}
use Rattle.std.specs.FinMap
use Rattle.pf_server_apply.proofs.LeastClaims.{claimed_after, few_in_hand, undone}
use Rattle.pf_server_apply.proofs.FinishedJobs.{on_err}
use Rattle.pf_server_apply.proofs.claims.take_in_hand.Goals as goal

pub returns-in_err-keep_room-clause-err : goal.returns-in_err-keep_room-clause-err
returns-in_err-keep_room-clause-err c = on_err c.from_residual.result _ (λ i. record c.args.me.now { rooms = c.in_err-keep_room.ensures.err i })

pub returns-in-Err-clause-err : goal.returns-in-Err-clause-err
returns-in-Err-clause-err c =
    let me = c.args.me.now in
    let slot = c.args.plan.job.slot in
    let planned = c.requires.planned in
    let rooms : c.remove.new.self ≡ me.rooms =
    c.remove.ensures ∙ ap (λ m. FinMap.remove m slot) c.in_ok-keep_room.ensures.ok ∙ undone planned.0 me planned.1 slot c.args.plan.kept c.args.plan.room planned.2.least planned.2.room c.args.plan.room in
    λ i. record me { in_hand = c.in-Err.ensures.err i; rooms = rooms i }

pub overflow_add-me : goal.overflow_add-me
overflow_add-me c = let cached = c.requires.planned.1 in omega (arith, cached.jobs, few_in_hand c.args.me.now c.requires.bounded)

pub returns-clause-after : goal.returns-clause-after
returns-clause-after c d cached plan =
    claimed_after d c.args.me.now cached c.args.plan.job.slot c.args.plan.kept c.args.plan.room plan.least plan.room _ plan.kept c.requires.room
    (λ i. record c.args.me.now { in_hand = c.in_default.ensures.ok i; rooms = c.in_ok-keep_room.ensures.ok i; jobs = c.args.me.now.jobs + 1 })
