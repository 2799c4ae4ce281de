use Rattle.pf_tree.specs.Held.{data_of}
use Rattle.pf_file_calls.specs.Calls.{planned}
use Rattle.pf_mount.proofs.DataAsks.{can_propose}
use Rattle.pf_mount.proofs.plans.plans.Goals as goal

pub plans_as-requires : goal.plans_as-requires
plans_as-requires c =
    let stand = c.args.stand in
    let tables = c.args.tree.now.tables in
    let p = c.args.pending.now in
    let d = data_of c.args.tree.now.first tables in
    let law = c.planned_calls_follow_the_tree.ensures.spelled stand.mount stand.volume d tables p in
    can_propose c.in_ok-planned.planned (planned stand.mount stand.volume d tables p) c.in_ok-planned.ensures.planned (λ txn e. law txn c.laws.ensures.whole c.requires.tree.inodes c.requires.call e)
