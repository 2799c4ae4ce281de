use Rattle.pf_server_leader.proofs.plans.range_at.Goals as goal
use Rattle.std.proofs.Common.{sym, ap, ◌∙◌}
use Rattle.pf_protocol.specs.Leading.{op_at, op_of}
use Rattle.pf_entry.specs.Ops.{range_of}

pub returns-in-Some : goal.returns-in-Some
unfolding op_at
returns-in-Some c = c.range.ensures ∙ ap (λ o. range_of (op_of o)) (sym c.in-Some.ensures.entry)

pub returns-in-None : goal.returns-in-None
unfolding op_at range_of
returns-in-None c = c.none.ensures ∙ ap (λ o. range_of (op_of o)) (sym c.in-None.ensures.entry)
