use Rattle.std.proofs.Common.{sym, ◌∙◌}
use Rattle.pf_group_network.proofs.TurnOutcomes.{ends_err, ends_refusal, ends_step, has_stepped}
use Rattle.pf_group_network.proofs.network.Network.end.Goals as goal

pub returns-in_default-clause-step : goal.returns-in_default-clause-step
returns-in_default-clause-step g c setup grp turn t =
    ends_err g.S.Store.model setup grp c.args.server turn c.args.self.now c.args.out.now c.args.outcome t c.in_default.field-0 c.in_default.is

pub keep-requires-clause-stepped : goal.keep-requires-clause-stepped
keep-requires-clause-stepped g c =
    let q = c.requires in
    let x = has_stepped g.S.Store.model q.0 q.1.0 c.args.server q.1.1.0 c.args.self.now c.args.out.now c.args.outcome q.1.1.1 c.in-Ok.answer c.in-Ok.is (sym c.is_refused.ensures ∙ c.if-not-is_refused.true) in
    (q.0, (q.1.0, x))

pub returns-then-not-is_refused-clause-step : goal.returns-then-not-is_refused-clause-step
returns-then-not-is_refused-clause-step g c setup grp turn t =
    ends_step g.S.Store.model setup grp c.args.server turn c.args.self.now c.args.out.now c.args.outcome t c.in-Ok.answer c.in-Ok.is (sym c.is_refused.ensures ∙ c.if-not-is_refused.true) c.keep.new.self (λ o s. c.keep.ensures.shows setup grp o s)

pub returns-else-not-is_refused-clause-step : goal.returns-else-not-is_refused-clause-step
returns-else-not-is_refused-clause-step g c setup grp turn t =
    ends_refusal g.S.Store.model setup grp c.args.server turn c.args.self.now c.args.out.now c.args.outcome t c.in-Ok.answer c.in-Ok.is (sym c.is_refused.ensures ∙ c.if-not-is_refused.false)

pub keep-requires-clause-place : goal.keep-requires-clause-place
keep-requires-clause-place g c = c.requires.1.1.1.place
