use Rattle.std.proofs.Common.{◌≡◌, ◌∷◌, [], true, false, refl, rules, sym, ap, subst, ◌∙◌}
use Rattle.pf_asks.specs.Desks.{Led}
use Rattle.pf_asks.specs.Ports.{Hands, PortIs, goes_to}
use Rattle.pf_asks.proofs.StepCalls.{led_lower, led_nowhere, led_past, led_there, on_err}
use Rattle.pf_asks.proofs.port.Port.lead.Goals as goal

pub returns-in_default-clause-led : goal.returns-in_default-clause-led
returns-in_default-clause-led g c = λ ask is.
    led_nowhere g.K.Desk.says c.args.self.now ask c.args.desk.now c.leader.new.self (subst (λ l. g.K.Desk.says c.args.desk.now (Led l) c.leader.new.self) c.in_default.is c.in_ok-term.ensures.ok)

pub returns-else-goes-clause-led : goal.returns-else-goes-clause-led
returns-else-goes-clause-led g c = λ ask is.
    led_past g.K.Desk.says c.args.self.now ask c.args.desk.now c.leader.new.self c.in-Some.term c.in-Some.server (search rules)
    (subst (λ (p : PortIs). goes_to p.sent p.last c.in-Some.term ≡ false) c.self.view_is (sym c.goes.ensures ∙ c.if-goes.false))

pub returns-in_ok-sent-clause-led : goal.returns-in_ok-sent-clause-led
returns-in_ok-sent-clause-led g c = λ ask is.
    let same : c.in-Some-ask.ask ≡ ask = search rules in
    let handed = c.in_ok-sent.ensures.handed in
    led_there g.K.Desk.says c.args.self.now ask c.args.desk.now c.leader.new.self c.hand.new.desk _ c.in-Some.term c.in-Some.server c.in_ok-sent.sent (search rules)
    (subst (λ (p : PortIs). goes_to p.sent p.last c.in-Some.term ≡ true) c.self.view_is (sym c.goes.ensures ∙ c.if-goes.true))
    (handed.0, handed.1, subst (λ a. Hands a c.in-Some.server handed.0 c.in_ok-sent.sent) same handed.2)
    (ap (λ (p : PortIs). let q : PortIs = record p { sent = c.in_ok-sent.sent; last = c.in-Some.term } in q) c.self.view_is)

-- where the ask could not be handed, the leader alone was asked for
pub returns-in_err-sent-clause-err : goal.returns-in_err-sent-clause-err
returns-in_err-sent-clause-err g c =
    on_err c.from_residual-in_err-sent.result _
    (refl, (Led c.in_ok-term.field-0 ∷ [], (c.leader.new.self, c.in_ok-term.ensures.ok, c.in_err-sent.ensures.err), (tt, tt)))

pub returns-in_default-clause-never_lower : goal.returns-in_default-clause-never_lower
returns-in_default-clause-never_lower g c =
    led_lower g.K.Desk.says c.args.self.now c.requires.pending.0 c.args.desk.now c.leader.new.self c.args.self.now (returns-in_default-clause-led g c c.requires.pending.0 c.requires.pending.1)

pub returns-else-goes-clause-never_lower : goal.returns-else-goes-clause-never_lower
returns-else-goes-clause-never_lower g c =
    led_lower g.K.Desk.says c.args.self.now c.requires.pending.0 c.args.desk.now c.leader.new.self c.args.self.now (returns-else-goes-clause-led g c c.requires.pending.0 c.requires.pending.1)

pub returns-in_ok-sent-clause-never_lower : goal.returns-in_ok-sent-clause-never_lower
returns-in_ok-sent-clause-never_lower g c =
    led_lower g.K.Desk.says c.args.self.now c.requires.pending.0 c.args.desk.now c.hand.new.desk _ (returns-in_ok-sent-clause-led g c c.requires.pending.0 c.requires.pending.1)
