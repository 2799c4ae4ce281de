use Rattle.std.proofs.Common.{List, None, ap, subst, ◌∙◌}
use Rattle.pf_asks.specs.Desks.{DeskCall, CallsLead}
use Rattle.pf_asks.specs.Ports.{Hears, PortIs}
use Rattle.pf_asks.proofs.StepCalls.{leads_then, looks_alone, none_lower, on_err, unheard}
use Rattle.pf_asks.proofs.port.Port.drive.Goals as goal

pub lead-requires : goal.lead-requires
lead-requires g c =
    let says = g.K.Desk.says in
    let old = c.args.self.now in
    let ask = c.requires.pending.0 in
    let desk = c.args.desk.now in
    let none = subst (λ reply. (calls : List DeskCall) × CallsLead says desk calls c.hear.new.desk × Hears old calls reply c.hear.new.self) c.in_default.is c.in_ok-reply.ensures.heard in
    record { pending = (ask, ap (λ (p : PortIs). p.ask) (unheard says old ask desk c.hear.new.desk c.hear.new.self none) ∙ c.requires.pending.1) }

pub returns-clause-drove : goal.returns-clause-drove
returns-clause-drove g c = λ ask is.
    let says = g.K.Desk.says in
    let old = c.args.self.now in
    let desk = c.args.desk.now in
    let none = subst (λ reply. (calls : List DeskCall) × CallsLead says desk calls c.hear.new.desk × Hears old calls reply c.hear.new.self) c.in_default.is c.in_ok-reply.ensures.heard in
    let mid_asks = ap (λ (p : PortIs). p.ask) (unheard says old ask desk c.hear.new.desk c.hear.new.self none) ∙ is in
    leads_then says old ask desk c.hear.new.desk c.hear.new.self none c.lead.new.desk c.lead.new.self (c.in_ok-lead.ensures.led ask mid_asks)

pub returns-clause-never_lower : goal.returns-clause-never_lower
returns-clause-never_lower g c =
    none_lower g.K.Desk.says c.args.self.now c.requires.pending.0 c.args.desk.now c.lead.new.desk None c.lead.new.self (returns-clause-drove g c c.requires.pending.0 c.requires.pending.1)

pub returns-in_err-lead-clause-err : goal.returns-in_err-lead-clause-err
returns-in_err-lead-clause-err g c =
    let says = g.K.Desk.says in
    let old = c.args.self.now in
    let ask = c.requires.pending.0 in
    let desk = c.args.desk.now in
    let none = subst (λ reply. (calls : List DeskCall) × CallsLead says desk calls c.hear.new.desk × Hears old calls reply c.hear.new.self) c.in_default.is c.in_ok-reply.ensures.heard in
    let left = c.in_err-lead.ensures.err in
    on_err c.from_residual-in_err-lead.result _ (left.0 ∙ unheard says old ask desk c.hear.new.desk c.hear.new.self none, looks_alone says old ask desk c.hear.new.desk c.hear.new.self none c.lead.new.desk left.1)
