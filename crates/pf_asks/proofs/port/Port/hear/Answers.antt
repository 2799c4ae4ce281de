use Rattle.std.proofs.Common.{List, Some, sym, ap, subst, ◌∙◌}
use Rattle.pf_asks.specs.Desks.{DeskCall, CallsLead}
use Rattle.pf_asks.specs.Ports.{Hears, LooksFor, PortIs, reply_heard}
use Rattle.pf_asks.proofs.StepCalls.{hears_it}
use Rattle.pf_asks.proofs.port.Port.hear.Goals as goal

pub returns-in_default-2-clause-heard : goal.returns-in_default-2-clause-heard
returns-in_default-2-clause-heard g c =
    let looked = c.in_ok-reply.ensures.looked in
    let old = c.args.self.now in
    let here = subst (λ last. LooksFor c.in-Some.sent last looked.0 c.in_ok-reply.field-0) (ap (λ (p : PortIs). p.last) c.self.view_is) looked.2 in
    subst (λ reply. (calls : List DeskCall) × CallsLead g.K.Desk.says c.args.desk.now calls c.answer_of.new.desk × Hears old calls reply (reply_heard reply old)) c.in_default-2.is
    (hears_it g.K.Desk.says old c.in-Some.sent (sym (ap (λ (p : PortIs). p.sent) c.self.view_is) ∙ c.in-Some.is) c.args.desk.now c.answer_of.new.desk c.in_ok-reply.field-0 (looked.0, looked.1, here))

pub returns-clause-heard : goal.returns-clause-heard
returns-clause-heard g c =
    let looked = c.in_ok-reply.ensures.looked in
    let old = c.args.self.now in
    let says = g.K.Desk.says in
    let here = subst (λ last. LooksFor c.in-Some.sent last looked.0 c.in_ok-reply.field-0) (ap (λ (p : PortIs). p.last) c.self.view_is) looked.2 in
    subst (λ (p : PortIs). (calls : List DeskCall) × CallsLead says c.args.desk.now calls c.answer_of.new.desk × Hears old calls (Some c.in-Some-2.reply) (reply_heard (Some c.in-Some-2.reply) p)) (sym c.self.view_is)
    (subst (λ reply. (calls : List DeskCall) × CallsLead says c.args.desk.now calls c.answer_of.new.desk × Hears old calls reply (reply_heard reply old)) c.in-Some-2.is
    (hears_it says old c.in-Some.sent (sym (ap (λ (p : PortIs). p.sent) c.self.view_is) ∙ c.in-Some.is) c.args.desk.now c.answer_of.new.desk c.in_ok-reply.field-0 (looked.0, looked.1, here)))
