use Rattle.std.proofs.Common.{◌≡◌, List, Some, None, [], refl, sym, subst}
use Rattle.std.specs.Prelude.{IfOk}
use Rattle.std.proofs.lemmas.Result.{IfOk-weaker, on_err_weaker}
use Rattle.pf_base.specs.declared.asks.Ask.{Ask}
use Rattle.pf_asks.specs.Desks.{DeskCall, CallsLead}
use Rattle.pf_asks.specs.Ports.{Hears}
use Rattle.pf_chunk.specs.declared.driving.PortStep.{PortStep}
use Rattle.pf_chunk.specs.Driving.{StepsBy}
use Rattle.pf_chunk.proofs.driving.take_step.Goals as goal

pub returns-in-Hear-clause-stepped : goal.returns-in-Hear-clause-stepped
returns-in-Hear-clause-stepped g c =
    let says = g.K.Desk.says in
    let port = c.args.port.now in
    let desk = c.args.desk.now in
    subst (λ (step : PortStep). IfOk c.hear.result (λ reply. (ask : Ask) → port.ask ≡ Some ask → (calls : List DeskCall) × CallsLead says desk calls c.hear.new.desk × StepsBy step port ask calls reply c.hear.new.self)) (sym c.in-Hear.is)
    (IfOk-weaker c.hear.result (λ reply. (calls : List DeskCall) × CallsLead says desk calls c.hear.new.desk × Hears port calls reply c.hear.new.self)
    (λ reply. (ask : Ask) → port.ask ≡ Some ask → (calls : List DeskCall) × CallsLead says desk calls c.hear.new.desk × Hears port calls reply c.hear.new.self) (λ reply heard ask is. heard) c.hear.ensures.heard)

pub returns-in-Hear-clause-err : goal.returns-in-Hear-clause-err
returns-in-Hear-clause-err g c = on_err_weaker c.hear.result (λ left. (left.0, ([], left.1, tt))) c.hear.ensures.err

pub returns-in-Drive-clause-stepped : goal.returns-in-Drive-clause-stepped
returns-in-Drive-clause-stepped g c =
    let says = g.K.Desk.says in
    let port = c.args.port.now in
    let desk = c.args.desk.now in
    subst (λ (step : PortStep). IfOk c.drive.result (λ reply. (ask : Ask) → port.ask ≡ Some ask → (calls : List DeskCall) × CallsLead says desk calls c.drive.new.desk × StepsBy step port ask calls reply c.drive.new.self)) (sym c.in-Drive.is) c.drive.ensures.drove

pub returns-in_ok-lead-in-Lead-clause-stepped : goal.returns-in_ok-lead-in-Lead-clause-stepped
returns-in_ok-lead-in-Lead-clause-stepped g c =
    let says = g.K.Desk.says in
    let port = c.args.port.now in
    let desk = c.args.desk.now in
    subst (λ (step : PortStep). (ask : Ask) → port.ask ≡ Some ask → (calls : List DeskCall) × CallsLead says desk calls c.lead.new.desk × StepsBy step port ask calls None c.lead.new.self) (sym c.in-Lead.is)
    (λ ask is. let led = c.in_ok-lead-in-Lead.ensures.led ask is in (led.0, led.1, (refl, led.2)))
