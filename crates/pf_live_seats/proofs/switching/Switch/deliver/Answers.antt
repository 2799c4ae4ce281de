use Rattle.std.proofs.Common.{◌<◌, arith, refl, sym, subst, ◌∙◌}
use Rattle.pf_shared.specs.Delivering.{DeliversLeft}
use Rattle.pf_shared.specs.Seats.{IsAlone, number_of, root_in, seen_by}
use Rattle.pf_live_seats.specs.Switches.{IsSwitch}
use Rattle.pf_live_seats.proofs.Deliveries.{delivered_finds, delivered_look, delivered_none, delivered_one, is_switch, looked_none}
use Rattle.pf_live_seats.proofs.switching.Switch.deliver.Goals as goal
use Rattle.pf_live_seats.proofs.switching.Switch.deliver.Goals.{then-is_passed_over, else-is_passed_over}

pub returns-in_err-told-clause-is : goal.returns-in_err-told-clause-is
returns-in_err-told-clause-is g c = let a = c.args.self.now in let line = c.args.line.now in let e = c.deliver_left.ensures in
    is_switch line.group line.cell line.plan.turns a _ e.seat.0 e.seat.1.0 refl c.requires.is.pass
    (delivered_finds line.plan.turns (root_in line.group) (seen_by a.begun.value) (number_of a.seat) (IsAlone a.seat) (seen_by a.seat) _ a.next a.made c.in_err-told.ensures.err c.requires.is.did)

pub overflow_add-self : goal.overflow_add-self
overflow_add-self g c = let a = c.args.self.now in let line = c.args.line.now in let root = root_in line.group in let n = number_of a.seat in let e = c.deliver_left.ensures in
    let d = subst (λ o. DeliversLeft root n (IsAlone a.seat) (seen_by a.seat) a.next o (seen_by c.deliver_left.new.seat)) c.in-Some.is c.in_ok-told.ensures.delivers in
    let low : c.in-Some.k < 65536 = d.2 in
    omega arith

pub returns-after-is_passed_over-clause-is : goal.returns-after-is_passed_over-clause-is
returns-after-is_passed_over-clause-is g c = let a = c.args.self.now in let line = c.args.line.now in let root = root_in line.group in let n = number_of a.seat in let e = c.deliver_left.ensures in let new = seen_by c.deliver_left.new.seat in
    let d = subst (λ o. DeliversLeft root n (IsAlone a.seat) (seen_by a.seat) a.next o new) c.in-Some.is c.in_ok-told.ensures.delivers in
    elim c.if-is_passed_over.branch [
      | then-is_passed_over w ↦ subst (IsSwitch line.group line.cell line.plan.turns) (sym w.self-is) (is_switch line.group line.cell line.plan.turns a _ e.seat.0 e.seat.1.0 refl c.requires.is.pass
          (delivered_none line.plan.turns root (seen_by a.begun.value) n (IsAlone a.seat) (seen_by a.seat) new a.next a.made c.in-Some.k c.in-Some.answer c.requires.is.did d.0 d.3 c.requires.few (sym c.is_passed_over.ensures ∙ w.if-is_passed_over.true)))
      | else-is_passed_over w ↦ subst (IsSwitch line.group line.cell line.plan.turns) (sym w.self-is) (is_switch line.group line.cell line.plan.turns a _ e.seat.0 e.seat.1.0 refl c.requires.is.pass
          (delivered_one line.plan.turns root (seen_by a.begun.value) n (IsAlone a.seat) (seen_by a.seat) new a.next a.made c.in-Some.k c.in-Some.answer c.requires.is.did d.0 d.3 c.requires.few (sym c.is_passed_over.ensures ∙ w.if-is_passed_over.false)))
    ]

pub returns-in_default-clause-is : goal.returns-in_default-clause-is
returns-in_default-clause-is g c = let a = c.args.self.now in let line = c.args.line.now in let e = c.deliver_left.ensures in
    is_switch line.group line.cell line.plan.turns a _ e.seat.0 e.seat.1.0 refl c.requires.is.pass
    (delivered_look line.plan.turns (root_in line.group) (seen_by a.begun.value) (number_of a.seat) (IsAlone a.seat) (seen_by a.seat) _ a.next a.made
    (looked_none (root_in line.group) (number_of a.seat) (IsAlone a.seat) (seen_by a.seat) a.next c.in_ok-told.told _ (λ k answer is. c.in_default.not-Some (k, answer) is) c.in_ok-told.ensures.delivers) c.requires.is.did)
