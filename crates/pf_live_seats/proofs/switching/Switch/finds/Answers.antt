use Rattle.std.proofs.Common.{refl}
use Rattle.pf_shared.specs.Seats.{IsAlone, number_of, root_in, seen_by}
use Rattle.pf_live_seats.proofs.Deliveries.{delivered_finds, delivered_look, is_switch}
use Rattle.pf_live_seats.proofs.switching.Switch.finds.Goals as goal

pub returns-in_err-left-clause-is : goal.returns-in_err-left-clause-is
returns-in_err-left-clause-is g c = let a = c.args.self.now in let line = c.args.line.now in let e = c.left_from.ensures.told in
    is_switch line.group line.cell line.plan.turns a _ e.seat.0 e.seat.1.0 refl c.requires.pass
    (delivered_finds line.plan.turns (root_in line.group) (seen_by a.begun.value) (number_of a.seat) (IsAlone a.seat) (seen_by a.seat) _ a.next a.made c.in_err-left.ensures.told.err c.requires.did)

pub returns-clause-is : goal.returns-clause-is
returns-clause-is g c = let a = c.args.self.now in let line = c.args.line.now in let e = c.left_from.ensures.told in
    is_switch line.group line.cell line.plan.turns a _ e.seat.0 e.seat.1.0 refl c.requires.pass
    (delivered_look line.plan.turns (root_in line.group) (seen_by a.begun.value) (number_of a.seat) (IsAlone a.seat) (seen_by a.seat) _ a.next a.made c.in_ok-left.ensures.told.look.adds c.requires.did)
