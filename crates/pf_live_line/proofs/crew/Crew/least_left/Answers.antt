use Rattle.std.proofs.Common.{◌≡◌}
use Rattle.pf_live_seats.specs.pf_group.specs.Packets.{least_from}
use Rattle.pf_live_line.proofs.FirstSeatEntries.{least_shows, look_result, look_shows}
use Rattle.pf_live_line.proofs.crew.Crew.least_left.Goals as goal

pub returns-clause-looked : goal.returns-clause-looked
returns-clause-looked g c = let line = c.args.line.now in let a = c.args.self.now in let e = c.left_from.ensures.told in look_result line.group line.cell line.plan line.rings.items a c.requires c.left_from.new.seat e.seat.0 e.seat.1 (λ left g. left ≡ least_from a.next g) c.left_from.result e.look e.err

pub returns-clause-left : goal.returns-clause-left
returns-clause-left g c = let line = c.args.line.now in let a = c.args.self.now in let e = c.left_from.ensures.told in
    let on = look_result line.group line.cell line.plan line.rings.items a c.requires c.left_from.new.seat e.seat.0 e.seat.1 (λ left g. left ≡ least_from a.next g) c.left_from.result e.look e.err in
    least_shows line.group line.cell line.plan line.rings.items (record a { seat = c.left_from.new.seat }) on.is c.left_from.result
    (look_shows line.group line.cell line.plan line.rings.items a c.requires c.left_from.new.seat e.seat.0 e.seat.1 (λ left g. left ≡ least_from a.next g) c.left_from.result e.look)
