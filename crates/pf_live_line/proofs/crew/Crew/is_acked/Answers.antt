use Rattle.std.proofs.Common.{◌≡◌}
use Rattle.pf_live_seats.specs.pf_group_network.specs.Shown.{is_acked}
use Rattle.pf_live_line.proofs.FirstSeatEntries.{look_result, look_shows}
use Rattle.pf_live_line.proofs.crew.Crew.is_acked.Goals as goal

pub returns-clause-looked : goal.returns-clause-looked
returns-clause-looked g c = let line = c.args.line.now in let e = c.is_acked.ensures in look_result line.group line.cell line.plan line.rings.items c.args.self.now c.requires c.is_acked.new.seat e.seat.0 e.seat.1 (λ is g. is ≡ is_acked g c.args.term c.args.slot) c.is_acked.result e.look e.err

pub returns-clause-acked : goal.returns-clause-acked
returns-clause-acked g c = let line = c.args.line.now in let e = c.is_acked.ensures in look_shows line.group line.cell line.plan line.rings.items c.args.self.now c.requires c.is_acked.new.seat e.seat.0 e.seat.1 (λ is g. is ≡ is_acked g c.args.term c.args.slot) c.is_acked.result e.look
