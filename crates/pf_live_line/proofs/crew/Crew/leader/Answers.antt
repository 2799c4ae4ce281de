use Rattle.pf_live_seats.specs.pf_group_network.specs.Shown.{IsLeader}
use Rattle.pf_live_line.proofs.FirstSeatEntries.{look_result, look_shows}
use Rattle.pf_live_line.proofs.crew.Crew.leader.Goals as goal

pub returns-clause-looked : goal.returns-clause-looked
returns-clause-looked g c = let line = c.args.line.now in let e = c.leader.ensures.told in look_result line.group line.cell line.plan line.rings.items c.args.self.now c.requires c.leader.new.seat e.seat.0 e.seat.1 (λ leader g. IsLeader g leader) c.leader.result e.look e.err

pub returns-clause-leader : goal.returns-clause-leader
returns-clause-leader g c = let line = c.args.line.now in let e = c.leader.ensures.told in look_shows line.group line.cell line.plan line.rings.items c.args.self.now c.requires c.leader.new.seat e.seat.0 e.seat.1 (λ leader g. IsLeader g leader) c.leader.result e.look
