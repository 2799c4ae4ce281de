use Rattle.pf_server_leader.proofs.Proposals.{roomier_slot}
use Rattle.pf_server_leader.proofs.submits.reserve_slot.Goals as goal

pub returns-in_err-reserve-clause-same : goal.returns-in_err-reserve-clause-same
returns-in_err-reserve-clause-same c = roomier_slot _ c.in-Serving.leader c.reserve.new.self c.in-Serving.is c.reserve.ensures.base c.reserve.ensures.count c.reserve.ensures.acks

pub returns-in_ok-reserve-clause-same : goal.returns-in_ok-reserve-clause-same
returns-in_ok-reserve-clause-same c = roomier_slot _ c.in-Serving.leader c.reserve.new.self c.in-Serving.is c.reserve.ensures.base c.reserve.ensures.count c.reserve.ensures.acks
