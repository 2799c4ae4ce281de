use Rattle.std.proofs.Common.{◌≡◌, None, subst}
use Rattle.pf_live_seats.specs.pf_group_network.specs.Shown.{IsLeader}
use Rattle.pf_live_seats.specs.pf_shared.specs.Seats.{root_in, seen_by}
use Rattle.pf_live_seats.specs.pf_shared.specs.Since.{state_by_now}
use Rattle.pf_live_line.proofs.HandedRequests.{published_none, published_some}
use Rattle.pf_live_line.proofs.crew.Crew.publish.Goals as goal

pub returns-in-Some-clause-published : goal.returns-in-Some-clause-published
returns-in-Some-clause-published g c = let root = root_in c.args.line.now.group in let b = c.leader.new.self in
    published_some root (seen_by b.seat) c.in-Some.term c.in-Some.server c.publish.new.pass (λ told. subst (IsLeader (state_by_now root (seen_by b.seat))) c.in-Some.is (c.in_ok-leader.ensures.leader told)) c.publish.ensures.reached

pub returns-in_default-clause-published : goal.returns-in_default-clause-published
returns-in_default-clause-published g c = let root = root_in c.args.line.now.group in let b = c.leader.new.self in let none : c.in_ok-leader.leader ≡ None = cc in
    published_none root (seen_by b.seat) b.first (λ told. subst (IsLeader (state_by_now root (seen_by b.seat))) none (c.in_ok-leader.ensures.leader told))
