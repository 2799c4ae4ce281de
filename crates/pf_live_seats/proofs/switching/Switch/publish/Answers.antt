use Rattle.std.proofs.Common.{◌≡◌, None, refl, subst}
use Rattle.pf_shared.specs.pf_group_network.specs.Shown.{IsLeader}
use Rattle.pf_shared.specs.Seats.{IsAlone, number_of, root_in, seen_by}
use Rattle.pf_shared.specs.Since.{state_by_now}
use Rattle.pf_live_seats.proofs.Deliveries.{delivered_finds, delivered_look, is_switch}
use Rattle.pf_live_seats.proofs.PublishedLeaders.{found_none, published_one, shown_now}
use Rattle.pf_live_seats.proofs.switching.Switch.publish.Goals as goal

pub returns-in_err-leader-clause-is : goal.returns-in_err-leader-clause-is
returns-in_err-leader-clause-is g c = let a = c.args.self.now in let line = c.args.line.now in let e = c.leader.ensures.told in
    is_switch line.group line.cell line.plan.turns a _ e.seat.0 e.seat.1.0 refl c.requires.pass
    (delivered_finds line.plan.turns (root_in line.group) (seen_by a.begun.value) (number_of a.seat) (IsAlone a.seat) (seen_by a.seat) _ a.next a.made c.in_err-leader.ensures.told.err c.requires.did)

pub returns-in-Some-clause-is : goal.returns-in-Some-clause-is
returns-in-Some-clause-is g c = let a = c.args.self.now in let line = c.args.line.now in let e = c.leader.ensures.told in
    is_switch line.group line.cell line.plan.turns a _ e.seat.0 e.seat.1.0 refl c.publish.ensures.pass
    (delivered_look line.plan.turns (root_in line.group) (seen_by a.begun.value) (number_of a.seat) (IsAlone a.seat) (seen_by a.seat) _ a.next a.made c.in_ok-leader.ensures.told.look.adds c.requires.did)

pub returns-in_default-clause-is : goal.returns-in_default-clause-is
returns-in_default-clause-is g c = let a = c.args.self.now in let line = c.args.line.now in let e = c.leader.ensures.told in
    is_switch line.group line.cell line.plan.turns a _ e.seat.0 e.seat.1.0 refl c.requires.pass
    (delivered_look line.plan.turns (root_in line.group) (seen_by a.begun.value) (number_of a.seat) (IsAlone a.seat) (seen_by a.seat) _ a.next a.made c.in_ok-leader.ensures.told.look.adds c.requires.did)

pub returns-in-Some-clause-published : goal.returns-in-Some-clause-published
returns-in-Some-clause-published g c = let a = c.args.self.now in let root = root_in c.args.line.now.group in let new = seen_by c.leader.new.seat in let e = c.publish.ensures in let l = c.in_ok-leader.ensures.told.look in
    published_one root new a.pass c.publish.new.pass c.in-Some.term c.in-Some.server
    (λ told. subst (IsLeader (state_by_now root new)) c.in-Some.is (shown_now root (number_of a.seat) (IsAlone a.seat) (seen_by a.seat) new (λ x. IsLeader x c.in_ok-leader.leader) l told)) e.published e.lower

pub returns-in_default-clause-published : goal.returns-in_default-clause-published
returns-in_default-clause-published g c = let a = c.args.self.now in let root = root_in c.args.line.now.group in let new = seen_by c.leader.new.seat in let l = c.in_ok-leader.ensures.told.look in let none : c.in_ok-leader.leader ≡ None = cc in
    found_none root new a.pass
    (λ told. subst (IsLeader (state_by_now root new)) none (shown_now root (number_of a.seat) (IsAlone a.seat) (seen_by a.seat) new (λ x. IsLeader x c.in_ok-leader.leader) l told))
