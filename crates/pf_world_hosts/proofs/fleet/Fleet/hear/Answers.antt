use Rattle.std.proofs.Common.{IfSome, Some, Option, sym, subst}
use Rattle.std.proofs.lemmas.Result.{on_ok_weaker}
use Rattle.pf_move.specs.Movers.{MoverIs}
use Rattle.pf_world_hosts.specs.Moves.{HasTakenUp, on_reply}
use Rattle.pf_world_hosts.specs.Steps.{AreHostsOf, FleetIs}
use Rattle.pf_world_hosts.proofs.HostGroups.{hosts_of}
use Rattle.pf_world_hosts.proofs.MoverWishes.{heard_taken}
use Rattle.pf_world_hosts.proofs.fleet.Fleet.hear.Goals as goal

pub take_up-requires-clause-hosts : goal.take_up-requires-clause-hosts
take_up-requires-clause-hosts g c =
    let v : FleetIs = record { volume = c.self.inside.volume; layout = c.self.inside.layout; hosts = c.self.inside.hosts.items; calls = c.self.inside.calls; routes = c.self.inside.routes; mover = c.self.inside.mover } in
    hosts_of c.args.chunks.now v (Some c.next.new.self) (subst (AreHostsOf c.args.chunks.now) (sym c.self.view_is) c.requires.hosts)

pub returns-clause-heard : goal.returns-clause-heard
returns-clause-heard g c =
    let v : FleetIs = record { volume = c.self.inside.volume; layout = c.self.inside.layout; hosts = c.self.inside.hosts.items; calls = c.self.inside.calls; routes = c.self.inside.routes; mover = c.self.inside.mover } in
    let m : MoverIs = c.in-Some.mover in
    let old = c.args.chunks.now in let new = c.take_up.new.chunks in let next = c.take_up.new.self in
    let before = c.args.out.now.items in let after = c.take_up.new.out.items in
    on_ok_weaker c.take_up.result
    (λ taken.
    subst (λ (f : FleetIs). IfSome f.mover (λ (it : MoverIs). HasTakenUp (on_reply it c.args.reply) old f before new next after)) c.self.view_is
    (subst (λ (o : Option MoverIs). IfSome o (λ (it : MoverIs). HasTakenUp (on_reply it c.args.reply) old v before new next after)) (sym c.in-Some.is)
    (heard_taken old new v next m c.next.new.self c.args.reply c.in_ok-next.next before after c.in_ok-next.ensures.step taken)))
    c.take_up.ensures.taken
