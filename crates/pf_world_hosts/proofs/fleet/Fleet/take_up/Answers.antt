use Rattle.std.proofs.Common.{◌≡◌, IfSome, Some, None, Option, slice_get, slice_set, sym, ap, subst, ◌∙◌}
use Rattle.std.proofs.lemmas.Option.{slice_get-get_or}
use Rattle.pf_move.specs.declared.mover.MoveNext.{MoveNext}
use Rattle.pf_move.specs.declared.mover.MoveNext.TheVariants.{Switch}
use Rattle.pf_move.specs.declared.routes.Moving.{Moving}
use Rattle.pf_move.specs.Movers.{AsksFor, MoverIs}
use Rattle.pf_move.specs.Routes.{RoutesIs}
use Rattle.pf_world_hosts.specs.Moves.{HasTakenUp, IsOfPiece, mover_wants}
use Rattle.pf_world_hosts.specs.Steps.{FleetIs}
use Rattle.pf_world_hosts.proofs.MoverWishes.{from_there, none_asked, read_valid, reads_next, route_there, switches_next, to_there, with_switched, write_valid, writes_next}
use Rattle.pf_world_hosts.proofs.fleet.Fleet.take_up.Goals as goal

pub put-requires-clause-ready : goal.put-requires-clause-ready
put-requires-clause-ready g c =
    let f : FleetIs = c.args.self.now in let old = c.args.chunks.now in let moving = c.in-Some.moving in let route = c.last_route.result in
    let at : f.routes.moving ≡ Some moving = ap (λ (x : FleetIs). x.routes.moving) (sym c.self.view_is) ∙ sym c.in-Some.ensures.is in
    let found : slice_get f.routes.routes moving.chunk ≡ Some route = ap (λ (x : FleetIs). slice_get x.routes.routes moving.chunk) (sym c.self.view_is) ∙ c.last_route.ensures in
    (c.requires.ready route.group _ (slice_get-get_or old route.group c.index-chunks-last_route.result (from_there old f c.requires.hosts moving at route found))).1

pub put-requires-clause-none : goal.put-requires-clause-none
put-requires-clause-none g c =
    let f : FleetIs = c.args.self.now in let old = c.args.chunks.now in let moving = c.in-Some.moving in let route = c.last_route.result in
    let at : f.routes.moving ≡ Some moving = ap (λ (x : FleetIs). x.routes.moving) (sym c.self.view_is) ∙ sym c.in-Some.ensures.is in
    let found : slice_get f.routes.routes moving.chunk ≡ Some route = ap (λ (x : FleetIs). slice_get x.routes.routes moving.chunk) (sym c.self.view_is) ∙ c.last_route.ensures in
    none_asked old c.requires.quiet route.group _ (slice_get-get_or old route.group c.index-chunks-last_route.result (from_there old f c.requires.hosts moving at route found))

pub bounds-chunks-moving : goal.bounds-chunks-moving
bounds-chunks-moving g c =
    let f : FleetIs = c.args.self.now in
    let at : f.routes.moving ≡ Some c.in-Some.moving = ap (λ (x : FleetIs). x.routes.moving) (sym c.self.view_is) ∙ sym c.in-Some.ensures.is in
    to_there c.args.chunks.now f c.requires.hosts c.in-Some.moving at

pub put-requires-in-Write-clause-ready : goal.put-requires-in-Write-clause-ready
put-requires-in-Write-clause-ready g c =
    let f : FleetIs = c.args.self.now in let old = c.args.chunks.now in let moving = c.in-Some.moving in
    let at : f.routes.moving ≡ Some moving = ap (λ (x : FleetIs). x.routes.moving) (sym c.self.view_is) ∙ sym c.in-Some.ensures.is in
    (c.requires.ready moving.to _ (slice_get-get_or old moving.to c.index-chunks-moving.result (to_there old f c.requires.hosts moving at))).1

pub put-requires-in-Write-clause-none : goal.put-requires-in-Write-clause-none
put-requires-in-Write-clause-none g c =
    let f : FleetIs = c.args.self.now in let old = c.args.chunks.now in let moving = c.in-Some.moving in
    let at : f.routes.moving ≡ Some moving = ap (λ (x : FleetIs). x.routes.moving) (sym c.self.view_is) ∙ sym c.in-Some.ensures.is in
    none_asked old c.requires.quiet moving.to _ (slice_get-get_or old moving.to c.index-chunks-moving.result (to_there old f c.requires.hosts moving at))

pub put-requires-clause-valid : goal.put-requires-clause-valid
put-requires-clause-valid g c = read_valid c.args.self.now.mover c.in-Read.range c.requires.mover (subst (λ (next : MoveNext). IfSome c.args.self.now.mover (AsksFor next)) c.in-Read.is c.requires.asks)

pub put-requires-in-Write-clause-valid : goal.put-requires-in-Write-clause-valid
put-requires-in-Write-clause-valid g c =
    write_valid c.args.self.now.mover c.in-Write.range c.in-Write.payload c.requires.mover (subst (λ (next : MoveNext). IfSome c.args.self.now.mover (AsksFor next)) c.in-Write.is c.requires.asks)

pub returns-in-Read-clause-taken : goal.returns-in-Read-clause-taken
returns-in-Read-clause-taken g c =
    let f : FleetIs = c.args.self.now in let old = c.args.chunks.now in let moving = c.in-Some.moving in let route = c.last_route.result in
    let at : f.routes.moving ≡ Some moving = ap (λ (x : FleetIs). x.routes.moving) (sym c.self.view_is) ∙ sym c.in-Some.ensures.is in
    let found : slice_get f.routes.routes moving.chunk ≡ Some route = ap (λ (x : FleetIs). slice_get x.routes.routes moving.chunk) (sym c.self.view_is) ∙ c.last_route.ensures in
    let there = slice_get-get_or old route.group c.index-chunks-last_route.result (from_there old f c.requires.hosts moving at route found) in
    let of_chunk : moving.chunk ≡ c.args.chunk = subst (λ (m : Option Moving). IfSome m (λ m. m.chunk ≡ c.args.chunk)) at c.requires.chunk in
    let next_is = c.in-Read.is in
    subst (λ (next : MoveNext). IfSome f.mover (λ (m : MoverIs). HasTakenUp (mover_wants m next) old f c.args.out.now.items (slice_set old route.group c.put.new.self) f c.args.out.now.items)) (sym next_is)
    (reads_next old f moving route at found c.requires.hosts c.requires.ready c.requires.quiet c.args.chunk of_chunk _ c.put.new.self c.put.ensures.same c.put.ensures.ready c.args.out.now.items c.in-Read.range there c.put.ensures.put
    (subst (λ (next : MoveNext). IfSome f.mover (AsksFor next)) next_is c.requires.asks)
    (subst (λ (next : MoveNext). IfSome f.mover (IsOfPiece next)) next_is c.requires.piece)
    c.requires.pieces)

pub returns-in-Write-clause-taken : goal.returns-in-Write-clause-taken
returns-in-Write-clause-taken g c =
    let f : FleetIs = c.args.self.now in let old = c.args.chunks.now in let moving = c.in-Some.moving in
    let at : f.routes.moving ≡ Some moving = ap (λ (x : FleetIs). x.routes.moving) (sym c.self.view_is) ∙ sym c.in-Some.ensures.is in
    let route = route_there old f c.requires.hosts moving at in
    let there = slice_get-get_or old moving.to c.index-chunks-moving.result (to_there old f c.requires.hosts moving at) in
    let of_chunk : moving.chunk ≡ c.args.chunk = subst (λ (m : Option Moving). IfSome m (λ m. m.chunk ≡ c.args.chunk)) at c.requires.chunk in
    let next_is = c.in-Write.is in
    subst (λ (next : MoveNext). IfSome f.mover (λ (m : MoverIs). HasTakenUp (mover_wants m next) old f c.args.out.now.items (slice_set old moving.to c.put-in-Write.new.self) f c.args.out.now.items)) (sym next_is)
    (writes_next old f moving route.0 at route.1 c.requires.hosts c.requires.ready c.requires.quiet c.args.chunk of_chunk _ c.put-in-Write.new.self c.put-in-Write.ensures.same c.put-in-Write.ensures.ready c.args.out.now.items c.in-Write.range c.in-Write.payload there c.put-in-Write.ensures.put
    (subst (λ (next : MoveNext). IfSome f.mover (AsksFor next)) next_is c.requires.asks)
    (subst (λ (next : MoveNext). IfSome f.mover (IsOfPiece next)) next_is c.requires.piece)
    c.requires.pieces)

pub returns-in_ok-put_moved-in-Switch-clause-taken : goal.returns-in_ok-put_moved-in-Switch-clause-taken
returns-in_ok-put_moved-in-Switch-clause-taken g c =
    let v : FleetIs = record { volume = c.self.inside.volume; layout = c.self.inside.layout; hosts = c.self.inside.hosts.items; calls = c.self.inside.calls; routes = c.self.inside.routes; mover = c.self.inside.mover } in
    let f : FleetIs = c.args.self.now in let old = c.args.chunks.now in
    let taken = switches_next old f c.args.chunk c.requires.hosts c.requires.ready c.requires.quiet c.args.out.now.items c.put_moved.new.out.items c.in_ok-put_moved-in-Switch.ensures.ok c.requires.pieces in
    let g : FleetIs = record v { routes = c.switch.new.self; mover = None } in
    let is : with_switched f ≡ g = ap with_switched (sym c.self.view_is) ∙ ap (λ (r : RoutesIs). record v { routes = r; mover = None }) (sym c.switch.ensures.is) in
    subst (λ (next : MoveNext). IfSome f.mover (λ (m : MoverIs). HasTakenUp (mover_wants m next) old f c.args.out.now.items old g c.put_moved.new.out.items)) (sym c.in-Switch.is)
    (subst (λ (x : FleetIs). IfSome f.mover (λ (m : MoverIs). HasTakenUp (mover_wants m Switch) old f c.args.out.now.items old x c.put_moved.new.out.items)) is taken)
