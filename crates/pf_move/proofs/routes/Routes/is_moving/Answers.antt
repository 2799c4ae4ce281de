use Rattle.std.proofs.Common.{ap}
use Rattle.pf_move.specs.Routes.{RoutesIs}
use Rattle.pf_move.proofs.RouteFields.{is_moved}
use Rattle.pf_move.proofs.routes.Routes.is_moving.Goals as goal

pub returns-in-Some : goal.returns-in-Some
returns-in-Some c = is_moved c.args.self.now c.self.inside.moving c.in-Some.moving c.args.chunk (ap (λ (r : RoutesIs). r.moving) c.self.view_is) c.in-Some.is
