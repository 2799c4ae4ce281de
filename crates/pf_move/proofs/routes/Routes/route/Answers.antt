use Rattle.std.proofs.Common.{sym, ◌∙◌, ap, arith}
use Rattle.std.specs.Option.{option_map}
use Rattle.pf_move.specs.declared.routes.Route.{Route}
use Rattle.pf_move.proofs.RouteFields.{served_unmoved}
use Rattle.pf_move.proofs.routes.Routes.route.Goals as goal

pub returns-clause-served : goal.returns-clause-served
returns-clause-served c =
    let r = c.args.self.now in
    sym (ap (option_map (λ (route : Route). route.group)) c.last_route.ensures)
    ∙ sym (served_unmoved r.routes r.moving c.args.chunk (λ is. grind (arith, c.if-is_moving.false, c.is_moving.ensures.1 is)))
