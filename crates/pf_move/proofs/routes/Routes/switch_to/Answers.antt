use Rattle.std.proofs.Common.{◌<◌, ◌≤◌, ◌∙◌, ap, subst, IfSome, Option, length, arith}
use Rattle.pf_move.specs.Routes.{RoutesIs}
use Rattle.pf_move.specs.declared.routes.Moving.{Moving}
use Rattle.pf_move.proofs.RouteFields.{switches}
use Rattle.pf_move.proofs.routes.Routes.switch_to.Goals as goal

pub returns : goal.returns
returns c =
    let P : Option Moving → Type 0 = λ o. IfSome o (λ m. m.chunk < c.self.inside.chunks) in
    let low : c.args.moving.chunk < c.self.inside.chunks = subst P (ap (λ (r : RoutesIs). r.moving) c.self.view_is ∙ c.requires) c.self.invariant.2 in
    let few : c.self.inside.chunks ≤ length c.self.inside.routes = omega (arith, c.self.invariant.0, c.self.invariant.1) in
    switches c.args.self.now c.self.inside.routes c.self.inside.chunks c.args.moving c.saturating_add.result few low (ap (λ (r : RoutesIs). r.routes) c.self.view_is) c.requires c.saturating_add.ensures
