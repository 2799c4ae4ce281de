use Rattle.std.proofs.Common.{refl, arith}
use Rattle.pf_server.proofs.Bounds.{low_life}
use Rattle.pf_server.proofs.ServerStands.{known_here, meets_here, stopped_so}
use Rattle.pf_server.proofs.server.Server.stop.Goals as goal

pub overflow_add-life : goal.overflow_add-life
overflow_add-life g c =
    let known = known_here g.S.Store.model c.args.self.now.seat c.args.self.now.store c.args.self.now.state c.in-Runs.me c.in-Runs.is c.requires in
    omega (arith, low_life g.S.Store.model c.args.self.now.seat c.args.self.now.store c.in-Runs.me known.0 known.1 known.2)

pub returns-clause-step : goal.returns-clause-step
returns-clause-step g c = λ s meets. (
  refl,
  stopped_so g.S.Store.model c.args.self.now.seat c.args.self.now.store c.in-Runs.me s
      (meets_here g.S.Store.model c.args.self.now.seat c.args.self.now.store c.args.self.now.state c.in-Runs.me s c.in-Runs.is meets),
)
