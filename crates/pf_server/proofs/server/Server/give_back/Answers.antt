use Rattle.pf_server.proofs.Bounds.{asks_here}
use Rattle.pf_server.proofs.FinishedJobs.{give_back_comes}
use Rattle.pf_server.proofs.ServerStands.{known_here, meets_here}
use Rattle.pf_server.proofs.server.Server.give_back.Goals as goal

pub end_undone-requires : goal.end_undone-requires
end_undone-requires g c =
    let me = c.in-Runs.me in
    let known = known_here g.S.Store.model c.args.self.now.seat c.args.self.now.store c.args.self.now.state me c.in-Runs.is c.requires in
    record { cached = (known.0.durable, known.1.stands.cached); asks = asks_here g.S.Store.model c.args.self.now.seat c.args.self.now.store me known.0 known.1 known.2 }

pub returns-in-Runs-clause-step : goal.returns-in-Runs-clause-step
returns-in-Runs-clause-step g c = λ s meets.
    give_back_comes g.S.Store.model c.args.self.now.seat c.args.self.now.store c.in-Runs.me c.end_undone.new.me s
    (meets_here g.S.Store.model c.args.self.now.seat c.args.self.now.store c.args.self.now.state c.in-Runs.me s c.in-Runs.is meets) c.args.life c.args.slot c.end_undone.ensures
