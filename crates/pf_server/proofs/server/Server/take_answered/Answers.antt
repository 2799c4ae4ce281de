use Rattle.pf_server.proofs.ServerStands.{meets_here, with_answers}
use Rattle.pf_server.proofs.server.Server.take_answered.Goals as goal

pub returns-in_ok-number-in-Runs-clause-same : goal.returns-in_ok-number-in-Runs-clause-same
returns-in_ok-number-in-Runs-clause-same g c = λ s meets.
    with_answers g.S.Store.model c.args.self.now.seat c.args.self.now.store c.in-Runs.me c.take.new.self s c.in_ok-number-in-Runs.ensures.first.1
    (meets_here g.S.Store.model c.args.self.now.seat c.args.self.now.store c.args.self.now.state c.in-Runs.me s c.in-Runs.is meets)
