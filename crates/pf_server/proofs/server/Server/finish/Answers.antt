use Rattle.pf_server.proofs.Bounds.{asks_here, bounded_here}
use Rattle.pf_server.proofs.FinishedJobs.{finish_comes}
use Rattle.pf_server.proofs.ServerStands.{brings_here, known_here, meets_here}
use Rattle.pf_server.proofs.server.Server.finish.Goals as goal

pub end_job-requires : goal.end_job-requires
end_job-requires g c =
    let me = c.in-Runs.me in
    let known = known_here g.S.Store.model c.args.self.now.seat c.args.self.now.store c.args.self.now.state me c.in-Runs.is c.requires.order in
    record {
      cached = (known.0.durable, known.1.stands.cached);
      bounded = bounded_here g.S.Store.model c.args.self.now.seat c.args.self.now.store me known.0 known.1 known.2 c.requires.order.made.setup;
      job = brings_here g.S.Store.model c.args.self.now.seat c.args.self.now.store c.args.self.now.state me c.args.filled c.in-Runs.is c.requires.job;
      asks = asks_here g.S.Store.model c.args.self.now.seat c.args.self.now.store me known.0 known.1 known.2;
    }

pub returns-in-Runs-clause-step : goal.returns-in-Runs-clause-step
returns-in-Runs-clause-step g c = λ s meets.
    finish_comes g.S.Store.model c.args.self.now.seat c.args.self.now.store c.in-Runs.me c.end_job.new.me s
    (meets_here g.S.Store.model c.args.self.now.seat c.args.self.now.store c.args.self.now.state c.in-Runs.me s c.in-Runs.is meets)
    c.args.filled.life c.args.filled.slot c.end_job.result c.end_job.ensures.stale c.end_job.ensures.done
