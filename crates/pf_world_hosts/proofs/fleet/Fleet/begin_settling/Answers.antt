use Rattle.pf_world_hosts.proofs.SoFar.{begins}
use Rattle.pf_world_hosts.proofs.fleet.Fleet.begin_settling.Goals as goal

pub returns : goal.returns
returns g c = λ limit out. begins limit c.args.chunks.now c.args.self.now out c.begin_all.new.chunks c.requires.ready c.requires.fleet c.begin_all.ensures
