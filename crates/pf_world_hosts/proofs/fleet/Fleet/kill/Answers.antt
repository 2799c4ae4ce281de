use Rattle.std.proofs.Common.{sym, subst}
use Rattle.pf_world_hosts.specs.Steps.{FleetIs, IsFleetOf}
use Rattle.pf_world_hosts.proofs.HostLives.{fleet_without}
use Rattle.pf_world_hosts.proofs.fleet.Fleet.kill.Goals as goal

pub returns-clause-still : goal.returns-clause-still
returns-clause-still c =
    let was : FleetIs = record { volume = c.self.inside.volume; layout = c.self.inside.layout; hosts = c.self.inside.hosts.items; calls = c.self.inside.calls; routes = c.self.inside.routes; mover = c.self.inside.mover } in
    λ chunks is. fleet_without c.args.mount chunks was (subst (IsFleetOf chunks) (sym c.self.view_is) is)
