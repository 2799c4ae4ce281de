use Rattle.std.proofs.Common.{ap}
use Rattle.pf_mount.specs.Mounts.{MountIs}
use Rattle.pf_mount_host.specs.Hosts.{HostIs, no_asks}
use Rattle.pf_mount_host.proofs.CallBegins.{is_made}
use Rattle.pf_mount_host.proofs.host.Host.new.Goals as goal

pub returns-clause-is_host : goal.returns-clause-is_host
returns-clause-is_host c =
    is_made c.args.layout c.args.number c.args.volume _ (ap (λ (m : MountIs). let host : HostIs = record { mount = m; at = no_asks } in host) c.in_ok-mount.ensures)
