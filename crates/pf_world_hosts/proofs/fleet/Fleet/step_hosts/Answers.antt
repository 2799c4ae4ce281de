use Rattle.std.proofs.Common.{◌≡◌, ◌<◌, length, arith, ap}
use Rattle.pf_mount_host.specs.pf_group.proofs.NextEvents.{on_err}
use Rattle.pf_world_hosts.specs.Steps.{FleetIs}
use Rattle.pf_world_hosts.proofs.Rows.{hosts_stopped, hosts_went, none_so_far, one_more}
use Rattle.pf_world_hosts.proofs.fleet.Fleet.step_hosts.Goals as goal

pub loop-mount-init : goal.loop-mount-init
loop-mount-init g c = none_so_far c.args.chunks.now c.args.self.now c.args.out.now.items c.requires.ready c.requires.fleet

pub loop-mount-preserved : goal.loop-mount-preserved
loop-mount-preserved g c =
    let now = c.loop-mount in
    one_more c.args.chunks.now c.args.self.now c.args.out.now.items now.mount now.chunks now.self now.out.items now.invariant
    c.step_host.new.chunks c.step_host.new.self c.step_host.new.out.items c.in_ok-step_host.ensures.went c.in_ok-step_host.ensures.same c.in_ok-step_host.ensures.stay

pub returns-in_err-step_host-clause-err : goal.returns-in_err-step_host-clause-err
returns-in_err-step_host-clause-err g c =
    let now = c.loop-mount in
    let low : now.mount < length c.args.self.now.hosts = omega (arith, c.loop-mount-test.true, c.len-mount-end.ensures, ap (λ (f : FleetIs). length f.hosts) c.self.view_is, c.self.inside.hosts.ok.0) in
    on_err c.from_residual.result _
    (hosts_stopped c.args.chunks.now c.args.self.now c.args.out.now.items now.mount now.chunks now.self now.out.items now.invariant c.step_host.new.chunks low c.in_err-step_host.ensures.err)

pub returns-clause-went : goal.returns-clause-went
returns-clause-went g c =
    let now = c.loop-mount in
    let all : now.mount ≡ length c.args.self.now.hosts = omega (arith, c.loop-mount-test.false, now.auto.mount-end, c.len-mount-end.ensures, ap (λ (f : FleetIs). length f.hosts) c.self.view_is, c.self.inside.hosts.ok.0) in
    hosts_went c.args.chunks.now c.args.self.now c.args.out.now.items now.mount now.chunks now.self now.out.items now.invariant all

pub returns-clause-same : goal.returns-clause-same
returns-clause-same g c = c.loop-mount.invariant.same

pub returns-clause-stay : goal.returns-clause-stay
returns-clause-stay g c = c.loop-mount.invariant.stay
