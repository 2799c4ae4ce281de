use Rattle.std.proofs.Common.{◌≡◌, ◌<◌, ap, arith}
use Rattle.pf_world_moments.specs.pf_group.proofs.NextEvents.{on_err}
use Rattle.pf_mount.specs.Nexts.{ports_of}
use Rattle.pf_mount_host.specs.Hosts.{HostIs}
use Rattle.pf_mount_host.proofs.Steps.{all_asked, asking, asking_longer, next_turn, no_turn, not_all_asked, same_ports, stopped_there, turn_ready}
use Rattle.pf_mount_host.proofs.host.Host.ask_all.Goals as goal

pub loop-port-init : goal.loop-port-init
loop-port-init g c = no_turn asking asking_longer c.args.routes.now c.args.chunks.now c.args.out.now.items c.args.self.now c.requires.ready

pub ask_on-requires-clause-port : goal.ask_on-requires-clause-port
ask_on-requires-clause-port g c =
    let now = c.loop-port in
    let same = same_ports asking asking_longer c.args.routes.now c.args.chunks.now c.args.out.now.items c.args.self.now now.port now.chunks now.out.items now.self now.invariant in
    omega (arith, c.loop-port-test.true, c.ports-port-end.ensures.ports, ap (λ (h : HostIs). ports_of h.mount) c.self.view_is, same)

pub ask_on-requires-clause-ready : goal.ask_on-requires-clause-ready
ask_on-requires-clause-ready g c κs within =
    let now = c.loop-port in
    turn_ready asking asking_longer c.args.routes.now c.args.chunks.now c.args.out.now.items c.args.self.now now.port now.chunks now.out.items now.self now.invariant c.requires.ready

pub loop-port-preserved : goal.loop-port-preserved
loop-port-preserved g c =
    let now = c.loop-port in
    next_turn asking asking_longer c.args.routes.now c.args.chunks.now c.args.out.now.items c.args.self.now now.port now.chunks now.out.items now.self now.invariant c.ask_on.new.chunks c.ask_on.new.out.items c.ask_on.new.self
    c.in_ok-ask_on.ensures.went

pub returns-in_err-ask_on-clause-err : goal.returns-in_err-ask_on-clause-err
returns-in_err-ask_on-clause-err g c =
    let now = c.loop-port in
    let host = c.args.self.now in
    let low : now.port < ports_of host.mount = omega (arith, c.loop-port-test.true, c.ports-port-end.ensures.ports, ap (λ (h : HostIs). ports_of h.mount) c.self.view_is) in
    on_err c.from_residual.result _
    (not_all_asked c.args.routes.now c.args.chunks.now c.args.out.now.items host c.ask_on.new.chunks
    (stopped_there asking asking_longer c.args.routes.now c.args.chunks.now c.args.out.now.items host now.port now.chunks now.out.items now.self now.invariant c.ask_on.new.chunks (ports_of host.mount) low c.in_err-ask_on.ensures.err))

pub returns-clause-went : goal.returns-clause-went
returns-clause-went g c =
    let now = c.loop-port in
    let host = c.args.self.now in
    let all : now.port ≡ ports_of host.mount = omega (arith, c.loop-port-test.false, now.auto.port-end, c.ports-port-end.ensures.ports, ap (λ (h : HostIs). ports_of h.mount) c.self.view_is) in
    all_asked c.args.routes.now c.args.chunks.now c.args.out.now.items host now.chunks now.out.items now.self now.port all now.invariant
