use Rattle.std.proofs.Common.{◌≡◌, ◌<◌, List, Some, None, length, get_or, sym, ap, subst, ◌∙◌, arith}
use Rattle.std.proofs.lemmas.Option.{slice_get-get_or}
use Rattle.pf_world_moments.specs.pf_group_network.proofs.Lists.{something_there}
use Rattle.pf_world_moments.specs.pf_group_rounds.specs.Halts.{Halt}
use Rattle.pf_mount.specs.Mounts.{MountIs, mount_asked as having_asked}
use Rattle.pf_mount.specs.Nexts.{having_put, next_ask}
use Rattle.pf_mount.specs.Standing.{Awaits}
use Rattle.pf_world_moments.specs.pf_chunk.specs.Driving.{ask_at_port, port_asked}
use Rattle.pf_world_moments.specs.pf_chunk.specs.Views.{run_of}
use Rattle.pf_world_moments.proofs.MountOutcomes.{no_ask}
use Rattle.pf_move.specs.Routes.{home_of_chunk}
use Rattle.pf_mount_host.specs.Hosts.{HostIs, mount_number}
use Rattle.pf_mount_host.proofs.MountAsks.{Looks, asked_there, nothing_asked, nothing_there, port_free, was_asked}
use Rattle.pf_mount_host.proofs.PendingAsks.{few_ports}
use Rattle.pf_mount_host.proofs.host.Host.ask.Goals as goal

pub returns-in_default-clause-went : goal.returns-in_default-clause-went
returns-in_default-clause-went g c =
    let host = c.args.self.now in
    let port = c.args.port in
    let none = ap (λ (h : HostIs). next_ask h.mount h.at port) (sym c.self.view_is) ∙ sym c.in_ok-ask.ensures.ok ∙ c.in_default.is in
    nothing_asked c.args.routes.now c.args.chunks.now host _ port c.requires.ready none
    (nothing_there port host (record { mount = c.self.inside.mount; at = c.self.inside.at }) c.ask.new.self c.in_ok-ask.field-0 c.self.view_is c.in_ok-ask.ensures.asked c.in_default.is)

pub put-requires-clause-ready : goal.put-requires-clause-ready
put-requires-clause-ready g c =
    let k = c.home.result in
    (c.requires.ready.ready k _ (slice_get-get_or c.args.chunks.now k c.index-chunks-home.result (c.requires.ready.routed.within c.chunk-at.result k c.home.ensures))).1

pub put-requires-clause-none : goal.put-requires-clause-none
put-requires-clause-none g c =
    let host = c.args.self.now in
    let port = c.args.port in
    let ask = c.in-Some.ask in
    let is_next : next_ask host.mount host.at port ≡ Some ask = ap (λ (h : HostIs). next_ask h.mount h.at port) (sym c.self.view_is) ∙ sym c.in_ok-ask.ensures.ok ∙ c.in-Some.is in
    let looks : Looks host port ask = record {
      low = few_ports host.mount port c.requires.port;
      is = is_next;
      still = λ other apart. c.pending_asks_stay.ensures.asked host.mount port other (omega (arith, c.requires.port)) apart;
      silent = λ its. c.pending_asks_stay.ensures.silent host.mount port its;
      layout = c.layouts_stay.ensures.asked host.mount port;
    } in
    let number = c.number-number.ensures.number ∙ ap (λ (h : HostIs). mount_number h.mount) c.self.view_is in
    let k = c.home.result in
    let chunks = c.args.chunks.now in
    let c0 = get_or chunks k c.index-chunks-home.result in
    let there = slice_get-get_or chunks k c.index-chunks-home.result (c.requires.ready.routed.within c.chunk-at.result k c.home.ensures) in
    let home = subst (λ n. home_of_chunk c.args.routes.now n ≡ Some k) c.chunk-at.ensures c.home.ensures in
    subst (λ n. ask_at_port c0.ports n ≡ None) (sym number) (no_ask c0.ports (mount_number host.mount) (port_free c.args.routes.now chunks host port ask c.requires.ready looks k c0 c0 there home))

pub returns-clause-went : goal.returns-clause-went
returns-clause-went g c =
    let host = c.args.self.now in
    let port = c.args.port in
    let ask = c.in-Some.ask in
    let is_next : next_ask host.mount host.at port ≡ Some ask = ap (λ (h : HostIs). next_ask h.mount h.at port) (sym c.self.view_is) ∙ sym c.in_ok-ask.ensures.ok ∙ c.in-Some.is in
    let looks : Looks host port ask = record {
      low = few_ports host.mount port c.requires.port;
      is = is_next;
      still = λ other apart. c.pending_asks_stay.ensures.asked host.mount port other (omega (arith, c.requires.port)) apart;
      silent = λ its. c.pending_asks_stay.ensures.silent host.mount port its;
      layout = c.layouts_stay.ensures.asked host.mount port;
    } in
    let mount_is = ap (λ (h : HostIs). h.mount) c.self.view_is in
    let number = c.number-number.ensures.number ∙ ap (λ (m : MountIs). mount_number m) mount_is in
    let k = c.home.result in
    let chunks = c.args.chunks.now in
    let c0 = get_or chunks k c.index-chunks-home.result in
    let there = slice_get-get_or chunks k c.index-chunks-home.result (c.requires.ready.routed.within c.chunk-at.result k c.home.ensures) in
    let home = subst (λ n. home_of_chunk c.args.routes.now n ≡ Some k) c.chunk-at.ensures c.home.ensures in
    let few = subst (λ (m : MountIs). mount_number m < 16) mount_is c.self.invariant.0 in
    let count : mount_number host.mount < length c0.ports = omega (arith, few, (c.requires.ready.ready k c0 there).1.kept.ports_fit.count) in
    let its = something_there c0.ports (mount_number host.mount) count in
    let run = subst (λ n. (halts : List Halt) → run_of halts c.put.new.self ≡ port_asked (run_of halts c0) n ask) number c.put.ensures.put in
    let put = c.in_ok-ask.ensures.asked ∙ ap (having_put c.self.inside.mount port) c.in-Some.is in
    let awaits = subst (λ (m : MountIs). Awaits m port (Some ask)) (put ∙ ap (λ (m : MountIs). having_asked m port) mount_is) (subst (Awaits c.ask.new.self port) c.in-Some.is c.in_ok-ask.ensures.awaits) in
    was_asked c.args.routes.now chunks host port ask c.requires.ready looks k c0 c.put.new.self there home its.0 its.1 c.put.ensures.same run c.put.ensures.ready awaits _
    (asked_there port c.chunk-at.result host (record { mount = c.self.inside.mount; at = c.self.inside.at }) c.ask.new.self ask c.self.view_is put c.chunk-at.ensures)
