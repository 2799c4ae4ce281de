use Rattle.std.proofs.Common.{◌≡◌, ◌<◌, ℕ, List, length, get_or, Option, Some, None, slice_get, slice_set, refl, sym, ap, subst, ◌∙◌}
use Rattle.std.proofs.lemmas.Option.{slice_get_read}
use Rattle.std.proofs.lemmas.Result.{on_err_weaker, on_ok_weaker}
use Rattle.pf_mount_host.specs.pf_group_network.proofs.Lists.{set_same}
use Rattle.pf_mount_host.specs.pf_chunk.specs.Views.{ChunkIs}
use Rattle.pf_mount_host.specs.pf_world_moments.specs.Steps.{AreReady}
use Rattle.pf_mount_host.specs.Hosts.{HostIs}
use Rattle.pf_mount_host.specs.Steps.{HasNotStepped, HostHasStepped, IsAnchoredHostOf}
use Rattle.pf_world_hosts.specs.Steps.{AllStay, FleetIs, FleetHasGone, FleetHasStopped, IsFleetOf}
use Rattle.pf_world_hosts.specs.Volumes.{Hosts, host_at, host_steps, there}
use Rattle.pf_world_hosts.proofs.Steps.{fleet_with, host_stays, host_stopped, host_went, no_host}
use Rattle.pf_world_hosts.proofs.fleet.Fleet.step_host.Goals as goal

-- the hosts as they are held, and the place that was read
module _ (m : ℕ) (old : List ChunkIs) (v f : FleetIs) (same : v ≡ f) (is_fleet : IsFleetOf old f) (low : m < length f.hosts) (it : Option HostIs) (read : it ≡ get_or v.hosts m it) where
  of_these : IsFleetOf old v
  of_these = subst (IsFleetOf old) (sym same) is_fleet

  place_is : slice_get v.hosts m ≡ Some it
  place_is = slice_get_read v.hosts (length v.hosts) m it refl (subst (λ (x : FleetIs). m < length x.hosts) (sym same) low) read

  none_went : (out : List ℕ) → AreReady old → it ≡ None → FleetHasGone (λ halts v. host_steps halts m v) old f out old (record v { hosts = slice_set v.hosts m it }) out
  none_went out ready none =
      subst (λ (x : FleetIs). FleetHasGone (λ halts v. host_steps halts m v) old x out old (record v { hosts = slice_set v.hosts m it }) out) same
      (subst (λ (hosts : Hosts). FleetHasGone (λ halts v. host_steps halts m v) old v out old (record v { hosts = hosts }) out) (sym (set_same v.hosts m it place_is))
      (no_host m old v of_these out ready (ap (λ (o : Option (Option HostIs)). there o) place_is ∙ none)))

  module _ (host : HostIs) (is : it ≡ Some host) where
    at_it : host_at v.hosts m ≡ Some host
    at_it = ap (λ (o : Option (Option HostIs)). there o) place_is ∙ is

    its_host : IsAnchoredHostOf v.routes old host
    its_host = (of_these.are_hosts.each m host at_it).is_host

    one_went : (before after : List ℕ) (new : List ChunkIs) (next : HostIs) → HostHasStepped v.routes old before host new after next → FleetHasGone (λ halts v. host_steps halts m v) old f before new (fleet_with v m next) after
    one_went before after new next h =
        subst (λ (x : FleetIs). FleetHasGone (λ halts v. host_steps halts m v) old x before new (fleet_with v m next) after) same
        (host_went m old v of_these host at_it before after new next h)

    one_stays : (before after : List ℕ) (new : List ChunkIs) (next : HostIs) → HostHasStepped v.routes old before host new after next → AllStay old new
    one_stays before after new next h = host_stays m old v of_these host at_it before after new next h

    one_stopped : (new : List ChunkIs) → HasNotStepped v.routes old host new → FleetHasStopped (λ halts v. host_steps halts m v) old f new
    one_stopped new h = subst (λ (x : FleetIs). FleetHasStopped (λ halts v. host_steps halts m v) old x new) same (host_stopped m old v of_these host at_it new h)

pub returns-in_default-clause-went : goal.returns-in_default-clause-went
returns-in_default-clause-went g c =
    let v : FleetIs = record { volume = c.self.inside.volume; layout = c.self.inside.layout; hosts = c.self.inside.hosts.items; calls = c.self.inside.calls; routes = c.self.inside.routes; mover = c.self.inside.mover } in
    none_went c.args.mount c.args.chunks.now v c.args.self.now c.self.view_is c.requires.fleet c.requires.mount c.index_mut.result.now c.index_mut.ensures.value
    c.args.out.now.items c.requires.ready c.in_default.is

pub step-requires-clause-host : goal.step-requires-clause-host
step-requires-clause-host g c κs within =
    let v : FleetIs = record { volume = c.self.inside.volume; layout = c.self.inside.layout; hosts = c.self.inside.hosts.items; calls = c.self.inside.calls; routes = c.self.inside.routes; mover = c.self.inside.mover } in
    its_host c.args.mount c.args.chunks.now v c.args.self.now c.self.view_is c.requires.fleet c.requires.mount c.index_mut.result.now c.index_mut.ensures.value c.in-Some.host c.in-Some.is

pub returns-clause-went : goal.returns-clause-went
returns-clause-went g c =
    let v : FleetIs = record { volume = c.self.inside.volume; layout = c.self.inside.layout; hosts = c.self.inside.hosts.items; calls = c.self.inside.calls; routes = c.self.inside.routes; mover = c.self.inside.mover } in
    on_ok_weaker c.step.result
    (one_went c.args.mount c.args.chunks.now v c.args.self.now c.self.view_is c.requires.fleet c.requires.mount c.index_mut.result.now c.index_mut.ensures.value c.in-Some.host c.in-Some.is
    c.args.out.now.items c.step.new.out.items c.step.new.chunks c.step.new.self) c.step.ensures.went

pub returns-clause-stay : goal.returns-clause-stay
returns-clause-stay g c =
    let v : FleetIs = record { volume = c.self.inside.volume; layout = c.self.inside.layout; hosts = c.self.inside.hosts.items; calls = c.self.inside.calls; routes = c.self.inside.routes; mover = c.self.inside.mover } in
    on_ok_weaker c.step.result
    (one_stays c.args.mount c.args.chunks.now v c.args.self.now c.self.view_is c.requires.fleet c.requires.mount c.index_mut.result.now c.index_mut.ensures.value c.in-Some.host c.in-Some.is
    c.args.out.now.items c.step.new.out.items c.step.new.chunks c.step.new.self) c.step.ensures.went

pub returns-clause-err : goal.returns-clause-err
returns-clause-err g c =
    let v : FleetIs = record { volume = c.self.inside.volume; layout = c.self.inside.layout; hosts = c.self.inside.hosts.items; calls = c.self.inside.calls; routes = c.self.inside.routes; mover = c.self.inside.mover } in
    on_err_weaker c.step.result
    (one_stopped c.args.mount c.args.chunks.now v c.args.self.now c.self.view_is c.requires.fleet c.requires.mount c.index_mut.result.now c.index_mut.ensures.value c.in-Some.host c.in-Some.is
    c.step.new.chunks) c.step.ensures.err
