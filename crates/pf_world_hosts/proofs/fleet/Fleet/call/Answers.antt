use Rattle.std.proofs.Common.{◌≡◌, ◌≢◌, ◌↔◌, ℕ, ◌+◌, ◌<◌, ◌^◌, List, length, get_or, Option, Some, None, Err, IsErrOf, slice_set, refl, sym, ap, subst, ◌∙◌, arith}
use Rattle.std.proofs.lemmas.Option.{slice_get_read}
use Rattle.std.proofs.lemmas.Result.{err_from_is_err_and}
use Rattle.pf_base.specs.declared.calls.Call.{Call}
use Rattle.pf_mount.specs.declared.faults.StartFault.{StartFault}
use Rattle.pf_mount.specs.declared.faults.StartFault.TheVariants.{NoMemory, BadName, CallPending}
use Rattle.pf_mount.specs.declared.work.MountWork.TheVariants.{Rests}
use Rattle.pf_mount_host.specs.pf_chunk.specs.Views.{ChunkIs}
use Rattle.pf_mount_host.specs.pf_world_moments.specs.Steps.{AreReady}
use Rattle.pf_mount_host.specs.Calling.{HasBegunCall}
use Rattle.pf_mount_host.specs.Hosts.{HostIs}
use Rattle.pf_mount_host.specs.pf_world_moments.specs.Words.{read_call}
use Rattle.pf_world_hosts.specs.Calls.{HasCalled, IsCause, call_fault}
use Rattle.pf_world_hosts.specs.Steps.{FleetIs, IsFleetOf}
use Rattle.pf_world_hosts.specs.Volumes.{host_at, there}
use Rattle.pf_world_hosts.proofs.HostLives.{call_fits, host_called, it_rests}
use Rattle.pf_world_hosts.proofs.fleet.Fleet.call.Goals as goal

-- a start is refused as pending exactly where the mount is at work
abbrev IsPendingAs : StartFault → HostIs → Type 0
IsPendingAs fault host = IsErrOf {T = Unit {0}} {E = StartFault} (Err fault) CallPending ↔ (host.mount.task.work ≢ Rests)

-- and as misnamed only where the words of the call have no reading
abbrev IsMisnamed : StartFault → Call (List ℕ) → Type 0
IsMisnamed fault call = IsErrOf {T = Unit {0}} {E = StartFault} (Err fault) BadName → read_call call ≡ None

-- the hosts as they are held, and the place that was read
module _ (m : ℕ) (old : List ChunkIs) (v f : FleetIs) (same : v ≡ f) (is_fleet : IsFleetOf old f) (low : m < length v.hosts) (it : Option HostIs) (read : it ≡ get_or v.hosts m it) (host : HostIs) (is : it ≡ Some host) where
  of_these : IsFleetOf old v
  of_these = subst (IsFleetOf old) (sym same) is_fleet

  at_it : host_at v.hosts m ≡ Some host
  at_it = ap (λ (o : Option (Option HostIs)). there o) (slice_get_read v.hosts (length v.hosts) m it refl low read) ∙ is

  its_calls : f.calls + 1 < 2 ^ 32 → host.mount.files.calls + 1 < 2 ^ 32
  its_calls few = call_fits m old v of_these host at_it (2 ^ 32) (subst (λ (x : FleetIs). x.calls + 1 < 2 ^ 32) (sym same) few)

  at_now : host_at f.hosts m ≡ Some host
  at_now = subst (λ (x : FleetIs). host_at x.hosts m ≡ Some host) same at_it

  cause_of : (fault : StartFault) (call : Call (List ℕ)) → IsPendingAs fault host → IsMisnamed fault call → IsCause (call_fault fault) m call f
  cause_of NoMemory call pending misnamed = (host, at_now)
  cause_of BadName call pending misnamed = (host, at_now, it_rests host.mount.task.work (λ works. let no = pending.1 works in cc), misnamed refl)
  cause_of CallPending call pending misnamed = (host, at_now, pending.0 refl)

  called : AreReady old → (call : Call (List ℕ)) (before after : List ℕ) (next : HostIs) → ((host.mount.task.work ≢ Rests) → ⊥) → HasBegunCall call before host after next
      → HasCalled m call old f before old (record v { hosts = slice_set v.hosts m (Some next); calls = v.calls + 1 }) after
  called ready call before after next rests h =
      subst (λ (x : FleetIs). HasCalled m call old x before old (record v { hosts = slice_set v.hosts m (Some next); calls = v.calls + 1 }) after) same
      (host_called m old v of_these host at_it ready call before after next (it_rests host.mount.task.work rests) h)

pub start-requires : goal.start-requires
start-requires g c =
    let v : FleetIs = record { volume = c.self.inside.volume; layout = c.self.inside.layout; hosts = c.self.inside.hosts.items; calls = c.self.inside.calls; routes = c.self.inside.routes; mover = c.self.inside.mover } in
    record { few = its_calls c.args.mount c.args.chunks.now v c.args.self.now c.self.view_is c.requires.fleet (omega arith) c.index_mut.result.now c.index_mut.ensures.value c.in-Some.host c.in-Some.is c.requires.few }

pub returns-in_err-start-clause-cause : goal.returns-in_err-start-clause-cause
returns-in_err-start-clause-cause g c =
    let v : FleetIs = record { volume = c.self.inside.volume; layout = c.self.inside.layout; hosts = c.self.inside.hosts.items; calls = c.self.inside.calls; routes = c.self.inside.routes; mover = c.self.inside.mover } in
    let fault : StartFault = c.in_err-start.field-0.0 in
    let p = err_from_is_err_and c.from_residual.result c.from_residual.ensures.1 in
    rw (p.1, p.2) (cause_of c.args.mount c.args.chunks.now v c.args.self.now c.self.view_is c.requires.fleet (omega arith) c.index_mut.result.now c.index_mut.ensures.value c.in-Some.host c.in-Some.is
    fault c.args.call.now c.in_err-start.ensures.pending c.in_err-start.ensures.bad_name)

pub returns-clause-called : goal.returns-clause-called
returns-clause-called g c =
    let v : FleetIs = record { volume = c.self.inside.volume; layout = c.self.inside.layout; hosts = c.self.inside.hosts.items; calls = c.self.inside.calls; routes = c.self.inside.routes; mover = c.self.inside.mover } in
    let out = c.args.out.now.items in
    let after = c.start.new.out.items in
    let next = c.start.new.self in
    called c.args.mount c.args.chunks.now v c.args.self.now c.self.view_is c.requires.fleet (omega arith) c.index_mut.result.now c.index_mut.ensures.value c.in-Some.host c.in-Some.is
    c.requires.ready c.args.call.now out after next (λ works. let no = c.in_ok-start.ensures.pending.1 works in cc)
    c.in_ok-start.ensures.began
