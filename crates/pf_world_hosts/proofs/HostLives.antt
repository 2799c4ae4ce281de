-- Hosts come, begin calls and go.
use Rattle.std.proofs.Common.{◌≡◌, ◌≢◌, ◌⊎◌, ℕ, ◌+◌, ◌<◌, List, [], ◌∷◌, ◌++◌, length, Some, None, add-one, slice_set, length-append, inl, inr, refl, sym, ap, subst, ◌∙◌, arith}
use Rattle.pf_base.specs.declared.calls.Call.{Call}
use Rattle.pf_mount_host.specs.pf_group_network.proofs.Lists.{set_length}
use Rattle.pf_mount_host.specs.pf_chunk.specs.Runs.{mover_port}
use Rattle.pf_mount_host.specs.pf_chunk.specs.Views.{ChunkIs}
use Rattle.pf_mount_host.specs.pf_world_moments.specs.Parts.{AreQuiet}
use Rattle.pf_mount_host.specs.pf_world_moments.specs.Steps.{AreReady, chunk_runs}
use Rattle.pf_mount_host.specs.pf_world_moments.proofs.PortSteps.{gone_refl}
use Rattle.pf_mount.specs.declared.work.MountWork.{MountWork}
use Rattle.pf_mount.specs.declared.work.MountWork.TheVariants.{Rests, Fails, ReadsSuper, WritesSuper, Syncs, Ballots, Pauses, Moves}
use Rattle.pf_journal.specs.Layouts.{VolumeHasRoom}
use Rattle.pf_mount_host.specs.Calling.{HasBegunCall}
use Rattle.pf_mount_host.specs.Hosts.{HostIs, made_host, mount_number}
use Rattle.pf_mount_host.specs.Steps.{IsAnchoredHostOf}
use Rattle.pf_world_hosts.specs.Calls.{HasCalled, HasJoined}
use Rattle.pf_world_hosts.specs.Steps.{FleetIs, IsFleetOf, IsHostAt, volume_stands_at}
use Rattle.pf_world_hosts.specs.Volumes.{VolumeRun, host_at, volume_quietly, with_host}
use Rattle.pf_world_hosts.proofs.ChunkGrowth.{grown_refl_all}
use Rattle.pf_world_hosts.proofs.HostGroups.{fleet_keeps, fleet_with_host}
use Rattle.pf_world_hosts.proofs.HostPlaces.{last_is, none_put, others_joined, others_put}
use Rattle.pf_world_hosts.proofs.Ports.{same_ports}

-- Hosts come

-- the hosts and one more
abbrev pub with_new : FleetIs → HostIs → FleetIs
with_new f host = record f { hosts = f.hosts ++ Some host ∷ [] }

module _ (chunks : List ChunkIs) (f : FleetIs) (is : IsFleetOf chunks f) (ready : AreReady chunks) (room : VolumeHasRoom f.layout f.volume) (few : length f.hosts < 16) (host : HostIs) (made : host ≡ made_host f.layout (length f.hosts) f.volume)
    (is_host : f.volume.chunks ≡ length f.routes.routes → AreQuiet (length f.hosts) chunks → IsAnchoredHostOf f.routes chunks host) where
  one_more : length (with_new f host).hosts ≡ length f.hosts + 1
  one_more = length-append f.hosts (Some host ∷ [])

  new_is_host : IsHostAt chunks (with_new f host) (length f.hosts) host
  new_is_host =
      let none : host.mount.files.calls ≡ 0 = ap (λ (x : HostIs). x.mount.files.calls) made in record {
        number = ap (λ (x : HostIs). mount_number x.mount) made;
        volume = ap (λ (x : HostIs). x.mount.files.volume) made;
        is_host = is_host is.are_hosts.count (is.are_hosts.free (length f.hosts) (omega arith) few);
        calls = omega (arith, none);
      }

  joined_fleet : IsFleetOf chunks (with_new f host)
  joined_fleet = fleet_keeps (length f.hosts) chunks chunks f (with_new f host) (record {
    count = refl;
    stay = λ n other. same_ports n chunks;
    mover_stay = same_ports mover_port chunks;
    volume = refl;
    layout = refl;
    routes = (refl, refl);
    calls = omega arith;
    few = omega (arith, one_more, few);
    room = λ some. room;
    others = λ n other. others_joined f.hosts host n other;
    past = λ n other high. omega (arith, one_more, high);
    its = λ x at. subst (IsHostAt chunks (with_new f host) (length f.hosts)) (last_is f.hosts host x at) new_is_host;
    quiet = λ high under. absurd (omega (arith, one_more, high));
  }) is

  pub host_joined : HasJoined chunks f (length f.hosts) chunks (with_new f host)
  host_joined = record {
    number_is = refl;
    went = record {
      ready = ready;
      is_fleet = joined_fleet;
      grown = grown_refl_all chunks;
      told = [];
      put = refl;
      run = λ halts tells.
          let v : VolumeRun = volume_stands_at halts chunks f in
          ap (λ (h : HostIs). volume_quietly (record v { hosts = f.hosts ++ Some h ∷ [] })) (sym made);
    };
    layout = refl;
    count = one_more ∙ add-one (length f.hosts);
    volume = refl;
    routes = (refl, refl);
    calls = refl;
  }

-- They begin calls

rests_or_not : (work : MountWork) → (work ≡ Rests) ⊎ (work ≢ Rests)
rests_or_not Rests = inl refl
rests_or_not Fails = inr (λ e. absurd (cc))
rests_or_not ReadsSuper = inr (λ e. absurd (cc))
rests_or_not WritesSuper = inr (λ e. absurd (cc))
rests_or_not (Syncs looks) = inr (λ e. absurd (cc))
rests_or_not (Ballots input) = inr (λ e. absurd (cc))
rests_or_not (Pauses input left) = inr (λ e. absurd (cc))
rests_or_not (Moves moving) = inr (λ e. absurd (cc))

-- a mount that is not at work rests
pub it_rests : (work : MountWork) → ((work ≢ Rests) → ⊥) → work ≡ Rests
it_rests work not_at_work = elim (rests_or_not work) [ inl rests ↦ rests | inr works ↦ absurd (not_at_work works) ]

module _ (m : ℕ) (chunks : List ChunkIs) (f : FleetIs) (is : IsFleetOf chunks f) (host : HostIs) (at : host_at f.hosts m ≡ Some host) where
  -- fewer calls of it were begun than of all
  pub call_fits : (most : ℕ) → f.calls + 1 < most → host.mount.files.calls + 1 < most
  call_fits most few = omega (arith, few, (is.are_hosts.each m host at).calls)

  pub host_called : AreReady chunks → (call : Call (List ℕ)) (before after : List ℕ) (next : HostIs) → host.mount.task.work ≡ Rests → HasBegunCall call before host after next
      → HasCalled m call chunks f before chunks (record f { hosts = slice_set f.hosts m (Some next); calls = f.calls + 1 }) after
  host_called ready call before after next rests h =
      let here : IsHostAt chunks f m host = is.are_hosts.each m host at in record {
        host = host;
        there = at;
        rests = rests;
        file = h.file;
        read = h.read;
        went = record {
          ready = ready;
          is_fleet = fleet_with_host m chunks chunks f host next (f.calls + 1) is at (gone_refl m chunks) (h.is_host f.routes chunks here.is_host) (h.number ∙ here.number) (h.volume ∙ here.volume) (omega (arith, h.calls, here.calls)) (omega arith);
          grown = grown_refl_all chunks;
          told = h.told;
          put = h.put;
          run = λ halts tells. ap (with_host (volume_stands_at halts chunks f) m) (h.run (chunk_runs halts chunks));
        };
        layout = refl;
        count = set_length f.hosts m (Some next);
        volume = refl;
        routes = (refl, refl);
        calls = omega arith;
      }

-- They go

-- the hosts without that of mount m are still those of their volume
pub fleet_without : (m : ℕ) (chunks : List ChunkIs) (f : FleetIs) → IsFleetOf chunks f → IsFleetOf chunks (record f { hosts = slice_set f.hosts m None })
fleet_without m chunks f is =
    let g : FleetIs = record f { hosts = slice_set f.hosts m None } in
    let count : length g.hosts ≡ length f.hosts = set_length f.hosts m None in
    fleet_keeps m chunks chunks f g (record {
      count = refl;
      stay = λ n other. same_ports n chunks;
      mover_stay = same_ports mover_port chunks;
      volume = refl;
      layout = refl;
      routes = (refl, refl);
      calls = omega arith;
      few = omega (arith, count, is.are_hosts.few);
      room = λ some. is.are_hosts.room (λ none. some (count ∙ none));
      others = λ n other. others_put f.hosts m n None other;
      past = λ n other high. omega (arith, count, high);
      its = λ host at. let none = none_put f.hosts m in absurd (cc);
      quiet = λ high under. is.are_hosts.free m (omega (arith, count, high)) under;
    }) is
