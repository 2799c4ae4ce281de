-- Steps of the hosts of a volume, and of its mover.
use Rattle.std.proofs.Common.{◌≡◌, ℕ, List, [], Option, Some, None, slice_set, append-nil, sym, ap, subst, ◌∙◌, arith}
use Rattle.pf_mount_host.specs.pf_chunk.specs.Views.{ChunkIs}
use Rattle.pf_mount_host.specs.pf_world_moments.specs.Steps.{AreReady, HaveBegun, HaveGone}
use Rattle.pf_mount_host.specs.pf_world_moments.proofs.PortSteps.{gone_grown}
use Rattle.pf_mount_host.specs.Hosts.{HostIs, Stepped, mount_number}
use Rattle.pf_mount_host.specs.Steps.{HasNotStepped, HostHasStepped}
use Rattle.pf_world_hosts.specs.Steps.{AllStay, FleetIs, FleetHasGone, FleetHasStopped, IsFleetOf, volume_stands_at}
use Rattle.pf_world_hosts.specs.Volumes.{all_step, host_at, host_steps, hosts_step, mover_steps, host_step_of, with_host}
use Rattle.pf_world_hosts.proofs.ChunkGrowth.{gone_stays, grown_refl_all, mover_lengthens, stay_trans}
use Rattle.pf_world_hosts.proofs.HostGroups.{fleet_with_host}
use Rattle.pf_world_hosts.proofs.Parts.{stopped_on, then_stopped, went_on}

-- the hosts with this one in place m
abbrev pub fleet_with : FleetIs → (m : ℕ) → HostIs → FleetIs
fleet_with f m host = record f { hosts = slice_set f.hosts m (Some host) }

-- One host

module _ (m : ℕ) (old : List ChunkIs) (f : FleetIs) (is_fleet : IsFleetOf old f) where
  -- there is none
  pub no_host : (out : List ℕ) → AreReady old → host_at f.hosts m ≡ None → FleetHasGone (λ halts v. host_steps halts m v) old f out old f out
  no_host out ready none = record {
    ready = ready;
    is_fleet = is_fleet;
    grown = grown_refl_all old;
    told = [];
    put = sym (append-nil out);
    run = λ halts tells. ap (host_step_of halts m (volume_stands_at halts old f)) none;
  }

  module _ (host : HostIs) (at : host_at f.hosts m ≡ Some host) where
    number_is : mount_number host.mount ≡ m
    number_is = (is_fleet.are_hosts.each m host at).number

    module _ (before after : List ℕ) (new : List ChunkIs) (next : HostIs) (h : HostHasStepped f.routes old before host new after next) where
      gone_at : HaveGone m old new
      gone_at = subst (λ n. HaveGone n old new) number_is h.gone

      pub host_went : FleetHasGone (λ halts v. host_steps halts m v) old f before new (fleet_with f m next) after
      host_went =
          let is = is_fleet.are_hosts.each m host at in record {
            ready = h.ready;
            is_fleet = fleet_with_host m old new f host next f.calls is_fleet at gone_at h.is_host (h.number ∙ number_is) (h.volume ∙ is.volume) (omega (arith, h.calls, is.calls)) (omega arith);
            grown = gone_grown m old new gone_at;
            told = h.told;
            put = h.put;
            run = λ halts tells.
                ap (host_step_of halts m (volume_stands_at halts old f)) at
                ∙ ap (λ (s : Stepped). with_host (volume_stands_at halts old f) m s) (h.run halts tells);
          }

      pub host_stays : AllStay old new
      host_stays = gone_stays m old new gone_at

    pub host_stopped : (new : List ChunkIs) → HasNotStepped f.routes old host new → FleetHasStopped (λ halts v. host_steps halts m v) old f new
    host_stopped new h = record {
      grown = h.grown;
      begun = λ halts tells.
          subst (λ (it : Option HostIs). HaveBegun halts old (host_step_of halts m (volume_stands_at halts old f) it).volume.chunks new) (sym at) (h.begun halts tells);
    }

-- All hosts, and then the mover

module _ (old now : List ChunkIs) (f g : FleetIs) (before middle : List ℕ) (first : FleetHasGone hosts_step old f before now g middle) where
  pub all_went : (new : List ChunkIs) (last : FleetIs) (after : List ℕ) → FleetHasGone mover_steps now g middle new last after → FleetHasGone all_step old f before new last after
  all_went new last after second = went_on hosts_step mover_steps old now new f g last before middle after first second

  pub all_stay : AllStay old now → (new : List ChunkIs) (last : FleetIs) (after : List ℕ) → FleetHasGone mover_steps now g middle new last after → AllStay now new → AllStay old new
  all_stay one new last after second two = stay_trans old now new first.grown second.grown one two

  -- there was no memory for it
  pub mover_stopped : (new : List ChunkIs) → FleetHasStopped mover_steps now g new → FleetHasStopped all_step old f new
  mover_stopped new stopped = then_stopped hosts_step mover_steps old now new f g before middle first stopped

-- nor for the hosts
pub first_stopped : (old : List ChunkIs) (f : FleetIs) (new : List ChunkIs) → FleetHasStopped hosts_step old f new → FleetHasStopped all_step old f new
first_stopped old f new stopped = stopped_on hosts_step mover_steps old new f stopped mover_lengthens
