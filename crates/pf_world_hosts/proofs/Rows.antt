-- Hosts take their steps, one after another.
use Rattle.std.proofs.Common.{◌≡◌, ℕ, ◌+◌, ◌-◌, ◌<◌, List, [], ◌∷◌, ◌++◌, length, append-nil, append_assoc, refl, sym, ap, ◌∙◌, arith}
use Rattle.std.specs.List.{range_with_len}
use Rattle.pf_mount_host.specs.pf_group_rounds.specs.Halts.{Halt}
use Rattle.pf_mount_host.specs.pf_chunk.specs.Views.{ChunkIs}
use Rattle.pf_mount_host.specs.pf_world_moments.specs.Moments.{Moment}
use Rattle.pf_mount_host.specs.pf_world_moments.specs.Steps.{AreReady}
use Rattle.pf_world_hosts.specs.Steps.{AllStay, AreSameHosts, FleetIs, FleetHasGone, FleetHasStopped, IsFleetOf, FleetPart, volume_stands_at}
use Rattle.pf_world_hosts.specs.Volumes.{VolumeTold, VolumeRun, after_telling, volume_followed, host_steps, hosts_step, these_step}
use Rattle.pf_world_hosts.proofs.ChunkGrowth.{stay_refl, stay_trans, these_lengthen}
use Rattle.pf_world_hosts.proofs.Lists.{range_parts}
use Rattle.pf_world_hosts.proofs.Parts.{gone_as, nothing_went, stopped_as, stopped_on, then_stopped, went_on}

pub same_refl : (f : FleetIs) → AreSameHosts f f
same_refl f = record { volume = refl; layout = refl; count = refl; calls = refl }

pub same_trans : (f g h : FleetIs) → AreSameHosts f g → AreSameHosts g h → AreSameHosts f h
same_trans f g h first second = record { volume = second.volume ∙ first.volume; layout = second.layout ∙ first.layout; count = second.count ∙ first.count; calls = second.calls ∙ first.calls }

after_all : (a b : List Moment) (t : VolumeTold) → after_telling a (after_telling b t) ≡ after_telling (a ++ b) t
after_all a b t = ap (λ told. record { volume = t.volume; told = told }) (sym (append_assoc a b t.told))

-- some take their steps, and then more
parts : (halts : List Halt) (ms ns : List ℕ) (v : VolumeRun) → these_step halts (ms ++ ns) v ≡ volume_followed (these_step halts ms v) (these_step halts ns)
parts halts [] ns v = refl
parts halts (m ∷ ms) ns v =
    let first : VolumeTold = host_steps halts m v in
    let rest : VolumeTold = these_step halts ms first.volume in
    ap (λ (t : VolumeTold). after_telling first.told t) (parts halts ms ns first.volume)
    ∙ after_all first.told rest.told (these_step halts ns rest.volume)

alone : (halts : List Halt) (m : ℕ) (v : VolumeRun) → these_step halts (m ∷ []) v ≡ host_steps halts m v
alone halts m v = ap (λ told. record { volume = (host_steps halts m v).volume; told = told }) (append-nil (host_steps halts m v).told)

-- the first so many take their steps
abbrev firsts : (n : ℕ) → FleetPart
firsts n halts v = these_step halts (range_with_len 0 n) v

-- and one more
more : (halts : List Halt) (n : ℕ) (v : VolumeRun) → firsts (n + 1) halts v ≡ volume_followed (firsts n halts v) (λ w. host_steps halts n w)
more halts n v =
    let first : VolumeTold = firsts n halts v in
    let here : 0 + n ≡ n = omega arith in
    ap (λ ms. these_step halts ms v) (range_parts 0 n 1 ∙ ap (λ k. range_with_len 0 n ++ k ∷ []) here)
    ∙ parts halts (range_with_len 0 n) (n ∷ []) v
    ∙ ap (λ (t : VolumeTold). after_telling first.told t) (alone halts n first.volume)

hosts_are : (f : FleetIs) (old : List ChunkIs) (halts : List Halt) → hosts_step halts (volume_stands_at halts old f) ≡ firsts (length f.hosts) halts (volume_stands_at halts old f)
unfolding hosts_step
hosts_are f old halts = refl

-- those below n took their steps
pub record HaveSoFar (old : List ChunkIs) (f : FleetIs) (before : List ℕ) (n : ℕ) (now : List ChunkIs) (g : FleetIs) (after : List ℕ) : Type 0 where
  pub went : FleetHasGone (firsts n) old f before now g after
  pub same : AreSameHosts f g
  pub stay : AllStay old now

pub none_so_far : (old : List ChunkIs) (f : FleetIs) (out : List ℕ) → AreReady old → IsFleetOf old f → HaveSoFar old f out 0 old f out
none_so_far old f out ready is_fleet = record {
  went = nothing_went (firsts 0) old f out ready is_fleet (λ halts. refl);
  same = same_refl f;
  stay = stay_refl old;
}

module _ (old : List ChunkIs) (f : FleetIs) (before : List ℕ) (n : ℕ) (now : List ChunkIs) (g : FleetIs) (middle : List ℕ) (s : HaveSoFar old f before n now g middle) where
  pub one_more : (new : List ChunkIs) (h : FleetIs) (after : List ℕ) → FleetHasGone (λ halts v. host_steps halts n v) now g middle new h after → AreSameHosts g h → AllStay now new → HaveSoFar old f before (n + 1) new h after
  one_more new h after went same stay = record {
    went = gone_as (λ halts v. volume_followed (firsts n halts v) (λ w. host_steps halts n w)) (firsts (n + 1)) old new f h before after
        (λ halts. more halts n (volume_stands_at halts old f))
        (went_on (firsts n) (λ halts v. host_steps halts n v) old now new f g h before middle after s.went went);
    same = same_trans f g h s.same same;
    stay = stay_trans old now new s.went.grown went.grown s.stay stay;
  }

  -- all did
  pub hosts_went : n ≡ length f.hosts → FleetHasGone hosts_step old f before now g middle
  hosts_went last = gone_as (firsts n) hosts_step old now f g before middle
      (λ halts. hosts_are f old halts ∙ ap (λ k. firsts k halts (volume_stands_at halts old f)) (sym last)) s.went

  -- there was no memory for one of them: the steps of the others only add to histories
  pub hosts_stopped : (new : List ChunkIs) → n < length f.hosts → FleetHasStopped (λ halts v. host_steps halts n v) now g new → FleetHasStopped hosts_step old f new
  hosts_stopped new low stopped =
      let left : ℕ = length f.hosts - (n + 1) in
      let count : length f.hosts ≡ n + 1 + left = omega (arith, low) in
      let rest : FleetPart = λ halts w. these_step halts (range_with_len (0 + (n + 1)) left) w in
      stopped_as (λ halts v. volume_followed (firsts (n + 1) halts v) (rest halts)) hosts_step old new f
      (λ halts.
      hosts_are f old halts
      ∙ ap (λ k. firsts k halts (volume_stands_at halts old f)) count
      ∙ ap (λ ms. these_step halts ms (volume_stands_at halts old f)) (range_parts 0 (n + 1) left)
      ∙ parts halts (range_with_len 0 (n + 1)) (range_with_len (0 + (n + 1)) left) (volume_stands_at halts old f))
      (stopped_on (firsts (n + 1)) rest old new f
      (stopped_as (λ halts v. volume_followed (firsts n halts v) (λ w. host_steps halts n w)) (firsts (n + 1)) old new f
      (λ halts. more halts n (volume_stands_at halts old f))
      (then_stopped (firsts n) (λ halts v. host_steps halts n v) old now new f g before middle s.went stopped))
      (λ halts v. these_lengthen halts (range_with_len (0 + (n + 1)) left) v))
