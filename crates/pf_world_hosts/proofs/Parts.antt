-- Parts of a run, one after another.
use Rattle.std.proofs.Common.{◌≡◌, ℕ, List, [], ◌++◌, append-nil, append_assoc, sym, ap, subst, ◌∙◌}
use Rattle.pf_mount_host.specs.pf_group_rounds.specs.Halts.{Halt}
use Rattle.pf_mount_host.specs.pf_chunk.specs.Runs.{ChunkRun}
use Rattle.pf_mount_host.specs.pf_chunk.specs.Views.{ChunkIs}
use Rattle.pf_mount_host.specs.pf_world_moments.specs.Moments.{moments_text}
use Rattle.pf_mount_host.specs.pf_world_moments.specs.Steps.{AreReady, HaveBegun}
use Rattle.pf_mount_host.specs.pf_world_moments.proofs.HistoryGrowth.{Lengthens, lengthens_refl}
use Rattle.pf_mount_host.specs.pf_world_moments.proofs.PortSteps.{told_both}
use Rattle.pf_world_hosts.specs.Steps.{FleetIs, FleetHasGone, FleetHasStopped, IsFleetOf, FleetPart, volume_stands_at}
use Rattle.pf_world_hosts.specs.Volumes.{VolumeTold, VolumeRun, after_telling, volume_followed, volume_quietly}
use Rattle.pf_world_hosts.proofs.ChunkGrowth.{begun_through, grown_refl_all, grown_trans_all, tells_before}

-- nothing happens in it
pub nothing_went : (p : FleetPart) (a : List ChunkIs) (f : FleetIs) (x : List ℕ) → AreReady a → IsFleetOf a f → ((halts : List Halt) → p halts (volume_stands_at halts a f) ≡ volume_quietly (volume_stands_at halts a f)) → FleetHasGone p a f x a f x
nothing_went p a f x ready is_fleet quiet = record { ready = ready; is_fleet = is_fleet; grown = grown_refl_all a; told = []; put = sym (append-nil x); run = λ halts tells. quiet halts }

-- the whole went on
pub went_on : (p q : FleetPart) (a b c : List ChunkIs) (f g h : FleetIs) (x y z : List ℕ) → FleetHasGone p a f x b g y → FleetHasGone q b g y c h z → FleetHasGone (λ halts v. volume_followed (p halts v) (q halts)) a f x c h z
went_on p q a b c f g h x y z first second = record {
  ready = second.ready;
  is_fleet = second.is_fleet;
  grown = grown_trans_all a b c first.grown second.grown;
  told = first.told ++ second.told;
  put =
      second.put ∙ ap (λ text. text ++ moments_text second.told) first.put ∙ append_assoc x (moments_text first.told) (moments_text second.told)
      ∙ ap (λ text. x ++ text) (sym (told_both first.told second.told));
  run = λ halts tells.
      ap (λ (t : VolumeTold). volume_followed t (q halts)) (first.run halts (tells_before halts b c second.grown tells))
      ∙ ap (λ (t : VolumeTold). after_telling first.told t) (second.run halts tells);
}

-- the second part was stopped
pub then_stopped : (p q : FleetPart) (a b c : List ChunkIs) (f g : FleetIs) (x y : List ℕ) → FleetHasGone p a f x b g y → FleetHasStopped q b g c → FleetHasStopped (λ halts v. volume_followed (p halts v) (q halts)) a f c
then_stopped p q a b c f g x y first second = record {
  grown = grown_trans_all a b c first.grown second.grown;
  begun = λ halts tells.
      let would : List ChunkRun = (q halts (volume_stands_at halts b g)).volume.chunks in
      subst (λ (t : VolumeTold). HaveBegun halts a (volume_followed t (q halts)).volume.chunks c) (sym (first.run halts (tells_before halts b c second.grown tells)))
      (begun_through halts a b c would would first.grown (second.begun halts tells) (lengthens_refl would));
}

-- the first part was stopped: what would have followed only adds to histories
pub stopped_on : (p q : FleetPart) (a b : List ChunkIs) (f : FleetIs) → FleetHasStopped p a f b → ((halts : List Halt) (v : VolumeRun) → Lengthens v.chunks (q halts v).volume.chunks) → FleetHasStopped (λ halts v. volume_followed (p halts v) (q halts)) a f b
stopped_on p q a b f first longer = record {
  grown = first.grown;
  begun = λ halts tells.
      let v : VolumeRun = (p halts (volume_stands_at halts a f)).volume in
      begun_through halts a a b v.chunks (q halts v).volume.chunks (grown_refl_all a) (first.begun halts tells) (longer halts v);
}

-- a part that comes to the same from there
pub gone_as : (p q : FleetPart) (a b : List ChunkIs) (f g : FleetIs) (x y : List ℕ) → ((halts : List Halt) → q halts (volume_stands_at halts a f) ≡ p halts (volume_stands_at halts a f)) → FleetHasGone p a f x b g y → FleetHasGone q a f x b g y
gone_as p q a b f g x y same went = record {
  ready = went.ready;
  is_fleet = went.is_fleet;
  grown = went.grown;
  told = went.told;
  put = went.put;
  run = λ halts tells. same halts ∙ went.run halts tells;
}

pub stopped_as : (p q : FleetPart) (a b : List ChunkIs) (f : FleetIs) → ((halts : List Halt) → q halts (volume_stands_at halts a f) ≡ p halts (volume_stands_at halts a f)) → FleetHasStopped p a f b → FleetHasStopped q a f b
stopped_as p q a b f same stopped = record {
  grown = stopped.grown;
  begun = λ halts tells. subst (λ (t : VolumeTold). HaveBegun halts a t.volume.chunks b) (sym (same halts)) (stopped.begun halts tells);
}
