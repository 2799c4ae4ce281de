-- Chunks that differ in where their settlings stand alone.
use Rattle.std.proofs.Common.{◌≡◌, ℕ, suc, List, [], ◌∷◌, length, Some, slice_get, arith, refl, sym, ap, subst, ◌∙◌}
use Rattle.pf_asks.specs.Ports.{PortIs}
use Rattle.pf_mount_host.specs.pf_group.specs.GroupIs.{GroupIs}
use Rattle.pf_mount_host.specs.pf_group_rounds.specs.Agreeing.{chunk_standing}
use Rattle.pf_mount_host.specs.pf_group_rounds.specs.Growing.{HasGrown}
use Rattle.pf_mount_host.specs.pf_group_rounds.specs.Halts.{Halt}
use Rattle.pf_mount_host.specs.pf_group_rounds.proofs.GroupGrowth.{grown_refl}
use Rattle.pf_mount_host.specs.pf_chunk.specs.pf_chunk_waiting.specs.declared.waiting.Waiting.{Waiting}
use Rattle.pf_mount_host.specs.pf_chunk.specs.Runs.{ChunkRun}
use Rattle.pf_mount_host.specs.pf_chunk.specs.Views.{ChunkIs, run_of}
use Rattle.pf_mount_host.specs.pf_world_moments.specs.Steps.{HaveGrown, chunk_runs}
use Rattle.pf_world_hosts.specs.Steps.{FleetIs, IsFleetOf, volume_stands_at}
use Rattle.pf_world_hosts.specs.Volumes.{VolumeRun}
use Rattle.pf_world_hosts.proofs.HostGroups.{fleet_stays}

pub record IsSame (was is : ChunkIs) : Type 0 where
  pub group : is.group ≡ was.group
  pub waiting : is.waiting ≡ was.waiting
  pub ports : is.ports ≡ was.ports

pub record AreSame (old new : List ChunkIs) : Type 0 where
  pub count : length new ≡ length old
  pub each : (k : ℕ) (was is : ChunkIs) → slice_get old k ≡ Some was → slice_get new k ≡ Some is → IsSame was is

run_same : (halts : List Halt) (was is : ChunkIs) → IsSame was is → run_of halts is ≡ run_of halts was
run_same halts was is same =
    let make : GroupIs → List Waiting → List PortIs → ChunkRun = λ g w p. record { group = chunk_standing halts g; waiting = w; ports = p } in
    ap (λ (g : GroupIs). make g is.waiting is.ports) same.group
    ∙ ap (λ (w : List Waiting). make was.group w is.ports) same.waiting
    ∙ ap (λ (p : List PortIs). make was.group was.waiting p) same.ports

mapped_same : (halts : List Halt) (old new : List ChunkIs) → length new ≡ length old → ((k : ℕ) (was is : ChunkIs) → slice_get old k ≡ Some was → slice_get new k ≡ Some is → IsSame was is) → chunk_runs halts new ≡ chunk_runs halts old
mapped_same halts [] [] count each = refl
mapped_same halts [] (y ∷ ys) count each = absurd (omega arith)
mapped_same halts (x ∷ xs) [] count each = absurd (omega arith)
mapped_same halts (x ∷ xs) (y ∷ ys) count each =
    ap (λ (c : ChunkRun). c ∷ chunk_runs halts ys) (run_same halts x y (each 0 x y refl refl))
    ∙ ap (λ (cs : List ChunkRun). run_of halts x ∷ cs) (mapped_same halts xs ys (omega arith) (λ k was is at to. each (suc k) was is at to))

module _ (old new : List ChunkIs) (same : AreSame old new) where
  -- a run stands at the same
  pub same_stands : (halts : List Halt) (f : FleetIs) → volume_stands_at halts new f ≡ volume_stands_at halts old f
  same_stands halts f =
      let make : List ChunkRun → VolumeRun = λ cs. record { extent = f.volume; chunks = cs; layout = f.layout; hosts = f.hosts; routes = f.routes; mover = f.mover } in
      ap make (mapped_same halts old new same.count same.each)

  -- nothing happened to the groups
  pub same_grown : HaveGrown old new
  same_grown = record {
    count = same.count;
    each = λ k was is at to. subst (λ (g : GroupIs). HasGrown was.group g) (sym (same.each k was is at to).group) (grown_refl was.group);
  }

  pub same_fleet : (f : FleetIs) → IsFleetOf old f → IsFleetOf new f
  same_fleet f is = fleet_stays old new f same.count (λ n. record { count = same.count; each = λ k was is at to. ap (λ (ps : List PortIs). slice_get ps n) (same.each k was is at to).ports }) is
