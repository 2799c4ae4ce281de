-- The chunks of a run are those that its volume has, of its size.
use Rattle.std.proofs.Common.{◌≡◌, ℕ, ◌/◌, ◌≤◌, List, [], ◌∷◌, length, Option, Some, None, slice_get, slice_set, inl, inr, arith, refl, sym, ap, subst, ◌∙◌}
use Rattle.std.specs.List.{range_with_len}
use Rattle.std.proofs.lemmas.List.{length-append, length-map}
use Rattle.std.proofs.lemmas.List.FromFn.{length-range_with_len}
use Rattle.pf_base.specs.declared.asks.Ask.{Ask}
use Rattle.pf_entry.proofs.Lists.{set_cases}
use Rattle.pf_law_movers.specs.pf_group_network.proofs.Lists.{end_cases, set_length}
use Rattle.pf_volume.specs.Volumes.{Extent}
use Rattle.pf_asks.specs.Ports.{PortIs}
use Rattle.pf_world.specs.pf_group_rounds.specs.Chunks.{made_chunk}
use Rattle.pf_world.specs.pf_group_rounds.specs.Halts.{Halt}
use Rattle.pf_world.specs.pf_chunk.specs.Driving.{port_asked, asked_at, driven}
use Rattle.pf_world.specs.pf_chunk.specs.Runs.{ChunkRun, left_by_ports, mover_port, new_run, taking_ports}
use Rattle.pf_world.specs.pf_world_moments.specs.Moments.{Heard, Moment}
use Rattle.pf_world.specs.pf_world_moments.specs.Hosts.{drove, drove_of, put_at, run_after, with_run}
use Rattle.pf_move.specs.declared.mover.MoveNext.{MoveNext}
use Rattle.pf_move.specs.declared.mover.MoveNext.TheVariants.{Read, Switch, Write}
use Rattle.pf_move.specs.Movers.{MoverIs, MoverStep, new_mover, step}
use Rattle.pf_move.specs.Routes.{RoutesIs, home_of_chunk}
use Rattle.pf_world.specs.pf_world_hosts.specs.Volumes.{VolumeRun, carries, moved_from, moves_from, with_new}
use Rattle.pf_world.specs.declared.kind.Kind.{Kind}
use Rattle.pf_world.specs.Worlds.{volume_made}
use Rattle.pf_world.specs.Reports.{world_run}
use Rattle.pf_world.specs.pf_live_session.specs.Sessions.{Session}
use Rattle.pf_world.specs.declared.line.Line.{Line}
use Rattle.pf_law_runs.specs.Scripts.{IsScript}
use Rattle.pf_law_runs.proofs.GroupPlaces.{made_there}
use Rattle.pf_law_runs.proofs.KeptByPorts.{IsKeptByPorts}
use Rattle.pf_law_movers.proofs.GroupReplies.{driven_grows}
use Rattle.pf_law_runs.proofs.MoverStepParts.{hauled}
use Rattle.pf_law_runs.proofs.ScriptRuns.{new_group}
use Rattle.pf_law_runs.proofs.KeptThroughout.{HoldsOf, IsKeptByParts, throughout}

-- each chunk has so many sectors
abbrev pub AreSized : (sectors : ℕ) → List ChunkRun → Type 0
AreSized sectors chunks = (k : ℕ) (c : ChunkRun) → slice_get chunks k ≡ Some c → c.group.setup.chunk ≡ sectors

-- and there are as many as the volume has chunks, or more
pub record AreChunks (extent : Extent) (chunks : List ChunkRun) : Type 0 where
  pub made : extent.chunks ≤ length chunks
  pub sized : AreSized extent.sectors chunks

pub set_sized : (e : Extent) (chunks : List ChunkRun) (n k : ℕ) (c d : ChunkRun) → slice_get chunks k ≡ Some c → d.group.setup ≡ c.group.setup → AreChunks e chunks → AreChunks e (slice_set chunks n d)
set_sized e chunks n k c d at same are = record {
  made = subst (λ i. e.chunks ≤ i) (sym (set_length chunks n d)) are.made;
  sized = λ j x there. elim (set_cases chunks n d j x there) [
    | inl here ↦ ap (λ (y : ChunkRun). y.group.setup.chunk) (sym here.1) ∙ ap (λ s. s.chunk) same ∙ are.sized k c at
    | inr away ↦ are.sized j x away.1
  ];
}

module _ (halts : List Halt) (e : Extent) where
  pub drove_sized : (chunks : List ChunkRun) (m k : ℕ) → AreChunks e chunks → AreChunks e (drove halts chunks m k).chunks
  drove_sized chunks m k are = by (slice_get chunks k) refl
    where
      by : (o : Option ChunkRun) → slice_get chunks k ≡ o → AreChunks e (drove_of halts chunks m k o).chunks
      by None at = are
      by (Some c) at = set_sized e chunks k k c (driven halts c m).chunk at (driven_grows halts c m).setup are

  put_in : (chunks : List ChunkRun) (g m : ℕ) (ask : Ask) (o : Option ChunkRun) → slice_get chunks g ≡ o → AreChunks e chunks → AreChunks e (with_run chunks g (run_after o (λ c. port_asked c m ask)))
  put_in chunks g m ask None at are = are
  put_in chunks g m ask (Some c) at are = set_sized e chunks g g c (port_asked c m ask) at (same_setup (slice_get c.ports m)) are
    where
      same_setup : (port : Option PortIs) → (asked_at c m ask port).group.setup ≡ c.group.setup
      same_setup None = refl
      same_setup (Some p) = refl

  pub put_sized : (chunks : List ChunkRun) (group : Option ℕ) (m : ℕ) (ask : Ask) → AreChunks e chunks → AreChunks e (put_at chunks group m ask)
  put_sized chunks None m ask are = are
  put_sized chunks (Some g) m ask are = put_in chunks g m ask (slice_get chunks g) refl are

  -- a chunk moves to a new group
  pub new_sized : (chunks : List ChunkRun) (home : ℕ) (o : Option ChunkRun) (new : ChunkRun) → slice_get chunks home ≡ o → new.group.setup.chunk ≡ e.sectors → AreChunks e chunks → AreChunks e (with_new chunks home o new)
  new_sized chunks home None new at size are = are
  new_sized chunks home (Some c) new at size are =
      let old = set_sized e chunks home home c (left_by_ports c) at refl are in record {
        made = let sum = length-append (slice_set chunks home (left_by_ports c)) (taking_ports c new ∷ []) in omega (arith, sum, old.made);
        sized = λ k x there. elim (end_cases (slice_set chunks home (left_by_ports c)) (taking_ports c new) k x there) [
          | inl before ↦ old.sized k x before
          | inr last ↦ ap (λ (y : ChunkRun). y.group.setup.chunk) (sym last.1) ∙ size
        ];
      }

-- In the run of every script

abbrev pub Sized : Extent → RoutesIs → Option MoverIs → List ChunkRun → List Moment → Type 0
Sized e r mover chunks told = AreChunks e chunks

module _ (halts : List Halt) where
  carried_sized : (v : VolumeRun) (mover : MoverIs) (heard : Option Heard) (next : MoveNext) → AreChunks v.extent v.chunks → AreChunks v.extent (carries v mover heard next).volume.chunks
  carried_sized v mover heard (Read span) are = put_sized halts v.extent v.chunks _ mover_port _ are
  carried_sized v mover heard (Write span sectors) are = put_sized halts v.extent v.chunks _ mover_port _ are
  carried_sized v mover heard Switch are = are

  moved_sized : (v : VolumeRun) (names format chunk : ℕ) (home : Option ℕ) → AreChunks v.extent v.chunks → AreChunks v.extent (moves_from chunk home (new_group halts v names format) v).volume.chunks
  moved_sized v names format chunk None are = are
  moved_sized v names format chunk (Some h) are =
      let new = new_group halts v names format in
      let s : MoverStep = step (new_mover chunk (v.extent.sectors / 8)) None in
      carried_sized (moved_from v chunk h new) s.mover None s.next (new_sized halts v.extent v.chunks h (slice_get v.chunks h) new refl refl are)

  extent_carried : (v : VolumeRun) (mover : MoverIs) (heard : Option Heard) (next : MoveNext) → (carries v mover heard next).volume.extent ≡ v.extent
  extent_carried v mover heard (Read span) = refl
  extent_carried v mover heard (Write span sectors) = refl
  extent_carried v mover heard Switch = refl

  extent_moved : (v : VolumeRun) (names format chunk : ℕ) (home : Option ℕ) → (moves_from chunk home (new_group halts v names format) v).volume.extent ≡ v.extent
  extent_moved v names format chunk None = refl
  extent_moved v names format chunk (Some h) =
      let new = new_group halts v names format in
      let s : MoverStep = step (new_mover chunk (v.extent.sectors / 8)) None in
      extent_carried (moved_from v chunk h new) s.mover None s.next

  sized_ports : (kind : Option Kind) (e : Extent) → IsKeptByPorts kind (λ chunks told. AreChunks e chunks)
  sized_ports kind e = record {
    telling = λ chunks told y said are. are;
    growing = λ chunks told k c d at ports grows adds are. set_sized e chunks d.group.number k c d at grows.setup are;
    putting = λ chunks told group m ask low are. put_sized halts e chunks group m ask are;
    stepping = λ chunks told k c m d low at step are. set_sized e chunks k k c d.chunk at step.grows.setup are;
  }

  pub all_sized : IsKeptByParts halts (λ kind. Sized)
  all_sized = record {
    deciding = λ kind e r mover chunks told are. are;
    ports = λ kind e r mover. sized_ports kind e;
    carrying = λ kind v told are.
        hauled halts (HoldsOf Sized) (λ w so_far k group its. drove_sized halts w.extent w.chunks mover_port k its)
        (λ w so_far old heard there its.
        let s : MoverStep = step old (Some heard.reply) in
        subst (λ (e : Extent). AreChunks e (carries w s.mover (Some heard) s.next).volume.chunks) (sym (extent_carried w s.mover (Some heard) s.next)) (carried_sized w s.mover (Some heard) s.next its)) v told are;
    moving = λ v told names format chunk free are.
        let home = home_of_chunk v.routes chunk in
        subst (λ (e : Extent). AreChunks e (moves_from chunk home (new_group halts v names format) v).volume.chunks) (sym (extent_moved v names format chunk home)) (moved_sized v names format chunk home are);
  }

  pub new_chunks : (sessions : List Session) (chunks sectors names format : ℕ) → AreChunks (volume_made halts sessions chunks sectors names format).volume.extent (volume_made halts sessions chunks sectors names format).volume.chunks
  new_chunks sessions chunks sectors names format = record {
    made = let count = length-map (range_with_len 0 chunks) (λ (k : ℕ). new_run (made_chunk halts sectors names format k)) ∙ length-range_with_len 0 chunks in omega (arith, count);
    sized = λ k c at. ap (λ (x : ChunkRun). x.group.setup.chunk) (sym (made_there halts sessions chunks sectors names format k c at));
  }

  -- the chunks are those of the volume after each script
  pub are_chunks : (sessions : List Session) (lines : List Line) → IsScript lines → AreChunks (world_run halts sessions lines).world.volume.extent (world_run halts sessions lines).world.volume.chunks
  are_chunks sessions lines script = throughout halts (λ kind. Sized) all_sized new_chunks sessions lines script
