-- In the run of every script that is not raw each write was handed on by a port.
use Rattle.std.proofs.Common.{◌≡◌, ◌≢◌, ℕ, ◌/◌, inl, inr, List, [], ◌∷◌, ◌++◌, length, Option, Some, None, slice_get, refl, sym, ap, subst, ◌∙◌, append-nil}
use Rattle.std.specs.Option.{option_map}
use Rattle.std.proofs.lemmas.List.{append_assoc}
use Rattle.std.proofs.lemmas.Option.{none-some}
use Rattle.pf_base.specs.declared.asks.Ask.TheVariants as asks
use Rattle.pf_entry.specs.declared.ops.Op.TheVariants as ops
use Rattle.pf_protocol.specs.declared.events.Event.TheVariants.{Submit}
use Rattle.pf_protocol.specs.Histories.{History}
use Rattle.pf_volume.specs.Volumes.{Extent}
use Rattle.pf_move.specs.declared.mover.MoveNext.{MoveNext}
use Rattle.pf_move.specs.declared.mover.MoveNext.TheVariants.{Read, Switch, Write}
use Rattle.pf_move.specs.Movers.{MoverIs, MoverStep, new_mover, step}
use Rattle.pf_move.specs.Routes.{Between, RoutesIs, between, home_of_chunk}
use Rattle.pf_report.specs.Moves.{moved_text}
use Rattle.pf_report.specs.Texts.{event_line}
use Rattle.pf_world.specs.pf_group_rounds.specs.Halts.{Halt}
use Rattle.pf_world.specs.pf_chunk.specs.Runs.{ChunkRun, mover_port}
use Rattle.pf_world.specs.pf_world_moments.specs.Moments.{Carries, Heard, Moment, Moves as MovesTo, Writes}
use Rattle.pf_world.specs.pf_world_moments.specs.Hosts.{put_at}
use Rattle.pf_world.specs.pf_world_hosts.specs.Volumes.{VolumeRun, carries, moved_from, moves_from, with_new}
use Rattle.pf_world.specs.pf_world_hosts.specs.Volumes as volumes
use Rattle.pf_world.specs.declared.kind.Kind.{Kind}
use Rattle.pf_world.specs.declared.kind.Kind.TheVariants.{Mounted, Raw}
use Rattle.pf_world.specs.pf_live_session.specs.Sessions.{Session}
use Rattle.pf_world.specs.declared.line.Line.{Line}
use Rattle.pf_world.specs.Reports.{world_run}
use Rattle.pf_world.specs.Worlds.{volume_made}
use Rattle.pf_law_movers.specs.Handing.{AreMountsAlone}
use Rattle.pf_law_runs.specs.Scripts.{IsScript}
use Rattle.pf_law_runs.proofs.MoverStepParts.{hauled}
use Rattle.pf_law_runs.proofs.GroupPlaces.{came_from, made_there, new_placed, placed_new, placed_on, placed_ports}
use Rattle.pf_law_runs.proofs.KeptByPorts.{IsKeptByPorts}
use Rattle.pf_law_movers.proofs.Ports.{ArePlaced, drives_at}
use Rattle.pf_law_runs.proofs.ScriptRuns.{new_group}
use Rattle.pf_law_runs.proofs.KeptThroughout.{HoldsOf, IsKeptByParts, throughout}
use Rattle.pf_law_movers.proofs.Writers.{adds_none, alone_set, alone_told, drove_alone, put_alone, step_alone}

-- groups stand at their numbers, and but in a raw run each of their writes was handed on by a port
record AreOwn (kind : Option Kind) (chunks : List ChunkRun) (told : List Moment) : Type 0 where
  placed : ArePlaced chunks
  alone : kind ≢ Some Raw → AreMountsAlone chunks told

abbrev Own : Option Kind → Extent → RoutesIs → Option MoverIs → List ChunkRun → List Moment → Type 0
Own kind e r mover chunks told = AreOwn kind chunks told

own_ports : (kind : Option Kind) → IsKeptByPorts kind (AreOwn kind)
own_ports kind = record {
  telling = λ chunks told y said is. record { placed = is.placed; alone = λ own. alone_told chunks told (y ∷ []) (is.alone own) };
  growing = λ chunks told k c d at ports grows adds is.
      let n = d.group.number in
      let there : slice_get chunks n ≡ Some c = ap (slice_get chunks) (grows.number ∙ (is.placed k c at).number) ∙ at in record {
        placed = (placed_ports kind).growing chunks told k c d at ports grows adds is.placed;
        alone = λ own. alone_set chunks told told (λ j place was. was) n c d there (adds_none told n c d (adds own)) (is.alone own);
      };
  putting = λ chunks told group m ask low is. record {
    placed = (placed_ports kind).putting chunks told group m ask low is.placed;
    alone = λ own. subst (AreMountsAlone (put_at chunks group m ask)) (append-nil told) (put_alone chunks told [] group m ask (is.alone own));
  };
  stepping = λ chunks told k c m d low at s is. record {
    placed = (placed_ports kind).stepping chunks told k c m d low at s is.placed;
    alone = λ own. step_alone chunks told (is.alone own) m k c d at s.handed;
  };
}

-- the mover goes on
carries_own : (kind : Option Kind) (v : VolumeRun) (told : List Moment) (mover : MoverIs) (heard : Option Heard) (next : MoveNext) → HoldsOf (Own kind) v told → HoldsOf (Own kind) (carries v mover heard next).volume (told ++ (carries v mover heard next).told)
carries_own kind v told mover heard next is = record { placed = placed_on v mover heard next is.placed; alone = λ own. by (is.alone own) next }
  where
    by : AreMountsAlone v.chunks told → (next : MoveNext) → AreMountsAlone (carries v mover heard next).volume.chunks (told ++ (carries v mover heard next).told)
    by are (Read span) = put_alone v.chunks told (Carries mover.chunk heard (Read span) ∷ []) (option_map (λ (b : Between). b.from) (between v.routes)) mover_port (asks.Read mover.chunk span) are
    by are (Write span sectors) = put_alone v.chunks told (Carries mover.chunk heard (Write span sectors) ∷ []) (option_map (λ (b : Between). b.to) (between v.routes)) mover_port (asks.Write mover.chunk span sectors) are
    by are Switch = alone_told v.chunks told (Carries mover.chunk heard Switch ∷ Writes (event_line (moved_text mover.chunk)) ∷ []) are

-- a chunk begins to move to a group of which nothing happened yet
new_alone : (chunks : List ChunkRun) (told more : List Moment) (h : ℕ) (new : ChunkRun) → new.group.history ≡ [] → (o : Option ChunkRun) → slice_get chunks h ≡ o → AreMountsAlone chunks told → AreMountsAlone (with_new chunks h o new) (told ++ more)
new_alone chunks told more h new empty None there are = alone_told chunks told more are
new_alone chunks told more h new empty (Some source) there are = λ k place server c range sectors answer here at. elim (came_from chunks h source new k c here) [
  | inl left ↦
      alone_told chunks told more are k place server source range sectors answer (ap (slice_get chunks) left.0 ∙ there) (ap (λ (x : ChunkRun). slice_get x.group.history place) left.1 ∙ at)
  | inr others ↦ elim others [
    | inl old ↦ alone_told chunks told more are k place server c range sectors answer old.1 at
    | inr last ↦ absurd (none-some _ (ap (λ (x : History). slice_get x place) (sym empty) ∙ ap (λ (x : ChunkRun). slice_get x.group.history place) last.1 ∙ at))
  ]
]

module _ (halts : List Halt) where
  moves_own : (v : VolumeRun) (told : List Moment) (names format chunk : ℕ) (o : Option ℕ) → HoldsOf (Own (Some Mounted)) v told
      → let t : volumes.VolumeTold = moves_from chunk o (new_group halts v names format) v in HoldsOf (Own (Some Mounted)) t.volume (told ++ t.told)
  moves_own v told names format chunk None is = subst (HoldsOf (Own (Some Mounted)) v) (sym (append-nil told)) is
  moves_own v told names format chunk (Some h) is =
      let new = new_group halts v names format in
      let s : MoverStep = step (new_mover chunk (v.extent.sectors / 8)) None in
      let y : Moment = MovesTo chunk (length v.chunks) in
      let w : VolumeRun = moved_from v chunk h new in
      let t : volumes.VolumeTold = carries w s.mover None s.next in
      subst (HoldsOf (Own (Some Mounted)) t.volume) (append_assoc told (y ∷ []) t.told) (carries_own (Some Mounted) w (told ++ y ∷ []) s.mover None s.next (record {
        placed = placed_new v.chunks h new (slice_get v.chunks h) refl refl is.placed;
        alone = λ own. new_alone v.chunks told (y ∷ []) h new refl (slice_get v.chunks h) refl (is.alone own);
      }))

  all_own : IsKeptByParts halts Own
  all_own = record {
    deciding = λ kind e r mover chunks told is. record { placed = is.placed; alone = λ own. is.alone (none-some Raw) };
    ports = λ kind e r mover. own_ports kind;
    carrying = λ kind v told is.
        hauled halts (HoldsOf (Own kind))
        (λ w so_far k group its. record {
          placed = (drives_at halts w.chunks mover_port k).placed its.placed;
          alone = λ own. drove_alone w.chunks so_far (its.alone own) mover_port k halts (slice_get w.chunks k) refl;
        })
        (λ w so_far old heard there its. let s : MoverStep = step old (Some heard.reply) in carries_own kind w so_far s.mover (Some heard) s.next its) v told is;
    moving = λ v told names format chunk free is. moves_own v told names format chunk (home_of_chunk v.routes chunk) is;
  }

  new_own : (sessions : List Session) (chunks sectors names format : ℕ) → AreOwn None (volume_made halts sessions chunks sectors names format).volume.chunks []
  new_own sessions chunks sectors names format = record {
    placed = new_placed halts sessions chunks sectors names format;
    alone = λ own k place server c range sectors_of answer there at.
        absurd (none-some (record { event = Submit server (ops.Write range sectors_of); answer = answer }) (ap (λ (x : ChunkRun). slice_get x.group.history place) (made_there halts sessions chunks sectors names format k c there) ∙ at));
  }

  raw_apart : Some Mounted ≡ Some Raw → ⊥
  raw_apart same = cc

  -- so it is after each script of mounts
  pub mounts_alone : (sessions : List Session) (lines : List Line) → IsScript lines → let run = world_run halts sessions lines in run.world.kind ≡ Some Mounted → AreMountsAlone run.world.volume.chunks run.told
  mounts_alone sessions lines script mounted = (throughout halts Own all_own new_own sessions lines script).alone (λ raw. raw_apart (sym mounted ∙ raw))
