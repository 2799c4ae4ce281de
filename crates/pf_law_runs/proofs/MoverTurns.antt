-- In every run the calls of the mover follow each other.
use Rattle.std.proofs.Common.{◌≡◌, ℕ, ◌/◌, ◌==◌, if◌then◌else◌, List, [], ◌∷◌, ◌++◌, length, Option, Some, None, refl, sym, ap, subst, ◌∙◌, append-nil}
use Rattle.std.specs.List.{fold}
use Rattle.std.proofs.lemmas.Grind.{fold-append}
use Rattle.std.proofs.lemmas.List.{append_assoc}
use Rattle.std.proofs.lemmas.Option.{none-some, same_Some}
use Rattle.pf_entry.specs.Lists.{Every}
use Rattle.pf_move.specs.declared.mover.MoveNext.{MoveNext}
use Rattle.pf_move.specs.declared.mover.MoveNext.TheVariants.{Read, Switch, Write}
use Rattle.pf_move.specs.Movers.{MoverIs, MoverStep, new_mover, step}
use Rattle.pf_move.specs.Routes.{RoutesIs, home_of_chunk}
use Rattle.pf_volume.specs.Volumes.{Extent}
use Rattle.pf_world.specs.pf_group_rounds.specs.Halts.{Halt}
use Rattle.pf_world.specs.pf_chunk.specs.Runs.{ChunkRun, mover_port}
use Rattle.pf_world.specs.pf_world_moments.specs.Hosts.{drove, handed_moments}
use Rattle.pf_world.specs.pf_world_moments.specs.Moments.{Carries, Hands, Heard, Moment, Moves as MovesTo, Writes, Acts}
use Rattle.pf_world.specs.pf_world_hosts.specs.Volumes.{VolumeRun, carries, carries_on, moved_from, moves_from}
use Rattle.pf_world.specs.pf_world_hosts.specs.Volumes as volumes
use Rattle.pf_world.specs.declared.kind.Kind.{Kind}
use Rattle.pf_world.specs.pf_live_session.specs.Sessions.{Session}
use Rattle.pf_world.specs.declared.line.Line.{Line}
use Rattle.pf_world.specs.Reports.{world_run}
use Rattle.pf_law_movers.specs.Carrying.{reply_of_heard}
use Rattle.pf_law_runs.specs.Scripts.{IsScript}
use Rattle.pf_law_movers.proofs.Each.{AreEach, all_more, none_told, one_more}
use Rattle.pf_law_runs.proofs.MoverStepParts.{hauled, step_chunk}
use Rattle.pf_law_movers.proofs.Lives.{its_own}
use Rattle.pf_law_runs.proofs.KeptByPorts.{IsKeptByPorts}
use Rattle.pf_law_movers.proofs.Ports.{drives_at}
use Rattle.pf_law_runs.proofs.RoutesTold.{handed_still, said_still}
use Rattle.pf_law_movers.proofs.ToldRoutes.{IsStill}
use Rattle.pf_law_runs.proofs.ScriptRuns.{new_group}
use Rattle.pf_law_runs.proofs.KeptThroughout.{HoldsOf, IsKeptByParts, throughout}

-- The mover of a chunk, as what was told makes it

abbrev pub stepped_by : (pieces chunk : ℕ) → MoverIs → Moment → MoverIs
stepped_by pieces chunk m (MovesTo c to) = if c == chunk then new_mover chunk pieces else m
stepped_by pieces chunk m (Carries c heard next) = if c == chunk then (step m (reply_of_heard heard)).mover else m
stepped_by pieces chunk m moment = m

abbrev pub mover_of : (pieces : ℕ) → List Moment → (chunk : ℕ) → MoverIs
mover_of pieces told chunk = fold (stepped_by pieces chunk) (new_mover chunk pieces) told

pub mover_on : (pieces : ℕ) (told more : List Moment) (chunk : ℕ) → mover_of pieces (told ++ more) chunk ≡ fold (stepped_by pieces chunk) (mover_of pieces told chunk) more
mover_on pieces told more chunk = fold-append (stepped_by pieces chunk) (new_mover chunk pieces) told more

-- it began just before
pub record IsFirst (before : List Moment) (chunk : ℕ) : Type 0 where
  pub earlier : List Moment
  pub to : ℕ
  pub is : before ≡ earlier ++ MovesTo chunk to ∷ []

-- what it wants done is its step's: the first where it heard nothing
abbrev pub IsStepOf : (pieces : ℕ) → (before : List Moment) → Moment → Type 0
IsStepOf pieces before (Carries chunk None next) = IsFirst before chunk × (next ≡ (step (mover_of pieces before chunk) None).next)
IsStepOf pieces before (Carries chunk (Some heard) next) = next ≡ (step (mover_of pieces before chunk) (Some heard.reply)).next
IsStepOf pieces before moment = Unit {0}

still_step : (pieces : ℕ) (before : List Moment) (y : Moment) → IsStill y → IsStepOf pieces before y
still_step pieces before (Carries chunk heard next) still = absurd still
still_step pieces before (MovesTo chunk to) still = absurd still
still_step pieces before (Writes text) still = tt
still_step pieces before (Acts who act) still = tt
still_step pieces before (Hands m k place) still = tt

still_mover : (pieces chunk : ℕ) (m : MoverIs) (y : Moment) → IsStill y → stepped_by pieces chunk m y ≡ m
still_mover pieces chunk m (Carries c heard next) still = absurd still
still_mover pieces chunk m (MovesTo c to) still = absurd still
still_mover pieces chunk m (Writes text) still = refl
still_mover pieces chunk m (Acts who act) still = refl
still_mover pieces chunk m (Hands n k place) still = refl

still_movers : (pieces chunk : ℕ) (m : MoverIs) (more : List Moment) → Every IsStill more → fold (stepped_by pieces chunk) m more ≡ m
still_movers pieces chunk m [] still = refl
still_movers pieces chunk m (y ∷ more) still = ap (λ x. fold (stepped_by pieces chunk) x more) (still_mover pieces chunk m y still.0) ∙ still_movers pieces chunk m more still.1

-- Runs

abbrev pub pieces_of : VolumeRun → ℕ
pieces_of v = v.extent.sectors / 8

-- the mover is the one that was told
record IsSteered (pieces : ℕ) (mover : Option MoverIs) (told : List Moment) : Type 0 where
  each : AreEach (IsStepOf pieces) told
  current : (its : MoverIs) → mover ≡ Some its → its ≡ mover_of pieces told its.chunk

abbrev Steered : Extent → RoutesIs → Option MoverIs → List ChunkRun → List Moment → Type 0
Steered e r mover chunks told = IsSteered (e.sectors / 8) mover told

-- moments that are still
still_steered : (pieces : ℕ) (mover : Option MoverIs) (told more : List Moment) → Every IsStill more → IsSteered pieces mover told → IsSteered pieces mover (told ++ more)
still_steered pieces mover told more still is = record {
  each = all_more (IsStepOf pieces) IsStill (still_step pieces) told more is.each still;
  current = λ its there. is.current its there ∙ sym (mover_on pieces told more its.chunk ∙ still_movers pieces its.chunk (mover_of pieces told its.chunk) more still);
}

steered_ports : (kind : Option Kind) (pieces : ℕ) (mover : Option MoverIs) → IsKeptByPorts kind (λ chunks told. IsSteered pieces mover told)
steered_ports kind pieces mover = record {
  telling = λ chunks told y said. still_steered pieces mover told (y ∷ []) (said_still y said, tt);
  growing = λ chunks told k c d at ports grows adds is. is;
  putting = λ chunks told group m ask low is. is;
  stepping = λ chunks told k c m d low at step. still_steered pieces mover told (handed_moments m k d.place) (handed_still m k d.place);
}

-- the mover goes on
module _ (pieces : ℕ) (v : VolumeRun) (told : List Moment) (mover : MoverIs) (heard : Option Heard) where
  carried_each : (next : MoveNext) → IsStepOf pieces told (Carries mover.chunk heard next) → AreEach (IsStepOf pieces) told → AreEach (IsStepOf pieces) (told ++ (carries v mover heard next).told)
  carried_each (Read span) so are = one_more (IsStepOf pieces) told _ are so
  carried_each (Write span sectors) so are = one_more (IsStepOf pieces) told _ are so
  carried_each Switch so are =
      let y : Moment = Carries mover.chunk heard Switch in
      subst (AreEach (IsStepOf pieces)) (append_assoc told (y ∷ []) _) (all_more (IsStepOf pieces) IsStill (still_step pieces) (told ++ y ∷ []) _ (one_more (IsStepOf pieces) told y are so) (tt, tt))

  carried_current : (next : MoveNext) → mover ≡ (step (mover_of pieces told mover.chunk) (reply_of_heard heard)).mover → (its : MoverIs) → (carries v mover heard next).volume.mover ≡ Some its → its ≡ mover_of pieces (told ++ (carries v mover heard next).told) its.chunk
  carried_current next is = by next
    where
      after : (y : MoveNext) → mover ≡ mover_of pieces (told ++ Carries mover.chunk heard y ∷ []) mover.chunk
      after y = is ∙ sym (mover_on pieces told (Carries mover.chunk heard y ∷ []) mover.chunk ∙ its_own mover.chunk mover.chunk (step (mover_of pieces told mover.chunk) (reply_of_heard heard)).mover (mover_of pieces told mover.chunk) refl)

      by : (next : MoveNext) → (its : MoverIs) → (carries v mover heard next).volume.mover ≡ Some its → its ≡ mover_of pieces (told ++ (carries v mover heard next).told) its.chunk
      by (Read span) its there = subst (λ (x : MoverIs). x ≡ mover_of pieces (told ++ Carries mover.chunk heard (Read span) ∷ []) x.chunk) (same_Some mover its there) (after (Read span))
      by (Write span sectors) its there = subst (λ (x : MoverIs). x ≡ mover_of pieces (told ++ Carries mover.chunk heard (Write span sectors) ∷ []) x.chunk) (same_Some mover its there) (after (Write span sectors))
      by Switch its there = absurd (none-some its there)

same_extent : (v : VolumeRun) (mover : MoverIs) (heard : Option Heard) (next : MoveNext) → (carries v mover heard next).volume.extent ≡ v.extent
same_extent v mover heard (Read span) = refl
same_extent v mover heard (Write span sectors) = refl
same_extent v mover heard Switch = refl

steered : (v : VolumeRun) (told : List Moment) (mover : MoverIs) (heard : Option Heard) (next : MoveNext) → AreEach (IsStepOf (pieces_of v)) told → IsStepOf (pieces_of v) told (Carries mover.chunk heard next)
    → mover ≡ (step (mover_of (pieces_of v) told mover.chunk) (reply_of_heard heard)).mover → let t : volumes.VolumeTold = carries v mover heard next in HoldsOf Steered t.volume (told ++ t.told)
steered v told mover heard next each so is =
    let t : volumes.VolumeTold = carries v mover heard next in
    subst (λ (e : Extent). IsSteered (e.sectors / 8) t.volume.mover (told ++ t.told)) (sym (same_extent v mover heard next)) (record {
      each = carried_each (pieces_of v) v told mover heard next so each;
      current = carried_current (pieces_of v) v told mover heard next is;
    })

-- by its step
carries_steered : (v : VolumeRun) (told : List Moment) (old : MoverIs) (heard : Heard) → v.mover ≡ Some old → HoldsOf Steered v told
    → let t : volumes.VolumeTold = carries_on v (Some heard) (step old (Some heard.reply)) in HoldsOf Steered t.volume (told ++ t.told)
carries_steered v told old heard there is =
    let pieces = pieces_of v in
    let st : MoverStep = step old (Some heard.reply) in
    let same : st ≡ step (mover_of pieces told st.mover.chunk) (Some heard.reply) = ap (λ m. step m (Some heard.reply)) (is.current old there ∙ ap (mover_of pieces told) (sym (step_chunk old (Some heard.reply)))) in
    steered v told st.mover (Some heard) st.next is.each (ap (λ (x : MoverStep). x.next) same) (ap (λ (x : MoverStep). x.mover) same)

module _ (halts : List Halt) where
  -- a chunk begins to move
  moves_steered : (v : VolumeRun) (told : List Moment) (names format chunk : ℕ) (o : Option ℕ) → HoldsOf Steered v told → let t : volumes.VolumeTold = moves_from chunk o (new_group halts v names format) v in HoldsOf Steered t.volume (told ++ t.told)
  moves_steered v told names format chunk None is = subst (HoldsOf Steered v) (sym (append-nil told)) is
  moves_steered v told names format chunk (Some h) is =
      let pieces = pieces_of v in
      let m : MoverIs = new_mover chunk pieces in
      let st : MoverStep = step m None in
      let w : VolumeRun = moved_from v chunk h (new_group halts v names format) in
      let first : Moment = MovesTo chunk (length v.chunks) in
      let on = told ++ first ∷ [] in
      let t : volumes.VolumeTold = carries w st.mover None st.next in
      let its : st.mover.chunk ≡ chunk = step_chunk m None in
      let fresh : mover_of pieces on chunk ≡ m = mover_on pieces told (first ∷ []) chunk ∙ its_own chunk chunk m (mover_of pieces told chunk) refl in
      let fresh_step : st ≡ step (mover_of pieces on st.mover.chunk) None = ap (λ x. step x None) (sym fresh ∙ ap (mover_of pieces on) (sym its)) in
      let so : IsStepOf pieces on (Carries st.mover.chunk None st.next) = (record { earlier = told; to = length v.chunks; is = ap (λ c. told ++ MovesTo c (length v.chunks) ∷ []) (sym its) }, ap (λ (x : MoverStep). x.next) fresh_step) in
      subst (HoldsOf Steered t.volume) (append_assoc told (first ∷ []) t.told) (steered w on st.mover None st.next (one_more (IsStepOf pieces) told first is.each tt) so (ap (λ (x : MoverStep). x.mover) fresh_step))

  all_steered : IsKeptByParts halts (λ kind. Steered)
  all_steered = record {
    deciding = λ kind e r mover chunks told is. is;
    ports = λ kind e r mover. steered_ports kind (e.sectors / 8) mover;
    carrying = λ kind v told is.
        hauled halts (HoldsOf Steered)
        (λ w so_far k group its. still_steered (pieces_of w) w.mover so_far (drove halts w.chunks mover_port k).told (drives_at halts w.chunks mover_port k).still its) carries_steered v told is;
    moving = λ v told names format chunk free is. moves_steered v told names format chunk (home_of_chunk v.routes chunk) is;
  }

  -- each call of the mover is a step of it
  pub run_steps : (sessions : List Session) (lines : List Line) → IsScript lines → let run = world_run halts sessions lines in AreEach (IsStepOf (pieces_of run.world.volume)) run.told
  run_steps sessions lines script =
      (throughout halts (λ kind. Steered) all_steered (λ its chunks sectors names format. record {
        each = none_told (IsStepOf (sectors / 8));
        current = λ mover none. absurd (none-some mover none);
      }) sessions lines script).each
