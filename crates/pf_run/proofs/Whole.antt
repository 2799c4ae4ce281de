-- The lines of a script are run on disks.
use Rattle.std.proofs.Common.{◌≡◌, ℕ, Bool, IsTrue, ◌*◌, ◌<◌, ◌≤◌, List, [], ◌∷◌, ◌++◌, length, drop, get_or, Option, Some, Ok, Err, slice_get, refl, ap, sym, subst, ◌∙◌, append-nil, append_assoc, arith, drop-cons, length-append, length-drop}
use Rattle.std.proofs.lemmas.Option.{slice_get_within}
use Rattle.pf_disk.specs.Crashes.{Images}
use Rattle.pf_script.specs.declared.command.Command.{Command}
use Rattle.pf_script.specs.declared.command.Command.TheVariants as commands
use Rattle.pf_script.specs.Lines.{first_named}
use Rattle.pf_group_rounds.specs.Halts.{Halt}
use Rattle.pf_chunk.specs.Views.{ChunkIs}
use Rattle.pf_world.specs.declared.line.Line.{Line}
use Rattle.pf_world.specs.Agreeing.{WorldTells}
use Rattle.pf_world.specs.Disks.{AreLeft}
use Rattle.pf_world.specs.Headline.{AreHalts, IsLawfulRun, IsRunTo, IsSafeRun, IsSoundWorld, RunsTo}
use Rattle.pf_world.specs.Reports.{world_run}
use Rattle.pf_world.specs.Making.{HasMadeMore}
use Rattle.pf_world.specs.Steps.{WorldGoesOn, MayRunAll}
use Rattle.pf_world.specs.Views.{WorldIs, WorldOn, world_stands_at}
use Rattle.pf_world.proofs.Begun.{some_chunks}
use Rattle.pf_world.proofs.Causes.{HasPassed, are_halts}
use Rattle.pf_world.proofs.VolumeEvents.{same_world}
use Rattle.pf_world.proofs.LinesAsRuns.{goes_trans, tells_earlier}
use Rattle.pf_world.proofs.Told.{lawful_run, safe_run, world_halts}
use Rattle.pf_run_lines.specs.declared.status.Status.{Status}
use Rattle.pf_run_lines.specs.declared.status.Status.TheVariants as statuses
use Rattle.pf_run.specs.Placed.{ArePlaced, MakesVolume, ScriptIsWhole}
use Rattle.pf_run.specs.Scripts.{JudgedScript, script_of}
use Rattle.pf_run.specs.Reports.{judged_lines}
use Rattle.pf_run.specs.Running.{CountsAcked, HasGoneOn, HasNotOpened, HasOpened, HasRunLines, HasRunTo, IsRuled, LeavesWorld, Stops, acked_count}
use Rattle.pf_run.specs.Headline.{HasOneListOf}
use Rattle.pf_run.proofs.Lists.{lists_of, volume_list}
use Rattle.pf_run.proofs.Made.{have_enough, more_made, new_made, numbered, still_spare}
use Rattle.pf_run.proofs.VolumeMaking.{bare, begun_passed, begun_sound, none_begun, run_none, volume_of}
use Rattle.pf_run.proofs.ScriptPlaces.{whole_script}
use Rattle.pf_run_lines.proofs.Taken.{appends_none}

one_count : (m n : ℕ) (command : Command) → MakesVolume m command → MakesVolume n command → m ≡ n
one_count m n (commands.Volume c s names f) first second = sym first.0 ∙ second.0
one_count m n command first second = absurd first

is_few : (n : ℕ) (command : Command) → MakesVolume n command → n ≤ 8
is_few n (commands.Volume c s names f) is = omega (arith, is.0, some_chunks c s names f is.1)
is_few n command is = absurd is

rest_placed : (lines : List Line) (d : Line) (chunks n : ℕ) → ArePlaced (Some chunks) lines → MakesVolume n (get_or lines 0 d).command → MayRunAll (first_named n) (drop 1 lines)
rest_placed [] d chunks n placed volume = absurd placed
rest_placed (first ∷ lines) d chunks n placed volume = subst (λ m. MayRunAll (first_named m) lines) (one_count chunks n first.command placed.0 volume) placed.1

-- the lines behind the volume may be run in it
pub rest_may_run : (lines : List Line) (d : Line) (n : ℕ) → ScriptIsWhole lines → MakesVolume n (get_or lines 0 d).command → MayRunAll (first_named n) (drop 1 lines)
rest_may_run lines d n whole volume = rest_placed lines d whole.chunks n whole.placed volume

first_placed : (lines : List Line) (d : Line) (chunks : ℕ) → ArePlaced (Some chunks) lines → MakesVolume chunks (get_or lines 0 d).command
first_placed [] d chunks placed = absurd placed
first_placed (first ∷ lines) d chunks placed = placed.0

-- the first line is a volume
pub first_is_volume : (lines : List Line) (d : Line) → ScriptIsWhole lines → (chunks : ℕ) × MakesVolume chunks (get_or lines 0 d).command
first_is_volume lines d whole = (whole.chunks, first_placed lines d whole.chunks whole.placed)

-- the world that is left is that of the lines, or the next line stopped in its middle
stopped : {D : Type 0} (faults : D → ℕ) (before : List D) (status : Status) (first : Line) (done rest : List Line) (was is : WorldIs) → LeavesWorld status rest was is → Stops faults status before (first ∷ done) rest was is
stopped faults before statuses.NoMemory first done [] was is left = absurd left
stopped faults before statuses.NoMemory first done (line ∷ rest) was is failed = failed
stopped faults before statuses.Ok first done rest was is same = same
stopped faults before statuses.Usage first done rest was is same = same
stopped faults before statuses.Script first done rest was is same = same
stopped faults before statuses.ReadFault first done rest was is same = same
stopped faults before statuses.WriteFault first done rest was is same = same

-- more may have happened to what was left
left_goes_on : (status : Status) (rest : List Line) (was is : WorldIs) → LeavesWorld status rest was is → WorldGoesOn was is
left_goes_on statuses.NoMemory [] was is left = absurd left
left_goes_on statuses.NoMemory (line ∷ rest) was is failed = failed.goes_on
left_goes_on statuses.Ok rest was is same = subst (WorldGoesOn was) (sym same) (same_world was)
left_goes_on statuses.Usage rest was is same = subst (WorldGoesOn was) (sym same) (same_world was)
left_goes_on statuses.Script rest was is same = subst (WorldGoesOn was) (sym same) (same_world was)
left_goes_on statuses.ReadFault rest was is same = subst (WorldGoesOn was) (sym same) (same_world was)
left_goes_on statuses.WriteFault rest was is same = subst (WorldGoesOn was) (sym same) (same_world was)

-- no line, or first a volume
abbrev pub Begins : List Line → Type 0
Begins [] = Unit {0}
Begins (line ∷ rest) = (chunks : ℕ) × MakesVolume chunks line.command

begin : (judged : JudgedScript) → ((lines : List Line) → judged ≡ Ok lines → ScriptIsWhole lines) → Begins (judged_lines judged)
begin (Ok []) whole = tt
begin (Ok (line ∷ lines)) whole = first_is_volume (line ∷ lines) line (whole (line ∷ lines) refl)
begin (Err refused) whole = tt

-- and so a script does
pub script_begins : (script : List ℕ) → Begins (judged_lines (script_of script))
script_begins script = begin (script_of script) (whole_script script)

counts : (status : Status) (acked : ℕ × ℕ) (w : WorldIs) → acked ≡ (acked_count w 0, acked_count w 1) → CountsAcked status acked w
counts statuses.Ok acked w is = is
counts statuses.NoMemory acked w is = tt
counts statuses.Usage acked w is = tt
counts statuses.Script acked w is = tt
counts statuses.ReadFault acked w is = tt
counts statuses.WriteFault acked w is = tt

no_such : (k : ℕ) (c : ChunkIs) → slice_get [] k ≡ Some c → ⊥
no_such k c there = let low : k < 0 = slice_get_within [] k c there in absurd (omega arith)

module _ {D : Type 0} (seen : D → Option (List ℕ)) (may_leave : D → Images) (faults moment : D → ℕ) (left_since : D → ℕ → Images) (tells tells_moments : Bool) where
  -- what a list of halts that tells of the world that is left says of the run
  went_by_rules : (done rest : List Line) (text : List ℕ) (before after : List D) (world left : WorldIs) (halts : List Halt) (run : RunsTo done text world) → IsSoundWorld world → IsSoundWorld left → WorldTells halts world → AreHalts faults halts before after left
      → HasOneListOf halts run.sessions done → ((line : Line) (behind : List Line) → rest ≡ line ∷ behind → HasOneListOf halts run.sessions (done ++ line ∷ [])) → IsRuled faults run.sessions done rest text before after world left
  went_by_rules done rest text before after world left halts run sound sound_left tell told list within =
      let ran : IsRunTo halts run.sessions [] done text world = subst (λ ss. IsRunTo halts ss [] done text world) (append-nil run.sessions) (run.run halts [] tell) in
      let same : world_stands_at halts [] world ≡ (world_run halts run.sessions done).world = sym ran.world in
      let safe = subst IsSafeRun same (safe_run halts world tell sound) in
      let lawful = subst IsLawfulRun same (lawful_run halts world tell sound) in
      record {
        halts = halts;
        told = told;
        ran = ran;
        headline = record {
          one_write_in_a_slot = λ k c earlier at part. (safe k c at earlier part).agrees;
          sectors_are_applied_writes = λ k c earlier at part. (safe k c at earlier part).in_order;
          acknowledged_writes_stay = λ k c earlier at part. (safe k c at earlier part).acknowledged;
          one_list = list;
          ends = ran.ends;
          shown = ran.report;
        };
        within = within;
        lawful = lawful;
        safe_left = safe_run halts left told.tells sound_left;
        lawful_left = lawful_run halts left told.tells sound_left;
      }

  -- the volume was made, lines were run, and the world was closed
  pub ran_lines : (status : Status) (acked : ℕ × ℕ) (lines : List Line) (d : Line) (text : List ℕ) (taken now : Option (List ℕ)) (full : Type 0) (before after : List D) (old new : WorldOn D) → ScriptIsWhole lines → 0 < length lines → 48 ≤ length before
      → HasOpened faults (get_or lines 0 d) text before old → HasGoneOn status (get_or lines 0 d) (drop 1 lines) taken now full old.world new.world → HasMadeMore faults old new → (IsTrue tells → acked ≡ (acked_count new.world 0, acked_count new.world 1))
      → ((given : List D) → drop (6 * length new.world.chunks) given ≡ new.spare → 6 * length new.world.chunks ≤ length given → AreLeft seen may_leave faults moment left_since tells tells_moments new.world.chunks given after)
      → HasRunLines seen may_leave faults moment left_since tells tells_moments status acked lines taken now full before after
  ran_lines status acked lines d text taken now full before after old new whole some enough opened gone made_more counted closed =
      let small : length old.world.chunks ≤ 8 = is_few (length old.world.chunks) (get_or lines 0 d).command opened.volume in
      let had : 6 * length old.world.chunks ≤ length before = omega (arith, small, enough) in
      let made = new_made faults before old.world opened.fresh in
      let given = still_spare faults before old new had made opened.spare made_more in
      let left = closed before given (have_enough faults before old new had opened.spare made_more) in
      let more : WorldGoesOn gone.world new.world = left_goes_on status gone.rest gone.world new.world gone.leaves in
      let grown = goes_trans old.world gone.world new.world gone.goes_on more in
      let passed : HasPassed seen may_leave faults moment left_since tells tells_moments before after new.world = record {
        numbers = numbered faults before old new had made opened.spare made_more grown (λ k c there. (opened.is_world.each k c there).number);
        sound = gone.lawful_left;
        made = more_made faults before old new had made opened.spare made_more grown;
        left = left;
      } in
      let halts = world_halts new.world in
      let first : get_or lines 0 d ∷ gone.done ++ gone.rest ≡ lines = ap (λ l. get_or lines 0 d ∷ l) gone.first ∙ sym (drop-cons lines 0 d some) in
      let may = subst (MayRunAll (first_named (length old.world.chunks))) (sym gone.first) (rest_may_run lines d (length old.world.chunks) whole opened.volume) in
      let by_rules : IsTrue tells → IsRuled faults gone.run.sessions (get_or lines 0 d ∷ gone.done) gone.rest gone.text before after gone.world new.world = λ tell.
      let told : AreHalts faults halts before after new.world = are_halts seen may_leave faults moment left_since tells tells_moments before after new.world passed tell in
      let earlier = tells_earlier halts gone.world new.world more told.tells in
      let count = length-append gone.done gone.rest in
      let all = length-drop 1 lines in
      let most = whole.few in
      let same = ap length gone.first in
      went_by_rules (get_or lines 0 d ∷ gone.done) gone.rest gone.text before after gone.world new.world halts gone.run gone.lawful gone.lawful_left earlier told
      (lists_of halts gone.run.sessions (length old.world.chunks) (get_or lines 0 d) gone.done gone.rest opened.volume may (omega (arith, most, same, count, all)))
      (λ line behind is.
      let one_more = ap length is in
      let longer = length-append gone.done (line ∷ []) in
      lists_of halts gone.run.sessions (length old.world.chunks) (get_or lines 0 d) (gone.done ++ line ∷ []) behind opened.volume
      (subst (MayRunAll (first_named (length old.world.chunks))) (sym (append_assoc gone.done (line ∷ []) behind)) (subst (λ rest. MayRunAll (first_named (length old.world.chunks)) (gone.done ++ rest)) is may))
      (omega (arith, most, same, count, all, one_more, longer))) in
      record {
        rest = gone.rest;
        text = gone.text;
        ran = record {
          done = get_or lines 0 d ∷ gone.done;
          first = first;
          world = gone.world;
          run = gone.run;
          none = λ none. absurd (cc none);
          left = new.world;
          stops = stopped faults before status (get_or lines 0 d) gone.done gone.rest gone.world new.world gone.leaves;
          ruled = by_rules;
          disks = left;
        };
        wrote = gone.wrote;
        counted = λ tell. counts status acked new.world (counted tell);
      }

  -- no line was run
  none_ran : (status : Status) (lines : List Line) → Begins lines → (before after : List D) (left : WorldIs) (halts : List Halt) → IsSoundWorld left → (IsTrue tells → AreHalts faults halts before after left) → Stops faults status before [] lines (bare 0 0 0) left
      → AreLeft seen may_leave faults moment left_since tells tells_moments left.chunks before after → HasRunTo seen may_leave faults moment left_since tells tells_moments status lines lines [] before after
  none_ran status lines begins before after left halts sound told stops disks =
      let world = bare 0 0 0 in
      record {
        done = [];
        first = refl;
        world = world;
        run = run_none;
        none = λ none. refl;
        left = left;
        stops = stops;
        ruled = λ tell. went_by_rules [] lines [] before after world left halts run_none (λ k c there. absurd (no_such k c there)) sound (λ k c there. absurd (no_such k c there)) (told tell) (λ some. absurd (omega (arith, some)))
            (λ line behind same. let volume : Begins (line ∷ behind) = subst Begins same begins in volume_list halts run_none.sessions volume.0 line volume.1);
        disks = disks;
      }

  -- memory ran out as the volume was made
  pub none_made : (acked : ℕ × ℕ) (lines : List Line) (d : Line) (taken : Option (List ℕ)) (full : Type 0) (before after : List D) → ScriptIsWhole lines → HasNotOpened seen may_leave faults moment left_since tells tells_moments (get_or lines 0 d) before after → HasRunLines seen may_leave faults moment left_since tells tells_moments statuses.NoMemory acked lines taken taken full before after
  none_made acked [] d taken full before after whole not = absurd whole.placed
  none_made acked (line ∷ lines) d taken full before after whole not =
      let volume = volume_of whole.chunks line.command whole.placed.0 in
      let sound = begun_sound faults line.command before not.made volume not.begun in
      let told = λ (tell : IsTrue tells). are_halts seen may_leave faults moment left_since tells tells_moments before after not.made (begun_passed faults line.command before not.made volume not.begun seen may_leave moment left_since tells tells_moments after not.left) tell in
      record {
        rest = line ∷ lines;
        text = [];
        ran = none_ran statuses.NoMemory (line ∷ lines) (whole.chunks, whole.placed.0) before after not.made (world_halts not.made) sound told not.begun not.left;
        wrote = appends_none taken;
        counted = λ tell. tt;
      }

  -- a world without chunks, where a run stops that has no line
  untouched_in : (status : Status) (lines : List Line) → Begins lines → (disks : List D) (sectors names format : ℕ) → Stops faults status disks [] lines (bare 0 0 0) (bare sectors names format) → HasRunTo seen may_leave faults moment left_since tells tells_moments status lines lines [] disks disks
  untouched_in status lines begins disks sectors names format stops =
      none_ran status lines begins disks disks (bare sectors names format) [] (λ k c there. absurd (no_such k c there)) (λ tell. record { tells = λ k c there. absurd (no_such k c there); within = tt; causes = tt }) stops
      (record { told = λ k c there. absurd (no_such k c there); halves = λ k i c there low. absurd (no_such k c there); rest = refl; count = refl })

  -- nothing was run, and the disks are as they were
  pub untouched : (status : Status) (lines : List Line) (disks : List D) → Begins lines → HasRunTo seen may_leave faults moment left_since tells tells_moments status lines lines [] disks disks
  untouched statuses.NoMemory [] disks begins = untouched_in statuses.NoMemory [] begins disks 0 0 0 refl
  untouched statuses.NoMemory (line ∷ lines) disks begins =
      let volume = volume_of begins.0 line.command begins.1 in
      untouched_in statuses.NoMemory (line ∷ lines) begins disks volume.sectors volume.names volume.format (none_begun faults line.command disks volume)
  untouched statuses.Ok lines disks begins = untouched_in statuses.Ok lines begins disks 0 0 0 refl
  untouched statuses.Usage lines disks begins = untouched_in statuses.Usage lines begins disks 0 0 0 refl
  untouched statuses.Script lines disks begins = untouched_in statuses.Script lines begins disks 0 0 0 refl
  untouched statuses.ReadFault lines disks begins = untouched_in statuses.ReadFault lines begins disks 0 0 0 refl
  untouched statuses.WriteFault lines disks begins = untouched_in statuses.WriteFault lines begins disks 0 0 0 refl
