-- Lines that are run one after another.
use Rattle.std.proofs.Common.{◌≡◌, ℕ, zero, suc, ◌+◌, ◌*◌, min, append_assoc, flat_map, length-append, ◌^◌, ◌<◌, ◌≤◌, List, [], ◌∷◌, ◌++◌, length, take, drop, get_or, Option, refl, sym, ap, subst, drop-cons, ◌∙◌, arith}
use Rattle.std.specs.Io.KnownBytes.{Appends}
use Rattle.std.proofs.lemmas.List.{take-append-drop, take_more}
use Rattle.std.proofs.lemmas.Option.{same_Some, slice_get-get_or, slice_get_read}
use Rattle.std.proofs.Math.ListN.{drop_of_length-le}
use Rattle.pf_script.specs.declared.command.Command.{Command}
use Rattle.pf_script.specs.declared.command.Command.TheVariants as commands
use Rattle.pf_script.specs.Lines.{named_after}
use Rattle.pf_volume.specs.Volumes.{Extent}
use Rattle.pf_world_moments.specs.Moments.{moments_text}
use Rattle.pf_world.specs.declared.line.Line.{Line}
use Rattle.pf_world.specs.Headline.{IsSoundWorld, RunsTo}
use Rattle.pf_world.specs.Disks.{six_list}
use Rattle.pf_world.specs.Making.{HasMadeMore}
use Rattle.pf_world.specs.Steps.{WorldGoesOn, LineHasFailed, HasRun, MayRun, MayRunAll, moves_after}
use Rattle.pf_world.specs.Views.{IsWorld, WorldIs, WorldOn, named_in}
use Rattle.pf_world.proofs.VolumeEvents.{same_world}
use Rattle.pf_world.proofs.LinesAsRuns.{goes_trans, run_goes_on}
use Rattle.pf_world.proofs.Sixes.{length_sixes}
use Rattle.pf_run_lines.specs.declared.status.Status.TheVariants as statuses
use Rattle.pf_run_lines.specs.Ends.{AppendsFront}
use Rattle.pf_run.specs.Running.{HasGoneOn}
use Rattle.pf_run_lines.proofs.Taken.{appends_both, appends_none}
use Rattle.pf_run.proofs.VolumeMaking.{bare, run_none}

abbrev pub no_line : Line
no_line = record { number = 0; command = commands.Volume 0 0 0 0 }

-- the line that stands there
pub item_is : (lines : List Line) (i : ℕ) (line : Line) → i < length lines → line ≡ get_or lines i line → line ≡ get_or lines i no_line
item_is lines i line low is = same_Some line (get_or lines i no_line) (sym (slice_get_read lines (length lines) i line refl low is) ∙ slice_get-get_or lines i no_line low)

at_most_one : (moves : ℕ) (command : Command) → moves_after moves command ≤ moves + 1
at_most_one moves (commands.Move chunk) = omega arith
at_most_one moves command = omega arith

-- what lines may name behind one that was run
named_is : (chunks moves : ℕ) (command : Command) → MayRun (record { chunks = chunks; groups = min (chunks + moves) 8 }) command
    → record { chunks = chunks; groups = min (chunks + moves_after moves command) 8 } ≡ named_after (record { chunks = chunks; groups = min (chunks + moves) 8 }) command
named_is chunks moves (commands.Volume c s n f) may = absurd may
named_is chunks moves (commands.Move chunk) may =
    let same : min (chunks + suc moves) 8 ≡ min (min (chunks + moves) 8 + 1) 8 = omega arith in
    ap (λ groups. record { chunks = chunks; groups = groups }) same
named_is chunks moves command may = refl

named_next : (old new : WorldIs) (command : Command) → new.fleet.volume ≡ old.fleet.volume → new.moves ≡ moves_after old.moves command → MayRun (named_in old) command → named_in new ≡ named_after (named_in old) command
named_next old new command volume moves may =
    ap (λ (v : Extent). record { chunks = v.chunks; groups = min (v.chunks + new.moves) 8 }) volume
    ∙ ap (λ n. record { chunks = old.fleet.volume.chunks; groups = min (old.fleet.volume.chunks + n) 8 }) moves
    ∙ named_is old.fleet.volume.chunks old.moves command may

-- after the volume these lines were run, and the texts written
pub record HasGone (volume : Line) (done : List Line) (taken now : Option (List ℕ)) (old world : WorldIs) : Type 0 where
  pub text : List ℕ
  pub run : RunsTo (volume ∷ done) text world
  pub lawful : IsSoundWorld world
  pub is_world : IsWorld world
  pub goes_on : WorldGoesOn old world
  pub calls : world.fleet.calls ≤ old.fleet.calls + length done
  pub moves : world.moves ≤ old.moves + length done
  pub may : (rest : List Line) → MayRunAll (named_in old) (done ++ rest) → MayRunAll (named_in world) rest
  pub written : Appends taken now text

pub gone_none : (volume : Line) (text : List ℕ) (taken now : Option (List ℕ)) (w : WorldIs) → RunsTo (volume ∷ []) text w → IsWorld w → IsSoundWorld w → Appends taken now text → HasGone volume [] taken now w w
gone_none volume text taken now w run is_world sound written = record { text = text; run = run; lawful = sound; is_world = is_world; goes_on = same_world w; calls = omega arith; moves = omega arith; may = λ rest all. all; written = written }

length_taken : (lines : List Line) (i : ℕ) → i ≤ length lines → length (take i lines) ≡ i
length_taken lines zero low = refl
length_taken [] (suc i) low = absurd (omega (arith, low))
length_taken (line ∷ lines) (suc i) low = ap suc (length_taken lines i (omega (arith, low)))

-- one line more was run
pub gone_more : (volume : Line) (lines : List Line) (i : ℕ) (taken now later : Option (List ℕ)) (old w new : WorldIs) (out : List ℕ) → i < length lines
    → HasGone volume (take i lines) taken now old w → HasRun w (get_or lines i no_line).number (get_or lines i no_line).command [] out new → IsSoundWorld new → Appends now later out
    → HasGone volume (take (i + 1) lines) taken later old new
gone_more volume lines i taken now later old w new out low gone ran sound put =
    let line = get_or lines i no_line in
    let run : RunsTo ((volume ∷ take i lines) ++ line ∷ []) (gone.text ++ moments_text ran.told) new = run_goes_on (volume ∷ take i lines) gone.text w line.number line.command ran.told new gone.run ran.runs in
    record {
      text = gone.text ++ moments_text ran.told;
      run = subst (λ done. RunsTo (volume ∷ done) (gone.text ++ moments_text ran.told) new) (sym (take_more lines i no_line low)) run;
      lawful = sound;
      is_world = ran.runs.is_world;
      goes_on = goes_trans old w new gone.goes_on ran.runs.goes_on;
      calls = omega (arith, gone.calls, ran.runs.calls, length_taken lines i (omega (arith, low)), length_taken lines (i + 1) (omega (arith, low)));
      moves = omega (arith, gone.moves, ran.runs.moves, at_most_one w.moves line.command, length_taken lines i (omega (arith, low)), length_taken lines (i + 1) (omega (arith, low)));
      may = λ rest all.
          let parts : (take i lines ++ line ∷ []) ++ rest ≡ take i lines ++ line ∷ rest = append_assoc (take i lines) (line ∷ []) rest in
          let behind = gone.may (line ∷ rest) (subst (MayRunAll (named_in old)) parts (subst (λ done. MayRunAll (named_in old) (done ++ rest)) (take_more lines i no_line low) all)) in
          subst (λ named. MayRunAll named rest) (sym (named_next w new line.command ran.runs.volume ran.runs.moves behind.0)) behind.1;
      written = appends_both taken now later gone.text (moments_text ran.told) gone.written (subst (Appends now later) ran.put put);
    }

-- memory ran out in the next line
pub gone_short : (volume : Line) (lines : List Line) (i : ℕ) (taken now : Option (List ℕ)) (full : Type 0) (old w new : WorldIs) → i < length lines
    → HasGone volume (take i lines) taken now old w → LineHasFailed w (get_or lines i no_line).number (get_or lines i no_line).command new → IsSoundWorld new → HasGoneOn statuses.NoMemory volume lines taken now full old new
gone_short volume lines i taken now full old w new low gone failed sound = record {
  done = take i lines;
  rest = get_or lines i no_line ∷ drop (suc i) lines;
  first = ap (λ behind. take i lines ++ behind) (sym (drop-cons lines i no_line low)) ∙ take-append-drop i lines;
  text = gone.text;
  world = w;
  run = gone.run;
  is_world = gone.is_world;
  goes_on = gone.goes_on;
  lawful = gone.lawful;
  leaves = failed;
  lawful_left = sound;
  count = omega (arith, failed.goes_on.at_least, gone.goes_on.at_least);
  wrote = gone.written;
}

-- the sink failed at the text of the volume
pub full_first : (volume : Line) (lines : List Line) (text : List ℕ) (taken now : Option (List ℕ)) (full : Type 0) (w : WorldIs) → RunsTo (volume ∷ []) text w → IsWorld w → IsSoundWorld w → full → AppendsFront taken now text
    → HasGoneOn statuses.WriteFault volume lines taken now full w w
full_first volume lines text taken now full w run is_world sound rose front = record {
  done = [];
  rest = lines;
  first = refl;
  text = text;
  world = w;
  run = run;
  is_world = is_world;
  goes_on = same_world w;
  lawful = sound;
  leaves = refl;
  lawful_left = sound;
  count = omega arith;
  wrote = (
    rose,
    record {
      earlier = [];
      last = volume;
      lines_are = refl;
      before = [];
      its = text;
      text_is = refl;
      world = bare 0 0 0;
      run = run_none;
      middle = taken;
      written = appends_none taken;
      front = front;
    },
  );
}

-- or at the text of the next line
pub full_later : (volume : Line) (lines : List Line) (i : ℕ) (taken now later : Option (List ℕ)) (full : Type 0) (old w new : WorldIs) (out : List ℕ) → i < length lines
    → HasGone volume (take i lines) taken now old w → HasRun w (get_or lines i no_line).number (get_or lines i no_line).command [] out new → IsSoundWorld new → full → AppendsFront now later out
    → HasGoneOn statuses.WriteFault volume lines taken later full old new
full_later volume lines i taken now later full old w new out low gone ran sound rose front =
    let line = get_or lines i no_line in
    let run : RunsTo ((volume ∷ take i lines) ++ line ∷ []) (gone.text ++ moments_text ran.told) new = run_goes_on (volume ∷ take i lines) gone.text w line.number line.command ran.told new gone.run ran.runs in
    record {
      done = take (i + 1) lines;
      rest = drop (i + 1) lines;
      first = take-append-drop (i + 1) lines;
      text = gone.text ++ moments_text ran.told;
      world = new;
      run = subst (λ done. RunsTo (volume ∷ done) (gone.text ++ moments_text ran.told) new) (sym (take_more lines i no_line low)) run;
      is_world = ran.runs.is_world;
      goes_on = goes_trans old w new gone.goes_on ran.runs.goes_on;
      lawful = sound;
      leaves = refl;
      lawful_left = sound;
      count = omega (arith, ran.runs.goes_on.at_least, gone.goes_on.at_least);
      wrote = (
        rose,
        record {
          earlier = volume ∷ take i lines;
          last = line;
          lines_are = ap (λ ls. volume ∷ ls) (sym (take_more lines i no_line low));
          before = gone.text;
          its = moments_text ran.told;
          text_is = refl;
          world = w;
          run = gone.run;
          middle = now;
          written = gone.written;
          front = subst (AppendsFront now later) ran.put front;
        },
      );
    }

-- all lines were run
pub gone_all : (volume : Line) (lines : List Line) (i : ℕ) (taken now : Option (List ℕ)) (full : Type 0) (old w : WorldIs) → length lines ≤ i
    → HasGone volume (take i lines) taken now old w → HasGoneOn statuses.Ok volume lines taken now full old w
gone_all volume lines i taken now full old w all gone = record {
  done = take i lines;
  rest = drop i lines;
  first = take-append-drop i lines;
  text = gone.text;
  world = w;
  run = gone.run;
  is_world = gone.is_world;
  goes_on = gone.goes_on;
  lawful = gone.lawful;
  leaves = refl;
  lawful_left = gone.lawful;
  count = gone.goes_on.at_least;
  wrote = (drop_of_length-le lines all, gone.written);
}

-- the next line may be run
pub may_run : (volume : Line) (lines : List Line) (i : ℕ) (taken now : Option (List ℕ)) (old w : WorldIs) → i < length lines → MayRunAll (named_in old) lines → HasGone volume (take i lines) taken now old w → MayRun (named_in w) (get_or lines i no_line).command
may_run volume lines i taken now old w low all gone =
    let whole : take i lines ++ get_or lines i no_line ∷ drop (suc i) lines ≡ lines = ap (λ behind. take i lines ++ behind) (sym (drop-cons lines i no_line low)) ∙ take-append-drop i lines in
    (gone.may (get_or lines i no_line ∷ drop (suc i) lines) (subst (MayRunAll (named_in old)) (sym whole) all)).0

-- so few calls were begun that the next line may begin one
pub few_calls : (volume : Line) (lines : List Line) (i : ℕ) (taken now : Option (List ℕ)) (old w : WorldIs) → i < length lines → old.fleet.calls + length lines < 2 ^ 32 → HasGone volume (take i lines) taken now old w → w.fleet.calls + 1 < 2 ^ 32
few_calls volume lines i taken now old w low few gone = omega (arith, low, few, gone.calls, length_taken lines i (omega (arith, low)))

-- and so few moves
pub few_moves : (volume : Line) (lines : List Line) (i : ℕ) (taken now : Option (List ℕ)) (old w : WorldIs) → i < length lines → old.moves + length lines < 2 ^ 32 → HasGone volume (take i lines) taken now old w → w.moves + 1 < 2 ^ 32
few_moves volume lines i taken now old w low few gone = omega (arith, low, few, gone.moves, length_taken lines i (omega (arith, low)))

-- no disk got lost
pub disks_enough : {D : Type 0} (faults : D → ℕ) (old new : WorldOn D) → HasMadeMore faults old new → 48 ≤ 6 * length old.world.chunks + length old.spare → 48 ≤ 6 * length new.world.chunks + length new.spare
disks_enough faults old new more enough = omega (arith, enough, more.count, ap length more.given, length-append (flat_map six_list more.sixes) new.spare, length_sixes more.sixes)
