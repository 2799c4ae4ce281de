-- A volume is made on disks, or its first chunks are.
use Rattle.std.proofs.Common.{◌≡◌, ℕ, Bool, ◌+◌, ◌*◌, ◌≤◌, min, true, List, [], ◌∷◌, ◌++◌, IfSome, Option, drop, length, Some, None, flat_map, slice_get, refl, ap, sym, subst, ◌∙◌, arith, lit≤}
use Rattle.std.proofs.lemmas.Option.{slice_get_within}
use Rattle.pf_disk.specs.Crashes.{Images}
use Rattle.pf_script.specs.declared.command.Command.{Command}
use Rattle.pf_script.specs.declared.command.Command.TheVariants as commands
use Rattle.pf_script.specs.declared.named.NamedVolume.{NamedVolume}
use Rattle.pf_script.specs.Lines.{first_named, is_volume}
use Rattle.pf_journal.specs.declared.layouts.Layout.TheVariants.{Plain}
use Rattle.pf_protocol.specs.declared.answers.Answer.{Answer}
use Rattle.pf_protocol.specs.Answers.{IsLegal, IsSetup}
use Rattle.pf_protocol.specs.Servers.{Setup}
use Rattle.pf_group.specs.Making.{making_answer, setup_with}
use Rattle.pf_group.proofs.Sound.{sound}
use Rattle.pf_report.specs.Texts.{answer_text, report_line}
use Rattle.pf_chunk.specs.Saying.{answer_line}
use Rattle.pf_chunk.specs.Views.{ChunkIs}
use Rattle.pf_world.specs.declared.line.Line.{Line}
use Rattle.pf_world.specs.Disks.{AreLeft}
use Rattle.pf_world.specs.Headline.{IsSoundWorld, RunsTo}
use Rattle.pf_world.specs.Making.{AreBegun, AreNew}
use Rattle.pf_world.specs.Steps.{VolumeIsMade}
use Rattle.pf_world.specs.Views.{WorldIs, WorldOn}
use Rattle.pf_world.proofs.Begun.{some_chunks, volume_setup}
use Rattle.pf_world.proofs.Causes.{HasPassed}
use Rattle.pf_world.proofs.LinesAsRuns.{run_begins}
use Rattle.pf_run.specs.Placed.{MakesVolume}
use Rattle.pf_run.specs.Running.{HasBegunVolume, HasNotOpened, HasOpened}
use Rattle.pf_run.proofs.Made.{new_made}

-- a command that is a volume, with its numbers
pub record VolumeOf (command : Command) : Type 0 where
  pub chunks : ℕ
  pub sectors : ℕ
  pub names : ℕ
  pub format : ℕ
  pub is : command ≡ commands.Volume chunks sectors names format
  pub fits : is_volume chunks sectors names format ≡ true

pub volume_of : (n : ℕ) (command : Command) → MakesVolume n command → VolumeOf command
volume_of n (commands.Volume c s names f) volume = record { chunks = c; sectors = s; names = names; format = f; is = refl; fits = volume.1 }
volume_of n command volume = absurd volume

-- in a new volume lines may name what it has
names_first : (n chunks moves : ℕ) → chunks ≡ n → moves ≡ 0 → n ≤ 8 → ◌≡◌ {A = NamedVolume} (record { chunks = chunks; groups = min (chunks + moves) 8 }) (first_named n)
names_first n chunks moves is none few =
    ap (λ c. record { chunks = c; groups = min (c + moves) 8 }) is
    ∙ ap (λ groups. record { chunks = n; groups = groups }) (let same : min (n + moves) 8 ≡ n = omega (arith, none, few) in same)

-- the text of a volume that was made
made_says : (failed : List ℕ) (number : ℕ) (out : List ℕ) (answer : Answer) → answer ≡ making_answer failed → IfSome (answer_text answer) (λ text. out ≡ [] ++ report_line number text) → out ≡ answer_line number answer
made_says [] number out answer is put =
    let at = subst (λ a. IfSome (answer_text a) (λ text. out ≡ [] ++ report_line number text)) is put in
    at ∙ ap (answer_line number) (sym is)
made_says (i ∷ others) number out answer is put =
    let at = subst (λ a. IfSome (answer_text a) (λ text. out ≡ [] ++ report_line number text)) is put in
    at ∙ ap (answer_line number) (sym is)

-- a group to which nothing has happened has a legal history
new_legal : (setup : Setup) (sectors names format : ℕ) → IsSetup (setup_with sectors names format []) → setup ≡ setup_with sectors names format setup.failed → IsLegal setup []
new_legal setup sectors names format good is =
    let own : IsSetup (setup_with sectors names format setup.failed) = record { few_names = good.few_names; some_sectors = good.some_sectors; few_sectors = good.few_sectors; blocks = good.blocks; format = good.format; window = good.window } in
    record { is_setup = subst IsSetup (sym is) own; legal = tt }

none_at : (k : ℕ) (c : ChunkIs) → slice_get [] k ≡ Some c → ⊥
none_at k c there = absurd (omega (arith, slice_get_within [] k c there))

-- a world without chunks
abbrev pub bare : (sectors names format : ℕ) → WorldIs
bare sectors names format = record {
  sectors = sectors;
  names = names;
  format = format;
  chunks = [];
  fleet = record { volume = record { chunks = 0; sectors = 0 }; layout = Plain; hosts = []; calls = 0; routes = record { routes = []; moving = None }; mover = None };
  moves = 0;
  kind = None;
  passes = None;
}

-- before the first line there is no chunk
pub run_none : RunsTo [] [] (bare 0 0 0)
run_none = record { sessions = []; few = lit≤ tt; run = λ halts rest tell. record { world = refl; report = refl; ends = tt } }

module _ {D : Type 0} (faults : D → ℕ) (command : Command) (before : List D) where
  -- no chunk of the volume was made yet
  pub none_begun : (v : VolumeOf command) → HasBegunVolume faults command before (bare v.sectors v.names v.format)
  none_begun v =
      let left : WorldIs = bare v.sectors v.names v.format in
      subst (λ c. HasBegunVolume faults c before left) (sym v.is)
      (refl, refl, refl, record { few = omega arith; sixes = []; given = refl; each = λ k c there. absurd (none_at k c there); numbers = λ k c there. absurd (none_at k c there) })

  module _ (made : WorldIs) (v : VolumeOf command) (begun : HasBegunVolume faults command before made) where
    chunks_begun : AreBegun faults v.chunks v.sectors v.names v.format before made.chunks
    chunks_begun = (subst (λ c. HasBegunVolume faults c before made) v.is begun).3

    -- the histories of the first chunks are empty, and legal
    pub begun_sound : IsSoundWorld made
    begun_sound k c there = record {
      legal = λ told. subst (λ history. IsLegal c.group.setup history) (sym (chunks_begun.each k c there).history)
          (new_legal c.group.setup v.sectors v.names v.format (volume_setup v.chunks v.sectors v.names v.format v.fits) (chunks_begun.numbers k c there).1);
      sound = sound c.group.setup c.group.history;
    }

    pub begun_passed : (seen : D → Option (List ℕ)) (may_leave : D → Images) (moment : D → ℕ) (left_since : D → ℕ → Images) (tells tells_moments : Bool) (after : List D) → AreLeft seen may_leave faults moment left_since tells tells_moments made.chunks before after → HasPassed seen may_leave faults moment left_since tells tells_moments before after made
    begun_passed seen may_leave moment left_since tells tells_moments after left = record {
      numbers = λ k c there. (chunks_begun.numbers k c there).0;
      sound = begun_sound;
      made = new_made faults before made (record { sixes = chunks_begun.sixes; given = chunks_begun.given; each = chunks_begun.each });
      left = left;
    }

module _ {D : Type 0} (seen : D → Option (List ℕ)) (may_leave : D → Images) (faults moment : D → ℕ) (left_since : D → ℕ → Images) (tells tells_moments : Bool) (line : Line) (chunks sectors names format : ℕ) (is : line.command ≡ commands.Volume chunks sectors names format) (requires : (n : ℕ) × MakesVolume n line.command) where
  fits : is_volume chunks sectors names format ≡ true
  fits = (subst (λ (c : Command). (n : ℕ) × MakesVolume n c) is requires).1.1

  -- all chunks were made
  pub opened : (text : List ℕ) (answer : Answer) (disks : List D) (on : WorldOn D) → VolumeIsMade chunks sectors names format on.world answer → IsSoundWorld on.world → AreNew faults disks on.world → on.spare ≡ drop (6 * chunks) disks → IfSome (answer_text answer) (λ out. text ≡ [] ++ report_line line.number out)
      → HasOpened faults line text disks on
  opened text answer disks on made sound fresh spare put =
      subst (λ (c : Command). HasOpened faults (record { number = line.number; command = c }) text disks on) (sym is) (record {
        is_world = made.is_world;
        sound = sound;
        run = subst (λ t. RunsTo (record { number = line.number; command = commands.Volume chunks sectors names format } ∷ []) t on.world) (sym (made_says (flat_map (λ c. c.group.setup.failed) on.world.chunks) line.number text answer made.answered put))
            (run_begins chunks sectors names format line.number on.world answer made);
        fresh = fresh;
        volume = (sym made.count.0, fits);
        named = names_first (length on.world.chunks) on.world.fleet.volume.chunks on.world.moves (made.count.1 ∙ sym made.count.0) made.moves (omega (arith, made.count.0, some_chunks chunks sectors names format fits));
        calls = made.calls;
        moves = made.moves;
        spare = spare ∙ ap (λ n. drop (6 * n) disks) (sym made.count.0);
      })

  -- only the first were
  pub not_opened : (before after : List D) → (made : List ChunkIs) × AreBegun faults chunks sectors names format before made × AreLeft seen may_leave faults moment left_since tells tells_moments made before after → HasNotOpened seen may_leave faults moment left_since tells tells_moments line before after
  not_opened before after back =
      let made : WorldIs = record (bare sectors names format) { chunks = back.0 } in
      record { made = made; begun = subst (λ c. HasBegunVolume faults c before made) (sym is) (refl, refl, refl, back.1); left = back.2 }

  -- all were, but there was no memory for the text
  pub untold : (answer : Answer) (on : WorldOn D) (before after : List D) → VolumeIsMade chunks sectors names format on.world answer → AreNew faults before on.world → on.spare ≡ drop (6 * chunks) before → 48 ≤ length before
      → ((given : List D) → drop (6 * length on.world.chunks) given ≡ on.spare → 6 * length on.world.chunks ≤ length given → AreLeft seen may_leave faults moment left_since tells tells_moments on.world.chunks given after) → HasNotOpened seen may_leave faults moment left_since tells tells_moments line before after
  untold answer on before after made fresh spare enough closed =
      let begun : AreBegun faults chunks sectors names format before on.world.chunks = record {
        few = omega (arith, made.count.0);
        sixes = fresh.sixes;
        given = fresh.given;
        each = fresh.each;
        numbers = λ k c there.
            let its = made.is_world.each k c there in (
              its.number,
              its.setup ∙ ap (λ s. setup_with s on.world.names on.world.format its.failed) made.numbers.0 ∙ ap (λ n. setup_with sectors n on.world.format its.failed) made.numbers.1 ∙ ap (λ f. setup_with sectors names f its.failed) made.numbers.2
                  ∙ ap (λ (s : Setup). setup_with sectors names format s.failed) (sym its.setup),
            );
      } in
      record {
        made = on.world;
        begun = subst (λ c. HasBegunVolume faults c before on.world) (sym is) (made.numbers.0, made.numbers.1, made.numbers.2, begun);
        left = closed before (ap (λ n. drop (6 * n) before) made.count.0 ∙ sym spare) (omega (arith, made.count.0, some_chunks chunks sectors names format fits, enough));
      }
