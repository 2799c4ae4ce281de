-- Lines that were run one after another are a run: what the making of a world and each line say is enough for a whole script.
use Rattle.std.proofs.Common.{◌≡◌, ℕ, ◌<◌, ◌≤◌, cond, List, [], ◌∷◌, ◌++◌, length, length-append, lit≤, map, get_or, arith, refl, sym, ap, subst, ◌∙◌}
use Rattle.std.specs.List.{flat_map}
use Rattle.std.proofs.lemmas.List.{append_assoc, append-nil}
use Rattle.std.proofs.lemmas.List.Sums.{sum_by-append}
use Rattle.std.proofs.lemmas.Grind.{flat_map-append}
use Rattle.std.proofs.lemmas.Option.{slice_get-get_or, slice_get_within}
use Rattle.pf_script.specs.declared.command.Command.{Command}
use Rattle.pf_script.specs.declared.command.Command.TheVariants as commands
use Rattle.pf_protocol.specs.declared.answers.Answer.{Answer}
use Rattle.pf_live_session.specs.pf_group_rounds.specs.Halts.{Halt}
use Rattle.pf_live_session.specs.pf_chunk.specs.Saying.{answer_line}
use Rattle.pf_live_session.specs.pf_group.specs.Making.{making_answer}
use Rattle.pf_live_session.specs.pf_chunk.specs.Runs.{ChunkRun}
use Rattle.pf_live_session.specs.pf_chunk.specs.Views.{ChunkIs, run_of}
use Rattle.pf_world_hosts.specs.pf_world_moments.specs.Moments.{Moment, lines_in, moments_text}
use Rattle.pf_world.specs.Worlds.{WorldTold, World, made_answer, no_world}
use Rattle.pf_world.specs.Lines.{line_told, volume_told}
use Rattle.pf_world.specs.declared.line.Line.{Line}
use Rattle.pf_world.specs.Reports.{world_followed, run_from, world_run}
use Rattle.pf_world.specs.Views.{WorldIs, world_stands_at}
use Rattle.pf_world.specs.Agreeing.{WorldTells}
use Rattle.pf_live_session.specs.Sessions.{Session}
use Rattle.pf_world.specs.Steps.{LineEnds, WorldGoesOn, VolumeIsMade, IsLineRun, TakesSessions}
use Rattle.pf_world.specs.Headline.{EndEach, IsRunTo, RunsTo, is_live}
use Rattle.pf_live_session.specs.pf_group_rounds.proofs.GroupGrowth.{grown_tells, grown_trans}
use Rattle.pf_live_session.specs.pf_group_network.proofs.Lists.{something_there}

-- the making is halted where some server could not be formatted
made_says : (halts : List Halt) (sessions : List Session) (w : WorldIs) → made_answer (world_stands_at halts sessions w) ≡ making_answer (flat_map (λ c. c.group.setup.failed) w.chunks)
made_says halts sessions w = ap making_answer (flat_mapped w.chunks) where
  flat_mapped : (cs : List ChunkIs) → flat_map (λ (c : ChunkRun). c.group.setup.failed) (map (run_of halts) cs) ≡ flat_map (λ c. c.group.setup.failed) cs
  flat_mapped [] = refl
  flat_mapped (c ∷ cs) = ap (λ fs. c.group.setup.failed ++ fs) (flat_mapped cs)

-- a list that tells of a world told of it before
pub tells_earlier : (halts : List Halt) (old new : WorldIs) → WorldGoesOn old new → WorldTells halts new → WorldTells halts old
tells_earlier halts old new on tells k was there =
    let low : k < length new.chunks = omega (arith, on.at_least, slice_get_within old.chunks k was there) in
    let now = slice_get-get_or new.chunks k was low in
    grown_tells halts was.group (get_or new.chunks k was).group (on.grown k was (get_or new.chunks k was) there now) (tells k (get_or new.chunks k was) now)

pub goes_trans : (a b c : WorldIs) → WorldGoesOn a b → WorldGoesOn b c → WorldGoesOn a c
goes_trans a b c first second = record {
  sectors = second.sectors ∙ first.sectors;
  names = second.names ∙ first.names;
  format = second.format ∙ first.format;
  at_least = omega (arith, first.at_least, second.at_least);
  grown = λ k was is before after.
      let low : k < length b.chunks = omega (arith, first.at_least, slice_get_within a.chunks k was before) in
      let mid = something_there b.chunks k low in
      grown_trans was.group mid.0.group is.group (first.grown k was mid.0 before mid.1) (second.grown k mid.0 is mid.1 after);
}

-- one more line at the end
followed_assoc : (first : WorldTold) (more last : World → WorldTold) → world_followed (world_followed first more) last ≡ world_followed first (λ w. world_followed (more w) last)
followed_assoc first more last = ap (λ told. record { world = (last (more first.world).world).world; told = told }) (append_assoc first.told (more first.world).told (last (more first.world).world).told)

run_one : (halts : List Halt) (w : World) (line : Line) → run_from halts w (line ∷ []) ≡ line_told halts w line.number line.command
run_one halts w line = ap (λ told. record { world = (line_told halts w line.number line.command).world; told = told }) (append-nil (line_told halts w line.number line.command).told)

run_snoc : (halts : List Halt) (w : World) (lines : List Line) (line : Line) → run_from halts w (lines ++ line ∷ []) ≡ world_followed (run_from halts w lines) (λ next. line_told halts next line.number line.command)
run_snoc halts w [] line = run_one halts w line
run_snoc halts w (first ∷ lines) line =
    ap (λ rest. record { world = rest.world; told = (line_told halts w first.number first.command).told ++ rest.told }) (run_snoc halts (line_told halts w first.number first.command).world lines line)
    ∙ sym (followed_assoc (line_told halts w first.number first.command) (λ next. run_from halts next lines) (λ next. line_told halts next line.number line.command))

-- a run of no line, but for its end
ends_one : (halts : List Halt) (lines : List Line) (w : World) (line : Line) → EndEach halts w lines → LineEnds halts (run_from halts w lines).world line.command → EndEach halts w (lines ++ line ∷ [])
ends_one halts [] w line each last = (last, tt)
ends_one halts (first ∷ lines) w line each last = (each.0, ends_one halts lines (line_told halts w first.number first.command).world line each.1 last)

-- a line of threads more, and a session more at most
takes_few : (command : Command) (sessions : List Session) → TakesSessions command sessions → length sessions ≤ cond (is_live command) 1 0
takes_few (commands.Live chunk hosts writes workers turns) sessions takes = takes
takes_few command sessions takes = subst (λ (ss : List Session). length ss ≤ 0) (sym takes) (lit≤ tt)

-- the volume is the first line
pub run_begins : (chunks sectors names format number : ℕ) (w : WorldIs) (answer : Answer) → VolumeIsMade chunks sectors names format w answer → RunsTo (record { number = number; command = commands.Volume chunks sectors names format } ∷ []) (answer_line number answer) w
run_begins chunks sectors names format number w answer made = record {
  sessions = [];
  few = lit≤ tt;
  run = λ halts rest tells.
      let line : Line = record { number = number; command = commands.Volume chunks sectors names format } in
      let told = run_one halts (no_world rest) line ∙ ap (volume_told number) (made.run halts rest tells) in
      record {
        world = ap (λ (t : WorldTold). t.world) told;
        report = ap (λ (t : WorldTold). moments_text t.told) told ∙ append-nil (answer_line number (made_answer (world_stands_at halts rest w))) ∙ ap (answer_line number) (made_says halts rest w ∙ sym made.answered);
        ends = (λ made. tt, tt);
      };
}

-- and each line that was run goes on with it
pub run_goes_on : (lines : List Line) (text : List ℕ) (old : WorldIs) (number : ℕ) (command : Command) (more : List Moment) (new : WorldIs) → RunsTo lines text old → IsLineRun old number command more new → RunsTo (lines ++ record { number = number; command = command } ∷ []) (text ++ moments_text more) new
run_goes_on lines text old number command more new before runs =
    let line : Line = record { number = number; command = command } in
    let all = before.sessions ++ runs.sessions in record {
      sessions = all;
      few = omega (arith, length-append before.sessions runs.sessions, before.few, takes_few command runs.sessions runs.takes, sum_by-append (λ (l : Line). cond (is_live l.command) 1 0) lines (line ∷ []));
      run = λ halts rest tells.
          let was = before.run halts (runs.sessions ++ rest) (tells_earlier halts old new runs.goes_on tells) in
          let same : before.sessions ++ (runs.sessions ++ rest) ≡ all ++ rest = sym (append_assoc before.sessions runs.sessions rest) in
          let so_far : WorldTold = world_run halts (before.sessions ++ (runs.sessions ++ rest)) lines in
          let last : line_told halts so_far.world number command ≡ record { world = world_stands_at halts rest new; told = more } = ap (λ w. line_told halts w number command) was.world ∙ runs.run halts rest tells in
          let whole : world_run halts (before.sessions ++ (runs.sessions ++ rest)) (lines ++ line ∷ []) ≡ record { world = world_stands_at halts rest new; told = so_far.told ++ more } =
          run_snoc halts (no_world (before.sessions ++ (runs.sessions ++ rest))) lines line ∙ ap (λ (t : WorldTold). record { world = t.world; told = so_far.told ++ t.told }) last in
          subst (λ ss. IsRunTo halts ss rest (lines ++ line ∷ []) (text ++ moments_text more) new) same (record {
            world = ap (λ (t : WorldTold). t.world) whole;
            report = ap (λ (t : WorldTold). moments_text t.told) whole ∙ flat_map-append lines_in so_far.told more ∙ ap (λ xs. xs ++ moments_text more) was.report;
            ends = ends_one halts lines (no_world (before.sessions ++ (runs.sessions ++ rest))) line was.ends (subst (λ (w : World). LineEnds halts w command) (sym was.world) (runs.ends halts rest tells));
          });
    }
