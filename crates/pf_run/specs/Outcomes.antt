-- How a run ends: what is known at each status.
use Rattle.std.specs.Prelude.{◌≡◌, ◌≤◌, ◌⊎◌, ℕ, Bool, IsTrue, List, [], ◌∷◌, ◌++◌, length, Option, Some, None, IsOk, IsErr, Ok, Err}
use Rattle.std.specs.Io.KnownBytes.{Appends, IsAtEnd}
use Rattle.pf_disk.specs.Crashes.{Images}
use Rattle.pf_live_session.specs.Sessions.{Session}
use Rattle.pf_script.specs.declared.command.LineFault.{LineFault}
use Rattle.pf_world.specs.declared.line.Line.{Line}
use Rattle.pf_world.specs.Headline.{AreHalts, EndEach, live_lines}
use Rattle.pf_run_lines.specs.declared.status.Status.{Status}
use Rattle.pf_run_lines.specs.declared.status.Status.TheVariants as statuses
use Rattle.pf_run_words.specs.Tasks.{IfRun}
use Rattle.pf_run_words.specs.declared.words.Task.{Task}
use Rattle.pf_run_words.specs.declared.words.Task.TheVariants as tasks
use Rattle.pf_run_lines.specs.LineScans.{Judged}
use Rattle.pf_run.specs.Scripts.{script_of, script_rules}
use Rattle.pf_run_lines.specs.Runs.{IsReadUpto, IsSource, IsUndecided}
use Rattle.pf_run_lines.specs.Refusing.{fault_text}
use Rattle.pf_run_lines.specs.Ends.{AppendsFront}
use Rattle.pf_run.specs.Reports.{lines_for, usage_text}
use Rattle.pf_world.specs.Reports.{report_of, world_run}
use Rattle.pf_world.specs.Worlds.{World, no_world}
use Rattle.pf_run.specs.Headline.{HasOneListOf, Headline}
use Rattle.pf_run.specs.Running.{HasRunTo, HasStoppedAt}
use Rattle.pf_run.specs.Generating.{IsSummed}
use Rattle.pf_run_lines.specs.Checking.{CheckEnds}
use Rattle.pf_run.specs.Listing.{ListEnds}

-- `run` and `check` read their source
abbrev pub SourceIsLeft : Option Task → (left rest : Option (List ℕ)) → Type 0
SourceIsLeft (Some (tasks.Run workers)) left rest = Unit {0}
SourceIsLeft (Some tasks.Check) left rest = Unit {0}
SourceIsLeft task left rest = rest ≡ left

-- the disks that the lines of a task left: a listing runs none, and only reads
abbrev pub left_by_task : {D : Type 0} → Option Task → (before after : List D) → List D
left_by_task (Some (tasks.Log group server)) before after = before
left_by_task task before after = after

-- a line of the script is refused: nothing was read behind the piece of at most 4,096 bytes in which it became whole, and its fault was told
pub record IsRefusedScript (script : List ℕ) (left rest taken now : Option (List ℕ)) : Type 0 where
  pub line : ℕ
  pub fault : LineFault
  pub refused : script_of script ≡ Err (line, fault)
  pub read : IsReadUpto script_rules None left rest line fault
  pub told : Appends taken now (fault_text line fault)

-- the sink failed in what is told of a script: in the text of the last line that was run, or in the fault of a refused line
abbrev pub IsCutOff : Judged Line → (done : List Line) → (text : List ℕ) → (left rest taken now : Option (List ℕ)) → Type 0
IsCutOff (Ok lines) done text left rest taken now = HasStoppedAt done text taken now
IsCutOff (Err refused) done text left rest taken now = IsReadUpto script_rules None left rest refused.0 refused.1
    × AppendsFront taken now (fault_text refused.0 refused.1)

-- A status of `run`, for a script: the lines that were run and those that were not, and the text of the former; what the source had and has left,
-- whether its faults rose, what the sink had and has taken, and whether its faults rose; and the disks before and after.
abbrev pub RunEnds : {D : Type 0} → Status → (script : List ℕ) → (done behind : List Line) → (text : List ℕ) → (left rest : Option (List ℕ)) → (failed : Type 0)
    → (taken now : Option (List ℕ)) → (full : Type 0) → (before after : List D) → Type 0
RunEnds statuses.Ok script done behind text left rest failed taken now full before after =
    IsOk (script_of script) × IsAtEnd rest × (behind ≡ []) × Appends taken now text
RunEnds statuses.NoMemory script done behind text left rest failed taken now full before after = Appends taken now text
RunEnds statuses.Usage script done behind text left rest failed taken now full before after = ⊥
RunEnds statuses.Script script done behind text left rest failed taken now full before after = IsRefusedScript script left rest taken now × (after ≡ before)
RunEnds statuses.ReadFault script done behind text left rest failed taken now full before after =
    failed × IsUndecided script_rules None left rest × Appends taken now [] × (after ≡ before)
RunEnds statuses.WriteFault script done behind text left rest failed taken now full before after =
    full × IsCutOff (script_of script) done text left rest taken now

-- and of words that are not accepted
abbrev pub UsageEnds : {D : Type 0} → Status → (taken now : Option (List ℕ)) → (full : Type 0) → (before after : List D) → Type 0
UsageEnds statuses.Usage taken now full before after = Appends taken now usage_text × (after ≡ before)
UsageEnds statuses.NoMemory taken now full before after = Appends taken now []
UsageEnds statuses.WriteFault taken now full before after = full × AppendsFront taken now usage_text
UsageEnds status taken now full before after = ⊥

module _ {D : Type 0} (seen : D → Option (List ℕ)) (may_leave : D → Images) (faults moment : D → ℕ) (left_since : D → ℕ → Images) (tells tells_moments : Bool)
  where
    -- of any words, where the lines that were run led to this world, if disks tell their content
    abbrev pub Ending : Option Task → Status → (script : List ℕ) → (done behind : List Line) → (text : List ℕ) → (run : IsTrue tells → World)
        → (left rest : Option (List ℕ)) → (failed : Type 0) → (taken now : Option (List ℕ)) → (full : Type 0) → (before after : List D) → Type 0
    Ending None status script done behind text run left rest failed taken now full before after = UsageEnds status taken now full before after
    Ending (Some (tasks.Run workers)) status script done behind text run left rest failed taken now full before after =
        RunEnds status script done behind text left rest failed taken now full before after
    Ending (Some (tasks.Gen number workers)) status script done behind text run left rest failed taken now full before after =
        IsSummed tells status number behind run taken now full
    Ending (Some tasks.Check) status script done behind text run left rest failed taken now full before after =
        CheckEnds status script left rest failed taken now full × (after ≡ before)
    Ending (Some (tasks.Log group server)) status script done behind text run left rest failed taken now full before after =
        ListEnds seen may_leave faults group server status taken now full before after

    -- the same for what the source gives, with how far the lines of the task were run
    pub record Outcome (status : Status) (task : Option Task) (left rest : Option (List ℕ)) (failed : Type 0) (taken now : Option (List ℕ)) (full : Type 0)
        (before after : List D) : Type 0 where
      pub script : List ℕ
      pub source : IsSource left script
      pub kept : SourceIsLeft task left rest
      pub behind : List Line
      pub text : List ℕ
      pub ran : HasRunTo seen may_leave faults moment left_since tells tells_moments status (lines_for task script) behind text before
          (left_by_task task before after)
      pub ending : Ending task status script ran.done behind text (λ told. (world_run (ran.ruled told).halts ran.run.sessions ran.done).world) left rest failed
          taken now full before after

    -- One run stands behind a status: that of its outcome. The headline holds of the lines that it did, under its halts, each of which has its
    -- cause, with its sessions and its text; the outcome says what of this text was taken, and that the disks which came back are those of its
    -- end. One list holds of it with the whole next line too, of which what stands is a beginning where memory ran out in the middle of that. With
    -- status 0 these are all lines, and the sink took the whole text of the source's script: it is the run that is reported
    pub record HasHeadline (tell : IsTrue tells) (status : Status) (task : Option Task) (given : List ℕ) (left rest : Option (List ℕ)) (failed : Type 0)
        (taken now : Option (List ℕ)) (full : Type 0) (before after : List D) : Type 0 where
      pub outcome : Outcome status task left rest failed taken now full before after
      pub given_is : outcome.script ≡ given
      pub holds : Headline (outcome.ran.ruled tell).halts outcome.ran.run.sessions outcome.ran.done outcome.text
      pub within : (line : Line) (rest : List Line) → outcome.behind ≡ line ∷ rest
          → HasOneListOf (outcome.ran.ruled tell).halts outcome.ran.run.sessions (outcome.ran.done ++ line ∷ [])
      pub caused : AreHalts faults (outcome.ran.ruled tell).halts before after outcome.ran.left
      pub whole : status ≡ statuses.Ok → (outcome.behind ≡ []) × IfRun task (Appends taken now outcome.text)

    -- the script is accepted, all its lines were run, and the sink took their whole text
    pub record IsReported (script : List ℕ) (taken now : Option (List ℕ)) (before after : List D) : Type 0 where
      pub lines : List Line
      pub accepted : script_of script ≡ Ok lines
      pub text : List ℕ
      pub ran : HasRunTo seen may_leave faults moment left_since tells tells_moments statuses.Ok lines [] text before after
      pub written : Appends taken now text

-- the sink took the report of the script's lines, of which none was cut off, with the sessions of its live lines: so of the script alone where
-- it has no such line
pub record IsPlain (script : List ℕ) (taken now : Option (List ℕ)) : Type 0 where
  pub lines : List Line
  pub accepted : script_of script ≡ Ok lines
  pub sessions : List Session
  pub few : length sessions ≤ live_lines lines
  pub ends : EndEach [] (no_world sessions) lines
  pub written : Appends taken now (report_of [] sessions lines)

-- lines are judged: a report, a verdict or a fault is told, unless memory runs out, the sink fails, or the source failed
-- before a refused line was whole
abbrev pub JudgesScript : {I : Type 0} → Status → Judged I → Type 0 → Type 0 → Type 0
JudgesScript statuses.Ok judged failed full = IsOk judged
JudgesScript statuses.NoMemory judged failed full = Unit {0}
JudgesScript statuses.Usage judged failed full = ⊥
JudgesScript statuses.Script judged failed full = IsErr judged
JudgesScript statuses.ReadFault judged failed full = failed
JudgesScript statuses.WriteFault judged failed full = full

-- accepted lines are reported or judged, and a refused one told of, unless memory runs out
abbrev pub Completes : {I : Type 0} → Status → Judged I → Type 0
Completes status (Ok items) = (status ≡ statuses.Ok) ⊎ (status ≡ statuses.NoMemory)
Completes status (Err refused) = (status ≡ statuses.Script) ⊎ (status ≡ statuses.NoMemory)
