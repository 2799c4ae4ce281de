-- How each end of a run is told.
use Rattle.std.proofs.Common.{◌≡◌, inl, ℕ, Bool, List, [], Option, Some, None, is_ok, refl, ap, sym, subst}
use Rattle.std.specs.Prelude.{IsTrue}
use Rattle.std.specs.Io.KnownBytes.{Appends}
use Rattle.pf_disk.specs.Crashes.{Images}
use Rattle.pf_gen.specs.Generated.{generated}
use Rattle.pf_script.specs.declared.command.LineFault.{LineFault}
use Rattle.pf_world.specs.declared.line.Line.{Line}
use Rattle.pf_world.specs.Worlds.{World}
use Rattle.pf_run_lines.specs.declared.scan.Stop.{Stop}
use Rattle.pf_run_lines.specs.declared.scan.Stop.TheVariants as stops
use Rattle.pf_run_lines.specs.declared.status.Status.{Status}
use Rattle.pf_run_lines.specs.declared.status.Status.TheVariants as statuses
use Rattle.pf_run_words.specs.declared.words.Task.{Task}
use Rattle.pf_run_words.specs.declared.words.Task.TheVariants as tasks
use Rattle.pf_run.specs.Scripts.{script_of, script_rules}
use Rattle.pf_run_lines.specs.Runs.{IsReadUpto, IsRefused, IsText, IsUndecided, StopSays}
use Rattle.pf_run_lines.specs.Ends.{AppendsFront}
use Rattle.pf_run.specs.Reports.{judged_lines, lines_for, usage_text}
use Rattle.pf_run_lines.specs.Refusing.{EndsAtStop, LineRefuses, fault_text}
use Rattle.pf_run_lines.specs.Checking.{HasChecked}
use Rattle.pf_run.specs.Running.{HasRunLines, HasRunTo, Wrote}
use Rattle.pf_run.specs.Generating.{HasGenerated}
use Rattle.pf_run.specs.Listing.{ListEnds}
use Rattle.pf_run.specs.Outcomes.{Ending, IsCutOff, SourceIsLeft, Outcome, RunEnds, left_by_task}
use Rattle.pf_run_lines.proofs.TextPieces.{a_text, is_text}
use Rattle.pf_run_lines.proofs.Taken.{appends_none}
use Rattle.pf_run.proofs.Whole.{Begins, script_begins, untouched}

-- the first line is a volume
lines_begin : (task : Option Task) (script : List ℕ) → Begins (lines_for task script)
lines_begin None script = tt
lines_begin (Some (tasks.Run workers)) script = script_begins script
lines_begin (Some (tasks.Gen number workers)) script = script_begins (generated number)
lines_begin (Some tasks.Check) script = tt
lines_begin (Some (tasks.Log group server)) script = tt

left_same : (task : Option Task) (left : Option (List ℕ)) → SourceIsLeft task left left
left_same None left = refl
left_same (Some (tasks.Run workers)) left = tt
left_same (Some (tasks.Gen number workers)) left = refl
left_same (Some tasks.Check) left = tt
left_same (Some (tasks.Log group server)) left = refl

-- no line changed the disks
none_changed : {D : Type 0} (task : Option Task) (disks : List D) → disks ≡ left_by_task task disks disks
none_changed None disks = refl
none_changed (Some (tasks.Run workers)) disks = refl
none_changed (Some (tasks.Gen number workers)) disks = refl
none_changed (Some tasks.Check) disks = refl
none_changed (Some (tasks.Log group server)) disks = refl

module _ {D : Type 0} (seen : D → Option (List ℕ)) (may_leave : D → Images) (faults moment : D → ℕ) (left_since : D → ℕ → Images) (tells tells_moments : Bool) where
  none_told : (task : Option Task) (script : List ℕ) (done behind : List Line) (run : IsTrue tells → World) (left rest : Option (List ℕ)) (failed : Type 0) (taken : Option (List ℕ)) (full : Type 0) (disks : List D) → Ending seen may_leave faults moment left_since tells tells_moments task statuses.NoMemory script done behind [] run left rest failed taken taken full disks disks
  none_told None script done behind run left rest failed taken full disks = appends_none taken
  none_told (Some (tasks.Run workers)) script done behind run left rest failed taken full disks = appends_none taken
  none_told (Some (tasks.Gen number workers)) script done behind run left rest failed taken full disks = record { acked = (0, 0); sums = appends_none taken; counted = λ told. tt }
  none_told (Some tasks.Check) script done behind run left rest failed taken full disks = (appends_none taken, refl)
  none_told (Some (tasks.Log group server)) script done behind run left rest failed taken full disks = (appends_none taken, inl refl)

module _ {D : Type 0} (seen : D → Option (List ℕ)) (may_leave : D → Images) (faults moment : D → ℕ) (left_since : D → ℕ → Images) (tells tells_moments : Bool) (workers : ℕ) (left rest taken now : Option (List ℕ)) (failed full : Type 0) where
  abbrev Ran : Status → (before after : List D) → Type 0
  Ran status before after = Outcome seen may_leave faults moment left_since tells tells_moments status (Some (tasks.Run workers)) left rest failed taken now full before after

  -- what was written of an accepted script
  wrote_ends : (status : Status) (lines done behind : List Line) (text : List ℕ) (before after : List D) (s : IsText script_rules None left rest lines) → Wrote status done behind text taken now full → RunEnds status s.text done behind text left rest failed taken now full before after
  wrote_ends statuses.Ok lines done behind text before after s w = (ap is_ok s.accepted, s.whole, w.0, w.1)
  wrote_ends statuses.NoMemory lines done behind text before after s w = w
  wrote_ends statuses.WriteFault lines done behind text before after s w = (w.0, subst (λ j. IsCutOff j done text left rest taken now) (sym s.accepted) w.1)
  wrote_ends statuses.Usage lines done behind text before after s w = absurd w
  wrote_ends statuses.Script lines done behind text before after s w = absurd w
  wrote_ends statuses.ReadFault lines done behind text before after s w = absurd w

  -- the lines of an accepted script
  pub ran : (status : Status) (acked : ℕ × ℕ) (lines : List Line) (before after : List D) → IsText script_rules None left rest lines → HasRunLines seen may_leave faults moment left_since tells tells_moments status acked lines taken now full before after → Ran status before after
  ran status acked lines before after s w =
      let Written : List Line → Type 0 = λ ls. (r : HasRunTo seen may_leave faults moment left_since tells tells_moments status ls w.rest w.text before after) × Wrote status r.done w.rest w.text taken now full in
      let (run, wrote) = subst Written (sym (ap judged_lines s.accepted)) (w.ran, w.wrote) in
      record { script = s.text; source = s.source; kept = tt; behind = w.rest; text = w.text; ran = run; ending = wrote_ends status lines run.done w.rest w.text before after s wrote }

  -- the fault of a refused one
  refused : (status : Status) (disks : List D) (line : ℕ) (fault : LineFault) → IsRefused script_rules None left line fault → IsReadUpto script_rules None left rest line fault → LineRefuses status (fault_text line fault) taken now full → Ran status disks disks
  refused statuses.Script disks line fault s read w = record {
    script = s.text;
    source = s.source;
    kept = tt;
    behind = judged_lines (script_of s.text);
    text = [];
    ran = untouched seen may_leave faults moment left_since tells tells_moments statuses.Script (judged_lines (script_of s.text)) disks (script_begins s.text);
    ending = (record { line = line; fault = fault; refused = s.refused; read = read; told = w }, refl);
  }
  refused statuses.NoMemory disks line fault s read w = record {
    script = s.text;
    source = s.source;
    kept = tt;
    behind = judged_lines (script_of s.text);
    text = [];
    ran = untouched seen may_leave faults moment left_since tells tells_moments statuses.NoMemory (judged_lines (script_of s.text)) disks (script_begins s.text);
    ending = w;
  }
  refused statuses.WriteFault disks line fault s read w =
      let run = untouched seen may_leave faults moment left_since tells tells_moments statuses.WriteFault (judged_lines (script_of s.text)) disks (script_begins s.text) in
      record {
        script = s.text;
        source = s.source;
        kept = tt;
        behind = judged_lines (script_of s.text);
        text = [];
        ran = run;
        ending = (w.0, subst (λ j. IsCutOff j run.done [] left rest taken now) (sym s.refused) (read, w.1));
      }
  refused statuses.Usage disks line fault s read w = absurd w
  refused statuses.Ok disks line fault s read w = absurd w
  refused statuses.ReadFault disks line fault s read w = absurd w

module _ {D : Type 0} (seen : D → Option (List ℕ)) (may_leave : D → Images) (faults moment : D → ℕ) (left_since : D → ℕ → Images) (tells tells_moments : Bool) (left taken now : Option (List ℕ)) (failed full : Type 0) (disks : List D) where
  -- the usage
  pub told_usage : Appends taken now usage_text → Outcome seen may_leave faults moment left_since tells tells_moments statuses.Usage None left left failed taken now full disks disks
  told_usage put = record {
    script = a_text left;
    source = is_text left;
    kept = refl;
    behind = [];
    text = [];
    ran = untouched seen may_leave faults moment left_since tells tells_moments statuses.Usage [] disks tt;
    ending = (put, refl);
  }

  pub cut_usage : full → AppendsFront taken now usage_text → Outcome seen may_leave faults moment left_since tells tells_moments statuses.WriteFault None left left failed taken now full disks disks
  cut_usage rose front = record {
    script = a_text left;
    source = is_text left;
    kept = refl;
    behind = [];
    text = [];
    ran = untouched seen may_leave faults moment left_since tells tells_moments statuses.WriteFault [] disks tt;
    ending = (rose, front);
  }

  -- the words were not read whole
  pub unread : (task : Option Task) → Outcome seen may_leave faults moment left_since tells tells_moments statuses.NoMemory task left left failed taken taken full disks disks
  unread task = record {
    script = a_text left;
    source = is_text left;
    kept = left_same task left;
    behind = lines_for task (a_text left);
    text = [];
    ran = subst (λ l. HasRunTo seen may_leave faults moment left_since tells tells_moments statuses.NoMemory (lines_for task (a_text left)) (lines_for task (a_text left)) [] disks l) (none_changed task disks)
        (untouched seen may_leave faults moment left_since tells tells_moments statuses.NoMemory (lines_for task (a_text left)) disks (lines_begin task (a_text left)));
    ending = none_told seen may_leave faults moment left_since tells tells_moments task (a_text left) _ (lines_for task (a_text left)) _ left left failed taken full disks;
  }

module _ {D : Type 0} (seen : D → Option (List ℕ)) (may_leave : D → Images) (faults moment : D → ℕ) (left_since : D → ℕ → Images) (tells tells_moments : Bool) (workers : ℕ) (left rest taken : Option (List ℕ)) (failed full : Type 0) (disks : List D) where
  -- the script was not read whole
  cut_off : Outcome seen may_leave faults moment left_since tells tells_moments statuses.NoMemory (Some (tasks.Run workers)) left rest failed taken taken full disks disks
  cut_off = record {
    script = a_text left;
    source = is_text left;
    kept = tt;
    behind = judged_lines (script_of (a_text left));
    text = [];
    ran = untouched seen may_leave faults moment left_since tells tells_moments statuses.NoMemory (judged_lines (script_of (a_text left))) disks (script_begins (a_text left));
    ending = appends_none taken;
  }

  unreadable : failed × IsUndecided script_rules None left rest → Outcome seen may_leave faults moment left_since tells tells_moments statuses.ReadFault (Some (tasks.Run workers)) left rest failed taken taken full disks disks
  unreadable cause = record {
    script = a_text left;
    source = is_text left;
    kept = tt;
    behind = judged_lines (script_of (a_text left));
    text = [];
    ran = untouched seen may_leave faults moment left_since tells tells_moments statuses.ReadFault (judged_lines (script_of (a_text left))) disks (script_begins (a_text left));
    ending = (cause.0, cause.1, appends_none taken, refl);
  }

-- the lines of a script were not read whole, or one of them is refused
pub stopped : {D : Type 0} (seen : D → Option (List ℕ)) (may_leave : D → Images) (faults moment : D → ℕ) (left_since : D → ℕ → Images) (tells tells_moments : Bool) (workers : ℕ) (left rest taken now : Option (List ℕ)) (failed full : Type 0) (status : Status) (disks : List D) (stop : Stop)
    → StopSays stop (IsRefused script_rules None left) (failed × IsUndecided script_rules None left rest) → StopSays stop (IsReadUpto script_rules None left rest) (Unit {0}) → EndsAtStop status stop taken now full → Outcome seen may_leave faults moment left_since tells tells_moments status (Some (tasks.Run workers)) left rest failed taken now full disks disks
stopped seen may_leave faults moment left_since tells tells_moments workers left rest taken now failed full status disks stops.NoMemory says piece ends =
    subst (λ n. Outcome seen may_leave faults moment left_since tells tells_moments status (Some (tasks.Run workers)) left rest failed taken n full disks disks) (sym ends.1)
    (subst (λ (s : Status). Outcome seen may_leave faults moment left_since tells tells_moments s (Some (tasks.Run workers)) left rest failed taken taken full disks disks) (sym ends.0) (cut_off seen may_leave faults moment left_since tells tells_moments workers left rest taken failed full disks))
stopped seen may_leave faults moment left_since tells tells_moments workers left rest taken now failed full status disks stops.Failed says piece ends =
    subst (λ n. Outcome seen may_leave faults moment left_since tells tells_moments status (Some (tasks.Run workers)) left rest failed taken n full disks disks) (sym ends.1)
    (subst (λ (s : Status). Outcome seen may_leave faults moment left_since tells tells_moments s (Some (tasks.Run workers)) left rest failed taken taken full disks disks) (sym ends.0) (unreadable seen may_leave faults moment left_since tells tells_moments workers left rest taken failed full disks says))
stopped seen may_leave faults moment left_since tells tells_moments workers left rest taken now failed full status disks (stops.Refused line fault) says piece ends = refused seen may_leave faults moment left_since tells tells_moments workers left rest taken now failed full status disks line fault says piece ends

-- a checked list
pub checked : {D : Type 0} (seen : D → Option (List ℕ)) (may_leave : D → Images) (faults moment : D → ℕ) (left_since : D → ℕ → Images) (tells tells_moments : Bool) (status : Status) (left rest taken now : Option (List ℕ)) (failed full : Type 0) (disks : List D) → HasChecked status left rest failed taken now full
    → Outcome seen may_leave faults moment left_since tells tells_moments status (Some tasks.Check) left rest failed taken now full disks disks
checked seen may_leave faults moment left_since tells tells_moments status left rest taken now failed full disks h = record {
  script = h.list;
  source = h.source;
  kept = tt;
  behind = [];
  text = [];
  ran = untouched seen may_leave faults moment left_since tells tells_moments status [] disks tt;
  ending = (h.ends, refl);
}

-- a generated script
pub summed : {D : Type 0} (seen : D → Option (List ℕ)) (may_leave : D → Images) (faults moment : D → ℕ) (left_since : D → ℕ → Images) (tells tells_moments : Bool) (status : Status) (number workers : ℕ) (left taken now : Option (List ℕ)) (failed full : Type 0) (before after : List D) → HasGenerated seen may_leave faults moment left_since tells tells_moments status number taken now full before after
    → Outcome seen may_leave faults moment left_since tells tells_moments status (Some (tasks.Gen number workers)) left left failed taken now full before after
summed seen may_leave faults moment left_since tells tells_moments status number workers left taken now failed full before after g = record {
  script = a_text left;
  source = is_text left;
  kept = refl;
  behind = g.behind;
  text = g.text;
  ran = g.ran;
  ending = g.sums;
}

-- the records of a server
pub listed : {D : Type 0} (seen : D → Option (List ℕ)) (may_leave : D → Images) (faults moment : D → ℕ) (left_since : D → ℕ → Images) (tells tells_moments : Bool) (status : Status) (group server : ℕ) (left taken now : Option (List ℕ)) (failed full : Type 0) (before after : List D)
    → ListEnds seen may_leave faults group server status taken now full before after → Outcome seen may_leave faults moment left_since tells tells_moments status (Some (tasks.Log group server)) left left failed taken now full before after
listed seen may_leave faults moment left_since tells tells_moments status group server left taken now failed full before after ends = record {
  script = a_text left;
  source = is_text left;
  kept = refl;
  behind = [];
  text = [];
  ran = untouched seen may_leave faults moment left_since tells tells_moments status [] before tt;
  ending = ends;
}

-- of the task that the words ask for
pub asked : {D : Type 0} {seen : D → Option (List ℕ)} {may_leave : D → Images} {faults moment : D → ℕ} {left_since : D → ℕ → Images} {tells tells_moments : Bool} {status : Status} {left rest : Option (List ℕ)} {failed : Type 0} {taken now : Option (List ℕ)} {full : Type 0} {before after : List D} (one task : Option Task)
    → one ≡ task → Outcome seen may_leave faults moment left_since tells tells_moments status one left rest failed taken now full before after → Outcome seen may_leave faults moment left_since tells tells_moments status task left rest failed taken now full before after
asked {D} {seen} {may_leave} {faults} {moment} {left_since} {tells} {tells_moments} {status} {left} {rest} {failed} {taken} {now} {full} {before} {after} one task is o = subst (λ t. Outcome seen may_leave faults moment left_since tells tells_moments status t left rest failed taken now full before after) is o
