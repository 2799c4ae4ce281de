-- What the outcome of a run says of its status.
use Rattle.std.proofs.Common.{◌≡◌, ℕ, ◌≤◌, Bool, false, List, [], ◌∷◌, ◌++◌, length, slice_get, Option, Some, None, IfSome, Ok, Err, is_ok, append-nil, refl, sym, ap, subst, ◌∙◌, ◌⊎◌, inl, inr, arith}
use Rattle.std.specs.Prelude.{IsOk, IsErr, IsTrue, is_err}
use Rattle.std.specs.Io.KnownBytes.{Appends, IsAtEnd}
use Rattle.pf_disk.specs.Crashes.{Images}
use Rattle.pf_world.specs.declared.line.Line.{Line}
use Rattle.pf_entry.specs.Lists.{Every}
use Rattle.pf_group_rounds.specs.Halts.{Halt}
use Rattle.pf_chunk.specs.Views.{ChunkIs}
use Rattle.pf_live_session.specs.Sessions.{Session}
use Rattle.pf_world.specs.Headline.{AreFaultless, AreHalts, EndEach, IsCaused, HaltStandsIn, live_lines}
use Rattle.pf_world.specs.Views.{WorldIs}
use Rattle.pf_world.specs.Reports.{report_of, world_run}
use Rattle.pf_world.specs.Worlds.{no_world}
use Rattle.pf_world.proofs.Faultless.{no_halts, report_is}
use Rattle.pf_run_lines.specs.declared.status.Status.{Status}
use Rattle.pf_run_lines.specs.declared.status.Status.TheVariants as statuses
use Rattle.pf_run_words.specs.Words.{is_accepted}
use Rattle.pf_run_words.specs.Tasks.{IfCheck, IfGen, IfLog, IfRun, task_of}
use Rattle.pf_run_words.specs.declared.words.Task.{Task}
use Rattle.pf_run_words.specs.declared.words.Task.TheVariants as tasks
use Rattle.pf_run_lines.specs.LineScans.{Judged, LineRules, judged as judged_by}
use Rattle.pf_run.specs.Scripts.{script_of, script_rules}
use Rattle.pf_run_lines.specs.Lists.{list_of, list_rules}
use Rattle.pf_run_lines.specs.Checking.{CheckEnds, IsChecked, LineTellsOf}
use Rattle.pf_run.specs.Reports.{judged_lines, sum_text, summary_text}
use Rattle.pf_run.specs.Generating.{HasGenerated, IsAccepted, IsPlainSum, generated_lines}
use Rattle.pf_run_lines.specs.Runs.{IsUndecided}
use Rattle.pf_run.specs.Listing.{ListEnds}
use Rattle.pf_run.specs.Running.{HasRunTo, Stops}
use Rattle.pf_run.specs.Outcomes.{Completes, HasHeadline, IsPlain, IsReported, JudgesScript, Outcome}
use Rattle.pf_run_lines.proofs.CheckEnds.{plain_check}
use Rattle.pf_run.proofs.Drawn.{generated_is_accepted, none_are_live}
use Rattle.pf_run_words.proofs.WordLaws.{accepts_not, means_none}

-- without a line of threads there is no session
no_sessions : (sessions : List Session) (n : ℕ) → length sessions ≤ n → n ≡ 0 → sessions ≡ []
no_sessions [] n few none = refl
no_sessions (session ∷ sessions) n few none = absurd (omega (arith, few, none))

-- where no end failed, a report or the fault of a line, and want of memory, are left
complete : {I : Type 0} → (status : Status) (judgement : Judged I) (failed undecided full : Type 0) → JudgesScript status judgement (failed × undecided) full → (failed → ⊥) → (full → ⊥) → Completes status judgement
complete statuses.Ok (Ok lines) failed undecided full j read write = inl refl
complete statuses.Ok (Err refused) failed undecided full j read write = absurd (cc)
complete statuses.NoMemory (Ok lines) failed undecided full j read write = inr refl
complete statuses.NoMemory (Err refused) failed undecided full j read write = inr refl
complete statuses.Usage judgement failed undecided full j read write = absurd j
complete statuses.Script (Ok lines) failed undecided full j read write = absurd (cc)
complete statuses.Script (Err refused) failed undecided full j read write = inl refl
complete statuses.ReadFault judgement failed undecided full j read write = absurd (read j.0)
complete statuses.WriteFault judgement failed undecided full j read write = absurd (write j)

completed_of : {S I : Type 0} (rules : LineRules S I) (start : S) (status : Status) (left rest : Option (List ℕ)) (failed full : Type 0) → IfSome left (λ bytes. JudgesScript status (judged_by rules start bytes) (failed × IsUndecided rules start left rest) full) → (failed → ⊥) → (full → ⊥)
    → IfSome left (λ bytes. Completes status (judged_by rules start bytes))
completed_of rules start status None rest failed full j read write = tt
completed_of rules start status (Some bytes) rest failed full j read write = complete status (judged_by rules start bytes) failed (IsUndecided rules start (Some bytes) rest) full j read write

nil_behind : (xs ys : List Line) → xs ++ ys ≡ [] → ys ≡ []
nil_behind [] ys e = e
nil_behind (x ∷ xs) ys e = absurd (cc)

nil_first : (xs ys : List Line) → xs ++ ys ≡ [] → xs ≡ []
nil_first [] ys e = refl
nil_first (x ∷ xs) ys e = absurd (cc)

-- where there was no line, the world that is left is that of the run
same_left : {D : Type 0} (faults : D → ℕ) (status : Status) (before : List D) (done : List Line) (world left : WorldIs) → Stops faults status before done [] world left → left ≡ world
same_left faults statuses.Ok before done world left stops = stops
same_left faults statuses.NoMemory before done world left stops = stops
same_left faults statuses.Usage before done world left stops = stops
same_left faults statuses.Script before done world left stops = stops
same_left faults statuses.ReadFault before done world left stops = stops
same_left faults statuses.WriteFault before done world left stops = stops

-- and has no chunk
no_chunks : {D : Type 0} (faults : D → ℕ) (status : Status) (before : List D) (done behind : List Line) (world left : WorldIs) → done ++ behind ≡ [] → (done ≡ [] → world.chunks ≡ []) → Stops faults status before done behind world left → left.chunks ≡ []
no_chunks faults status before done behind world left first none stops =
    ap (λ (w : WorldIs). w.chunks) (same_left faults status before done world left (subst (λ b. Stops faults status before done b world left) (nil_behind done behind first) stops)) ∙ none (nil_first done behind first)

-- so no halt is of one
none_caused : {D : Type 0} (faults : D → ℕ) (before after : List D) (w : WorldIs) (all halts : List Halt) → w.chunks ≡ [] → Every (HaltStandsIn w) halts → Every (λ h. IsCaused faults all before after h.group h.server) halts
none_caused faults before after w all [] none within = tt
none_caused faults before after w all (h ∷ halts) none within =
    let gone : None ≡ Some within.0.chunk = sym (ap (λ (l : List ChunkIs). slice_get l h.group) none) ∙ within.0.there in
    absurd (cc)

check_judged : (status : Status) (bytes : List ℕ) (left rest taken now : Option (List ℕ)) (failed full : Type 0) → CheckEnds status bytes left rest failed taken now full → JudgesScript status (list_of bytes) (failed × IsUndecided list_rules tt left rest) full
check_judged statuses.Ok bytes left rest taken now failed full ends = ap is_ok ends.1.accepted
check_judged statuses.NoMemory bytes left rest taken now failed full ends = tt
check_judged statuses.Usage bytes left rest taken now failed full ends = absurd ends
check_judged statuses.Script bytes left rest taken now failed full ends = ends.refused
check_judged statuses.ReadFault bytes left rest taken now failed full ends = (ends.0, ends.1)
check_judged statuses.WriteFault bytes left rest taken now failed full ends = ends.0

ok_lines : (judged : Judged Line) → IsOk judged → (lines : List Line) × (judged ≡ Ok lines)
ok_lines (Ok lines) ok = (lines, refl)
ok_lines (Err refused) ok = absurd (cc)

module _ {D : Type 0} (seen : D → Option (List ℕ)) (may_leave : D → Images) (faults moment : D → ℕ) (left_since : D → ℕ → Images) (tells tells_moments : Bool) (left rest taken now : Option (List ℕ)) (failed full : Type 0) (before after : List D) where
  abbrev Ended : Status → Option Task → Type 0
  Ended status task = Outcome seen may_leave faults moment left_since tells tells_moments status task left rest failed taken now full before after

  unasked : (status : Status) → Ended status None → (status ≡ statuses.Usage) ⊎ ((status ≡ statuses.NoMemory) ⊎ ((status ≡ statuses.WriteFault) × full))
  unasked statuses.Usage o = inl refl
  unasked statuses.WriteFault o = inr (inr (refl, o.ending.0))
  unasked statuses.Ok o = absurd o.ending
  unasked statuses.NoMemory o = inr (inl refl)
  unasked statuses.Script o = absurd o.ending
  unasked statuses.ReadFault o = absurd o.ending

  pub usage_ends : (status : Status) (words : List (List ℕ)) → Ended status (task_of words) → is_accepted words ≡ false → (status ≡ statuses.Usage) ⊎ ((status ≡ statuses.NoMemory) ⊎ ((status ≡ statuses.WriteFault) × full))
  usage_ends status words o not = unasked status (subst (Ended status) (sym (means_none words not)) o)

  -- status 2 is that of no task
  asks_nothing : (task : Option Task) → Ended statuses.Usage task → None ≡ task
  asks_nothing None o = refl
  asks_nothing (Some (tasks.Run workers)) o = absurd o.ending
  asks_nothing (Some (tasks.Log group server)) o = absurd o.ending
  asks_nothing (Some (tasks.Gen number workers)) o = absurd o.ending.sums
  asks_nothing (Some tasks.Check) o = absurd o.ending.0

  pub usage_only : (status : Status) (words : List (List ℕ)) → Ended status (task_of words) → status ≡ statuses.Usage → is_accepted words ≡ false
  usage_only status words o is = accepts_not words (asks_nothing (task_of words) (subst (λ s. Ended s (task_of words)) is o))

  -- a fault of an end is answered only where that end failed
  read_failed : (task : Option Task) → Ended statuses.ReadFault task → failed
  read_failed None o = absurd o.ending
  read_failed (Some (tasks.Run workers)) o = o.ending.0
  read_failed (Some (tasks.Log group server)) o = absurd o.ending
  read_failed (Some (tasks.Gen number workers)) o = absurd o.ending.sums
  read_failed (Some tasks.Check) o = o.ending.0.0

  pub read_fault : (status : Status) (task : Option Task) → Ended status task → status ≡ statuses.ReadFault → failed
  read_fault status task o is = read_failed task (subst (λ s. Ended s task) is o)

  write_failed : (task : Option Task) → Ended statuses.WriteFault task → full
  write_failed None o = o.ending.0
  write_failed (Some (tasks.Run workers)) o = o.ending.0
  write_failed (Some (tasks.Log group server)) o = o.ending.0
  write_failed (Some (tasks.Gen number workers)) o = o.ending.sums.2
  write_failed (Some tasks.Check) o = o.ending.0.0

  pub write_fault : (status : Status) (task : Option Task) → Ended status task → status ≡ statuses.WriteFault → full
  write_fault status task o is = write_failed task (subst (λ s. Ended s task) is o)

  -- of a generated script nothing was read, and one line told
  pub generated : (status : Status) (task : Option Task) → Ended status task → IfGen task (λ number. IsAccepted number × (rest ≡ left) × HasGenerated seen may_leave faults moment left_since tells tells_moments status number taken now full before after)
  generated status None o = tt
  generated status (Some (tasks.Run workers)) o = tt
  generated status (Some tasks.Check) o = tt
  generated status (Some (tasks.Log group server)) o = tt
  generated status (Some (tasks.Gen number workers)) o = (generated_is_accepted number, o.kept, record { behind = o.behind; text = o.text; ran = o.ran; sums = o.ending })

  -- of a listing nothing was read from the source
  pub listed : (status : Status) (task : Option Task) → Ended status task → IfLog task (λ group server. (rest ≡ left) × ListEnds seen may_leave faults group server status taken now full before after)
  listed status None o = tt
  listed status (Some (tasks.Run workers)) o = tt
  listed status (Some (tasks.Gen number workers)) o = tt
  listed status (Some tasks.Check) o = tt
  listed status (Some (tasks.Log group server)) o = (o.kept, o.ending)

  plain_sum : (number : ℕ) → IsTrue tells → HasGenerated seen may_leave faults moment left_since tells tells_moments statuses.Ok number taken now full before after → AreFaultless faults before after → IsPlainSum number taken now
  plain_sum number tell g faultless =
      let ruled = g.ran.ruled tell in
      let left_is = subst (AreHalts faults ruled.halts before after) g.ran.stops ruled.told in
      let all = sym (append-nil g.ran.done) ∙ subst (λ b. g.ran.done ++ b ≡ generated_lines number) g.sums.sums.1 g.ran.first in
      let none : g.ran.run.sessions ≡ [] = no_sessions g.ran.run.sessions (live_lines g.ran.done) g.ran.run.few (ap live_lines all ∙ none_are_live number) in
      subst (λ ls. Appends taken now (summary_text number (world_run [] [] ls).world)) all
      (subst (λ ss. Appends taken now (summary_text number (world_run [] ss g.ran.done).world)) none
      (subst (λ hs. Appends taken now (summary_text number (world_run hs g.ran.run.sessions g.ran.done).world)) (no_halts faults before after faultless ruled.halts left_is.causes)
      (subst (λ acked. Appends taken now (sum_text number acked)) (g.sums.counted tell) g.sums.sums.2)))

  pub generated_plain : (status : Status) (task : Option Task) → Ended status task → IsTrue tells → status ≡ statuses.Ok → AreFaultless faults before after → IfGen task (λ number. IsPlainSum number taken now)
  generated_plain status None o tell is faultless = tt
  generated_plain status (Some (tasks.Run workers)) o tell is faultless = tt
  generated_plain status (Some tasks.Check) o tell is faultless = tt
  generated_plain status (Some (tasks.Log group server)) o tell is faultless = tt
  generated_plain status (Some (tasks.Gen number workers)) o tell is faultless =
      plain_sum number tell (subst (λ s. HasGenerated seen may_leave faults moment left_since tells tells_moments s number taken now full before after) is (generated status (Some (tasks.Gen number workers)) o).2) faultless

  -- all lines of the accepted script were run, and told of
  whole : (script bytes : List ℕ) (behind : List Line) (text : List ℕ) → script ≡ bytes → IsOk (script_of script) → behind ≡ [] → Appends taken now text
      → HasRunTo seen may_leave faults moment left_since tells tells_moments statuses.Ok (judged_lines (script_of script)) behind text before after → IsReported seen may_leave faults moment left_since tells tells_moments bytes taken now before after
  whole script bytes behind text is ok none written ran =
      let lines = ok_lines (script_of bytes) (subst (λ s. IsOk (script_of s)) is ok) in
      let all : judged_lines (script_of script) ≡ lines.0 = ap (λ s. judged_lines (script_of s)) is ∙ ap judged_lines lines.1 in
      record { lines = lines.0; accepted = lines.1; text = text; ran = subst (λ ls. HasRunTo seen may_leave faults moment left_since tells tells_moments statuses.Ok ls [] text before after) all (subst (λ b. HasRunTo seen may_leave faults moment left_since tells tells_moments statuses.Ok (judged_lines (script_of script)) b text before after) none ran); written = written }

  -- an accepted script is reported, and a refused one told of
  judged_at : (status : Status) (bytes : List ℕ) (workers : ℕ) (o : Ended status (Some (tasks.Run workers))) → o.script ≡ bytes → JudgesScript status (script_of bytes) (failed × IsUndecided script_rules None left rest) full
  judged_at statuses.Ok bytes workers o is = subst (λ (xs : List ℕ). IsOk (script_of xs)) is o.ending.0
  judged_at statuses.NoMemory bytes workers o is = tt
  judged_at statuses.Usage bytes workers o is = absurd o.ending
  judged_at statuses.Script bytes workers o is = subst (λ (xs : List ℕ). IsErr (script_of xs)) is (ap is_err o.ending.0.refused)
  judged_at statuses.ReadFault bytes workers o is = (o.ending.0, o.ending.1)
  judged_at statuses.WriteFault bytes workers o is = o.ending.0

  -- all lines of a task were run where the status is 0
  all_run : (task : Option Task) (o : Ended statuses.Ok task) → o.behind ≡ []
  all_run None o = absurd o.ending
  all_run (Some (tasks.Run workers)) o = o.ending.2
  all_run (Some (tasks.Log group server)) o = nil_behind o.ran.done o.behind o.ran.first
  all_run (Some (tasks.Gen number workers)) o = o.ending.sums.1
  all_run (Some tasks.Check) o = nil_behind o.ran.done o.behind o.ran.first

  all_told : (task : Option Task) (o : Ended statuses.Ok task) → IfRun task (Appends taken now o.text)
  all_told None o = tt
  all_told (Some (tasks.Run workers)) o = o.ending.3
  all_told (Some (tasks.Log group server)) o = tt
  all_told (Some (tasks.Gen number workers)) o = tt
  all_told (Some tasks.Check) o = tt

  none_behind : (status : Status) (task : Option Task) (o : Ended status task) → status ≡ statuses.Ok → (o.behind ≡ []) × IfRun task (Appends taken now o.text)
  none_behind statuses.Ok task o ok = (all_run task o, all_told task o)
  none_behind statuses.NoMemory task o ok = absurd (cc)
  none_behind statuses.Usage task o ok = absurd (cc)
  none_behind statuses.Script task o ok = absurd (cc)
  none_behind statuses.ReadFault task o ok = absurd (cc)
  none_behind statuses.WriteFault task o ok = absurd (cc)

  -- the halts of a task have their causes: a listing has none
  caused_of : (status : Status) (task : Option Task) (o : Ended status task) (tell : IsTrue tells) → AreHalts faults (o.ran.ruled tell).halts before after o.ran.left
  caused_of status None o tell = (o.ran.ruled tell).told
  caused_of status (Some (tasks.Run workers)) o tell = (o.ran.ruled tell).told
  caused_of status (Some (tasks.Gen number workers)) o tell = (o.ran.ruled tell).told
  caused_of status (Some tasks.Check) o tell = (o.ran.ruled tell).told
  caused_of status (Some (tasks.Log group server)) o tell =
      let ruled = o.ran.ruled tell in
      let none = no_chunks faults status before o.ran.done o.behind o.ran.world o.ran.left (o.ran.first) o.ran.none o.ran.stops in
      record { tells = ruled.told.tells; within = ruled.told.within; causes = none_caused faults before after o.ran.left ruled.halts ruled.halts none ruled.told.within }

  headline_of : (tell : IsTrue tells) (status : Status) (task : Option Task) (source : Option (List ℕ)) (o : Ended status task) → IfSome source (λ bytes. o.script ≡ bytes)
      → IfSome source (λ bytes. HasHeadline seen may_leave faults moment left_since tells tells_moments tell status task bytes left rest failed taken now full before after)
  headline_of tell status task None o is = tt
  headline_of tell status task (Some bytes) o is = record {
    outcome = o;
    given_is = is;
    holds = (o.ran.ruled tell).headline;
    within = (o.ran.ruled tell).within;
    caused = caused_of status task o tell;
    whole = none_behind status task o;
  }

  pub headline : (status : Status) (task : Option Task) → Ended status task → (tell : IsTrue tells) → IfSome left (λ bytes. HasHeadline seen may_leave faults moment left_since tells tells_moments tell status task bytes left rest failed taken now full before after)
  headline status task o tell = headline_of tell status task left o o.source

module _ {D : Type 0} (seen : D → Option (List ℕ)) (may_leave : D → Images) (faults moment : D → ℕ) (left_since : D → ℕ → Images) (tells tells_moments : Bool) where
  -- the whole script was read, and its report written
  run_reported : (workers : ℕ) (left rest taken now : Option (List ℕ)) (failed full : Type 0) (before after : List D) → Outcome seen may_leave faults moment left_since tells tells_moments statuses.Ok (Some (tasks.Run workers)) left rest failed taken now full before after
      → IfSome left (λ bytes. IsAtEnd rest × IsReported seen may_leave faults moment left_since tells tells_moments bytes taken now before after)
  run_reported workers None rest taken now failed full before after o = tt
  run_reported workers (Some bytes) rest taken now failed full before after o =
      (o.ending.1, whole seen may_leave faults moment left_since tells tells_moments (Some bytes) rest taken now failed full before after o.script bytes o.behind o.text o.source o.ending.0 o.ending.2 o.ending.3 o.ran)

  pub reported : (task : Option Task) (left rest taken now : Option (List ℕ)) (failed full : Type 0) (before after : List D) (status : Status) → Outcome seen may_leave faults moment left_since tells tells_moments status task left rest failed taken now full before after → status ≡ statuses.Ok
      → IfRun task (IfSome left (λ bytes. IsAtEnd rest × IsReported seen may_leave faults moment left_since tells tells_moments bytes taken now before after))
  reported None left rest taken now failed full before after status o is = tt
  reported (Some (tasks.Log group server)) left rest taken now failed full before after status o is = tt
  reported (Some (tasks.Gen number workers)) left rest taken now failed full before after status o is = tt
  reported (Some tasks.Check) left rest taken now failed full before after status o is = tt
  reported (Some (tasks.Run workers)) left rest taken now failed full before after status o is =
      run_reported workers left rest taken now failed full before after (subst (λ (s : Status). Outcome seen may_leave faults moment left_since tells tells_moments s (Some (tasks.Run workers)) left rest failed taken now full before after) is o)

  -- where no disk failed meanwhile, it is a function of the script and of the sessions of its live lines
  plain_of : (left rest taken now : Option (List ℕ)) (before after : List D) → IsTrue tells → IfSome left (λ bytes. IsAtEnd rest × IsReported seen may_leave faults moment left_since tells tells_moments bytes taken now before after) → AreFaultless faults before after → IfSome left (λ bytes. IsPlain bytes taken now)
  plain_of None rest taken now before after tell reports faultless = tt
  plain_of (Some bytes) rest taken now before after tell reports faultless =
      let r = reports.1 in
      let ruled = r.ran.ruled tell in
      let told = subst (AreHalts faults ruled.halts before after) r.ran.stops ruled.told in
      let none : ruled.halts ≡ [] = no_halts faults before after faultless ruled.halts told.causes in
      let text = report_is faults before after faultless r.ran.done r.text r.ran.world ruled.halts r.ran.run told in
      let all = sym (append-nil r.ran.done) ∙ r.ran.first in
      record {
        lines = r.lines;
        accepted = r.accepted;
        sessions = r.ran.run.sessions;
        few = subst (λ ls. length r.ran.run.sessions ≤ live_lines ls) all r.ran.run.few;
        ends = subst (λ ls. EndEach [] (no_world r.ran.run.sessions) ls) all (subst (λ hs. EndEach hs (no_world r.ran.run.sessions) r.ran.done) none ruled.ran.ends);
        written = subst (Appends taken now) (text ∙ ap (report_of [] r.ran.run.sessions) all) r.written;
      }

  pub plain : (task : Option Task) (left rest taken now : Option (List ℕ)) (failed full : Type 0) (before after : List D) (status : Status) → Outcome seen may_leave faults moment left_since tells tells_moments status task left rest failed taken now full before after → IsTrue tells → status ≡ statuses.Ok
      → AreFaultless faults before after → IfRun task (IfSome left (λ bytes. IsPlain bytes taken now))
  plain None left rest taken now failed full before after status o tell is faultless = tt
  plain (Some (tasks.Log group server)) left rest taken now failed full before after status o tell is faultless = tt
  plain (Some (tasks.Gen number workers)) left rest taken now failed full before after status o tell is faultless = tt
  plain (Some tasks.Check) left rest taken now failed full before after status o tell is faultless = tt
  plain (Some (tasks.Run workers)) left rest taken now failed full before after status o tell is faultless =
      plain_of left rest taken now before after tell (reported (Some (tasks.Run workers)) left rest taken now failed full before after status o is) faultless

  run_judged : (workers : ℕ) (left rest taken now : Option (List ℕ)) (failed full : Type 0) (before after : List D) (status : Status) → Outcome seen may_leave faults moment left_since tells tells_moments status (Some (tasks.Run workers)) left rest failed taken now full before after
      → IfSome left (λ bytes. JudgesScript status (script_of bytes) (failed × IsUndecided script_rules None left rest) full)
  run_judged workers None rest taken now failed full before after status o = tt
  run_judged workers (Some bytes) rest taken now failed full before after status o = judged_at seen may_leave faults moment left_since tells tells_moments (Some bytes) rest taken now failed full before after status bytes workers o o.source

  pub judged : (task : Option Task) (left rest taken now : Option (List ℕ)) (failed full : Type 0) (before after : List D) (status : Status) → Outcome seen may_leave faults moment left_since tells tells_moments status task left rest failed taken now full before after
      → IfRun task (IfSome left (λ bytes. JudgesScript status (script_of bytes) (failed × IsUndecided script_rules None left rest) full))
  judged None left rest taken now failed full before after status o = tt
  judged (Some (tasks.Log group server)) left rest taken now failed full before after status o = tt
  judged (Some (tasks.Gen number workers)) left rest taken now failed full before after status o = tt
  judged (Some tasks.Check) left rest taken now failed full before after status o = tt
  judged (Some (tasks.Run workers)) left rest taken now failed full before after status o = run_judged workers left rest taken now failed full before after status o

  pub completed : (task : Option Task) (left rest taken now : Option (List ℕ)) (failed full : Type 0) (before after : List D) (status : Status) → Outcome seen may_leave faults moment left_since tells tells_moments status task left rest failed taken now full before after → (failed → ⊥) → (full → ⊥)
      → IfRun task (IfSome left (λ bytes. Completes status (script_of bytes)))
  completed None left rest taken now failed full before after status o read write = tt
  completed (Some (tasks.Log group server)) left rest taken now failed full before after status o read write = tt
  completed (Some (tasks.Gen number workers)) left rest taken now failed full before after status o read write = tt
  completed (Some tasks.Check) left rest taken now failed full before after status o read write = tt
  completed (Some (tasks.Run workers)) left rest taken now failed full before after status o read write = completed_of script_rules None status left rest failed full (run_judged workers left rest taken now failed full before after status o) read write

  -- a list was read whole and checked
  check_ends : (bytes : List ℕ) (rest taken now : Option (List ℕ)) (failed full : Type 0) (before after : List D) (status : Status) → Outcome seen may_leave faults moment left_since tells tells_moments status (Some tasks.Check) (Some bytes) rest failed taken now full before after
      → CheckEnds status bytes (Some bytes) rest failed taken now full
  check_ends bytes rest taken now failed full before after status o = subst (λ (xs : List ℕ). CheckEnds status xs (Some bytes) rest failed taken now full) o.source o.ending.0

  checked_of : (left rest taken now : Option (List ℕ)) (failed full : Type 0) (before after : List D) → Outcome seen may_leave faults moment left_since tells tells_moments statuses.Ok (Some tasks.Check) left rest failed taken now full before after
      → IfSome left (λ bytes. IsAtEnd rest × IsChecked bytes taken now)
  checked_of None rest taken now failed full before after o = tt
  checked_of (Some bytes) rest taken now failed full before after o = let ends = check_ends bytes rest taken now failed full before after statuses.Ok o in (ends.0, ends.1)

  pub checked : (task : Option Task) (left rest taken now : Option (List ℕ)) (failed full : Type 0) (before after : List D) (status : Status) → Outcome seen may_leave faults moment left_since tells tells_moments status task left rest failed taken now full before after → status ≡ statuses.Ok
      → IfCheck task (IfSome left (λ bytes. IsAtEnd rest × IsChecked bytes taken now))
  checked None left rest taken now failed full before after status o is = tt
  checked (Some (tasks.Run workers)) left rest taken now failed full before after status o is = tt
  checked (Some (tasks.Log group server)) left rest taken now failed full before after status o is = tt
  checked (Some (tasks.Gen number workers)) left rest taken now failed full before after status o is = tt
  checked (Some tasks.Check) left rest taken now failed full before after status o is =
      checked_of left rest taken now failed full before after (subst (λ (s : Status). Outcome seen may_leave faults moment left_since tells tells_moments s (Some tasks.Check) left rest failed taken now full before after) is o)

  plain_line : (left rest taken now : Option (List ℕ)) → IfSome left (λ bytes. IsAtEnd rest × IsChecked bytes taken now) → IfSome left (λ bytes. (line : List ℕ) → LineTellsOf (list_of bytes) line → Appends taken now line)
  plain_line None rest taken now c = tt
  plain_line (Some bytes) rest taken now c = λ line tells. plain_check bytes taken now line c.1 tells

  pub checked_plain : (task : Option Task) (left rest taken now : Option (List ℕ)) (failed full : Type 0) (before after : List D) (status : Status) → Outcome seen may_leave faults moment left_since tells tells_moments status task left rest failed taken now full before after → status ≡ statuses.Ok
      → IfCheck task (IfSome left (λ bytes. (line : List ℕ) → LineTellsOf (list_of bytes) line → Appends taken now line))
  checked_plain None left rest taken now failed full before after status o is = tt
  checked_plain (Some (tasks.Run workers)) left rest taken now failed full before after status o is = tt
  checked_plain (Some (tasks.Log group server)) left rest taken now failed full before after status o is = tt
  checked_plain (Some (tasks.Gen number workers)) left rest taken now failed full before after status o is = tt
  checked_plain (Some tasks.Check) left rest taken now failed full before after status o is = plain_line left rest taken now (checked (Some tasks.Check) left rest taken now failed full before after status o is)

  judged_list : (left rest taken now : Option (List ℕ)) (failed full : Type 0) (before after : List D) (status : Status) → Outcome seen may_leave faults moment left_since tells tells_moments status (Some tasks.Check) left rest failed taken now full before after
      → IfSome left (λ bytes. JudgesScript status (list_of bytes) (failed × IsUndecided list_rules tt left rest) full)
  judged_list None rest taken now failed full before after status o = tt
  judged_list (Some bytes) rest taken now failed full before after status o = check_judged status bytes (Some bytes) rest taken now failed full (check_ends bytes rest taken now failed full before after status o)

  pub checked_judged : (task : Option Task) (left rest taken now : Option (List ℕ)) (failed full : Type 0) (before after : List D) (status : Status) → Outcome seen may_leave faults moment left_since tells tells_moments status task left rest failed taken now full before after
      → IfCheck task (IfSome left (λ bytes. JudgesScript status (list_of bytes) (failed × IsUndecided list_rules tt left rest) full))
  checked_judged None left rest taken now failed full before after status o = tt
  checked_judged (Some (tasks.Run workers)) left rest taken now failed full before after status o = tt
  checked_judged (Some (tasks.Log group server)) left rest taken now failed full before after status o = tt
  checked_judged (Some (tasks.Gen number workers)) left rest taken now failed full before after status o = tt
  checked_judged (Some tasks.Check) left rest taken now failed full before after status o = judged_list left rest taken now failed full before after status o

  pub checked_complete : (task : Option Task) (left rest taken now : Option (List ℕ)) (failed full : Type 0) (before after : List D) (status : Status) → Outcome seen may_leave faults moment left_since tells tells_moments status task left rest failed taken now full before after → (failed → ⊥) → (full → ⊥)
      → IfCheck task (IfSome left (λ bytes. Completes status (list_of bytes)))
  checked_complete None left rest taken now failed full before after status o read write = tt
  checked_complete (Some (tasks.Run workers)) left rest taken now failed full before after status o read write = tt
  checked_complete (Some (tasks.Log group server)) left rest taken now failed full before after status o read write = tt
  checked_complete (Some (tasks.Gen number workers)) left rest taken now failed full before after status o read write = tt
  checked_complete (Some tasks.Check) left rest taken now failed full before after status o read write = completed_of list_rules tt status left rest failed full (judged_list left rest taken now failed full before after status o) read write

  -- the disks are as they were
  pub checked_disks : (task : Option Task) (left rest taken now : Option (List ℕ)) (failed full : Type 0) (before after : List D) (status : Status) → Outcome seen may_leave faults moment left_since tells tells_moments status task left rest failed taken now full before after → IfCheck task (after ≡ before)
  checked_disks None left rest taken now failed full before after status o = tt
  checked_disks (Some (tasks.Run workers)) left rest taken now failed full before after status o = tt
  checked_disks (Some (tasks.Log group server)) left rest taken now failed full before after status o = tt
  checked_disks (Some (tasks.Gen number workers)) left rest taken now failed full before after status o = tt
  checked_disks (Some tasks.Check) left rest taken now failed full before after status o = o.ending.1
