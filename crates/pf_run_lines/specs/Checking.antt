-- How the check of a list of transactions ends.
use Rattle.std.specs.Prelude.{◌≡◌, ℕ, List, [], ◌++◌, length, Option, IsErr, Ok, Err, codes}
use Rattle.std.specs.Io.KnownBytes.{Appends, IsAtEnd}
use Rattle.pf_tree_tables.specs.declared.changes.Txn.{Txn}
use Rattle.pf_check.specs.declared.judging.Verdict.{Verdict}
use Rattle.pf_check.specs.declared.judging.Verdict.TheVariants.{Clean, Broken}
use Rattle.pf_check.specs.Raw.{empty_tables, made_by}
use Rattle.pf_check.specs.Verdicts.{IsRight}
use Rattle.pf_run_lines.specs.declared.status.Status.{Status}
use Rattle.pf_run_lines.specs.declared.status.Status.TheVariants as statuses
use Rattle.pf_run_lines.specs.Counts.{counts_text}
use Rattle.pf_run_lines.specs.Ends.{AppendsFront}
use Rattle.pf_run_lines.specs.LineScans.{Judged}
use Rattle.pf_run_lines.specs.Lists.{list_of, list_rules}
use Rattle.pf_run_lines.specs.Refusing.{fault_text}
use Rattle.pf_run_lines.specs.Runs.{IsSource, IsUndecided}

-- the line of a verdict on so many transactions
abbrev pub verdict_text : Verdict → (count : ℕ) → List ℕ
verdict_text (Clean paths) count = codes "clean " ++ counts_text (paths, count)
verdict_text (Broken kind number) count = codes "broken " ++ counts_text (kind, number)

-- the line of a right verdict on the tables that these transactions make, in their order, of the empty ones
pub record IsVerdictLine (txns : List Txn) (line : List ℕ) : Type 0 where
  pub verdict : Verdict
  pub right : IsRight (made_by empty_tables txns) verdict
  pub line_is : line ≡ verdict_text verdict (length txns)

-- the line that is told of a list: of an accepted one that of a verdict, of a refused one that of its fault
abbrev pub LineTellsOf : Judged Txn → (line : List ℕ) → Type 0
LineTellsOf (Ok txns) line = IsVerdictLine txns line
LineTellsOf (Err refused) line = line ≡ fault_text refused.0 refused.1

-- the list is accepted, and the sink took the line that is told of it
pub record IsChecked (list : List ℕ) (taken now : Option (List ℕ)) : Type 0 where
  pub txns : List Txn
  pub accepted : list_of list ≡ Ok txns
  pub line : List ℕ
  pub tells : IsVerdictLine txns line
  pub written : Appends taken now line

-- a front of the line that is told of the list was taken
pub record IsCut (list : List ℕ) (taken now : Option (List ℕ)) : Type 0 where
  pub line : List ℕ
  pub tells : LineTellsOf (list_of list) line
  pub written : AppendsFront taken now line

-- the fault of the list's refused line was taken
pub record IsFaulted (list : List ℕ) (taken now : Option (List ℕ)) : Type 0 where
  pub refused : IsErr (list_of list)
  pub line : List ℕ
  pub tells : LineTellsOf (list_of list) line
  pub written : Appends taken now line

-- A status of `check`, for a list: what the source had and has left, whether its faults rose, what the sink had and has taken, and whether
-- its faults rose.
abbrev pub CheckEnds : Status → (list : List ℕ) → (left rest : Option (List ℕ)) → (failed : Type 0) → (taken now : Option (List ℕ)) → (full : Type 0) → Type 0
CheckEnds statuses.Ok list left rest failed taken now full = IsAtEnd rest × IsChecked list taken now
CheckEnds statuses.NoMemory list left rest failed taken now full = Appends taken now []
CheckEnds statuses.Usage list left rest failed taken now full = ⊥
CheckEnds statuses.Script list left rest failed taken now full = IsFaulted list taken now
CheckEnds statuses.ReadFault list left rest failed taken now full = failed × IsUndecided list_rules tt left rest × Appends taken now []
CheckEnds statuses.WriteFault list left rest failed taken now full = full × IsCut list taken now

-- how a check of what the source gives ends
pub record HasChecked (status : Status) (left rest : Option (List ℕ)) (failed : Type 0) (taken now : Option (List ℕ)) (full : Type 0) : Type 0 where
  pub list : List ℕ
  pub source : IsSource left list
  pub ends : CheckEnds status list left rest failed taken now full
