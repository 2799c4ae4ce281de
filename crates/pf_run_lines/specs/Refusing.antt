-- How a run ends whose lines were not read.
use Rattle.std.specs.Prelude.{◌≡◌, ℕ, List, [], ◌∷◌, ◌++◌, Option, codes}
use Rattle.std.specs.Fmt.{decimal}
use Rattle.std.specs.Io.KnownBytes.{Appends}
use Rattle.pf_script.specs.declared.command.LineFault.{LineFault}
use Rattle.pf_script.specs.Lines.{line_fault_number}
use Rattle.pf_run_lines.specs.declared.scan.Stop.{Stop}
use Rattle.pf_run_lines.specs.declared.scan.Stop.TheVariants as stops
use Rattle.pf_run_lines.specs.declared.status.Status.{Status}
use Rattle.pf_run_lines.specs.declared.status.Status.TheVariants as statuses
use Rattle.pf_run_lines.specs.Ends.{AppendsFront}

-- what is told of a refused line
abbrev pub fault_text : ℕ → LineFault → List ℕ
fault_text line fault = codes "fault " ++ decimal line ++ 32 ∷ decimal (line_fault_number fault) ++ 10 ∷ []

-- the status of a refused line whose fault is told
abbrev pub LineRefuses : Status → List ℕ → (taken now : Option (List ℕ)) → (full : Type 0) → Type 0
LineRefuses statuses.Script text taken now full = Appends taken now text
LineRefuses statuses.NoMemory text taken now full = Appends taken now []
LineRefuses statuses.WriteFault text taken now full = full × AppendsFront taken now text
LineRefuses statuses.Usage text taken now full = ⊥
LineRefuses statuses.Ok text taken now full = ⊥
LineRefuses statuses.ReadFault text taken now full = ⊥

-- the status of a run that stopped among the lines that it read: the sink is as it was, or the fault is told
abbrev pub EndsAtStop : Status → Stop → (taken now : Option (List ℕ)) → (full : Type 0) → Type 0
EndsAtStop status stops.NoMemory taken now full = (status ≡ statuses.NoMemory) × (now ≡ taken)
EndsAtStop status stops.Failed taken now full = (status ≡ statuses.ReadFault) × (now ≡ taken)
EndsAtStop status (stops.Refused line fault) taken now full = LineRefuses status (fault_text line fault) taken now full
