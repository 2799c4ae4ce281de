-- The exit status of a run.
use Rattle.std.specs.Prelude.{ℕ}
use Rattle.pf_run_lines.specs.declared.status.Status.{Status}
use Rattle.pf_run_lines.specs.declared.status.Status.TheVariants as statuses

-- the exit status of the process
abbrev pub code_of : Status → ℕ
code_of statuses.Ok = 0
code_of statuses.NoMemory = 1
code_of statuses.Usage = 2
code_of statuses.Script = 3
code_of statuses.ReadFault = 4
code_of statuses.WriteFault = 5
