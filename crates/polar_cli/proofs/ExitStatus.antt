-- How the process ends.
use Rattle.std.proofs.Common.{◌≡◌, ℕ, List, Option, subst}
use Rattle.pf_io.specs.Causes.{Rose}
use Rattle.pf_disk.specs.declared.disk.Disk.{Ghosts}
use Rattle.pf_run_words.specs.declared.words.Task.{Task}
use Rattle.pf_run_lines.specs.Statuses.{code_of}
use Rattle.pf_run_lines.specs.declared.status.Status.{Status}
use Rattle.polar_cli.specs.Ended.{Flushes, HasExited}
use Rattle.pf_run.specs.Outcomes.{Outcome}

-- with a source and a sink that had not failed before
pub exited : {D : Type 0} (disk : Ghosts D) (task : Option Task) (left rest taken now : Option (List ℕ)) (source_was source_is sink_was sink_is : ℕ) (before after : List D) (status ended : Status) (code : ℕ)
    → source_was ≡ 0 → sink_was ≡ 0 → Outcome disk.seen disk.may_leave disk.faults disk.moment disk.left_since disk.tells disk.tells_moments status task left rest (Rose source_was source_is) taken now (Rose sink_was sink_is) before after → Flushes status ended → code ≡ code_of ended
    → HasExited disk task before code
exited disk task left rest taken now source_was source_is sink_was sink_is before after status ended code source_new sink_new outcome flushes is = record {
  left = left;
  rest = rest;
  source_faults = source_is;
  taken = taken;
  now = now;
  sink_faults = sink_is;
  after = after;
  status = status;
  outcome = subst (λ n. Outcome disk.seen disk.may_leave disk.faults disk.moment disk.left_since disk.tells disk.tells_moments status task left rest (Rose n source_is) taken now (Rose 0 sink_is) before after) source_new
      (subst (λ n. Outcome disk.seen disk.may_leave disk.faults disk.moment disk.left_since disk.tells disk.tells_moments status task left rest (Rose source_was source_is) taken now (Rose n sink_is) before after) sink_new outcome);
  ended = ended;
  flushes = flushes;
  code_is = is;
}
