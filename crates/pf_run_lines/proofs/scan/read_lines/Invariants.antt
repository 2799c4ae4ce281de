use Rattle.std.proofs.Common.{◌≤◌}
use Rattle.pf_run_lines.specs.Runs.{IsRead}
use Rattle.pf_run_lines.specs.ScanView.{scanned, room}
use Rattle.pf_run_lines.proofs.scan.read_lines.Given as goal

abbrev pub invariant-loop-count : goal.invariant-loop-count
invariant-loop-count g l = record {
  read : IsRead g.R.LineReader.rules l.fn.reader (g.S.Source.left l.fn.source) (g.S.Source.left l.source) (scanned l.scan);
  later : g.S.Source.faults l.fn.source ≤ g.S.Source.faults l.source;
}

abbrev pub decreases-loop-count : goal.decreases-loop-count
decreases-loop-count g l = room l.scan
