use Rattle.std.proofs.Common.{◌≡◌, ◌+◌, ◌≤◌, length}
use Rattle.pf_run_lines.specs.LineScans.{fed_all}
use Rattle.pf_run_lines.specs.ScanView.{scanned, room}
use Rattle.pf_run_lines.proofs.scan.Scan.feed.Given as goal

abbrev pub invariant-loop-count : goal.invariant-loop-count
invariant-loop-count g l = record {
  told : fed_all g.R.LineReader.rules (scanned l.fn.self) l.bytes ≡ fed_all g.R.LineReader.rules (scanned l.self) l.rest;
  room : room l.self + length l.bytes ≤ room l.fn.self + length l.rest;
}

abbrev pub decreases-loop-count : goal.decreases-loop-count
decreases-loop-count g l = length l.rest
