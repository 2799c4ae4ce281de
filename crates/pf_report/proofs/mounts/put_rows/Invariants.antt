use Rattle.std.proofs.Common.{◌≡◌, ◌++◌, take}
use Rattle.pf_text.specs.Kept.{KeepsText}
use Rattle.pf_report.specs.Mounts.{tree_lines}
use Rattle.pf_report.proofs.mounts.put_rows.Given as goal

abbrev pub invariant-loop-row : goal.invariant-loop-row
invariant-loop-row l = record {
  text : l.out.items ≡ l.fn.out.items ++ tree_lines (take l.row-index l.rows);
  kept : KeepsText l.fn.out.items l.out.items;
}
