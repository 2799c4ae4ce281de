use Rattle.std.proofs.Common.{◌+◌, ◌-◌}
use Rattle.pf_report.proofs.Walks.{IsWalked}
use Rattle.pf_report.proofs.logs.put_entries.Given as goal

abbrev pub invariant-loop-slot : goal.invariant-loop-slot
invariant-loop-slot l = IsWalked l.log l.after l.fn.out.items l.out.items

abbrev pub decreases-loop-slot : goal.decreases-loop-slot
decreases-loop-slot l = l.log.base + 4096 - l.after
