use Rattle.pf_merge.specs.Staying.{entry_stays}
use Rattle.pf_merge.proofs.LastEntries.{IsLastOf}
use Rattle.pf_merge.proofs.lasts.last_left.Given as goal

abbrev pub invariant-loop-entry : goal.invariant-loop-entry
invariant-loop-entry l = IsLastOf (entry_stays l.base l.own l.other) l.base l.entry-items l.entry-index l.last
