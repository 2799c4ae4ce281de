use Rattle.pf_check.specs.Walks.{AreFirst}
use Rattle.pf_check.proofs.tagging.first_blocks.Given as goal

abbrev pub invariant-loop-number : goal.invariant-loop-number
invariant-loop-number l = AreFirst l.tables l.firsts.items l.number
