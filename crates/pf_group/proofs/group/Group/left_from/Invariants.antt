use Rattle.std.proofs.Common.{IsTrue}
use Rattle.pf_group.specs.GroupIs.{state_of}
use Rattle.pf_group.proofs.Leasts.{NoneUpTo}
use Rattle.pf_group.proofs.group.Group.left_from.Given as goal

abbrev pub invariant-loop-k : goal.invariant-loop-k
invariant-loop-k g l = IsTrue l.self.told → NoneUpTo (state_of l.self) l.from l.k
