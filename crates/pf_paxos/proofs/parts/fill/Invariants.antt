use Rattle.std.proofs.Common.{◌≡◌, ◌++◌, drop, replicate}
use Rattle.pf_paxos.proofs.parts.fill.Given as goal

abbrev pub invariant-loop-at : goal.invariant-loop-at
invariant-loop-at l = l.parts ≡ replicate l.at l.part ++ drop l.at l.fn.parts
