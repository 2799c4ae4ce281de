use Rattle.std.proofs.Common.{◌≡◌, ◌++◌, drop, take}
use Rattle.pf_paxos.specs.Parts.{renewed}
use Rattle.pf_paxos.proofs.parts.renew.Given as goal

abbrev pub invariant-loop-at : goal.invariant-loop-at
invariant-loop-at l = l.parts ≡ renewed (take l.at l.fn.parts) l.own ++ drop l.at l.fn.parts
