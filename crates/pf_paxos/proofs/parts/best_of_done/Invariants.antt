use Rattle.std.proofs.Common.{◌≡◌, drop}
use Rattle.pf_paxos.specs.Parts.{best_done}
use Rattle.pf_paxos.proofs.parts.best_of_done.Given as goal

abbrev pub invariant-loop-part : goal.invariant-loop-part
invariant-loop-part l = best_done (drop l.part-index l.parts) l.best ≡ best_done l.parts l.fn.own
