use Rattle.std.proofs.Common.{◌≡◌, ◌+◌, ◌≤◌, drop}
use Rattle.pf_paxos.specs.Parts.{parts_done}
use Rattle.pf_paxos.proofs.parts.count_done.Given as goal

abbrev pub invariant-loop-part : goal.invariant-loop-part
invariant-loop-part l = (l.done + parts_done (drop l.part-index l.parts) ≡ parts_done l.parts) × (l.done ≤ l.part-index)
