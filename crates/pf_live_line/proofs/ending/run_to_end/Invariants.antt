use Rattle.pf_live_line.specs.Rounds.{HasRunOn, HaveGoneOn}
use Rattle.std.specs.Prelude.{ℕ}
use Rattle.pf_live_line.proofs.ending.run_to_end.Given as goal

abbrev pub invariant-loop : goal.invariant-loop
invariant-loop g l = (runs : ℕ) × HasRunOn l.line.group l.line.cell l.line.plan l.line.rings.items l.fn.crew runs l.now × HaveGoneOn l.line.group l.line.cell l.line.plan l.line.rings.items runs l.fn.crew l.now
