use Rattle.std.proofs.Common.{List, ap, ◌∙◌}
use lib.ListN.{set}
use Rattle.pf_paxos.specs.declared.parts.Part.{Part}
use Rattle.pf_paxos.proofs.BallotForms.{filled_next}
use Rattle.pf_paxos.proofs.parts.fill.Goals as goal

pub loop-at-preserved : goal.loop-at-preserved
loop-at-preserved c =
    ap (λ (parts : List Part). set parts c.loop-at.at c.args.part.now) c.loop-at.invariant
    ∙ filled_next c.args.parts.now c.loop-at.at c.args.part.now c.loop-at-test.true
