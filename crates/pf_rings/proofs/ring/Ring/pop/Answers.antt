use Rattle.std.proofs.Common.{ap, ◌∙◌}
use Rattle.pf_rings.specs.declared.view.RingView.{RingView}
use Rattle.pf_rings.proofs.Relays.{takes_one, untold}
use Rattle.pf_rings.proofs.ring.Ring.pop.Goals as goal

pub pop_as-requires-clause-rule : goal.pop_as-requires-clause-rule
pop_as-requires-clause-rule g c = (takes_one _ _ (ap (λ (v : RingView). v.takes) c.loop.invariant.view ∙ c.requires.1), untold _ _)
