use Rattle.std.proofs.Common.{rules, ap, ◌∙◌}
use Rattle.pf_rings.specs.declared.view.RingView.{RingView}
use Rattle.pf_rings.proofs.Relays.{puts, untold}
use Rattle.pf_rings.proofs.ring.Ring.push.Goals as goal

pub push_as-requires-clause-rule : goal.push_as-requires-clause-rule
push_as-requires-clause-rule g c = (puts _ _ _ _ (search rules) (ap (λ (v : RingView). v.puts) c.loop.invariant.view ∙ c.requires.1), untold _ _)
