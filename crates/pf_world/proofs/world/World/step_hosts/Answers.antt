use Rattle.std.proofs.Common.{sym, ap, subst, ◌∙◌}
use Rattle.pf_world_hosts.specs.pf_world_moments.specs.Steps.{AreReady}
use Rattle.pf_world.specs.Views.{WorldOn}
use Rattle.pf_world.proofs.world.World.step_hosts.Goals as goal

pub step-requires-clause-ready : goal.step-requires-clause-ready
step-requires-clause-ready g c κs within = subst AreReady (ap (λ (o : WorldOn g.row.D.Denot). o.world.chunks) (sym c.self.view_is) ∙ sym c.deref_mut.ensures.value) c.requires.ready
