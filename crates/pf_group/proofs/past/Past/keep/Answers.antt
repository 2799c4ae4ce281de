use Rattle.std.proofs.Common.{[], ◌∷◌, ◌++◌, refl, ap, ◌∙◌}
use Rattle.pf_group.proofs.Claims.{past_longer}
use Rattle.pf_group.proofs.past.Past.keep.Goals as goal

pub returns-clause-past : goal.returns-clause-past
returns-clause-past c = past_longer c.args.self.now _ c.args.happening.now c.requires.past c.requires.room (c.then.ensures ∙ ap (λ l. l ++ c.args.happening.now ∷ []) c.replace-before.ensures.value) refl c.applied_with-self.ensures c.open_after-self.ensures
