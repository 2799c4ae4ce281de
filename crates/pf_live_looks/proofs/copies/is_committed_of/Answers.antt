use Rattle.std.proofs.Common.{ap, ◌∙◌}
use Rattle.pf_entry.specs.Sets
use Rattle.pf_shared.specs.pf_group.proofs.Shown.{its_committed}
use Rattle.pf_live_looks.proofs.copies.is_committed_of.Goals as goal

pub returns : goal.returns
returns g c told = let at = c.in_ok-running.ensures told in (at.0, at.1, c.is_committed.ensures.committed ∙ ap (λ slots. Sets.contains slots c.args.slot) (its_committed c.in_ok-running.field-0.now at.0 at.2))
