use Rattle.std.proofs.Common.{subst, sym}
use Rattle.pf_shared.specs.pf_group.specs.Readers.{IsAppliedOf}
use Rattle.pf_shared.specs.pf_group.proofs.Shown.{its_applied}
use Rattle.pf_live_looks.proofs.copies.applied_of.Goals as goal

pub returns-in_ok-try_clone-in-Ok : goal.returns-in_ok-try_clone-in-Ok
returns-in_ok-try_clone-in-Ok g c told = let at = c.in-Ok.ensures told in (at.0, at.1, subst (λ l. IsAppliedOf l at.0) (sym c.in_ok-try_clone-in-Ok.ensures) (its_applied c.in-Ok.me.now at.0 at.2))
