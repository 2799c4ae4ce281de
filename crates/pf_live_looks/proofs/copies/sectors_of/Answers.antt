use Rattle.std.proofs.Common.{◌∙◌}
use Rattle.pf_shared.specs.pf_group.proofs.Shown.{its_sectors}
use Rattle.pf_live_looks.proofs.copies.sectors_of.Goals as goal

pub returns-in_ok-copied-in-Ok : goal.returns-in_ok-copied-in-Ok
returns-in_ok-copied-in-Ok g c told = let at = c.in-Ok.ensures told in (at.0, at.1, c.in_ok-copied-in-Ok.ensures ∙ its_sectors c.in-Ok.me.now at.0 at.2)
