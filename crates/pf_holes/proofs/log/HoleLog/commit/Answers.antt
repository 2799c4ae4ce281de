use Rattle.std.proofs.Common.{sym, ap, ◌∙◌}
use Rattle.std.specs.FinMap as map
use Rattle.pf_entry.specs.Records.{has_term}
use Rattle.pf_holes.proofs.HoleLogs.{held_commit}
use Rattle.pf_holes.proofs.log.HoleLog.commit.Goals as goal

pub invariant_of-self : goal.invariant_of-self
invariant_of-self c =
    rw c.put.ensures
    (held_commit c.self.inside.base c.self.inside.last c.args.slot c.args.term c.self.inside.entries c.self.inside.committed c.self.invariant
    (ap (λ h. has_term c.args.term (map.get h.entries c.args.slot)) c.self.view_is ∙ sym c.if-held.ensures))
