use Rattle.std.proofs.Common.{length, drop, sym, ap, ◌∙◌}
use Rattle.pf_base.specs.Places.{sectors_there}
use Rattle.pf_base.proofs.Chunks.{length-chunks}
use Rattle.pf_base.proofs.payload.Payload.len.Goals as goal

pub returns-in-Among-clause-count : goal.returns-in-Among-clause-count
returns-in-Among-clause-count c =
    sym (length-chunks 512 c.in-Among.count (drop c.in-Among.from c.in-Among.bytes)) ∙ ap (λ place. length (sectors_there place)) (sym c.in-Among.is ∙ c.deref.ensures) ∙ ap length c.self.view_is
