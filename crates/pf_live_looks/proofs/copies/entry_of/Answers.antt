use Rattle.std.proofs.Common.{Some, sym, ap, ◌∙◌}
use Rattle.std.specs.FinMap
use Rattle.pf_live_looks.proofs.copies.entry_of.Goals as goal

pub returns-in_ok-try_clone-in-Some : goal.returns-in_ok-try_clone-in-Some
returns-in_ok-try_clone-in-Some g c told =
    let at = c.in-Ok.ensures told in
    (at.0, at.1, ap Some c.in_ok-try_clone-in-Some.ensures ∙ sym c.in-Some.ensures.entry ∙ ap (λ log. FinMap.get log c.args.slot) at.2.cached.log)

pub returns-in-None : goal.returns-in-None
returns-in-None g c told =
    let at = c.in-Ok.ensures told in
    (at.0, at.1, sym c.in-None.ensures.entry ∙ ap (λ log. FinMap.get log c.args.slot) at.2.cached.log)
