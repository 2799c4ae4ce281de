use Rattle.std.proofs.Common.{◌≡◌, ◌+◌, ◌∙◌, ap, arith, false, sym}
use Rattle.std.proofs.lemmas.Bool.{or_from}
use Rattle.pf_entry.specs.Applying.{passes}
use Rattle.pf_entry.specs.Ops.{range_of}
use Rattle.pf_entry.specs.Sets as set
use Rattle.pf_holes.proofs.FreeTests.{not_free}
use Rattle.pf_server_apply.proofs.claims.is_stopped.Goals as goal

pub returns-then-upto-saturating_sub : goal.returns-then-upto-saturating_sub
returns-then-upto-saturating_sub c = λ is.
    let e = c.args.entry.now in
    let p = c.upto-upto.result + 1 in
    let unnamed : passes e.look p (range_of e.op) ≡ false = ap (λ look. passes look p (range_of e.op)) (sym c.as_slice.ensures) ∙ c.names_past_next.ensures is (range_of e.op) in
    not_free (set.contains c.args.applied.now.slots) e p (omega arith) (omega (arith, c.if-upto-saturating_sub.true, c.saturating_sub.ensures)) (or_from _ _ c.upto-upto.ensures.ended unnamed)
