use Rattle.std.proofs.Common.{◌≡◌, ◌+◌, false, arith, sym, ap, ◌∙◌}
use Rattle.std.proofs.lemmas.Bool.{or_from}
use Rattle.pf_entry.specs.Sets as set
use Rattle.pf_entry.specs.Applying.{passes}
use Rattle.pf_entry.specs.Ops.{range_of}
use Rattle.pf_holes.proofs.FreeTests.{free_from, not_free}
use Rattle.pf_holes.proofs.freedom.is_free.Goals as goal

pub returns-then-not-lets_pass : goal.returns-then-not-lets_pass
returns-then-not-lets_pass c =
    let p = c.loop-slot.slot + 1 in
    let unnamed : passes c.args.entry.now.look p (range_of c.args.entry.now.op) ≡ false =
    ap (λ look. passes look p (range_of c.args.entry.now.op)) (sym c.as_slice.ensures) ∙ ap (passes c.as_slice.result.now p) (sym c.range-range.ensures) ∙ sym c.if-not-lets_pass.ensures in
    sym (not_free (set.contains c.args.applied.now.slots) c.args.entry.now p (omega arith) (omega (arith, c.loop-slot-test.true, c.saturating_sub-slot-end.ensures)) (or_from _ _ (sym c.if-has_behind.ensures) unnamed))

pub returns : goal.returns
returns c =
    sym (free_from (set.contains c.args.applied.now.slots) c.args.entry.now (λ p low high. c.loop-slot.invariant p low (omega (arith, c.saturating_sub-slot-end.ensures, c.loop-slot-test.false))))
