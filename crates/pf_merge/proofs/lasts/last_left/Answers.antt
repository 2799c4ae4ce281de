use Rattle.std.proofs.Common.{◌≡◌, ◌+◌, length, arith, sym, subst, ◌∙◌}
use Rattle.pf_merge.specs.Staying.{entry_stays}
use Rattle.pf_merge.proofs.LastEntries.{IsLastOf, one_passed, one_taken, all_seen}
use Rattle.pf_merge.proofs.lasts.last_left.Goals as goal
use Rattle.pf_merge.proofs.lasts.last_left.Goals.{then-stays, else-stays}

pub loop-entry-preserved : goal.loop-entry-preserved
loop-entry-preserved c =
    let test = entry_stays c.args.base c.args.own.now c.args.other.now in
    let rows = c.as_slice-entry-items.result.now in
    let i = c.loop-entry.entry-index in
    elim c.if-stays.branch [
      | then-stays w ↦
          subst (IsLastOf test c.args.base rows (i + 1)) (sym (w.last-is ∙ w.max-last.ensures))
          (one_taken test c.args.base rows i c.loop-entry.last c.entry-item.result c.loop-entry.invariant c.loop-entry-test.true c.entry-item.is (sym c.stays.ensures ∙ w.if-stays.true))
      | else-stays w ↦
          subst (IsLastOf test c.args.base rows (i + 1)) (sym w.last-is)
          (one_passed test c.args.base rows i c.loop-entry.last c.entry-item.result c.loop-entry.invariant c.loop-entry-test.true c.entry-item.is (sym c.stays.ensures ∙ w.if-stays.false))
    ]

pub returns : goal.returns
returns c =
    let rows = c.as_slice-entry-items.result.now in
    let test = entry_stays c.args.base c.args.own.now c.args.other.now in
    let same : c.loop-entry.entry-index ≡ length rows = omega (arith, c.loop-entry-test.false, c.loop-entry.auto.entry-index-end) in
    all_seen c.args.base c.args.own.now c.args.other.now c.args.log.now rows c.loop-entry.last c.as_slice-entry-items.ensures.ascending c.as_slice-entry-items.ensures.entries
    (subst (λ k. IsLastOf test c.args.base rows k c.loop-entry.last) same c.loop-entry.invariant)
