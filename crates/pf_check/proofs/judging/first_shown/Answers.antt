use Rattle.std.proofs.Common.{ℕ, inl, inr, arith}
use Rattle.std.proofs.lemmas.Bool.{cases_lt}
use borrow.Author.Count.{below_more}
use Rattle.pf_check.specs.Kinds.{KeepsRule}
use Rattle.pf_check.proofs.KindRules.{kept_hides, kept_past}
use Rattle.pf_check.proofs.judging.first_shown.Goals as goal

pub returns-then-is_shown : goal.returns-then-is_shown
returns-then-is_shown c = record {
  shows = c.if-is_shown.ensures;
  before = λ m low. kept_hides c.args.kind c.args.tables.now m (c.loop-number.invariant m low);
}

pub loop-number-preserved : goal.loop-number-preserved
loop-number-preserved c = below_more (λ (n : ℕ). KeepsRule c.args.kind c.args.tables.now n) c.loop-number.number c.loop-number.invariant c.if-is_shown.ensures

pub returns : goal.returns
returns c = λ n.
    let count = c.numbers-number-end.ensures.count in
    elim (cases_lt n 65536) [
      | inl low ↦ c.loop-number.invariant n (omega (arith, low, count))
      | inr far ↦ kept_past c.args.kind c.args.tables.now c.numbers-number-end.ensures.raw n far
    ]
