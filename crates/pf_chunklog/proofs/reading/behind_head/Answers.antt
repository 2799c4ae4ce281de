use Rattle.std.proofs.Common.{◌++◌, [], ℕ, List, None, get_or, inl, inr, ap, ◌∙◌}
use Rattle.std.proofs.lemmas.Bool.Decides.{Decides-eqb}
use Rattle.std.proofs.lemmas.Slice.Eq.{strip_prefix_is}
use Rattle.pf_chunklog.proofs.Parts.{contains_more, contains_all}
use Rattle.pf_chunklog.proofs.reading.behind_head.Goals as goal

pub loop-head-preserved : goal.loop-head-preserved
loop-head-preserved c = λ head rest has is.
    let here = strip_prefix_is Decides-eqb c.args.bytes.now (get_or c.args.heads.now c.loop-head.head-index []) None c.in_default.ensures.cases in
    elim (contains_more c.args.heads.now c.loop-head.head-index head c.loop-head-test.true has) [
      | inl before ↦ c.loop-head.invariant head rest before is
      | inr at ↦ here rest (is ∙ ap (λ (l : List ℕ). l ++ rest) at)
    ]

pub returns-clause-none : goal.returns-clause-none
returns-clause-none c = λ _ head rest has is. c.loop-head.invariant head rest (contains_all c.args.heads.now c.loop-head.head-index head c.loop-head-test.false has) is
