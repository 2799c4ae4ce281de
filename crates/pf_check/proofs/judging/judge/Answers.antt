use Rattle.std.proofs.Common.{◌≡◌, ◌∙◌, ap, sym, subst, ℕ, inl, inr, arith}
use Rattle.std.proofs.lemmas.Bool.{cases_eq}
use Rattle.pf_check.specs.declared.judging.Verdict.TheVariants.{Clean}
use Rattle.pf_check.specs.Raw.{RawTables}
use Rattle.pf_check.specs.Kinds.{KeepsRule}
use Rattle.pf_check.specs.Verdicts.{AllKeepBelow}
use Rattle.pf_check.proofs.KindRules.{kept_hides}
use Rattle.pf_check.proofs.Volumes.{kept_stands, none_shown, paths_counted}
use Rattle.pf_check.proofs.judging.judge.Goals as goal

pub returns-in-Some-clause-right : goal.returns-in-Some-clause-right
returns-in-Some-clause-right c = (λ k n low. kept_hides k c.args.tables.now n (c.loop-kind.invariant k n low), c.in-Some.ensures)

pub returns-in-Some-clause-exactly : goal.returns-in-Some-clause-exactly
returns-in-Some-clause-exactly c = λ tree s.
    let least = c.in-Some.ensures in
    absurd (none_shown c.args.tables.now tree s c.loop-kind.kind c.in-Some.number least.shows)

pub loop-kind-preserved : goal.loop-kind-preserved
loop-kind-preserved c = λ k n low.
    elim (cases_eq k c.loop-kind.kind) [
      | inl same ↦ subst (λ (j : ℕ). KeepsRule j c.args.tables.now n) (sym same) (c.in_default.ensures n)
      | inr apart ↦ c.loop-kind.invariant k n (omega (arith, low, apart))
    ]

whole : (t : RawTables) (kind : ℕ) → kind ≡ 8 → AllKeepBelow t kind → AllKeepBelow t 8
whole t kind e below = λ k n low. below k n (omega (arith, e, low))

pub returns-clause-right : goal.returns-clause-right
returns-clause-right c =
    let t = c.args.tables.now in
    let made = kept_stands t c.count_used.ensures.raw (whole t c.loop-kind.kind (omega arith) c.loop-kind.invariant) in
    (made.0, made.1, c.count_used.ensures.count ∙ paths_counted t made.0 made.1)

pub returns-clause-exactly : goal.returns-clause-exactly
returns-clause-exactly c = λ tree s. ap Clean (c.count_used.ensures.count ∙ paths_counted c.args.tables.now tree s)
