use Rattle.std.proofs.Common.{◌≡◌, ◌++◌, IfSome, IsSome, sym, subst}
use Rattle.std.proofs.lemmas.Result.{on_ok_weaker}
use Rattle.pf_report.specs.Refusals.{refusal_text}
use Rattle.pf_report.specs.Texts.{report_line}
use Rattle.pf_report.proofs.LineRefusals.{line_refusal_put, line_refusal_said}
use Rattle.pf_report.proofs.answers.put_line_refusal.Goals as goal

pub put_refusal-requires : goal.put_refusal-requires
put_refusal-requires c = subst (λ n. IsSome (refusal_text n)) (sym c.number.ensures) (line_refusal_said c.args.refusal)

pub returns-clause-ok : goal.returns-clause-ok
returns-clause-ok c =
    let before = c.args.out.now.items in
    let after = c.put_refusal.new.out.items in
    on_ok_weaker c.put_refusal.result (λ put. line_refusal_put c.args.refusal c.args.line before after
    (subst (λ n. IfSome (refusal_text n) (λ text. after ≡ before ++ report_line c.args.line text)) c.number.ensures put)) c.put_refusal.ensures.ok
