use Rattle.std.proofs.Common.{◌≡◌, ◌++◌, OnOk, ap, subst, ◌∙◌}
use Rattle.pf_text.specs.Runs.{runs_text}
use Rattle.pf_text.proofs.ZeroRuns.{all_bytes}
use Rattle.pf_text.proofs.zeros.put_runs_and_zeros.Goals as goal

pub returns-clause-ok : goal.returns-clause-ok
returns-clause-ok c =
    subst (λ text. OnOk c.put_text.result (c.put_text.new.out.items ≡ c.args.out.now.items ++ text))
    (c.deref.ensures.value ∙ c.in_ok-text.ensures ∙ ap runs_text (all_bytes c.args.bytes.now c.before_zeros-end.result c.args.zeros c.before_zeros-end.ensures))
    c.put_text.ensures.ok
