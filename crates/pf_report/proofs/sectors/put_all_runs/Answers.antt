use Rattle.std.proofs.Common.{◌≡◌, ◌++◌, ◌-◌, ◌*◌, OnOk, length, replicate, ap, subst, sym, ◌∙◌}
use Rattle.pf_text.specs.Runs.{runs_text}
use Rattle.pf_report.specs.Texts.{joined_bytes}
use Rattle.pf_report.proofs.Thin.{thin_bytes}
use Rattle.pf_report.proofs.sectors.put_all_runs.Goals as goal

pub returns-clause-ok : goal.returns-clause-ok
returns-clause-ok c =
    let written = c.written-written.result.now in
    let sectors = c.args.sectors.now in
    subst (λ text. OnOk c.put_runs_and_zeros.result (c.put_runs_and_zeros.new.out.items ≡ c.args.out.now.items ++ text))
    (ap runs_text ((λ i. c.as_flattened.ensures.value i ++ replicate (512 * (c.len.ensures.count i - length written)) 0) ∙ sym (thin_bytes written (length sectors)) ∙ ap joined_bytes (sym c.written-written.ensures)))
    c.put_runs_and_zeros.ensures.ok
