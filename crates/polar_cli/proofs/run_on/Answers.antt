use Rattle.std.proofs.Common.{◌≡◌, MatchResult, map, inr, sym, subst, ◌∙◌}
use Rattle.std.specs.Prelude.{IfOk, string_bytes}
use Rattle.std.specs.Process.{exit_status}
use Rattle.pf_run_words.specs.Tasks.{task_of}
use Rattle.polar_cli.specs.Ended.{ExitsOver, HasNotBegun}
use Rattle.polar_cli.proofs.ExitStatus.{exited}
use Rattle.polar_cli.proofs.run_on.Goals as goal

pub returns : goal.returns
returns g c =
    let task = task_of (map string_bytes c.args.words.now) in
    let code = exit_status c.from.result in
    let made = c.in-Ok-Ok-Ok in
    let run = c.run-status in
    let source : made.source.inner.faults ≡ 0 = subst (λ r. IfOk r (λ tail. tail.inner.faults ≡ c.new.result.faults)) made.is-1 c.new-source.ensures.faults ∙ c.new.ensures.faults in
    let sink : c.new-sink.result.inner.faults ≡ 0 = c.new-sink.ensures.faults ∙ c.new-2.ensures.faults in
    subst (λ given. MatchResult given (λ disks. ExitsOver g.D.Disk task disks.items code) (λ _. HasNotBegun code)) (sym made.is-0)
    (inr (exited g.D.Disk task _ _ _ _ made.source.inner.faults run.new.source.inner.faults c.new-sink.result.inner.faults run.new.sink.inner.faults made.disks.items run.new.disks.items run.result c.flushed-status.result code
    source sink run.ensures.outcome c.flushed-status.ensures.kept (c.from.ensures ∙ c.code.ensures)))
