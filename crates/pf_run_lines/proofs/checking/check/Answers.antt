use Rattle.std.proofs.Common.{refl, subst}
use Rattle.std.specs.Io.KnownBytes.{Appends}
use Rattle.pf_io.specs.Causes.{Rose}
use Rattle.pf_run_lines.specs.Checking.{IsVerdictLine}
use Rattle.pf_run_lines.specs.Ends.{AppendsFront}
use Rattle.pf_run_lines.proofs.CheckEnds.{cut, none_told, stopped, told}
use Rattle.pf_run_lines.proofs.WriteFaults.{done_of, failed_of}
use Rattle.pf_run_lines.proofs.checking.check.Goals as goal

pub returns-in-Err : goal.returns-in-Err
returns-in-Err g c =
    stopped (g.S.Source.left c.args.source.now) (g.S.Source.left c.read_lines.new.source) (g.K.Sink.taken c.args.sink.now) (g.K.Sink.taken c.end_at.new.sink) (Rose (g.S.Source.faults c.args.source.now) (g.S.Source.faults c.read_lines.new.source)) (Rose (g.K.Sink.faults c.args.sink.now) (g.K.Sink.faults c.end_at.new.sink))
    c.end_at.result c.in-Err.stop c.in-Err.ensures.stopped c.end_at.ensures

pub returns-in_default : goal.returns-in_default
returns-in_default g c =
    none_told (g.S.Source.left c.args.source.now) (g.S.Source.left c.read_lines.new.source) (g.K.Sink.taken c.args.sink.now) (g.K.Sink.taken c.args.sink.now) (Rose (g.S.Source.faults c.args.source.now) (g.S.Source.faults c.read_lines.new.source)) (Rose (g.K.Sink.faults c.args.sink.now) (g.K.Sink.faults c.args.sink.now)) refl

pub returns-then-is_err : goal.returns-then-is_err
returns-then-is_err g c =
    let taken = g.K.Sink.taken in
    let full = Rose (g.K.Sink.faults c.args.sink.now) (g.K.Sink.faults c.write_all.new.sink) in
    let line = c.in-Ok-verdict_line.line.items in
    cut (g.S.Source.left c.args.source.now) (g.S.Source.left c.read_lines.new.source) (taken c.args.sink.now) (taken c.write_all.new.sink) (Rose (g.S.Source.faults c.args.source.now) (g.S.Source.faults c.read_lines.new.source)) full
    c.in-Ok.txns.items line c.in-Ok.ensures.accepted (subst (λ txns. IsVerdictLine txns line) c.deref.ensures.value c.in-Ok-verdict_line.ensures)
    (failed_of c.write_all.result full c.if-is_err.ensures.value c.write_all.ensures.cause)
    (subst (AppendsFront (taken c.args.sink.now) (taken c.write_all.new.sink)) c.deref-2.ensures.value
    (failed_of c.write_all.result (AppendsFront (taken c.args.sink.now) (taken c.write_all.new.sink) c.deref-2.result.now) c.if-is_err.ensures.value c.write_all.ensures.front))

pub returns : goal.returns
returns g c =
    let taken = g.K.Sink.taken in
    let line = c.in-Ok-verdict_line.line.items in
    told (g.S.Source.left c.args.source.now) (g.S.Source.left c.read_lines.new.source) (taken c.args.sink.now) (taken c.write_all.new.sink) (Rose (g.S.Source.faults c.args.source.now) (g.S.Source.faults c.read_lines.new.source)) (Rose (g.K.Sink.faults c.args.sink.now) (g.K.Sink.faults c.write_all.new.sink))
    c.in-Ok.txns.items line c.in-Ok.ensures.accepted (subst (λ txns. IsVerdictLine txns line) c.deref.ensures.value c.in-Ok-verdict_line.ensures)
    (subst (Appends (taken c.args.sink.now) (taken c.write_all.new.sink)) c.deref-2.ensures.value
    (done_of c.write_all.result (Appends (taken c.args.sink.now) (taken c.write_all.new.sink) c.deref-2.result.now) c.if-is_err.ensures.value c.write_all.ensures.ok))
