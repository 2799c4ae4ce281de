use Rattle.std.proofs.Common.{map, subst, ap, sym, ◌∙◌, Some, None}
use Rattle.std.specs.Prelude.{string_bytes}
use Rattle.std.specs.Io.KnownBytes.{Appends}
use Rattle.pf_io.specs.Causes.{Rose}
use Rattle.pf_run_words.specs.declared.words.Task.TheVariants as tasks
use Rattle.pf_run_lines.specs.Ends.{AppendsFront}
use Rattle.pf_run.specs.Placed.{ScriptIsWhole}
use Rattle.pf_run.specs.Reports.{usage_text}
use Rattle.pf_run.specs.Running.{HasRunLines}
use Rattle.pf_run_words.specs.Tasks.{task_of}
use Rattle.pf_run.proofs.ScriptPlaces.{whole_script}
use Rattle.pf_run.proofs.Results.{asked, checked, cut_usage, listed, ran, stopped, summed, told_usage, unread}
use Rattle.pf_run_lines.proofs.WriteFaults.{done_of, failed_of}
use Rattle.pf_run.proofs.top.run_words.Goals as goal

pub returns-in_default : goal.returns-in_default
returns-in_default g c =
    unread g.D.Disk.seen g.D.Disk.may_leave g.D.Disk.faults g.D.Disk.moment g.D.Disk.left_since g.D.Disk.tells g.D.Disk.tells_moments (g.S.Source.left c.args.source.now) (g.K.Sink.taken c.args.sink.now) (g.K.Sink.taken c.args.sink.now) (Rose (g.S.Source.faults c.args.source.now) (g.S.Source.faults c.args.source.now)) (Rose (g.K.Sink.faults c.args.sink.now) (g.K.Sink.faults c.args.sink.now)) c.args.disks.now.items (task_of (map string_bytes c.args.words.now))

pub returns-then-is_err : goal.returns-then-is_err
returns-then-is_err g c =
    let taken = g.K.Sink.taken in
    asked None (task_of (map string_bytes c.args.words.now)) (sym c.in_default-told.is ∙ c.in-Ok.ensures.told)
    (cut_usage g.D.Disk.seen g.D.Disk.may_leave g.D.Disk.faults g.D.Disk.moment g.D.Disk.left_since g.D.Disk.tells g.D.Disk.tells_moments (g.S.Source.left c.args.source.now) (g.K.Sink.taken c.args.sink.now) (taken c.write_all.new.sink) (Rose (g.S.Source.faults c.args.source.now) (g.S.Source.faults c.args.source.now)) (Rose (g.K.Sink.faults c.args.sink.now) (g.K.Sink.faults c.write_all.new.sink)) c.args.disks.now.items
    (failed_of c.write_all.result (Rose (g.K.Sink.faults c.args.sink.now) (g.K.Sink.faults c.write_all.new.sink)) c.if-is_err.ensures.value c.write_all.ensures.cause)
    (failed_of c.write_all.result (AppendsFront (g.K.Sink.taken c.args.sink.now) (taken c.write_all.new.sink) usage_text) c.if-is_err.ensures.value c.write_all.ensures.front))

pub returns-in_default-told : goal.returns-in_default-told
returns-in_default-told g c =
    let taken = g.K.Sink.taken in
    asked None (task_of (map string_bytes c.args.words.now)) (sym c.in_default-told.is ∙ c.in-Ok.ensures.told)
    (told_usage g.D.Disk.seen g.D.Disk.may_leave g.D.Disk.faults g.D.Disk.moment g.D.Disk.left_since g.D.Disk.tells g.D.Disk.tells_moments (g.S.Source.left c.args.source.now) (g.K.Sink.taken c.args.sink.now) (taken c.write_all.new.sink) (Rose (g.S.Source.faults c.args.source.now) (g.S.Source.faults c.args.source.now)) (Rose (g.K.Sink.faults c.args.sink.now) (g.K.Sink.faults c.write_all.new.sink)) c.args.disks.now.items
    (done_of c.write_all.result (Appends (g.K.Sink.taken c.args.sink.now) (taken c.write_all.new.sink) usage_text) c.if-is_err.ensures.value c.write_all.ensures.ok))

pub returns-in-Gen : goal.returns-in-Gen
returns-in-Gen g c =
    let number = c.in-Gen.number in
    let workers = c.in-Gen.workers in
    asked (Some (tasks.Gen number workers)) (task_of (map string_bytes c.args.words.now)) (ap Some (sym c.in-Gen.is) ∙ sym c.in-Some.is ∙ c.in-Ok.ensures.told)
    (summed g.D.Disk.seen g.D.Disk.may_leave g.D.Disk.faults g.D.Disk.moment g.D.Disk.left_since g.D.Disk.tells g.D.Disk.tells_moments c.generate.result number workers (g.S.Source.left c.args.source.now) (g.K.Sink.taken c.args.sink.now) (g.K.Sink.taken c.generate.new.sink) (Rose (g.S.Source.faults c.args.source.now) (g.S.Source.faults c.args.source.now)) (Rose (g.K.Sink.faults c.args.sink.now) (g.K.Sink.faults c.generate.new.sink)) c.args.disks.now.items c.generate.new.disks.items c.generate.ensures)

pub returns-in-Log : goal.returns-in-Log
returns-in-Log g c =
    let group = c.in-Log.group in
    let server = c.in-Log.server in
    asked (Some (tasks.Log group server)) (task_of (map string_bytes c.args.words.now)) (ap Some (sym c.in-Log.is) ∙ sym c.in-Some.is ∙ c.in-Ok.ensures.told)
    (listed g.D.Disk.seen g.D.Disk.may_leave g.D.Disk.faults g.D.Disk.moment g.D.Disk.left_since g.D.Disk.tells g.D.Disk.tells_moments c.list.result group server (g.S.Source.left c.args.source.now) (g.K.Sink.taken c.args.sink.now) (g.K.Sink.taken c.list.new.sink) (Rose (g.S.Source.faults c.args.source.now) (g.S.Source.faults c.args.source.now)) (Rose (g.K.Sink.faults c.args.sink.now) (g.K.Sink.faults c.list.new.sink)) c.args.disks.now.items c.list.new.disks.items c.list.ensures)

pub run_lines-requires-clause-lines : goal.run_lines-requires-clause-lines
run_lines-requires-clause-lines g c κs within =
    let script = c.in-Ok-read_script.ensures.accepted in
    subst ScriptIsWhole (sym c.deref.ensures.value) (whole_script script.text c.in-Ok-read_script.lines.items script.accepted)

pub returns-in-Ok-read_script : goal.returns-in-Ok-read_script
returns-in-Ok-read_script g c =
    let workers = c.in-Run.workers in
    let taken = g.K.Sink.taken in
    let full = (Rose (g.K.Sink.faults c.args.sink.now) (g.K.Sink.faults c.run_lines.new.sink)) in
    asked (Some (tasks.Run workers)) (task_of (map string_bytes c.args.words.now)) (ap Some (sym c.in-Run.is) ∙ sym c.in-Some.is ∙ c.in-Ok.ensures.told)
    (ran g.D.Disk.seen g.D.Disk.may_leave g.D.Disk.faults g.D.Disk.moment g.D.Disk.left_since g.D.Disk.tells g.D.Disk.tells_moments workers (g.S.Source.left c.args.source.now) (g.S.Source.left c.read_script.new.source) (g.K.Sink.taken c.args.sink.now) (taken c.run_lines.new.sink) (Rose (g.S.Source.faults c.args.source.now) (g.S.Source.faults c.read_script.new.source)) full c.run_lines.result.0 c.run_lines.result.1 c.in-Ok-read_script.lines.items c.args.disks.now.items c.run_lines.new.disks.items c.in-Ok-read_script.ensures.accepted
    (subst (λ lines. HasRunLines g.D.Disk.seen g.D.Disk.may_leave g.D.Disk.faults g.D.Disk.moment g.D.Disk.left_since g.D.Disk.tells g.D.Disk.tells_moments c.run_lines.result.0 c.run_lines.result.1 lines (g.K.Sink.taken c.args.sink.now) (taken c.run_lines.new.sink) full c.args.disks.now.items c.run_lines.new.disks.items) c.deref.ensures.value c.run_lines.ensures))

pub returns-in-Err : goal.returns-in-Err
returns-in-Err g c =
    let workers = c.in-Run.workers in
    asked (Some (tasks.Run workers)) (task_of (map string_bytes c.args.words.now)) (ap Some (sym c.in-Run.is) ∙ sym c.in-Some.is ∙ c.in-Ok.ensures.told)
    (stopped g.D.Disk.seen g.D.Disk.may_leave g.D.Disk.faults g.D.Disk.moment g.D.Disk.left_since g.D.Disk.tells g.D.Disk.tells_moments workers (g.S.Source.left c.args.source.now) (g.S.Source.left c.read_script.new.source) (g.K.Sink.taken c.args.sink.now) (g.K.Sink.taken c.end_at.new.sink) (Rose (g.S.Source.faults c.args.source.now) (g.S.Source.faults c.read_script.new.source)) (Rose (g.K.Sink.faults c.args.sink.now) (g.K.Sink.faults c.end_at.new.sink)) c.end_at.result c.args.disks.now.items c.in-Err.stop c.in-Err.ensures.stopped c.in-Err.ensures.piece c.end_at.ensures)

pub returns-in-Check : goal.returns-in-Check
returns-in-Check g c =
    asked (Some tasks.Check) (task_of (map string_bytes c.args.words.now)) (ap Some (sym c.in-Check.is) ∙ sym c.in-Some.is ∙ c.in-Ok.ensures.told)
    (checked g.D.Disk.seen g.D.Disk.may_leave g.D.Disk.faults g.D.Disk.moment g.D.Disk.left_since g.D.Disk.tells g.D.Disk.tells_moments c.check.result (g.S.Source.left c.args.source.now) (g.S.Source.left c.check.new.source) (g.K.Sink.taken c.args.sink.now) (g.K.Sink.taken c.check.new.sink) (Rose (g.S.Source.faults c.args.source.now) (g.S.Source.faults c.check.new.source)) (Rose (g.K.Sink.faults c.args.sink.now) (g.K.Sink.faults c.check.new.sink)) c.args.disks.now.items c.check.ensures)
