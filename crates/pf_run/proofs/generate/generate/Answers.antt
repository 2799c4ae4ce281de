use Rattle.std.proofs.Common.{subst, sym, ◌∙◌, None}
use Rattle.std.specs.Io.KnownBytes.{Appends}
use Rattle.pf_io.specs.Causes.{Rose}
use Rattle.pf_run_lines.specs.Ends.{AppendsFront}
use Rattle.pf_run.specs.Placed.{ScriptIsWhole}
use Rattle.pf_run.specs.Running.{HasRunLines}
use Rattle.pf_run.proofs.GeneratedRuns.{accepted_of, counts_of, cut_short, not_begun, sum_cut, sum_untold, sum_written}
use Rattle.pf_run.proofs.ScriptPlaces.{whole_script}
use Rattle.pf_run_lines.proofs.WriteFaults.{done_of, failed_of}
use Rattle.pf_run.proofs.generate.generate.Goals as goal

pub returns-in_default : goal.returns-in_default
returns-in_default g c = not_begun g.D.Disk.seen g.D.Disk.may_leave g.D.Disk.faults g.D.Disk.moment g.D.Disk.left_since g.D.Disk.tells g.D.Disk.tells_moments c.args.number (g.K.Sink.taken c.args.sink.now) (Rose (g.K.Sink.faults c.args.sink.now) (g.K.Sink.faults c.args.sink.now)) c.args.disks.now.items

pub returns-in_default-read_script : goal.returns-in_default-read_script
returns-in_default-read_script g c = not_begun g.D.Disk.seen g.D.Disk.may_leave g.D.Disk.faults g.D.Disk.moment g.D.Disk.left_since g.D.Disk.tells g.D.Disk.tells_moments c.args.number (g.K.Sink.taken c.args.sink.now) (Rose (g.K.Sink.faults c.args.sink.now) (g.K.Sink.faults c.args.sink.now)) c.args.disks.now.items

pub run_lines-status-requires-clause-lines : goal.run_lines-status-requires-clause-lines
run_lines-status-requires-clause-lines g c κs within =
    let script = c.in-Ok-read_script.ensures.accepted in
    subst ScriptIsWhole (sym c.deref.ensures.value) (whole_script script.text c.in-Ok-read_script.lines.items script.accepted)

pub returns-in_default-status : goal.returns-in_default-status
returns-in_default-status g c =
    let lines = c.in-Ok-read_script.lines.items in
    let accepted = accepted_of _ _ lines c.args.number c.in-Ok.text.items c.new.ensures c.in-Ok.ensures c.in-Ok-read_script.ensures.accepted in
    let acked = c.run_lines-status.result.1 in
    let ran = subst (λ ls. HasRunLines g.D.Disk.seen g.D.Disk.may_leave g.D.Disk.faults g.D.Disk.moment g.D.Disk.left_since g.D.Disk.tells g.D.Disk.tells_moments c.run_lines-status.result.0 acked ls None None (Rose 0 0) c.args.disks.now.items c.run_lines-status.new.disks.items) c.deref.ensures.value c.run_lines-status.ensures in
    cut_short g.D.Disk.seen g.D.Disk.may_leave g.D.Disk.faults g.D.Disk.moment g.D.Disk.left_since g.D.Disk.tells g.D.Disk.tells_moments c.run_lines-status.result.0 c.args.number lines acked (g.K.Sink.taken c.args.sink.now) (Rose (g.K.Sink.faults c.args.sink.now) (g.K.Sink.faults c.args.sink.now)) c.args.disks.now.items c.run_lines-status.new.disks.items c.in_default-status.not-Ok accepted ran

pub returns-in_default-sum_text : goal.returns-in_default-sum_text
returns-in_default-sum_text g c =
    let lines = c.in-Ok-read_script.lines.items in
    let accepted = accepted_of _ _ lines c.args.number c.in-Ok.text.items c.new.ensures c.in-Ok.ensures c.in-Ok-read_script.ensures.accepted in
    let acked = c.run_lines-status.result.1 in
    let ran = subst (λ ls. HasRunLines g.D.Disk.seen g.D.Disk.may_leave g.D.Disk.faults g.D.Disk.moment g.D.Disk.left_since g.D.Disk.tells g.D.Disk.tells_moments c.run_lines-status.result.0 acked ls None None (Rose 0 0) c.args.disks.now.items c.run_lines-status.new.disks.items) c.deref.ensures.value c.run_lines-status.ensures in
    let all = counts_of g.D.Disk.seen g.D.Disk.may_leave g.D.Disk.faults g.D.Disk.moment g.D.Disk.left_since g.D.Disk.tells g.D.Disk.tells_moments c.args.number lines acked None None (Rose 0 0) c.args.disks.now.items c.run_lines-status.new.disks.items accepted
    (subst (λ status. HasRunLines g.D.Disk.seen g.D.Disk.may_leave g.D.Disk.faults g.D.Disk.moment g.D.Disk.left_since g.D.Disk.tells g.D.Disk.tells_moments status acked lines None None (Rose 0 0) c.args.disks.now.items c.run_lines-status.new.disks.items) c.in-Ok-status.is ran) in
    sum_untold g.D.Disk.seen g.D.Disk.may_leave g.D.Disk.faults g.D.Disk.moment g.D.Disk.left_since g.D.Disk.tells g.D.Disk.tells_moments c.args.number acked (g.K.Sink.taken c.args.sink.now) (g.K.Sink.taken c.args.sink.now) (Rose (g.K.Sink.faults c.args.sink.now) (g.K.Sink.faults c.args.sink.now)) c.args.disks.now.items c.run_lines-status.new.disks.items all

pub returns-then-is_err : goal.returns-then-is_err
returns-then-is_err g c =
    let taken = g.K.Sink.taken in
    let full = Rose (g.K.Sink.faults c.args.sink.now) (g.K.Sink.faults c.write_all.new.sink) in
    let lines = c.in-Ok-read_script.lines.items in
    let accepted = accepted_of _ _ lines c.args.number c.in-Ok.text.items c.new.ensures c.in-Ok.ensures c.in-Ok-read_script.ensures.accepted in
    let acked = c.run_lines-status.result.1 in
    let ran = subst (λ ls. HasRunLines g.D.Disk.seen g.D.Disk.may_leave g.D.Disk.faults g.D.Disk.moment g.D.Disk.left_since g.D.Disk.tells g.D.Disk.tells_moments c.run_lines-status.result.0 acked ls None None (Rose 0 0) c.args.disks.now.items c.run_lines-status.new.disks.items) c.deref.ensures.value c.run_lines-status.ensures in
    let all = counts_of g.D.Disk.seen g.D.Disk.may_leave g.D.Disk.faults g.D.Disk.moment g.D.Disk.left_since g.D.Disk.tells g.D.Disk.tells_moments c.args.number lines acked None None (Rose 0 0) c.args.disks.now.items c.run_lines-status.new.disks.items accepted
    (subst (λ status. HasRunLines g.D.Disk.seen g.D.Disk.may_leave g.D.Disk.faults g.D.Disk.moment g.D.Disk.left_since g.D.Disk.tells g.D.Disk.tells_moments status acked lines None None (Rose 0 0) c.args.disks.now.items c.run_lines-status.new.disks.items) c.in-Ok-status.is ran) in
    sum_cut g.D.Disk.seen g.D.Disk.may_leave g.D.Disk.faults g.D.Disk.moment g.D.Disk.left_since g.D.Disk.tells g.D.Disk.tells_moments c.args.number acked (taken c.args.sink.now) (taken c.write_all.new.sink) full c.args.disks.now.items c.run_lines-status.new.disks.items all lines accepted
    (failed_of c.write_all.result full c.if-is_err.ensures.value c.write_all.ensures.cause)
    (subst (AppendsFront (taken c.args.sink.now) (taken c.write_all.new.sink)) (c.deref-2.ensures.value ∙ c.in-Ok-sum_text.ensures)
    (failed_of c.write_all.result (AppendsFront (taken c.args.sink.now) (taken c.write_all.new.sink) c.deref-2.result.now) c.if-is_err.ensures.value c.write_all.ensures.front))

pub returns : goal.returns
returns g c =
    let taken = g.K.Sink.taken in
    let lines = c.in-Ok-read_script.lines.items in
    let accepted = accepted_of _ _ lines c.args.number c.in-Ok.text.items c.new.ensures c.in-Ok.ensures c.in-Ok-read_script.ensures.accepted in
    let acked = c.run_lines-status.result.1 in
    let ran = subst (λ ls. HasRunLines g.D.Disk.seen g.D.Disk.may_leave g.D.Disk.faults g.D.Disk.moment g.D.Disk.left_since g.D.Disk.tells g.D.Disk.tells_moments c.run_lines-status.result.0 acked ls None None (Rose 0 0) c.args.disks.now.items c.run_lines-status.new.disks.items) c.deref.ensures.value c.run_lines-status.ensures in
    let all = counts_of g.D.Disk.seen g.D.Disk.may_leave g.D.Disk.faults g.D.Disk.moment g.D.Disk.left_since g.D.Disk.tells g.D.Disk.tells_moments c.args.number lines acked None None (Rose 0 0) c.args.disks.now.items c.run_lines-status.new.disks.items accepted
    (subst (λ status. HasRunLines g.D.Disk.seen g.D.Disk.may_leave g.D.Disk.faults g.D.Disk.moment g.D.Disk.left_since g.D.Disk.tells g.D.Disk.tells_moments status acked lines None None (Rose 0 0) c.args.disks.now.items c.run_lines-status.new.disks.items) c.in-Ok-status.is ran) in
    sum_written g.D.Disk.seen g.D.Disk.may_leave g.D.Disk.faults g.D.Disk.moment g.D.Disk.left_since g.D.Disk.tells g.D.Disk.tells_moments c.args.number acked (taken c.args.sink.now) (taken c.write_all.new.sink) (Rose (g.K.Sink.faults c.args.sink.now) (g.K.Sink.faults c.write_all.new.sink)) c.args.disks.now.items c.run_lines-status.new.disks.items all lines accepted
    (subst (Appends (taken c.args.sink.now) (taken c.write_all.new.sink)) (c.deref-2.ensures.value ∙ c.in-Ok-sum_text.ensures)
    (done_of c.write_all.result (Appends (taken c.args.sink.now) (taken c.write_all.new.sink) c.deref-2.result.now) c.if-is_err.ensures.value c.write_all.ensures.ok))
