use Rattle.std.proofs.Common.{map}
use Rattle.std.specs.Prelude.{string_bytes}
use Rattle.pf_io.specs.Causes.{Rose}
use Rattle.pf_run_words.specs.Tasks.{task_of}
use Rattle.pf_run.proofs.RunStatuses.{checked, checked_complete, checked_disks, checked_judged, listed, checked_plain, completed, generated, generated_plain, headline, judged, plain, read_fault, reported, usage_ends, usage_only, write_fault}
use Rattle.pf_run_words.proofs.OlderWords.{means_the_same}
use Rattle.pf_run.proofs.top.run.Goals as goal

pub returns-clause-usage : goal.returns-clause-usage
returns-clause-usage g c =
    usage_ends g.D.Disk.seen g.D.Disk.may_leave g.D.Disk.faults g.D.Disk.moment g.D.Disk.left_since g.D.Disk.tells g.D.Disk.tells_moments (g.S.Source.left c.args.source.now) (g.S.Source.left c.run_words.new.source) (g.K.Sink.taken c.args.sink.now) (g.K.Sink.taken c.run_words.new.sink)
    (Rose (g.S.Source.faults c.args.source.now) (g.S.Source.faults c.run_words.new.source)) (Rose (g.K.Sink.faults c.args.sink.now) (g.K.Sink.faults c.run_words.new.sink)) c.args.disks.now.items c.run_words.new.disks.items c.run_words.result (map string_bytes c.args.words.now) c.run_words.ensures

pub returns-clause-usage_only : goal.returns-clause-usage_only
returns-clause-usage_only g c =
    usage_only g.D.Disk.seen g.D.Disk.may_leave g.D.Disk.faults g.D.Disk.moment g.D.Disk.left_since g.D.Disk.tells g.D.Disk.tells_moments (g.S.Source.left c.args.source.now) (g.S.Source.left c.run_words.new.source) (g.K.Sink.taken c.args.sink.now) (g.K.Sink.taken c.run_words.new.sink)
    (Rose (g.S.Source.faults c.args.source.now) (g.S.Source.faults c.run_words.new.source)) (Rose (g.K.Sink.faults c.args.sink.now) (g.K.Sink.faults c.run_words.new.sink)) c.args.disks.now.items c.run_words.new.disks.items c.run_words.result (map string_bytes c.args.words.now) c.run_words.ensures

pub returns-clause-report : goal.returns-clause-report
returns-clause-report g c =
    reported g.D.Disk.seen g.D.Disk.may_leave g.D.Disk.faults g.D.Disk.moment g.D.Disk.left_since g.D.Disk.tells g.D.Disk.tells_moments (task_of (map string_bytes c.args.words.now)) (g.S.Source.left c.args.source.now) (g.S.Source.left c.run_words.new.source) (g.K.Sink.taken c.args.sink.now) (g.K.Sink.taken c.run_words.new.sink)
    (Rose (g.S.Source.faults c.args.source.now) (g.S.Source.faults c.run_words.new.source)) (Rose (g.K.Sink.faults c.args.sink.now) (g.K.Sink.faults c.run_words.new.sink)) c.args.disks.now.items c.run_words.new.disks.items c.run_words.result c.run_words.ensures

pub returns-clause-faultless : goal.returns-clause-faultless
returns-clause-faultless g c =
    plain g.D.Disk.seen g.D.Disk.may_leave g.D.Disk.faults g.D.Disk.moment g.D.Disk.left_since g.D.Disk.tells g.D.Disk.tells_moments (task_of (map string_bytes c.args.words.now)) (g.S.Source.left c.args.source.now) (g.S.Source.left c.run_words.new.source) (g.K.Sink.taken c.args.sink.now) (g.K.Sink.taken c.run_words.new.sink)
    (Rose (g.S.Source.faults c.args.source.now) (g.S.Source.faults c.run_words.new.source)) (Rose (g.K.Sink.faults c.args.sink.now) (g.K.Sink.faults c.run_words.new.sink)) c.args.disks.now.items c.run_words.new.disks.items c.run_words.result c.run_words.ensures

pub returns-clause-judged : goal.returns-clause-judged
returns-clause-judged g c =
    judged g.D.Disk.seen g.D.Disk.may_leave g.D.Disk.faults g.D.Disk.moment g.D.Disk.left_since g.D.Disk.tells g.D.Disk.tells_moments (task_of (map string_bytes c.args.words.now)) (g.S.Source.left c.args.source.now) (g.S.Source.left c.run_words.new.source) (g.K.Sink.taken c.args.sink.now) (g.K.Sink.taken c.run_words.new.sink)
    (Rose (g.S.Source.faults c.args.source.now) (g.S.Source.faults c.run_words.new.source)) (Rose (g.K.Sink.faults c.args.sink.now) (g.K.Sink.faults c.run_words.new.sink)) c.args.disks.now.items c.run_words.new.disks.items c.run_words.result c.run_words.ensures

pub returns-clause-complete : goal.returns-clause-complete
returns-clause-complete g c =
    completed g.D.Disk.seen g.D.Disk.may_leave g.D.Disk.faults g.D.Disk.moment g.D.Disk.left_since g.D.Disk.tells g.D.Disk.tells_moments (task_of (map string_bytes c.args.words.now)) (g.S.Source.left c.args.source.now) (g.S.Source.left c.run_words.new.source) (g.K.Sink.taken c.args.sink.now) (g.K.Sink.taken c.run_words.new.sink)
    (Rose (g.S.Source.faults c.args.source.now) (g.S.Source.faults c.run_words.new.source)) (Rose (g.K.Sink.faults c.args.sink.now) (g.K.Sink.faults c.run_words.new.sink)) c.args.disks.now.items c.run_words.new.disks.items c.run_words.result c.run_words.ensures

pub returns-clause-listed : goal.returns-clause-listed
returns-clause-listed g c =
    listed g.D.Disk.seen g.D.Disk.may_leave g.D.Disk.faults g.D.Disk.moment g.D.Disk.left_since g.D.Disk.tells g.D.Disk.tells_moments (g.S.Source.left c.args.source.now) (g.S.Source.left c.run_words.new.source) (g.K.Sink.taken c.args.sink.now) (g.K.Sink.taken c.run_words.new.sink)
    (Rose (g.S.Source.faults c.args.source.now) (g.S.Source.faults c.run_words.new.source)) (Rose (g.K.Sink.faults c.args.sink.now) (g.K.Sink.faults c.run_words.new.sink)) c.args.disks.now.items c.run_words.new.disks.items c.run_words.result (task_of (map string_bytes c.args.words.now)) c.run_words.ensures

pub returns-clause-kept : goal.returns-clause-kept
returns-clause-kept g c = means_the_same (map string_bytes c.args.words.now)

pub returns-clause-generated : goal.returns-clause-generated
returns-clause-generated g c =
    generated g.D.Disk.seen g.D.Disk.may_leave g.D.Disk.faults g.D.Disk.moment g.D.Disk.left_since g.D.Disk.tells g.D.Disk.tells_moments (g.S.Source.left c.args.source.now) (g.S.Source.left c.run_words.new.source) (g.K.Sink.taken c.args.sink.now) (g.K.Sink.taken c.run_words.new.sink)
    (Rose (g.S.Source.faults c.args.source.now) (g.S.Source.faults c.run_words.new.source)) (Rose (g.K.Sink.faults c.args.sink.now) (g.K.Sink.faults c.run_words.new.sink)) c.args.disks.now.items c.run_words.new.disks.items c.run_words.result (task_of (map string_bytes c.args.words.now)) c.run_words.ensures

pub returns-clause-generated_plain : goal.returns-clause-generated_plain
returns-clause-generated_plain g c =
    generated_plain g.D.Disk.seen g.D.Disk.may_leave g.D.Disk.faults g.D.Disk.moment g.D.Disk.left_since g.D.Disk.tells g.D.Disk.tells_moments (g.S.Source.left c.args.source.now) (g.S.Source.left c.run_words.new.source) (g.K.Sink.taken c.args.sink.now) (g.K.Sink.taken c.run_words.new.sink)
    (Rose (g.S.Source.faults c.args.source.now) (g.S.Source.faults c.run_words.new.source)) (Rose (g.K.Sink.faults c.args.sink.now) (g.K.Sink.faults c.run_words.new.sink)) c.args.disks.now.items c.run_words.new.disks.items c.run_words.result (task_of (map string_bytes c.args.words.now)) c.run_words.ensures

pub returns-clause-read_fault : goal.returns-clause-read_fault
returns-clause-read_fault g c =
    read_fault g.D.Disk.seen g.D.Disk.may_leave g.D.Disk.faults g.D.Disk.moment g.D.Disk.left_since g.D.Disk.tells g.D.Disk.tells_moments (g.S.Source.left c.args.source.now) (g.S.Source.left c.run_words.new.source) (g.K.Sink.taken c.args.sink.now) (g.K.Sink.taken c.run_words.new.sink)
    (Rose (g.S.Source.faults c.args.source.now) (g.S.Source.faults c.run_words.new.source)) (Rose (g.K.Sink.faults c.args.sink.now) (g.K.Sink.faults c.run_words.new.sink)) c.args.disks.now.items c.run_words.new.disks.items c.run_words.result (task_of (map string_bytes c.args.words.now)) c.run_words.ensures

pub returns-clause-write_fault : goal.returns-clause-write_fault
returns-clause-write_fault g c =
    write_fault g.D.Disk.seen g.D.Disk.may_leave g.D.Disk.faults g.D.Disk.moment g.D.Disk.left_since g.D.Disk.tells g.D.Disk.tells_moments (g.S.Source.left c.args.source.now) (g.S.Source.left c.run_words.new.source) (g.K.Sink.taken c.args.sink.now) (g.K.Sink.taken c.run_words.new.sink)
    (Rose (g.S.Source.faults c.args.source.now) (g.S.Source.faults c.run_words.new.source)) (Rose (g.K.Sink.faults c.args.sink.now) (g.K.Sink.faults c.run_words.new.sink)) c.args.disks.now.items c.run_words.new.disks.items c.run_words.result (task_of (map string_bytes c.args.words.now)) c.run_words.ensures

pub returns-clause-headline : goal.returns-clause-headline
returns-clause-headline g c =
    headline g.D.Disk.seen g.D.Disk.may_leave g.D.Disk.faults g.D.Disk.moment g.D.Disk.left_since g.D.Disk.tells g.D.Disk.tells_moments (g.S.Source.left c.args.source.now) (g.S.Source.left c.run_words.new.source) (g.K.Sink.taken c.args.sink.now) (g.K.Sink.taken c.run_words.new.sink)
    (Rose (g.S.Source.faults c.args.source.now) (g.S.Source.faults c.run_words.new.source)) (Rose (g.K.Sink.faults c.args.sink.now) (g.K.Sink.faults c.run_words.new.sink)) c.args.disks.now.items c.run_words.new.disks.items c.run_words.result (task_of (map string_bytes c.args.words.now)) c.run_words.ensures

pub returns-clause-checked : goal.returns-clause-checked
returns-clause-checked g c =
    checked g.D.Disk.seen g.D.Disk.may_leave g.D.Disk.faults g.D.Disk.moment g.D.Disk.left_since g.D.Disk.tells g.D.Disk.tells_moments (task_of (map string_bytes c.args.words.now)) (g.S.Source.left c.args.source.now) (g.S.Source.left c.run_words.new.source) (g.K.Sink.taken c.args.sink.now) (g.K.Sink.taken c.run_words.new.sink)
    (Rose (g.S.Source.faults c.args.source.now) (g.S.Source.faults c.run_words.new.source)) (Rose (g.K.Sink.faults c.args.sink.now) (g.K.Sink.faults c.run_words.new.sink)) c.args.disks.now.items c.run_words.new.disks.items c.run_words.result c.run_words.ensures

pub returns-clause-checked_plain : goal.returns-clause-checked_plain
returns-clause-checked_plain g c =
    checked_plain g.D.Disk.seen g.D.Disk.may_leave g.D.Disk.faults g.D.Disk.moment g.D.Disk.left_since g.D.Disk.tells g.D.Disk.tells_moments (task_of (map string_bytes c.args.words.now)) (g.S.Source.left c.args.source.now) (g.S.Source.left c.run_words.new.source) (g.K.Sink.taken c.args.sink.now) (g.K.Sink.taken c.run_words.new.sink)
    (Rose (g.S.Source.faults c.args.source.now) (g.S.Source.faults c.run_words.new.source)) (Rose (g.K.Sink.faults c.args.sink.now) (g.K.Sink.faults c.run_words.new.sink)) c.args.disks.now.items c.run_words.new.disks.items c.run_words.result c.run_words.ensures

pub returns-clause-checked_judged : goal.returns-clause-checked_judged
returns-clause-checked_judged g c =
    checked_judged g.D.Disk.seen g.D.Disk.may_leave g.D.Disk.faults g.D.Disk.moment g.D.Disk.left_since g.D.Disk.tells g.D.Disk.tells_moments (task_of (map string_bytes c.args.words.now)) (g.S.Source.left c.args.source.now) (g.S.Source.left c.run_words.new.source) (g.K.Sink.taken c.args.sink.now) (g.K.Sink.taken c.run_words.new.sink)
    (Rose (g.S.Source.faults c.args.source.now) (g.S.Source.faults c.run_words.new.source)) (Rose (g.K.Sink.faults c.args.sink.now) (g.K.Sink.faults c.run_words.new.sink)) c.args.disks.now.items c.run_words.new.disks.items c.run_words.result c.run_words.ensures

pub returns-clause-checked_complete : goal.returns-clause-checked_complete
returns-clause-checked_complete g c =
    checked_complete g.D.Disk.seen g.D.Disk.may_leave g.D.Disk.faults g.D.Disk.moment g.D.Disk.left_since g.D.Disk.tells g.D.Disk.tells_moments (task_of (map string_bytes c.args.words.now)) (g.S.Source.left c.args.source.now) (g.S.Source.left c.run_words.new.source) (g.K.Sink.taken c.args.sink.now) (g.K.Sink.taken c.run_words.new.sink)
    (Rose (g.S.Source.faults c.args.source.now) (g.S.Source.faults c.run_words.new.source)) (Rose (g.K.Sink.faults c.args.sink.now) (g.K.Sink.faults c.run_words.new.sink)) c.args.disks.now.items c.run_words.new.disks.items c.run_words.result c.run_words.ensures

pub returns-clause-checked_disks : goal.returns-clause-checked_disks
returns-clause-checked_disks g c =
    checked_disks g.D.Disk.seen g.D.Disk.may_leave g.D.Disk.faults g.D.Disk.moment g.D.Disk.left_since g.D.Disk.tells g.D.Disk.tells_moments (task_of (map string_bytes c.args.words.now)) (g.S.Source.left c.args.source.now) (g.S.Source.left c.run_words.new.source) (g.K.Sink.taken c.args.sink.now) (g.K.Sink.taken c.run_words.new.sink)
    (Rose (g.S.Source.faults c.args.source.now) (g.S.Source.faults c.run_words.new.source)) (Rose (g.K.Sink.faults c.args.sink.now) (g.K.Sink.faults c.run_words.new.sink)) c.args.disks.now.items c.run_words.new.disks.items c.run_words.result c.run_words.ensures
