use Rattle.std.proofs.Common.{◌*◌, arith, drop, length, length-drop, get_or, subst, sym, ap, ap₂, ℕ}
use Rattle.std.proofs.lemmas.List.{take_rest}
use Rattle.pf_io.specs.Causes.{Rose}
use Rattle.pf_world.specs.declared.line.Line.{Line}
use Rattle.pf_world.specs.Steps.{MayRunAll}
use Rattle.pf_world.specs.Views.{named_in}
use Rattle.pf_run.specs.Placed.{MakesVolume}
use Rattle.pf_run.specs.Running.{HasGoneOn, HasNotOpened, HasOpened}
use Rattle.pf_run.proofs.LineRuns.{item_is, no_line}
use Rattle.pf_run.proofs.Whole.{none_made, ran_lines, rest_may_run}
use Rattle.pf_run.proofs.lines.run_lines.Goals as goal

pub go_on-status-requires-clause-lines : goal.go_on-status-requires-clause-lines
go_on-status-requires-clause-lines g c κs within =
    let chunks = length c.in-Ok.world.world.chunks in
    let at = item_is c.args.lines.now 0 c.volume-item.result (omega (arith, c.in-len1-up.len_at_least)) c.volume-item.is in
    subst (MayRunAll (named_in c.in-Ok.world.world)) (sym (take_rest c.args.lines.now 1))
    (subst (λ named. MayRunAll named (drop 1 c.args.lines.now)) (sym c.in-Ok.ensures.opened.named)
    (rest_may_run c.args.lines.now no_line chunks c.requires.lines (subst (λ (l : Line). MakesVolume chunks l.command) at c.in-Ok.ensures.opened.volume)))

pub go_on-status-requires-clause-few : goal.go_on-status-requires-clause-few
go_on-status-requires-clause-few g c κs within = omega (arith, c.in-Ok.ensures.opened.calls, c.requires.lines.few, ap length (take_rest c.args.lines.now 1), length-drop 1 c.args.lines.now)

pub go_on-status-requires-clause-moves : goal.go_on-status-requires-clause-moves
go_on-status-requires-clause-moves g c κs within = omega (arith, c.in-Ok.ensures.opened.moves, c.requires.lines.few, ap length (take_rest c.args.lines.now 1), length-drop 1 c.args.lines.now)

pub go_on-status-requires-clause-disks : goal.go_on-status-requires-clause-disks
go_on-status-requires-clause-disks g c κs within =
    let disks = c.replace.result.items in
    omega (arith, c.requires.disks, ap (λ v. length v.items) c.replace.ensures.value, ap length c.in-Ok.ensures.opened.spare, length-drop (6 * length c.in-Ok.world.world.chunks) disks)

pub returns-in-Ok : goal.returns-in-Ok
returns-in-Ok g c =
    let taken = g.K.Sink.taken in
    let lines = c.args.lines.now in
    let disks = c.args.disks.now.items in
    let at = item_is lines 0 c.volume-item.result (omega (arith, c.in-len1-up.len_at_least)) c.volume-item.is in
    ran_lines g.D.Disk.seen g.D.Disk.may_leave g.D.Disk.faults g.D.Disk.moment g.D.Disk.left_since g.D.Disk.tells g.D.Disk.tells_moments c.go_on-status.result (c.acked_count.result, c.acked_count-in-Ok.result) lines no_line c.in-Ok.text.items (taken c.args.sink.now) (taken c.go_on-status.new.sink) (Rose (g.K.Sink.faults c.args.sink.now) (g.K.Sink.faults c.go_on-status.new.sink))
    disks c.close.result.items c.in-Ok.world c.go_on-status.new.world c.requires.lines (omega (arith, c.in-len1-up.len_at_least)) c.requires.disks
    (subst (λ given. HasOpened g.D.Disk.faults (get_or lines 0 no_line) c.in-Ok.text.items given c.in-Ok.world) (ap (λ v. v.items) c.replace.ensures.value)
    (subst (λ (l : Line). HasOpened g.D.Disk.faults l c.in-Ok.text.items c.replace.result.items c.in-Ok.world) at c.in-Ok.ensures.opened))
    (subst (λ (l : Line). HasGoneOn c.go_on-status.result l (drop 1 lines) (taken c.args.sink.now) (taken c.go_on-status.new.sink) (Rose (g.K.Sink.faults c.args.sink.now) (g.K.Sink.faults c.go_on-status.new.sink)) c.in-Ok.world.world c.go_on-status.new.world.world) at
    (subst (λ rest. HasGoneOn c.go_on-status.result c.volume-item.result rest (taken c.args.sink.now) (taken c.go_on-status.new.sink) (Rose (g.K.Sink.faults c.args.sink.now) (g.K.Sink.faults c.go_on-status.new.sink)) c.in-Ok.world.world c.go_on-status.new.world.world) (take_rest lines 1) c.go_on-status.ensures.gone))
    c.go_on-status.ensures.made (λ told. ap₂ (λ (a b : ℕ). (a, b)) (c.acked_count.ensures told) (c.acked_count-in-Ok.ensures told)) c.close.ensures

pub returns-in-Err : goal.returns-in-Err
returns-in-Err g c =
    let lines = c.args.lines.now in
    let at = item_is lines 0 c.volume-item.result (omega (arith, c.in-len1-up.len_at_least)) c.volume-item.is in
    none_made g.D.Disk.seen g.D.Disk.may_leave g.D.Disk.faults g.D.Disk.moment g.D.Disk.left_since g.D.Disk.tells g.D.Disk.tells_moments (0, 0) lines no_line (g.K.Sink.taken c.args.sink.now) (Rose (g.K.Sink.faults c.args.sink.now) (g.K.Sink.faults c.args.sink.now)) c.args.disks.now.items c.in-Err.back.items c.requires.lines
    (subst (λ given. HasNotOpened g.D.Disk.seen g.D.Disk.may_leave g.D.Disk.faults g.D.Disk.moment g.D.Disk.left_since g.D.Disk.tells g.D.Disk.tells_moments (get_or lines 0 no_line) given c.in-Err.back.items) (ap (λ v. v.items) c.replace.ensures.value)
    (subst (λ (l : Line). HasNotOpened g.D.Disk.seen g.D.Disk.may_leave g.D.Disk.faults g.D.Disk.moment g.D.Disk.left_since g.D.Disk.tells g.D.Disk.tells_moments l c.replace.result.items c.in-Err.back.items) at c.in-Err.ensures.back))
