use Rattle.std.proofs.Common.{[], OnErr, OnOk, arith, get_or, sym, subst}
use Rattle.pf_world.specs.declared.line.Line.{Line}
use Rattle.std.specs.Io.KnownBytes.{Appends}
use Rattle.pf_io.specs.Causes.{Rose}
use Rattle.pf_world.specs.Steps.{LineHasFailed, HasRun, MayRun}
use Rattle.pf_world.specs.Views.{named_in}
use Rattle.pf_run_lines.specs.Ends.{AppendsFront}
use Rattle.pf_run.proofs.LineRuns.{disks_enough, few_calls, few_moves, full_first, full_later, gone_all, gone_more, gone_none, gone_short, item_is, may_run, no_line}
use Rattle.pf_run.proofs.Made.{more_after, none_more}
use Rattle.pf_run_lines.proofs.WriteFaults.{done_of, failed_of}
use Rattle.pf_run.proofs.lines.go_on.Goals as goal

pub line-requires-clause-few : goal.line-requires-clause-few
line-requires-clause-few g c κs within =
    few_calls c.args.volume.now c.args.lines.now c.loop-line.line-index (g.K.Sink.taken c.args.sink.now) (g.K.Sink.taken c.loop-line.sink) c.args.world.now.world c.loop-line.world.world c.loop-line-test.true c.requires.few c.loop-line.invariant.gone

pub line-requires-clause-command : goal.line-requires-clause-command
line-requires-clause-command g c κs within =
    let at = item_is c.args.lines.now c.loop-line.line-index c.line-item.result c.loop-line-test.true c.line-item.is in
    subst (λ (l : Line). MayRun (named_in c.loop-line.world.world) l.command) (sym at)
    (may_run c.args.volume.now c.args.lines.now c.loop-line.line-index (g.K.Sink.taken c.args.sink.now) (g.K.Sink.taken c.loop-line.sink) c.args.world.now.world c.loop-line.world.world c.loop-line-test.true c.requires.lines c.loop-line.invariant.gone)

pub line-requires-clause-lines : goal.line-requires-clause-lines
line-requires-clause-lines g c κs within =
    few_moves c.args.volume.now c.args.lines.now c.loop-line.line-index (g.K.Sink.taken c.args.sink.now) (g.K.Sink.taken c.loop-line.sink) c.args.world.now.world c.loop-line.world.world c.loop-line-test.true c.requires.moves c.loop-line.invariant.gone

pub line-requires-clause-disks : goal.line-requires-clause-disks
line-requires-clause-disks g c κs within = disks_enough g.D.Disk.faults c.args.world.now c.loop-line.world c.loop-line.invariant.made c.requires.disks

pub returns-then-is_err-clause-made : goal.returns-then-is_err-clause-made
returns-then-is_err-clause-made g c = none_more g.D.Disk.faults c.args.world.now

pub returns-then-is_err-2-clause-made : goal.returns-then-is_err-2-clause-made
returns-then-is_err-2-clause-made g c =
    let failed : LineHasFailed c.loop-line.world.world c.line-item.result.number c.line-item.result.command c.line.new.self.world =
    failed_of c.line.result (LineHasFailed c.loop-line.world.world c.line-item.result.number c.line-item.result.command c.line.new.self.world) c.if-is_err-2.ensures.value c.line.ensures.err in
    more_after g.D.Disk.faults c.args.world.now c.loop-line.world c.line.new.self c.loop-line.invariant.made c.line.ensures.made failed.goes_on

pub returns-then-is_err-3-clause-made : goal.returns-then-is_err-3-clause-made
returns-then-is_err-3-clause-made g c =
    let ran : HasRun c.loop-line.world.world c.line-item.result.number c.line-item.result.command c.loop-line.text.items c.line.new.out.items c.line.new.self.world =
    done_of c.line.result (HasRun c.loop-line.world.world c.line-item.result.number c.line-item.result.command c.loop-line.text.items c.line.new.out.items c.line.new.self.world) c.if-is_err-2.ensures.value c.line.ensures.ran in
    more_after g.D.Disk.faults c.args.world.now c.loop-line.world c.line.new.self c.loop-line.invariant.made c.line.ensures.made ran.runs.goes_on

pub returns-then-is_err-clause-gone : goal.returns-then-is_err-clause-gone
returns-then-is_err-clause-gone g c =
    let taken = g.K.Sink.taken in
    full_first c.args.volume.now c.args.lines.now c.args.opened.now (taken c.args.sink.now) (taken c.write_all.new.sink) (Rose (g.K.Sink.faults c.args.sink.now) (g.K.Sink.faults c.write_all.new.sink)) c.args.world.now.world c.requires.run c.requires.world c.requires.sound
    (failed_of c.write_all.result (Rose (g.K.Sink.faults c.args.sink.now) (g.K.Sink.faults c.write_all.new.sink)) c.if-is_err.ensures.value c.write_all.ensures.cause)
    (failed_of c.write_all.result (AppendsFront (taken c.args.sink.now) (taken c.write_all.new.sink) c.args.opened.now) c.if-is_err.ensures.value c.write_all.ensures.front)

pub returns-then-is_err-2-clause-gone : goal.returns-then-is_err-2-clause-gone
returns-then-is_err-2-clause-gone g c =
    let taken = g.K.Sink.taken in
    let at = item_is c.args.lines.now c.loop-line.line-index c.line-item.result c.loop-line-test.true c.line-item.is in
    gone_short c.args.volume.now c.args.lines.now c.loop-line.line-index (taken c.args.sink.now) (taken c.loop-line.sink) (Rose (g.K.Sink.faults c.args.sink.now) (g.K.Sink.faults c.loop-line.sink)) c.args.world.now.world c.loop-line.world.world c.line.new.self.world c.loop-line-test.true c.loop-line.invariant.gone
    (failed_of c.line.result (LineHasFailed c.loop-line.world.world (get_or c.args.lines.now c.loop-line.line-index no_line).number (get_or c.args.lines.now c.loop-line.line-index no_line).command c.line.new.self.world) c.if-is_err-2.ensures.value (subst (λ (l : Line). OnErr c.line.result (LineHasFailed c.loop-line.world.world l.number l.command c.line.new.self.world)) at c.line.ensures.err))
    c.line.ensures.sound

pub returns-then-is_err-3-clause-gone : goal.returns-then-is_err-3-clause-gone
returns-then-is_err-3-clause-gone g c =
    let taken = g.K.Sink.taken in
    let i = c.loop-line.line-index in
    let line = get_or c.args.lines.now i no_line in
    let at = item_is c.args.lines.now i c.line-item.result c.loop-line-test.true c.line-item.is in
    let out = c.line.new.out.items in
    let ran : HasRun c.loop-line.world.world line.number line.command [] out c.line.new.self.world =
    subst (λ before. HasRun c.loop-line.world.world line.number line.command before out c.line.new.self.world) c.loop-line.invariant.empty
    (done_of c.line.result (HasRun c.loop-line.world.world line.number line.command c.loop-line.text.items out c.line.new.self.world) c.if-is_err-2.ensures.value (subst (λ (l : Line). OnOk c.line.result (HasRun c.loop-line.world.world l.number l.command c.loop-line.text.items out c.line.new.self.world)) at c.line.ensures.ran)) in
    let rose : Rose (g.K.Sink.faults c.loop-line.sink) (g.K.Sink.faults c.write_all-in-loop-line.new.sink) =
    failed_of c.write_all-in-loop-line.result (Rose (g.K.Sink.faults c.loop-line.sink) (g.K.Sink.faults c.write_all-in-loop-line.new.sink)) c.if-is_err-3.ensures.value c.write_all-in-loop-line.ensures.cause in
    let front : AppendsFront (taken c.loop-line.sink) (taken c.write_all-in-loop-line.new.sink) c.deref.result.now =
    failed_of c.write_all-in-loop-line.result (AppendsFront (taken c.loop-line.sink) (taken c.write_all-in-loop-line.new.sink) c.deref.result.now) c.if-is_err-3.ensures.value c.write_all-in-loop-line.ensures.front in
    full_later c.args.volume.now c.args.lines.now i (taken c.args.sink.now) (taken c.loop-line.sink) (taken c.write_all-in-loop-line.new.sink) (Rose (g.K.Sink.faults c.args.sink.now) (g.K.Sink.faults c.write_all-in-loop-line.new.sink))
    c.args.world.now.world c.loop-line.world.world c.line.new.self.world out c.loop-line-test.true c.loop-line.invariant.gone ran
    c.line.ensures.sound (omega (arith, rose, c.loop-line.invariant.later))
    (subst (AppendsFront (taken c.loop-line.sink) (taken c.write_all-in-loop-line.new.sink)) c.deref.ensures.value front)

pub loop-line-preserved : goal.loop-line-preserved
loop-line-preserved g c =
    let taken = g.K.Sink.taken in
    let i = c.loop-line.line-index in
    let line = get_or c.args.lines.now i no_line in
    let at = item_is c.args.lines.now i c.line-item.result c.loop-line-test.true c.line-item.is in
    let out = c.line.new.out.items in
    let ran : HasRun c.loop-line.world.world line.number line.command [] out c.line.new.self.world =
    subst (λ before. HasRun c.loop-line.world.world line.number line.command before out c.line.new.self.world) c.loop-line.invariant.empty
    (done_of c.line.result (HasRun c.loop-line.world.world line.number line.command c.loop-line.text.items out c.line.new.self.world) c.if-is_err-2.ensures.value (subst (λ (l : Line). OnOk c.line.result (HasRun c.loop-line.world.world l.number l.command c.loop-line.text.items out c.line.new.self.world)) at c.line.ensures.ran)) in
    let put : Appends (taken c.loop-line.sink) (taken c.write_all-in-loop-line.new.sink) c.deref.result.now =
    done_of c.write_all-in-loop-line.result (Appends (taken c.loop-line.sink) (taken c.write_all-in-loop-line.new.sink) c.deref.result.now) c.if-is_err-3.ensures.value c.write_all-in-loop-line.ensures.ok in
    record {
      gone = gone_more c.args.volume.now c.args.lines.now i (taken c.args.sink.now) (taken c.loop-line.sink) (taken c.write_all-in-loop-line.new.sink)
          c.args.world.now.world c.loop-line.world.world c.line.new.self.world out c.loop-line-test.true c.loop-line.invariant.gone ran c.line.ensures.sound
          (subst (Appends (taken c.loop-line.sink) (taken c.write_all-in-loop-line.new.sink)) c.deref.ensures.value put);
      empty = c.clear.ensures.items;
      later = omega (arith, c.loop-line.invariant.later, c.write_all-in-loop-line.ensures.later);
      made = more_after g.D.Disk.faults c.args.world.now c.loop-line.world c.line.new.self c.loop-line.invariant.made c.line.ensures.made ran.runs.goes_on;
    }

pub returns-clause-gone : goal.returns-clause-gone
returns-clause-gone g c =
    let taken = g.K.Sink.taken in
    gone_all c.args.volume.now c.args.lines.now c.loop-line.line-index (taken c.args.sink.now) (taken c.loop-line.sink) (Rose (g.K.Sink.faults c.args.sink.now) (g.K.Sink.faults c.loop-line.sink)) c.args.world.now.world c.loop-line.world.world
    c.loop-line-test.false c.loop-line.invariant.gone

pub loop-line-init : goal.loop-line-init
loop-line-init g c = record {
  gone = gone_none c.args.volume.now c.args.opened.now (g.K.Sink.taken c.args.sink.now) (g.K.Sink.taken c.write_all.new.sink) c.args.world.now.world c.requires.run c.requires.world c.requires.sound
      (done_of c.write_all.result (Appends (g.K.Sink.taken c.args.sink.now) (g.K.Sink.taken c.write_all.new.sink) c.args.opened.now) c.if-is_err.ensures.value c.write_all.ensures.ok);
  empty = c.new-text.ensures.items;
  later = c.write_all.ensures.later;
  made = none_more g.D.Disk.faults c.args.world.now;
}
