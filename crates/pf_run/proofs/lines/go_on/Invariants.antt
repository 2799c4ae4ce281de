use Rattle.std.proofs.Common.{◌≡◌, ◌≤◌, [], take}
use Rattle.pf_world.specs.Making.{HasMadeMore}
use Rattle.pf_run.proofs.LineRuns.{HasGone}
use Rattle.pf_run.proofs.lines.go_on.Given as goal

abbrev pub invariant-loop-line : goal.invariant-loop-line
invariant-loop-line g l = record {
  gone : HasGone l.volume (take l.line-index l.lines) (g.K.Sink.taken l.fn.sink) (g.K.Sink.taken l.sink) l.fn.world.world l.world.world;
  empty : l.text.items ≡ [];
  later : g.K.Sink.faults l.fn.sink ≤ g.K.Sink.faults l.sink;
  made : HasMadeMore g.D.Disk.faults l.fn.world l.world;
}
