use Rattle.std.proofs.Common.{◌≡◌, ◌≤◌, ◌-◌, IfSome, IsTrue, length, take, vec_len}
use Rattle.pf_chunklog.specs.Logs.{IsOnlyRead, LeavesOnly}
use Rattle.pf_chunklog.proofs.reading.read_front.Given as goal

abbrev pub invariant-loop-piece : goal.invariant-loop-piece
invariant-loop-piece g l = record {
  bytes : IfSome (g.D.Disk.seen l.fn.disk) (λ file. l.bytes.items ≡ take (length l.bytes.items) file);
  within : IfSome (g.D.Disk.seen l.fn.disk) (λ file. length l.bytes.items ≤ length file);
  only_read : IsOnlyRead g.D.Disk.seen g.D.Disk.may_leave l.fn.disk l.disk;
  any_moment : IsTrue g.D.Disk.tells_moments → LeavesOnly g.D.Disk.moment g.D.Disk.left_since l.fn.disk l.disk (g.D.Disk.may_leave l.fn.disk);
  later : g.D.Disk.faults l.fn.disk ≤ g.D.Disk.faults l.disk;
}

abbrev pub decreases-loop-piece : goal.decreases-loop-piece
decreases-loop-piece g l = l.len - vec_len l.bytes
