use Rattle.std.proofs.Common.{◌+◌, ◌*◌, ◌≤◌, vec_capacity, vec_len}
use Rattle.pf_world.proofs.Sixes.{Closing}
use Rattle.pf_world.proofs.world.World.close.Given as goal

abbrev pub invariant-loop-chunk : goal.invariant-loop-chunk
invariant-loop-chunk g l = record {
  room : vec_len l.disks + 6 * vec_len l.chunks ≤ vec_capacity l.disks;
  closing : Closing g.D.Disk.seen g.D.Disk.may_leave g.D.Disk.faults g.D.Disk.moment g.D.Disk.left_since g.D.Disk.tells g.D.Disk.tells_moments l.initial.chunks.items l.initial.disks.items l.chunks.items l.disks.items;
}

abbrev pub decreases-loop-chunk : goal.decreases-loop-chunk
decreases-loop-chunk g l = vec_len l.chunks
