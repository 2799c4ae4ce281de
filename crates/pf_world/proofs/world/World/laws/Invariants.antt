use Rattle.std.proofs.Common.{IsTrue}
use Rattle.pf_live_session.specs.pf_group.specs.Crashing.{AllLeaveAtCrash}
use Rattle.pf_world.specs.Headline.{IsLawfulGroup}
use Rattle.pf_world.proofs.Lawful.{HoldsBelow}
use Rattle.pf_world.proofs.world.World.laws.Given as goal

abbrev pub invariant-loop-chunk : goal.invariant-loop-chunk
invariant-loop-chunk g l = record {
  lawful : HoldsBelow IsLawfulGroup l.chunk-index l.chunk-items;
  crash : IsTrue g.D.Disk.tells → HoldsBelow (AllLeaveAtCrash g.D.Disk.seen g.D.Disk.moment g.D.Disk.left_since g.D.Disk.tells_moments) l.chunk-index l.chunk-items;
}
