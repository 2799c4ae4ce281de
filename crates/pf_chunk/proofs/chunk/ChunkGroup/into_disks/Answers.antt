use Rattle.std.proofs.Common.{subst}
use Rattle.std.specs.Prelude.{IsTrue}
use Rattle.pf_group_rounds.specs.pf_group.specs.Crashing.{LeavesAtCrash}
use Rattle.pf_chunk.specs.Views.{ChunkIs}
use Rattle.pf_chunk.proofs.chunk.ChunkGroup.into_disks.Goals as goal

pub returns-clause-crash_0 : goal.returns-clause-crash_0
returns-clause-crash_0 g c =
    subst (λ (v : ChunkIs). IsTrue v.group.told → LeavesAtCrash g.D.Disk.seen g.D.Disk.moment g.D.Disk.left_since g.D.Disk.tells_moments v.group 0 c.into_disks.result.s0h0 c.into_disks.result.s0h1) c.self.view_is c.into_disks.ensures.crash_0

pub returns-clause-crash_1 : goal.returns-clause-crash_1
returns-clause-crash_1 g c =
    subst (λ (v : ChunkIs). IsTrue v.group.told → LeavesAtCrash g.D.Disk.seen g.D.Disk.moment g.D.Disk.left_since g.D.Disk.tells_moments v.group 1 c.into_disks.result.s1h0 c.into_disks.result.s1h1) c.self.view_is c.into_disks.ensures.crash_1

pub returns-clause-crash_2 : goal.returns-clause-crash_2
returns-clause-crash_2 g c =
    subst (λ (v : ChunkIs). IsTrue v.group.told → LeavesAtCrash g.D.Disk.seen g.D.Disk.moment g.D.Disk.left_since g.D.Disk.tells_moments v.group 2 c.into_disks.result.s2h0 c.into_disks.result.s2h1) c.self.view_is c.into_disks.ensures.crash_2
