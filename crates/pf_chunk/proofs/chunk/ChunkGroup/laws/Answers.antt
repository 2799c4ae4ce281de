use Rattle.std.proofs.Common.{subst}
use Rattle.std.specs.Prelude.{IsTrue}
use Rattle.pf_group_rounds.specs.pf_group.specs.Crashing.{AllLeaveAtCrash}
use Rattle.pf_chunk.specs.Views.{ChunkIs}
use Rattle.pf_chunk.proofs.chunk.ChunkGroup.laws.Goals as goal

pub returns-clause-crash : goal.returns-clause-crash
returns-clause-crash g c =
    subst (λ (v : ChunkIs). IsTrue v.group.told → AllLeaveAtCrash g.D.Disk.seen g.D.Disk.moment g.D.Disk.left_since g.D.Disk.tells_moments v.group) c.self.view_is c.laws.ensures.crash
