use Rattle.std.proofs.Common.{◌≡◌, refl, subst}
use Rattle.std.specs.Prelude.{IsTrue}
use Rattle.pf_group_rounds.specs.pf_group.specs.GroupIs.{state_of}
use Rattle.pf_chunk.specs.Asks.{serving_leader}
use Rattle.pf_chunk.specs.Views.{ChunkIs}
use Rattle.pf_chunk.proofs.Leaders.{the_leader}
use Rattle.pf_chunk.proofs.desk.ChunkGroupDesk.leader.Goals as goal

pub returns-clause-ok : goal.returns-clause-ok
returns-clause-ok g c = (
  refl,
  subst (λ (v : ChunkIs). IsTrue v.group.told → c.leader.result ≡ serving_leader (state_of v.group)) c.self.view_is
      (λ told. the_leader c.self.inside.group.setup c.self.inside.group.history c.laws.ensures.sound.leaders c.leader.result (c.leader.ensures.leader told)),
)
