use Rattle.std.proofs.Common.{◌≡◌, refl, subst}
use Rattle.std.specs.Prelude.{IsTrue}
use Rattle.pf_law_ports.specs.pf_group_network.specs.Shown.{is_acked}
use Rattle.pf_group_rounds.specs.pf_group.specs.GroupIs.{state_of}
use Rattle.pf_chunk.specs.Views.{ChunkIs}
use Rattle.pf_chunk.proofs.desk.ChunkGroupDesk.acked.Goals as goal

pub returns-clause-ok : goal.returns-clause-ok
returns-clause-ok g c = (
  refl,
  subst (λ (v : ChunkIs). IsTrue v.group.told → c.is_acked.result ≡ is_acked (state_of v.group) c.args.term c.args.slot) c.self.view_is c.is_acked.ensures,
)
