use Rattle.std.proofs.Common.{◌≤◌, subst, sym}
use Rattle.std.specs.Prelude.{IsTrue}
use Rattle.pf_group_rounds.specs.pf_group.specs.GroupIs.{state_of}
use Rattle.pf_group_rounds.specs.pf_group.specs.Packets.{IsFirstLeft}
use Rattle.pf_chunk.specs.Views.{ChunkIs, ChunkIsReady}
use Rattle.pf_chunk.proofs.Leasts.{begun_ready}
use Rattle.pf_chunk.proofs.chunk.ChunkGroup.begin_settling.Goals as goal

pub returns-clause-ready : goal.returns-clause-ready
returns-clause-ready g c =
    let k = c.left_from-self-inside.result in
    subst (λ (v : ChunkIs). ChunkIsReady (record v { first_left = k; next = k })) (sym c.self.view_is)
    (begun_ready c.args.self.now c.requires.ready k
    (c.left_from-self-inside.ensures.few (subst (λ (v : ChunkIs). v.first_left ≤ 65536) (sym c.self.view_is) c.requires.ready.few))
    (subst (λ (v : ChunkIs). IsTrue v.group.told → IsFirstLeft (state_of v.group) v.first_left k) c.self.view_is c.left_from-self-inside.ensures.first))

pub returns-clause-few : goal.returns-clause-few
returns-clause-few g c = c.left_from-self-inside.ensures.few (subst (λ (v : ChunkIs). v.first_left ≤ 65536) (sym c.self.view_is) c.requires.ready.few)
