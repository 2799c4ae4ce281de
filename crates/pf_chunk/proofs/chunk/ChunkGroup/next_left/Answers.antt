use Rattle.std.proofs.Common.{◌≡◌, ◌<◌, ◌≤◌, length, subst, ◌∙◌}
use Rattle.std.specs.Prelude.{IsTrue}
use Rattle.pf_group_rounds.specs.pf_group.specs.GroupIs.{state_of}
use Rattle.pf_group_rounds.specs.pf_group.specs.Packets.{IsFirstLeft}
use Rattle.pf_chunk.specs.Views.{ChunkIs}
use Rattle.pf_group_rounds.specs.pf_group.proofs.Leasts.{least_is, least_none}
use Rattle.pf_chunk.proofs.chunk.ChunkGroup.next_left.Goals as goal
use Rattle.pf_chunk.proofs.chunk.ChunkGroup.next_left.Goals.{then-self-packets, else-self-packets}

pub returns-clause-least : goal.returns-clause-least
returns-clause-least g c told =
    let now = c.args.self.now in
    let k = c.left_from-self-inside.result in
    let first = subst (λ (v : ChunkIs). IsTrue v.group.told → IsFirstLeft (state_of v.group) v.next k) c.self.view_is c.left_from-self-inside.ensures.first told in
    let count = subst (λ (v : ChunkIs). IsTrue v.group.told → c.packets.result ≡ length (state_of v.group).packets) c.self.view_is c.packets.ensures.count told in
    elim c.if-self-packets.branch [
      | then-self-packets w ↦ w.result-is ∙ least_is (state_of now.group) now.next k first (subst (λ n. k < n) count w.if-self-packets.true)
      | else-self-packets w ↦ w.result-is ∙ least_none (state_of now.group) now.next k first (subst (λ n. n ≤ k) count w.if-self-packets.false)
    ]
