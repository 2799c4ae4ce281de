use Rattle.std.proofs.Common.{◌<◌, arith, sym, subst}
use Rattle.pf_chunk.specs.Views.{ChunkIs}
use Rattle.pf_chunk.proofs.SettlingTries.{below_most}
use Rattle.pf_chunk.proofs.chunk.ChunkGroup.settle_one.Goals as goal

pub overflow_add-self : goal.overflow_add-self
overflow_add-self g c =
    let low : c.self.inside.next < 65536 = subst (λ (v : ChunkIs). v.next < 65536) (sym c.self.view_is) c.requires.next in
    omega arith

pub returns-then-is_passed_over-clause-few : goal.returns-then-is_passed_over-clause-few
returns-then-is_passed_over-clause-few g c = below_most c.args.self.now.next c.requires.next

pub returns-clause-few : goal.returns-clause-few
returns-clause-few g c = below_most c.args.self.now.next c.requires.next
