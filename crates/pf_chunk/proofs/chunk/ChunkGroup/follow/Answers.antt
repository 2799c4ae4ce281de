use Rattle.std.proofs.Common.{subst}
use Rattle.pf_group_rounds.specs.pf_group.proofs.NextEvents.{on_err}
use Rattle.pf_chunk.specs.Steps.{EventHasFailed}
use Rattle.pf_chunk.specs.Views.{ChunkIs}
use Rattle.pf_chunk.proofs.Begun.{apply_of, not_told}
use Rattle.pf_chunk.proofs.chunk.ChunkGroup.follow.Goals as goal

pub returns-in_err-apply_all-clause-err : goal.returns-in_err-apply_all-clause-err
returns-in_err-apply_all-clause-err g c =
    on_err c.from_residual.result _ (subst (λ (v : ChunkIs). EventHasFailed (apply_of v.group) v.group c.apply_all.new.group) c.self.view_is
    (record { grown = c.apply_all.ensures.grown; begun = c.in_err-apply_all.ensures.begun }))

pub returns-clause-err : goal.returns-clause-err
returns-clause-err g c =
    let was = c.self.inside.group in
    let then = c.apply_all.new.group in
    let new = c.tell_reads.new.group in
    on_err c.tell_reads.result _ (subst (λ (v : ChunkIs). EventHasFailed (apply_of v.group) v.group new) c.self.view_is (not_told was then new c.apply_all.ensures.grown c.in_ok-apply_all.ensures.run c.tell_reads.ensures.same))
