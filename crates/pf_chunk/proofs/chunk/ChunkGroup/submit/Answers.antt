use Rattle.std.proofs.Common.{replicate, ap, subst, ◌∙◌}
use Rattle.std.proofs.lemmas.Result.{on_err_weaker}
use Rattle.pf_base.specs.Span.{IsWritable, Span}
use Rattle.pf_group_rounds.specs.pf_group.proofs.NextEvents.{on_err}
use Rattle.pf_chunk.specs.Asking.{chunk_submits}
use Rattle.pf_chunk.specs.Views.{run_of}
use Rattle.pf_chunk.proofs.Begun.{nothing_failed, submits_extend}
use Rattle.pf_chunk.proofs.Ranges.{may_submit, submit_failed, submitted_is}
use Rattle.pf_chunk.proofs.chunk.ChunkGroup.submit.Goals as goal

pub happen-requires-clause-event : goal.happen-requires-clause-event
happen-requires-clause-event g c _ _ =
    (c.requires.server, may_submit c.args.range.first c.args.byte c.args.range.count c.range-range.result c.in_ok-payload.payload (subst (λ (span : Span). IsWritable span.first span.count) c.range-range.ensures.same c.range-range.ensures.writable) c.range-range.ensures.same (c.in_ok-payload.ensures ∙ c.in_ok-filled.ensures ∙ ap (λ n. replicate n (replicate 512 c.args.byte)) c.count.ensures ∙ ap (λ (span : Span). replicate span.count (replicate 512 c.args.byte)) c.range-range.ensures.same))

pub returns-clause-went : goal.returns-clause-went
returns-clause-went g c =
    submitted_is c.args.server c.args.range.first c.args.byte c.args.range.count c.range-range.result c.in_ok-payload.payload (subst (λ (span : Span). IsWritable span.first span.count) c.range-range.ensures.same c.range-range.ensures.writable) c.range-range.ensures.same (c.in_ok-payload.ensures ∙ c.in_ok-filled.ensures ∙ ap (λ n. replicate n (replicate 512 c.args.byte)) c.count.ensures ∙ ap (λ (span : Span). replicate span.count (replicate 512 c.args.byte)) c.range-range.ensures.same)
    c.args.self.now c.args.out.now.items c.happen.new.out.items c.happen.new.self c.happen.result c.happen.ensures.went

pub returns-clause-err : goal.returns-clause-err
returns-clause-err g c =
    on_err_weaker c.happen.result
    (submit_failed c.args.server c.args.range.first c.args.byte c.args.range.count c.range-range.result c.in_ok-payload.payload (subst (λ (span : Span). IsWritable span.first span.count) c.range-range.ensures.same c.range-range.ensures.writable) c.range-range.ensures.same (c.in_ok-payload.ensures ∙ c.in_ok-filled.ensures ∙ ap (λ n. replicate n (replicate 512 c.args.byte)) c.count.ensures ∙ ap (λ (span : Span). replicate span.count (replicate 512 c.args.byte)) c.range-range.ensures.same)
    c.args.self.now c.happen.new.self.group) c.happen.ensures.err

pub returns-in_err-filled-clause-err : goal.returns-in_err-filled-clause-err
returns-in_err-filled-clause-err g c =
    let now = c.args.self.now in
    on_err c.from_residual.result _ (nothing_failed (λ halts. (chunk_submits halts c.args.server c.args.range.first c.args.byte c.args.range.count (run_of halts now)).chunk.group) now.group
    (λ halts. submits_extend halts (run_of halts now) c.args.server c.args.range.first c.args.byte c.args.range.count))

pub returns-in_err-payload-clause-err : goal.returns-in_err-payload-clause-err
returns-in_err-payload-clause-err g c =
    let now = c.args.self.now in
    on_err c.from_residual-in_err-payload.result _ (nothing_failed (λ halts. (chunk_submits halts c.args.server c.args.range.first c.args.byte c.args.range.count (run_of halts now)).chunk.group) now.group
    (λ halts. submits_extend halts (run_of halts now) c.args.server c.args.range.first c.args.byte c.args.range.count))
