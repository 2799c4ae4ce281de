use Rattle.std.proofs.Common.{◌≡◌, ◌<◌, if◌then◌else◌, Some, slice_get, slice_set, arith, refl, ap, ◌∙◌}
use Rattle.std.specs.List.{insert}
use Rattle.std.specs.Prelude.{vec_capacity, vec_len}
use Rattle.std.proofs.lemmas.Option.{slice_get_read}
use Rattle.pf_live_session.specs.Steps.{HasHeld, ChunkHasNotLived}
use Rattle.pf_live_session.proofs.Places.{at_err, at_ok, put_back}
use Rattle.pf_live_session.proofs.living.live_at.Goals as goal

pub returns-clause-went : goal.returns-clause-went
returns-clause-went g c =
    let old = c.args.chunks.now.items in
    let at = c.args.at in
    let was = c.remove-chunk.result in
    let is = c.live_in-chunk.result.0 in
    let there = slice_get_read old _ at was refl c.requires.at c.remove-chunk.ensures.value in
    let ok = c.insert.ensures.succeeds (omega (arith, c.remove-chunk.ensures.len, c.remove-chunk.ensures.capacity)) in
    let put = c.insert.ensures.items ∙ ap (λ b. if b then insert c.remove-chunk.new.self.items at is else c.remove-chunk.new.self.items) ok ∙ ap (λ xs. insert xs at is) c.remove-chunk.ensures.items ∙ put_back old at is c.requires.at in
    at_ok at old c.insert.new.self.items was is there put c.live_in-chunk.result.1 (λ told x y. HasHeld c.args.plan x c.args.out.now.items told c.live_in-chunk.new.out.items y) c.live_in-chunk.ensures.went

pub returns-clause-err : goal.returns-clause-err
returns-clause-err g c =
    let old = c.args.chunks.now.items in
    let at = c.args.at in
    let was = c.remove-chunk.result in
    let is = c.live_in-chunk.result.0 in
    let there = slice_get_read old _ at was refl c.requires.at c.remove-chunk.ensures.value in
    let ok = c.insert.ensures.succeeds (omega (arith, c.remove-chunk.ensures.len, c.remove-chunk.ensures.capacity)) in
    let put = c.insert.ensures.items ∙ ap (λ b. if b then insert c.remove-chunk.new.self.items at is else c.remove-chunk.new.self.items) ok ∙ ap (λ xs. insert xs at is) c.remove-chunk.ensures.items ∙ put_back old at is c.requires.at in
    at_err at old c.insert.new.self.items was is there put c.live_in-chunk.result.1 (ChunkHasNotLived c.args.plan) c.live_in-chunk.ensures.err

pub live_in-chunk-requires-clause-ready : goal.live_in-chunk-requires-clause-ready
live_in-chunk-requires-clause-ready g c κs within =
    c.requires.ready c.remove-chunk.result
    (slice_get_read c.args.chunks.now.items _ c.args.at c.remove-chunk.result refl c.requires.at c.remove-chunk.ensures.value)
