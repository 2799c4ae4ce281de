use Rattle.std.proofs.Common.{◌≡◌, get_or, Some, slice_get, arith, sym, ◌∙◌}
use Rattle.std.proofs.lemmas.Option.{slice_get-get_or}
use Rattle.pf_world_hosts.proofs.Places.{all_begun, one_begun}
use Rattle.pf_world_hosts.proofs.settling.begin_all.Goals as goal

pub begin_settling-requires : goal.begin_settling-requires
begin_settling-requires g c =
    let now = c.loop-chunk.chunk-items in
    let place = c.loop-chunk.chunk-index in
    let chunk = get_or now place c.chunk-item.result in
    let there : slice_get now place ≡ Some chunk = slice_get-get_or now place c.chunk-item.result (omega arith) in
    record { ready = (c.requires place chunk (sym (c.loop-chunk.invariant.others place (omega arith)) ∙ there)).1 }

pub loop-chunk-preserved : goal.loop-chunk-preserved
loop-chunk-preserved g c =
    let now = c.loop-chunk.chunk-items in
    let place = c.loop-chunk.chunk-index in
    let chunk = get_or now place c.chunk-item.result in
    let there : slice_get now place ≡ Some chunk = slice_get-get_or now place c.chunk-item.result (omega arith) in
    one_begun place c.args.chunks.now now chunk c.begin_settling.new.self c.loop-chunk.invariant there
    (record { same = c.begin_settling.ensures.same; ready = c.begin_settling.ensures.ready })

pub returns : goal.returns
returns g c = all_begun c.loop-chunk.chunk-index c.args.chunks.now c.loop-chunk.chunk-items c.loop-chunk.invariant (omega arith)
