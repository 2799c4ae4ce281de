use Rattle.std.proofs.Common.{◌≡◌, true, false, get_or, Some, is_some, slice_get, arith}
use Rattle.std.proofs.lemmas.Option.{slice_get-get_or}
use Rattle.pf_world_hosts.proofs.Places.{all_moved, found_next, looks_on}
use Rattle.pf_world_hosts.proofs.settling.next_chunk.Goals as goal

pub returns-then-is_some-clause-moved : goal.returns-then-is_some-clause-moved
returns-then-is_some-clause-moved g c =
    let now = c.loop-place.chunks in
    let place = c.loop-place.place in
    let chunk = get_or now place c.index-chunks-place.result in
    let there : slice_get now place ≡ Some chunk = slice_get-get_or now place c.index-chunks-place.result (omega arith) in
    all_moved place c.args.chunks.now now c.loop-place.invariant chunk c.next_left.new.self there c.next_left.ensures.same c.next_left.ensures.above c.next_left.ensures.first

pub returns-then-is_some-clause-next : goal.returns-then-is_some-clause-next
returns-then-is_some-clause-next g c =
    let now = c.loop-place.chunks in
    let place = c.loop-place.place in
    let chunk = get_or now place c.index-chunks-place.result in
    let there : slice_get now place ≡ Some chunk = slice_get-get_or now place c.index-chunks-place.result (omega arith) in
    let some : is_some c.next_left.result ≡ true = cc in
    found_next place c.args.chunks.now now c.loop-place.invariant chunk c.next_left.new.self there c.next_left.ensures.same c.next_left.ensures.above c.next_left.ensures.first
    c.next_left.result c.next_left.ensures.least c.next_left.ensures.found c.next_left.ensures.sent some

pub loop-place-preserved : goal.loop-place-preserved
loop-place-preserved g c =
    let now = c.loop-place.chunks in
    let place = c.loop-place.place in
    let chunk = get_or now place c.index-chunks-place.result in
    let there : slice_get now place ≡ Some chunk = slice_get-get_or now place c.index-chunks-place.result (omega arith) in
    let none : is_some c.next_left.result ≡ false = cc in
    looks_on place c.args.chunks.now now c.loop-place.invariant chunk c.next_left.new.self there c.next_left.ensures.same c.next_left.ensures.above c.next_left.ensures.first
    c.next_left.result c.next_left.ensures.least none
