use Rattle.std.proofs.Common.{◌≡◌, suc, ◌-◌, ◌<◌, Some, get_or, slice_get, arith, subst}
use Rattle.std.proofs.lemmas.Option.{slice_get-get_or}
use Rattle.pf_mount_host.specs.pf_group.specs.GroupIs.{state_of}
use Rattle.pf_mount_host.specs.pf_group.proofs.NextEvents.{on_err}
use Rattle.pf_mount_host.specs.pf_group.proofs.PassedPackets.{least_found}
use Rattle.pf_protocol.specs.declared.events.Event.TheVariants.{Deliver}
use Rattle.pf_mount_host.specs.pf_group_network.proofs.Lists.{something_there}
use Rattle.pf_mount_host.specs.pf_chunk.proofs.Begun.{happened_extends}
use Rattle.pf_world_hosts.proofs.Ends.{all_made, all_quiet, not_settled}
use Rattle.pf_world_hosts.proofs.Events.{event_stopped, event_then_stopped, fleet_after, ready_after}
use Rattle.pf_world_hosts.proofs.Places.{move_ready, move_same}
use Rattle.pf_world_hosts.proofs.SameChunks.{same_fleet}
use Rattle.pf_world_hosts.proofs.SoFar.{HasNext, moved}
use Rattle.pf_world_hosts.proofs.Tries.{delivery}
use Rattle.pf_world_hosts.proofs.TriedOnce.{try_ends}
use Rattle.pf_world_hosts.proofs.fleet.Fleet.try_settling.Goals as goal

pub returns-in_default-clause-tried : goal.returns-in_default-clause-tried
returns-in_default-clause-tried g c = λ limit first fleet before s.
    let now = c.next_chunk.new.chunks in let mid = c.args.self.now in let out = c.args.out.now.items in
    all_quiet limit first fleet before c.args.left out now mid (moved limit first fleet before c.args.left out c.args.chunks.now mid s now c.next_chunk.ensures.moved) c.in_default.ensures.next

pub returns-then-left-eq0-clause-tried : goal.returns-then-left-eq0-clause-tried
returns-then-left-eq0-clause-tried g c = λ limit first fleet before s.
    let now = c.next_chunk.new.chunks in let mid = c.args.self.now in let out = c.args.out.now.items in
    let place = c.in-Some.place in let next = c.in-Some.ensures.next in
    let it = something_there now place next.inside in
    all_made limit first fleet before out now mid place it.0 (subst (λ n. HasNext limit first fleet before n out now mid place it.0) c.if-left-eq0.true (record {
      so_far = moved limit first fleet before c.args.left out c.args.chunks.now mid s now c.next_chunk.ensures.moved;
      there = it.1;
      next = next;
    }))

pub settle_one-requires-clause-ready : goal.settle_one-requires-clause-ready
settle_one-requires-clause-ready g c κs within =
    let now = c.next_chunk.new.chunks in let place = c.in-Some.place in let chunk = get_or now place c.index-chunks-place.result in
    let there : slice_get now place ≡ Some chunk = slice_get-get_or now place c.index-chunks-place.result c.in-Some.ensures.next.inside in
    (move_ready c.args.chunks.now now c.next_chunk.ensures.moved c.requires.ready place chunk there).1

pub settle_one-requires-clause-next : goal.settle_one-requires-clause-next
settle_one-requires-clause-next g c κs within =
    let now = c.next_chunk.new.chunks in let place = c.in-Some.place in let chunk = get_or now place c.index-chunks-place.result in
    let there : slice_get now place ≡ Some chunk = slice_get-get_or now place c.index-chunks-place.result c.in-Some.ensures.next.inside in
    c.in-Some.ensures.next.low chunk there

pub settle_one-requires-clause-left : goal.settle_one-requires-clause-left
settle_one-requires-clause-left g c κs within =
    let now = c.next_chunk.new.chunks in let place = c.in-Some.place in let chunk = get_or now place c.index-chunks-place.result in
    let there : slice_get now place ≡ Some chunk = slice_get-get_or now place c.index-chunks-place.result c.in-Some.ensures.next.inside in
    λ told. (least_found (state_of chunk.group) chunk.next chunk.next (c.in-Some.ensures.next.least chunk there told)).passes

pub returns-in_err-tried-clause-err : goal.returns-in_err-tried-clause-err
returns-in_err-tried-clause-err g c =
    let head = c.args.chunks.now in let mid = c.args.self.now in let out = c.args.out.now.items in let left = c.args.left in
    let now = c.next_chunk.new.chunks in let place = c.in-Some.place in let chunk = get_or now place c.index-chunks-place.result in
    let there : slice_get now place ≡ Some chunk = slice_get-get_or now place c.index-chunks-place.result c.in-Some.ensures.next.inside in
    let moves = c.next_chunk.ensures.moved in
    let left_is : left ≡ suc (left - 1) = omega (arith, c.if-left-eq0.false) in
    on_err c.from_residual.result _ (λ limit first fleet before s.
    not_settled limit first fleet before (left - 1) out now mid place chunk
    (subst (λ n. HasNext limit first fleet before n out now mid place chunk) left_is (record { so_far = moved limit first fleet before left out head mid s now moves; there = there; next = c.in-Some.ensures.next })) _
    (event_stopped (delivery chunk) place now chunk c.settle_one.new.self mid there (move_ready head now moves c.requires.ready) (λ halts x. happened_extends halts x (Deliver chunk.next)) c.in_err-tried.ensures.err))

pub step-requires-clause-ready : goal.step-requires-clause-ready
step-requires-clause-ready g c κs within =
    let head = c.args.chunks.now in let mid = c.args.self.now in
    let now = c.next_chunk.new.chunks in let place = c.in-Some.place in let chunk = get_or now place c.index-chunks-place.result in
    let there : slice_get now place ≡ Some chunk = slice_get-get_or now place c.index-chunks-place.result c.in-Some.ensures.next.inside in
    let moves = c.next_chunk.ensures.moved in
    let t = c.in_ok-tried.ensures.went in
    ready_after (delivery chunk) place now chunk c.settle_one.new.self mid there (move_ready head now moves c.requires.ready) (same_fleet head now (move_same head now moves) mid c.requires.fleet) c.args.out.now.items c.settle_one.new.out.items t.answer t.went

pub step-requires-clause-fleet : goal.step-requires-clause-fleet
step-requires-clause-fleet g c κs within =
    let head = c.args.chunks.now in let mid = c.args.self.now in
    let now = c.next_chunk.new.chunks in let place = c.in-Some.place in let chunk = get_or now place c.index-chunks-place.result in
    let there : slice_get now place ≡ Some chunk = slice_get-get_or now place c.index-chunks-place.result c.in-Some.ensures.next.inside in
    let moves = c.next_chunk.ensures.moved in
    let t = c.in_ok-tried.ensures.went in
    fleet_after (delivery chunk) place now chunk c.settle_one.new.self mid there (move_ready head now moves c.requires.ready) (same_fleet head now (move_same head now moves) mid c.requires.fleet) c.args.out.now.items c.settle_one.new.out.items t.answer t.went

pub returns-in_err-step-clause-err : goal.returns-in_err-step-clause-err
returns-in_err-step-clause-err g c =
    let head = c.args.chunks.now in let mid = c.args.self.now in let out = c.args.out.now.items in let left = c.args.left in
    let now = c.next_chunk.new.chunks in let place = c.in-Some.place in let chunk = get_or now place c.index-chunks-place.result in
    let there : slice_get now place ≡ Some chunk = slice_get-get_or now place c.index-chunks-place.result c.in-Some.ensures.next.inside in
    let moves = c.next_chunk.ensures.moved in
    let left_is : left ≡ suc (left - 1) = omega (arith, c.if-left-eq0.false) in
    let t = c.in_ok-tried.ensures.went in
    on_err c.from_residual-in_err-step.result _ (λ limit first fleet before s.
    not_settled limit first fleet before (left - 1) out now mid place chunk
    (subst (λ n. HasNext limit first fleet before n out now mid place chunk) left_is (record { so_far = moved limit first fleet before left out head mid s now moves; there = there; next = c.in-Some.ensures.next })) _
    (event_then_stopped (delivery chunk) place now chunk c.settle_one.new.self mid there (move_ready head now moves c.requires.ready) (same_fleet head now (move_same head now moves) mid c.requires.fleet) out c.settle_one.new.out.items t.answer t.went
    c.step.new.chunks c.in_err-step.ensures.err))

pub returns-clause-tried : goal.returns-clause-tried
returns-clause-tried g c = λ limit first fleet before s.
    let head = c.args.chunks.now in let mid = c.args.self.now in let out = c.args.out.now.items in let left = c.args.left in
    let now = c.next_chunk.new.chunks in let place = c.in-Some.place in let chunk = get_or now place c.index-chunks-place.result in
    let there : slice_get now place ≡ Some chunk = slice_get-get_or now place c.index-chunks-place.result c.in-Some.ensures.next.inside in
    let some : 0 < left = omega (arith, c.if-left-eq0.false) in
    try_ends limit first fleet before left some out head mid s now c.next_chunk.ensures.moved place chunk there c.in-Some.ensures.next
    c.in_ok-tried.tried c.settle_one.new.out.items c.settle_one.new.self c.in_ok-tried.ensures.went c.in_ok-tried.ensures.few
    c.step.new.chunks c.step.new.self c.step.new.out.items c.in_ok-step.ensures.went c.in_ok-step.ensures.same c.in_ok-step.ensures.stay
