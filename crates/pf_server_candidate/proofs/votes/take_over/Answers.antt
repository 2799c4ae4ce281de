use Rattle.std.proofs.Common.{◌≡◌, false, ap, subst, ◌∙◌}
use Rattle.std.proofs.lemmas.Result.{err_from_is_err_and}
use Rattle.pf_server_memory.specs.Outgoing.{exceeds, sent_by, Sends}
use Rattle.pf_server_memory.specs.Standing.{server_of}
use Rattle.pf_server_memory.proofs.SentPackets.{sent_acked}
use Rattle.pf_server_memory.proofs.StepEnds.{stands_after, short_of_memory, unsent, after_sending, with_more_room, reworded}
use Rattle.pf_server_candidate.specs.Merging.{accepts, won}
use Rattle.pf_server_candidate.proofs.VoteRules.{with_starts, roomier, same_takeover, merge_sent}
use Rattle.pf_server_candidate.proofs.votes.take_over.Goals as goal

pub returns-in_err-reserve : goal.returns-in_err-reserve
returns-in_err-reserve g c = λ own vote took d stands.
    let me = c.args.me.now in
    let near = with_starts me c.reserve.new.self in
    short_of_memory g.S.Store.model d c.args.store.now me near stands c.args.out.now c.args.out.now _ _ c.from_residual.result
    (err_from_is_err_and c.from_residual.result c.from_residual.ensures.1) (roomier d me c.reserve.new.self stands.cached c.reserve.ensures.same)

pub returns-in_err-send_entries : goal.returns-in_err-send_entries
returns-in_err-send_entries g c = λ own vote took d stands.
    let me = c.args.me.now in
    let near = with_starts me c.reserve.new.self in
    let more = roomier d me c.reserve.new.self stands.cached c.reserve.ensures.same in
    let there = stands_after g.S.Store.model d c.args.store.now me near stands (server_of d me) more in
    let o = won (server_of d near) own vote in
    let r = c.from_residual-in_err-send_entries in
    let ps = merge_sent d near there.cached own vote c.args.takeover (same_takeover me c.reserve.new.self own vote c.args.takeover took) in
    reworded g.S.Store.model d c.args.store.now c.args.store.now me near c.args.out.now c.send_entries.new.out o (won (server_of d me) own vote) r.result (ap (λ s. won s own vote) more.server_is)
    (with_more_room g.S.Store.model d c.args.store.now c.args.store.now me near near c.args.out.now c.send_entries.new.out more.server_is more.setup_same o r.result
    (unsent g.S.Store.model d c.args.store.now near c.args.out.now c.send_entries.new.out there o c.in_err-send_entries.field-0.0 c.send_entries.result r.result
    (subst (λ qs. Sends c.args.out.now c.send_entries.new.out qs c.send_entries.result) (ap (accepts me.number me.term) c.deref.ensures.value ∙ ps) c.send_entries.ensures) c.in_err-send_entries.was (err_from_is_err_and r.result r.ensures.1)))

pub store_merge-requires-clause-stands : goal.store_merge-requires-clause-stands
store_merge-requires-clause-stands g c =
    let me = c.args.me.now in
    let d = c.requires.stands.0 in
    (d, stands_after g.S.Store.model d c.args.store.now me (with_starts me c.reserve.new.self) c.requires.stands.1 (server_of d me) (roomier d me c.reserve.new.self c.requires.stands.1.cached c.reserve.ensures.same))

pub returns : goal.returns
returns g c = λ own vote took d stands.
    let me = c.args.me.now in
    let near = with_starts me c.reserve.new.self in
    let more = roomier d me c.reserve.new.self stands.cached c.reserve.ensures.same in
    let there = stands_after g.S.Store.model d c.args.store.now me near stands (server_of d me) more in
    let took_there = same_takeover me c.reserve.new.self own vote c.args.takeover took in
    let o = won (server_of d near) own vote in
    let ps : accepts me.number me.term c.deref.result.now ≡ o.packets = ap (accepts me.number me.term) c.deref.ensures.value ∙ merge_sent d near there.cached own vote c.args.takeover took_there in
    let room : exceeds c.args.out.now o.packets ≡ false = subst (λ qs. exceeds c.args.out.now qs ≡ false) ps c.in_ok-send_entries.ensures.0 in
    let is : c.send_entries.new.out ≡ sent_by c.args.out.now o.packets = c.in_ok-send_entries.ensures.1 ∙ ap (sent_by c.args.out.now) ps in
    reworded g.S.Store.model d c.args.store.now c.store_merge.new.store me c.store_merge.new.me c.args.out.now c.send_entries.new.out o (won (server_of d me) own vote) c.store_merge.result (ap (λ s. won s own vote) more.server_is)
    (with_more_room g.S.Store.model d c.args.store.now c.store_merge.new.store me near c.store_merge.new.me c.args.out.now c.send_entries.new.out more.server_is more.setup_same o c.store_merge.result
    (after_sending g.S.Store.model d c.args.store.now c.store_merge.new.store near c.store_merge.new.me c.args.out.now c.send_entries.new.out c.send_entries.new.out o room is c.store_merge.result
    (c.store_merge.ensures own vote took_there d c.send_entries.new.out there (sent_acked c.args.out.now c.send_entries.new.out o.packets is ∙ c.requires.fresh))))
