use Rattle.std.proofs.Common.{[], ◌∷◌, ap, ◌∙◌}
use Rattle.std.proofs.lemmas.Result.{err_from_is_err_and}
use Rattle.pf_protocol.specs.Outcomes.{sends, nothing}
use Rattle.pf_protocol.specs.Following.{accepted}
use Rattle.pf_server_memory.specs.Packets.{packet}
use Rattle.pf_server_memory.specs.Standing.{server_of}
use Rattle.pf_server_memory.proofs.SentPackets.{sent_acked}
use Rattle.pf_server_memory.proofs.StepEnds.{unsent, after_sending, short_of_memory, with_more_room, reworded}
use Rattle.pf_server_follower.proofs.HigherTerms.{roomy_after, roomy_server, roomy_setup, roomy_stands}
use Rattle.pf_server_follower.proofs.replies.take_and_reply.Goals as goal

pub returns-in_err-reserve : goal.returns-in_err-reserve
returns-in_err-reserve g c = λ d stands.
    let me = c.args.me.now in
    let near = record me { starts = c.reserve.new.self } in
    short_of_memory g.S.Store.model d c.args.store.now me near stands c.args.out.now c.args.out.now _
    (sends (accepted (server_of d me) c.args.entry) (packet me.number c.args.to c.args.entry.term c.args.body ∷ [])) c.from_residual.result
    (err_from_is_err_and c.from_residual.result c.from_residual.ensures.1)
    (roomy_after d me c.reserve.new.self c.reserve.ensures.same stands.cached)

pub returns-in_err-send : goal.returns-in_err-send
returns-in_err-send g c = λ d stands.
    let me = c.args.me.now in
    let near = record me { starts = c.reserve.new.self } in
    let o = sends (accepted (server_of d me) c.args.entry) (packet me.number c.args.to c.args.entry.term c.args.body ∷ []) in
    with_more_room g.S.Store.model d c.args.store.now c.args.store.now me near near c.args.out.now c.send.new.out
    (roomy_server d me c.reserve.new.self) (roomy_setup me c.reserve.new.self) o c.from_residual-in_err-send.result
    (unsent g.S.Store.model d c.args.store.now near c.args.out.now c.send.new.out
    (roomy_stands g.S.Store.model d c.args.store.now me c.reserve.new.self c.reserve.ensures.same stands)
    o c.in_err-send.field-0.0 c.send.result c.from_residual-in_err-send.result
    c.send.ensures c.in_err-send.was (err_from_is_err_and c.from_residual-in_err-send.result c.from_residual-in_err-send.ensures.1))

pub store_entry-requires-clause-stands : goal.store_entry-requires-clause-stands
store_entry-requires-clause-stands g c = (c.requires.stands.0, roomy_stands g.S.Store.model c.requires.stands.0 c.args.store.now c.args.me.now c.reserve.new.self c.reserve.ensures.same c.requires.stands.1)

pub returns : goal.returns
returns g c = λ d stands.
    let me = c.args.me.now in
    let near = record me { starts = c.reserve.new.self } in
    let ps = packet me.number c.args.to c.args.entry.term c.args.body ∷ [] in
    let mid = c.send.new.out in
    let here = reworded g.S.Store.model d c.args.store.now c.store_entry.new.store near c.store_entry.new.me mid mid
    (nothing (accepted (server_of d near) c.args.entry)) (nothing (accepted (server_of d me) c.args.entry)) c.store_entry.result (ap (λ s. nothing (accepted s c.args.entry)) (roomy_server d me c.reserve.new.self))
    (c.store_entry.ensures d mid (roomy_stands g.S.Store.model d c.args.store.now me c.reserve.new.self c.reserve.ensures.same stands) (sent_acked c.args.out.now mid ps c.in_ok-send.ensures.1 ∙ c.requires.fresh)) in
    with_more_room g.S.Store.model d c.args.store.now c.store_entry.new.store me near c.store_entry.new.me c.args.out.now mid
    (roomy_server d me c.reserve.new.self) (roomy_setup me c.reserve.new.self) (sends (accepted (server_of d me) c.args.entry) ps) c.store_entry.result
    (after_sending g.S.Store.model d c.args.store.now c.store_entry.new.store near c.store_entry.new.me c.args.out.now mid
    mid (sends (accepted (server_of d me) c.args.entry) ps) c.in_ok-send.ensures.0 c.in_ok-send.ensures.1 c.store_entry.result here)
