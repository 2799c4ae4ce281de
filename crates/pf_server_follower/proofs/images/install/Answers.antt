use Rattle.std.proofs.Common.{[], ◌∷◌, ◌∙◌}
use Rattle.std.proofs.lemmas.Result.{err_from_is_err_and}
use Rattle.pf_entry.specs.declared.packets.Body.TheVariants.{Ack}
use Rattle.pf_protocol.specs.Outcomes.{sends}
use Rattle.pf_server_memory.specs.Packets.{packet}
use Rattle.pf_server_memory.proofs.SentPackets.{sent_acked}
use Rattle.pf_server_memory.proofs.StepEnds.{unsent, after_sending, reworded}
use Rattle.pf_server_follower.proofs.SavedHalves.{taken, install_is}
use Rattle.pf_server_follower.proofs.images.install.Goals as goal

pub returns-in_err-send : goal.returns-in_err-send
returns-in_err-send g c = λ d stands.
    let me = c.args.me.now in
    let half = c.in_ok-half.half in
    reworded g.S.Store.model d c.args.store.now c.args.store.now me me c.args.out.now c.send.new.out _ _ c.from_residual-in_err-send.result
    (install_is d me c.args.from c.args.term c.args.base half stands.cached c.in_ok-half.ensures.half c.args.applied c.args.sectors c.upto-upto.result c.in_ok-half.ensures.applied c.in_ok-half.ensures.sectors c.upto-upto.ensures)
    (unsent g.S.Store.model d c.args.store.now me c.args.out.now c.send.new.out stands
    (sends (taken d me c.args.term c.args.base half) (packet me.number c.args.from c.args.term (Ack c.args.base c.upto-upto.result) ∷ [])) c.in_err-send.field-0.0 c.send.result c.from_residual-in_err-send.result
    c.send.ensures c.in_err-send.was (err_from_is_err_and c.from_residual-in_err-send.result c.from_residual-in_err-send.ensures.1))

pub returns : goal.returns
returns g c = λ d stands.
    let me = c.args.me.now in
    let half = c.in_ok-half.half in
    let ps = packet me.number c.args.from c.args.term (Ack c.args.base c.upto-upto.result) ∷ [] in
    reworded g.S.Store.model d c.args.store.now c.save_half.new.store me c.save_half.new.me c.args.out.now c.send.new.out _ _ c.save_half.result
    (install_is d me c.args.from c.args.term c.args.base half stands.cached c.in_ok-half.ensures.half c.args.applied c.args.sectors c.upto-upto.result c.in_ok-half.ensures.applied c.in_ok-half.ensures.sectors c.upto-upto.ensures)
    (after_sending g.S.Store.model d c.args.store.now c.save_half.new.store me c.save_half.new.me c.args.out.now c.send.new.out
    c.send.new.out (sends (taken d me c.args.term c.args.base half) ps) c.in_ok-send.ensures.0 c.in_ok-send.ensures.1 c.save_half.result
    (c.save_half.ensures d c.send.new.out stands (sent_acked c.args.out.now c.send.new.out ps c.in_ok-send.ensures.1 ∙ c.requires.fresh)))
