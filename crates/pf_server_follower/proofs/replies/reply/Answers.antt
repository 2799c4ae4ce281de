use Rattle.std.proofs.Common.{[], ◌∷◌}
use Rattle.std.proofs.lemmas.Result.{err_from_is_err_and}
use Rattle.pf_protocol.specs.Outcomes.{sends}
use Rattle.pf_server_memory.specs.Packets.{packet}
use Rattle.pf_server_memory.specs.Standing.{server_of}
use Rattle.pf_server_memory.proofs.StepEnds.{sent_only, unsent}
use Rattle.pf_server_follower.proofs.replies.reply.Goals as goal

pub returns-in_err-send : goal.returns-in_err-send
returns-in_err-send g c = λ d stands.
    unsent g.S.Store.model d c.args._store.now c.args.me.now c.args.out.now c.send.new.out stands
    (sends (server_of d c.args.me.now) (packet c.args.me.now.number c.args.to c.args.term c.args.body ∷ [])) c.in_err-send.field-0.0 c.send.result c.from_residual.result
    c.send.ensures c.in_err-send.was (err_from_is_err_and c.from_residual.result c.from_residual.ensures.1)

pub returns : goal.returns
returns g c = λ d stands.
    sent_only g.S.Store.model d c.args._store.now c.args.me.now c.args.out.now c.send.new.out stands
    (packet c.args.me.now.number c.args.to c.args.term c.args.body ∷ []) c.in_ok-send.ensures.0 c.in_ok-send.ensures.1 c.requires.fresh
