use Rattle.std.proofs.Common.{[], ◌∷◌, ap, sym}
use Rattle.pf_protocol.specs.Outcomes.{sends}
use Rattle.pf_server_memory.specs.Packets.{packet}
use Rattle.pf_server_memory.proofs.StepEnds.{reworded}
use Rattle.pf_server_follower.proofs.HigherTerms.{meets_higher, meets_own}
use Rattle.pf_server_follower.proofs.replies.meet_and_reply.Goals as goal

pub returns-then-me-term : goal.returns-then-me-term
returns-then-me-term g c = λ d stands.
    let ps = packet c.args.me.now.number c.args.to c.args.term c.args.body ∷ [] in
    reworded g.S.Store.model d c.args.store.now c.raise_and_reply.new.store c.args.me.now c.raise_and_reply.new.me c.args.out.now c.raise_and_reply.new.out _ _ c.raise_and_reply.result
    (ap (λ s. sends s ps) (sym (meets_higher d c.args.me.now c.args.term stands.cached c.if-me-term.true)))
    (c.raise_and_reply.ensures d stands)

pub returns-else-me-term : goal.returns-else-me-term
returns-else-me-term g c = λ d stands.
    let ps = packet c.args.me.now.number c.args.to c.args.term c.args.body ∷ [] in
    reworded g.S.Store.model d c.args.store.now c.args.store.now c.args.me.now c.args.me.now c.args.out.now c.reply.new.out _ _ c.reply.result
    (ap (λ s. sends s ps) (sym (meets_own d c.args.me.now c.args.term stands.cached c.if-me-term.false)))
    (c.reply.ensures d stands)
