use Rattle.std.proofs.Common.{[], ◌∷◌, ap, sym, ◌∙◌}
use Rattle.pf_entry.specs.declared.packets.Body.TheVariants.{Nack, RequestVote, Vote}
use Rattle.pf_protocol.specs.Outcomes.{sends}
use Rattle.pf_server_memory.specs.Standing.{server_of}
use Rattle.pf_server_memory.proofs.StepEnds.{reworded}
use Rattle.pf_server_follower.proofs.AnswerPackets.{term_some, answer_is, own_packet, vote_has_a_spelling}
use Rattle.pf_server_follower.proofs.Cases.{vote_refused, vote_given, refuses_low, refuses_behind, gives}
use Rattle.pf_server_follower.proofs.votes.request_vote.Goals as goal
use Rattle.pf_server_follower.proofs.votes.request_vote.Goals.{then-term-me-via-then-term-me, then-term-me-via-else-term-me+then-base}

pub reply-requires-clause-canonical : goal.reply-requires-clause-canonical
reply-requires-clause-canonical g c = answer_is c.args.me.now c.args.from c.args.term c.args.me.now.term (RequestVote c.args.base) Nack c.requires.coming (term_some c.args.me.now c.requires.bounded) tt

pub returns-then-term-me : goal.returns-then-term-me
returns-then-term-me g c = record {
  step = λ d stands.
      let me = c.args.me.now in
      let s = server_of d me in
      reworded g.S.Store.model d c.args.store.now c.args.store.now me me c.args.out.now c.reply.new.out _ _ c.reply.result
      (ap (λ p. sends s (p ∷ [])) (own_packet d me c.args.from Nack stands.cached) ∙ sym (vote_refused d me c.args.from c.args.term c.args.base stands.cached (elim c.then-term-me.branch [
        | then-term-me-via-then-term-me w ↦ refuses_low c.args.term me.term c.args.base me.log.base w.if-term-me.true
        | then-term-me-via-else-term-me+then-base w ↦ refuses_behind c.args.term me.term c.args.base w.base.result me.log.base w.if-base.true w.base.ensures.base
      ])))
      (c.reply.ensures d stands);
}

pub raise_and_reply-requires-clause-canonical : goal.raise_and_reply-requires-clause-canonical
raise_and_reply-requires-clause-canonical g c =
    answer_is c.args.me.now c.args.from c.args.term c.args.term (RequestVote c.args.base) (Vote c.in_ok-vote.vote) c.requires.coming c.requires.coming.fits.term
    (vote_has_a_spelling c.args.me.now c.in_ok-vote.vote c.requires.bounded c.in_ok-vote.ensures)

pub returns : goal.returns
returns g c = record {
  step = λ d stands.
      let me = c.args.me.now in
      reworded g.S.Store.model d c.args.store.now c.raise_and_reply.new.store me c.raise_and_reply.new.me c.args.out.now c.raise_and_reply.new.out _ _ c.raise_and_reply.result
      (sym (vote_given d me c.args.from c.args.term c.args.base c.in_ok-vote.vote stands.cached (gives c.args.term me.term c.args.base c.base.result me.log.base c.if-term-me.false c.if-base.false c.base.ensures.base) c.in_ok-vote.ensures))
      (c.raise_and_reply.ensures d stands);
}
