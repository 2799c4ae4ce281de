use Rattle.std.proofs.Common.{[], ◌∷◌, ap, sym, ◌∙◌}
use Rattle.pf_entry.specs.declared.packets.Body.TheVariants.{Nack}
use Rattle.pf_protocol.specs.Outcomes.{sends}
use Rattle.pf_protocol.specs.Following.{meets_term}
use Rattle.pf_server_memory.specs.Standing.{server_of}
use Rattle.pf_server_memory.proofs.StepEnds.{reworded}
use Rattle.pf_server_follower.proofs.AnswerPackets.{own_packet, met_ack}
use Rattle.pf_server_follower.proofs.Cases.{image_stale, image_behind, image_ahead, reached_by}
use Rattle.pf_server_follower.proofs.images.image.Goals as goal

pub returns-then-term-me : goal.returns-then-term-me
returns-then-term-me g c = record {
  step = λ d stands.
      let me = c.args.me.now in
      let s = server_of d me in
      reworded g.S.Store.model d c.args.store.now c.args.store.now me me c.args.out.now c.reply.new.out _ _ c.reply.result
      (ap (λ p. sends s (p ∷ [])) (own_packet d me c.args.from Nack stands.cached) ∙ sym (image_stale d me c.args.from c.args.term c.args.base c.args.applied c.args.sectors stands.cached c.if-term-me.true))
      (c.reply.ensures d stands);
}

pub returns-then-base-upto : goal.returns-then-base-upto
returns-then-base-upto g c = record {
  step = λ d stands.
      let me = c.args.me.now in
      let s = server_of d me in
      reworded g.S.Store.model d c.args.store.now c.meet_and_reply.new.store me c.meet_and_reply.new.me c.args.out.now c.meet_and_reply.new.out _ _ c.meet_and_reply.result
      (ap (λ p. sends (meets_term s c.args.term) (p ∷ [])) (met_ack d me c.args.from c.args.term c.args.base c.ack-body.result stands.cached c.if-term-me.false (c.ack-body.ensures d stands.cached))
      ∙ sym (image_behind d me c.args.from c.args.term c.args.base c.upto.result c.args.applied c.args.sectors stands.cached c.if-term-me.false (c.upto.ensures d stands.cached) c.if-base-upto.true))
      (c.meet_and_reply.ensures d stands);
}

pub install-requires-clause-reached : goal.install-requires-clause-reached
install-requires-clause-reached g c = reached_by c.requires.stands.0 c.args.me.now c.args.base c.upto.result c.requires.stands.1.cached (c.upto.ensures c.requires.stands.0 c.requires.stands.1.cached) c.if-base-upto.false

pub returns : goal.returns
returns g c = record {
  step = λ d stands.
      let me = c.args.me.now in
      reworded g.S.Store.model d c.args.store.now c.install.new.store me c.install.new.me c.args.out.now c.install.new.out _ _ c.install.result
      (sym (image_ahead d me c.args.from c.args.term c.args.base c.upto.result c.args.applied c.args.sectors stands.cached c.if-term-me.false (c.upto.ensures d stands.cached) c.if-base-upto.false))
      (c.install.ensures d stands);
}
