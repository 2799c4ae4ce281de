use Rattle.std.proofs.Common.{Ok, arith, [], ◌∷◌, ap, sym, ◌∙◌, subst}
use Rattle.pf_entry.specs.Canonical.{IsCanonicalMessage}
use Rattle.pf_entry.specs.declared.packets.Body.TheVariants.{Accept, Nack}
use Rattle.pf_protocol.specs.declared.answers.Answer.TheVariants.{Done}
use Rattle.pf_protocol.specs.Outcomes.{sends}
use Rattle.pf_protocol.specs.Following.{accepted, meets_term}
use Rattle.pf_server_memory.specs.Standing.{server_of, setup_of}
use Rattle.pf_server_memory.proofs.Canonicals.{entry_is_spelled}
use Rattle.pf_server_memory.proofs.Steps.{half_of}
use Rattle.pf_server_follower.specs.declared.accepts.AcceptCase.TheVariants.{Stale, Below, Beyond, Held, New}
use Rattle.pf_server_memory.proofs.StepEnds.{reworded, nothing_done}
use Rattle.pf_server_follower.proofs.AnswerPackets.{term_some, answer_is, own_packet, own_ack, met_ack, taken_ack}
use Rattle.pf_server_follower.proofs.Cases.{accept_by_case, no_lower_at}
use Rattle.pf_server_follower.proofs.accepts.accept.Goals as goal

pub reply-requires-in-Held-clause-canonical : goal.reply-requires-in-Held-clause-canonical
reply-requires-in-Held-clause-canonical g c =
    let me = c.args.me.now in
    answer_is me c.args.from c.args.entry.term me.term (Accept c.args.entry) c.ack-body-in-Held.result c.requires.coming (term_some me c.requires.bounded)
    (subst (IsCanonicalMessage me.term) (sym (c.ack-body-in-Held.ensures c.requires.stands.0 c.requires.stands.1.cached)) tt)

pub take_and_reply-requires-clause-spelled : goal.take_and_reply-requires-clause-spelled
take_and_reply-requires-clause-spelled g c =
    entry_is_spelled (setup_of c.args.me.now) c.requires.bounded.setup c.requires.coming.n c.requires.coming.t (omega (arith, c.requires.coming.low)) c.requires.coming.t_low (g.S.Store.model.format c.args.store.now)
    (half_of g.S.Store.model c.requires.stands.0 c.args.store.now c.args.me.now c.requires.stands.1) c.args.entry c.requires.coming.fits.body.0

pub returns-in-Stale : goal.returns-in-Stale
returns-in-Stale g c = record {
  step = λ d stands.
      let me = c.args.me.now in
      let s = server_of d me in
      reworded g.S.Store.model d c.args.store.now c.args.store.now me me c.args.out.now c.reply.new.out _ _ c.reply.result
      (ap (λ p. sends s (p ∷ [])) (own_packet d me c.args.from Nack stands.cached) ∙ sym (accept_by_case d me c.args.from c.args.entry c.case_of.result Stale stands.cached c.case_of.ensures c.in-Stale.is))
      (c.reply.ensures d stands);
}

pub returns-in-Below : goal.returns-in-Below
returns-in-Below g c = record {
  step = λ d stands.
      let me = c.args.me.now in
      let s = server_of d me in
      reworded g.S.Store.model d c.args.store.now c.meet_and_reply.new.store me c.meet_and_reply.new.me c.args.out.now c.meet_and_reply.new.out _ _ c.meet_and_reply.result
      (ap (λ p. sends (meets_term s c.args.entry.term) (p ∷ [])) (met_ack d me c.args.from c.args.entry.term c.args.entry.slot c.ack-body.result stands.cached (no_lower_at me.term me.log.base _ c.args.entry c.case_of.result Below c.case_of.ensures c.in-Below.is tt) (c.ack-body.ensures d stands.cached))
      ∙ sym (accept_by_case d me c.args.from c.args.entry c.case_of.result Below stands.cached c.case_of.ensures c.in-Below.is))
      (c.meet_and_reply.ensures d stands);
}

pub returns-in-Beyond : goal.returns-in-Beyond
returns-in-Beyond g c = record {
  step = λ d stands.
      let me = c.args.me.now in
      reworded g.S.Store.model d c.args.store.now c.args.store.now me me c.args.out.now c.args.out.now _ _ (Ok Done)
      (sym (accept_by_case d me c.args.from c.args.entry c.case_of.result Beyond stands.cached c.case_of.ensures c.in-Beyond.is))
      (nothing_done g.S.Store.model d c.args.store.now me c.args.out.now stands c.requires.fresh);
}

pub returns-in-Held : goal.returns-in-Held
returns-in-Held g c = record {
  step = λ d stands.
      let me = c.args.me.now in
      let s = server_of d me in
      reworded g.S.Store.model d c.args.store.now c.args.store.now me me c.args.out.now c.reply-in-Held.new.out _ _ c.reply-in-Held.result
      (ap (λ p. sends s (p ∷ [])) (own_ack d me c.args.from c.args.entry.slot c.ack-body-in-Held.result stands.cached (c.ack-body-in-Held.ensures d stands.cached))
      ∙ sym (accept_by_case d me c.args.from c.args.entry c.case_of.result Held stands.cached c.case_of.ensures c.in-Held.is))
      (c.reply-in-Held.ensures d stands);
}

pub returns-in-New : goal.returns-in-New
returns-in-New g c = record {
  step = λ d stands.
      let me = c.args.me.now in
      let s = server_of d me in
      reworded g.S.Store.model d c.args.store.now c.take_and_reply.new.store me c.take_and_reply.new.me c.args.out.now c.take_and_reply.new.out _ _ c.take_and_reply.result
      (ap (λ p. sends (accepted s c.args.entry) (p ∷ [])) (taken_ack d me c.args.from c.args.entry c.ack-body-in-New.result (c.ack-body-in-New.ensures d stands.cached))
      ∙ sym (accept_by_case d me c.args.from c.args.entry c.case_of.result New stands.cached c.case_of.ensures c.in-New.is))
      (c.take_and_reply.ensures d stands);
}
