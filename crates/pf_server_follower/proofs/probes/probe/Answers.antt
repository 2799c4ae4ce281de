use Rattle.std.proofs.Common.{[], ◌∷◌, ap, sym, ◌∙◌}
use Rattle.pf_entry.specs.declared.packets.Body.TheVariants.{Nack}
use Rattle.pf_protocol.specs.Outcomes.{sends}
use Rattle.pf_server_memory.specs.Standing.{server_of}
use Rattle.pf_server_memory.proofs.StepEnds.{reworded}
use Rattle.pf_server_follower.proofs.AnswerPackets.{own_packet}
use Rattle.pf_server_follower.proofs.Cases.{probe_stale, probe_told}
use Rattle.pf_server_follower.proofs.probes.probe.Goals as goal

pub returns-then-term-me : goal.returns-then-term-me
returns-then-term-me g c = record {
  step = λ d stands.
      let me = c.args.me.now in
      let s = server_of d me in
      reworded g.S.Store.model d c.args.store.now c.args.store.now me me c.args.out.now c.reply.new.out _ _ c.reply.result
      (ap (λ p. sends s (p ∷ [])) (own_packet d me c.args.from Nack stands.cached) ∙ sym (probe_stale d me c.args.from c.args.term c.args.number stands.cached c.if-term-me.true))
      (c.reply.ensures d stands);
}

pub returns : goal.returns
returns g c = record {
  step = λ d stands.
      let me = c.args.me.now in
      reworded g.S.Store.model d c.args.store.now c.args.store.now me me c.args.out.now c.reply-2.new.out _ _ c.reply-2.result
      (sym (probe_told d me c.args.from c.args.term c.args.number c.upto-upto.result stands.cached c.if-term-me.false (c.upto-upto.ensures d stands.cached)))
      (c.reply-2.ensures d stands);
}
