use Rattle.std.proofs.Common.{Ok, sym}
use Rattle.pf_protocol.specs.declared.answers.Answer.TheVariants.{Done}
use Rattle.pf_server_memory.proofs.StepEnds.{reworded, nothing_done}
use Rattle.pf_server_follower.proofs.Cases.{nack_higher, nack_own}
use Rattle.pf_server_follower.proofs.terms.nack.Goals as goal

pub returns-then-term-me : goal.returns-then-term-me
returns-then-term-me g c = record {
  step = λ d out stands fresh.
      let me = c.args.me.now in
      reworded g.S.Store.model d c.args.store.now c.args.store.now me me out out _ _ (Ok Done)
      (sym (nack_own d me c.args.term stands.cached c.if-term-me.true))
      (nothing_done g.S.Store.model d c.args.store.now me out stands fresh);
}

pub returns : goal.returns
returns g c = record {
  step = λ d out stands fresh.
      let me = c.args.me.now in
      reworded g.S.Store.model d c.args.store.now c.raise.new.store me c.raise.new.me out out _ _ c.raise.result
      (sym (nack_higher d me c.args.term stands.cached c.if-term-me.false))
      (c.raise.ensures d out stands fresh);
}
