use Rattle.std.proofs.Common.{◌∙◌, None, Ok, ap, arith, sym}
use Rattle.pf_protocol.specs.Outcomes.{only_answers}
use Rattle.pf_protocol.specs.Saving.{is_short_of, trimmed}
use Rattle.pf_protocol.specs.declared.answers.Answer.TheVariants.{Base as BaseIs}
use Rattle.pf_server_memory.specs.Standing.{role_in_memory, server_of}
use Rattle.pf_server_memory.proofs.SentPackets.{none_exceeds, nothing_sent}
use Rattle.pf_server_memory.proofs.StepEnds.{changed_memory, reworded, same_after}
use Rattle.pf_server_apply.proofs.TakenReads.{durable_of}
use Rattle.pf_server_apply.proofs.SavedCheckpoints.{at_checkpoint, is_taken, still_short, upto_low, upto_small}
use Rattle.pf_server_apply.proofs.checkpoints.checkpoint.Goals as goal

pub returns-then-base-before : goal.returns-then-base-before
unfolding server_of
returns-then-base-before g c = record {
  step = λ d out stands fresh.
      let me = c.args.me.now in
      let s = server_of d me in
      let before = c.base-before.ensures.base ∙ stands.cached.base in
      reworded g.S.Store.model d c.args.store.now c.args.store.now me me out out _ _ (Ok (BaseIs c.base-before.result))
      (sym (at_checkpoint s (sym (c.upto-base.ensures d stands.cached) ∙ c.if-base-before.true ∙ before)))
      (changed_memory g.S.Store.model d c.args.store.now me me stands out out (only_answers s (BaseIs d.base)) (BaseIs c.base-before.result) (durable_of d me) (same_after d me stands.cached) (ap BaseIs before) (none_exceeds out) (nothing_sent out None fresh));
}

pub returns-then-is_short_of : goal.returns-then-is_short_of
unfolding server_of
returns-then-is_short_of g c = record {
  step = λ d out stands fresh.
      let me = c.args.me.now in
      let s = server_of d me in
      let before = c.base-before.ensures.base ∙ stands.cached.base in
      reworded g.S.Store.model d c.args.store.now c.args.store.now me me out out _ _ (Ok (BaseIs c.base-before.result))
      (sym (still_short s (ap (is_short_of (role_in_memory me.role)) (sym (c.upto-base.ensures d stands.cached)) ∙ sym c.is_short_of.ensures ∙ c.if-is_short_of.true)))
      (changed_memory g.S.Store.model d c.args.store.now me me stands out out (only_answers s (BaseIs d.base)) (BaseIs c.base-before.result) (durable_of d me) (same_after d me stands.cached) (ap BaseIs before) (none_exceeds out) (nothing_sent out None fresh));
}

pub save_state-requires-clause-stands : goal.save_state-requires-clause-stands
save_state-requires-clause-stands g c = let d = c.requires.stands.0 in (d, c.requires.stands.1, c.upto-base.ensures d c.requires.stands.1.cached)

pub save_state-requires-clause-reached : goal.save_state-requires-clause-reached
save_state-requires-clause-reached g c =
    let d = c.requires.stands.0 in
    let cached = c.requires.stands.1.cached in
    omega (arith, c.upto-base.ensures d cached, upto_low d c.args.me.now cached)

pub save_state-requires-clause-small : goal.save_state-requires-clause-small
save_state-requires-clause-small g c =
    let d = c.requires.stands.0 in
    let cached = c.requires.stands.1.cached in
    omega (arith, c.upto-base.ensures d cached, upto_small d c.args.me.now cached c.requires.bounded)

pub returns : goal.returns
unfolding server_of
returns g c = record {
  step = λ d out stands fresh.
      let me = c.args.me.now in
      let s = server_of d me in
      let base = c.upto-base.ensures d stands.cached in
      reworded g.S.Store.model d c.args.store.now c.save_state.new.store me c.save_state.new.me out out _ _ c.save_state.result
      (sym (is_taken s (λ same. c.if-base-before.false (base ∙ same ∙ sym stands.cached.base ∙ sym c.base-before.ensures.base)) (ap (is_short_of (role_in_memory me.role)) (sym base) ∙ sym c.is_short_of.ensures ∙ c.if-is_short_of.false)
      ∙ ap (λ b. only_answers (trimmed s) (BaseIs b)) (sym base)))
      (c.save_state.ensures d out stands fresh base);
}
