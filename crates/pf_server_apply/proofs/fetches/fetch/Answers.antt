use Rattle.std.proofs.Common.{◌∙◌, Ok, ap, arith, refl, subst, sym}
use Rattle.std.proofs.lemmas.Result.{err_from_is_err_and}
use Rattle.pf_base.specs.Span.{fits_in}
use Rattle.pf_protocol.specs.declared.answers.Answer.TheVariants.{Read as ReadIs}
use Rattle.pf_protocol.specs.Leading.{on_fetch}
use Rattle.pf_server_memory.specs.Standing.{server_of, room_refusal}
use Rattle.pf_server_memory.proofs.SentPackets.{to_host}
use Rattle.pf_server_memory.specs.declared.running.Running.{Running}
use Rattle.pf_server_memory.specs.Turns.{IsAfter}
use Rattle.pf_server_memory.proofs.StepEnds.{changed_memory, refused_by, renamed, same_after, short_of_memory, unsent}
use Rattle.pf_server_apply.proofs.TakenReads.{after_read, bad_range, chunk_low, durable_of, fetch_is, fetched, leader, no_leader, probes_canonical, with_read}
use Rattle.pf_server_apply.proofs.fetches.fetch.Goals as goal

pub overflow_cast-len : goal.overflow_cast-len
overflow_cast-len g c = omega (arith, c.len.ensures.count, chunk_low c.args.me.now c.requires.bounded)

pub returns-then-not-fits : goal.returns-then-not-fits
returns-then-not-fits g c = record {
  step = λ d stands.
      let me = c.args.me.now in
      refused_by g.S.Store.model d c.args._store.now me c.args.out.now c.args.out.now stands _ (on_fetch (server_of d me) c.args.range c.args.number (server_of d me).role) _
      (bad_range d me c.args.out.now c.args.range c.args.number (ap (fits_in c.args.range) (sym c.len.ensures.count) ∙ sym c.fits.ensures ∙ c.if-not-fits.true));
}

pub returns-then-not-is_serving : goal.returns-then-not-is_serving
returns-then-not-is_serving g c = record {
  step = λ d stands.
      let me = c.args.me.now in
      refused_by g.S.Store.model d c.args._store.now me c.args.out.now c.args.out.now stands _ (on_fetch (server_of d me) c.args.range c.args.number (server_of d me).role) _
      (no_leader d me c.args.out.now c.args.range c.args.number (ap (fits_in c.args.range) (sym c.len.ensures.count) ∙ sym c.fits.ensures ∙ c.if-not-fits.false) (sym c.is_serving.ensures ∙ c.if-not-is_serving.true));
}

pub send_to_others-requires-clause-canonical : goal.send_to_others-requires-clause-canonical
send_to_others-requires-clause-canonical g c = probes_canonical c.args.me.now c.requires.bounded c.requires.stands.1.cached.number c.args.number

pub returns-in_err-send_to_others : goal.returns-in_err-send_to_others
returns-in_err-send_to_others g c = record {
  step = λ d stands.
      let me = c.args.me.now in
      let fits = ap (fits_in c.args.range) (sym c.len.ensures.count) ∙ sym c.fits.ensures ∙ c.if-not-fits.false in
      let serves = sym c.is_serving.ensures ∙ c.if-not-is_serving.false in
      let named = c.in_ok-named.named in
      let is = fetch_is d me stands.cached c.args.range c.args.number named serves (c.in_ok-named.ensures d stands.cached) in
      renamed g.S.Store.model d c.args._store.now c.args._store.now me me c.args.out.now c.send_to_others.new.out _ _ _ _ c.from_residual-in_err-send_to_others.result
      (ap (room_refusal c.args.out.now) (sym is) ∙ sym (leader d me c.args.out.now c.args.range c.args.number fits serves)) (sym is)
      (unsent g.S.Store.model d c.args._store.now me c.args.out.now c.send_to_others.new.out stands
      (fetched d me stands.cached c.args.range c.args.number named) c.in_err-send_to_others.field-0.0 c.send_to_others.result c.from_residual-in_err-send_to_others.result
      c.send_to_others.ensures c.in_err-send_to_others.was (err_from_is_err_and c.from_residual-in_err-send_to_others.result c.from_residual-in_err-send_to_others.ensures.1));
}

pub returns-in_err-ask : goal.returns-in_err-ask
returns-in_err-ask g c = record {
  step = λ d stands.
      let me = c.args.me.now in
      let same = sym c.in_err-ask.ensures.err in
      short_of_memory g.S.Store.model d c.args._store.now me _ stands c.args.out.now c.send_to_others.new.out _ _ c.from_residual-in_err-ask.result
      (err_from_is_err_and c.from_residual-in_err-ask.result c.from_residual-in_err-ask.ensures.1)
      (subst (λ (m : Running). IsAfter d me m (server_of d me)) (λ i. record me { reads = same i }) (same_after d me stands.cached));
}

pub returns : goal.returns
returns g c = record {
  step = λ d stands.
      let me = c.args.me.now in
      let fits = ap (fits_in c.args.range) (sym c.len.ensures.count) ∙ sym c.fits.ensures ∙ c.if-not-fits.false in
      let serves = sym c.is_serving.ensures ∙ c.if-not-is_serving.false in
      let named = c.in_ok-named.named in
      let o = fetched d me stands.cached c.args.range c.args.number named in
      let is = fetch_is d me stands.cached c.args.range c.args.number named serves (c.in_ok-named.ensures d stands.cached) in
      renamed g.S.Store.model d c.args._store.now c.args._store.now me _ c.args.out.now c.send_to_others.new.out _ _ _ _ (Ok (ReadIs c.args.number))
      (ap (room_refusal c.args.out.now) (sym is) ∙ sym (leader d me c.args.out.now c.args.range c.args.number fits serves)) (sym is)
      (changed_memory g.S.Store.model d c.args._store.now me _ stands c.args.out.now c.send_to_others.new.out o (ReadIs c.args.number)
      (durable_of d (with_read d me stands.cached c.args.range c.args.number named))
      (subst (λ (m : Running). IsAfter d me m o.server) (λ i. record me { reads = sym c.in_ok-ask.ensures.ok i }) (after_read d me stands.cached c.args.range c.args.number named))
      refl c.in_ok-send_to_others.ensures.0 (to_host c.args.out.now c.send_to_others.new.out o.packets c.in_ok-send_to_others.ensures.1 c.requires.fresh));
}
