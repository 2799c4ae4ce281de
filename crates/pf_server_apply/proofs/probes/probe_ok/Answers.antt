use Rattle.std.proofs.Common.{Ok, ◌≤◌, arith, map, sym, subst, ◌∙◌}
use Rattle.std.proofs.lemmas.Result.{err_from_is_err_and}
use Rattle.pf_election.specs.Reads.{confirm_by_number, confirmed_in}
use Rattle.pf_protocol.specs.declared.answers.Answer.TheVariants.{Done}
use Rattle.pf_server_memory.specs.Standing.{server_of}
use Rattle.pf_server_memory.specs.Turns.{IsAfter}
use Rattle.pf_server_apply.specs.Probing.{probe_heard}
use Rattle.pf_server_memory.proofs.StepEnds.{done_in_memory, reworded, same_after, short_of_memory}
use Rattle.pf_server_apply.proofs.ProbeReplies.{durable_is, heard_after, heard_is, unheard_after, unheard_is}
use Rattle.pf_server_apply.proofs.probes.probe_ok.Goals as goal

pub returns-then-term-me : goal.returns-then-term-me
returns-then-term-me g c = record {
  step = λ d out stands fresh.
      let me = c.args.me.now in
      reworded g.S.Store.model d c.args._store.now c.args._store.now me me out out _ _ (Ok Done)
      (sym (unheard_is d me c.args.from c.args.number c.args.upto c.args.term (λ same. c.if-term-me.true (same ∙ sym stands.cached.term))))
      (done_in_memory g.S.Store.model d c.args._store.now me me stands out (server_of d me) (durable_is d me c.args.from c.args.number c.args.upto me) (same_after d me stands.cached) fresh);
}

pub returns-in_err-reserve_up_to : goal.returns-in_err-reserve_up_to
returns-in_err-reserve_up_to g c = record {
  step = λ d out stands fresh.
      let me = c.args.me.now in
      short_of_memory g.S.Store.model d c.args._store.now me _ stands out out _ _ c.from_residual.result
      (err_from_is_err_and c.from_residual.result c.from_residual.ensures.1)
      (unheard_after d me c.args.from c.args.number c.args.upto c.reserve_up_to.new.replies c.reserve_up_to.ensures.more.rooms stands.cached);
}

pub returns : goal.returns
returns g c = record {
  step = λ d out stands fresh.
      let me = c.args.me.now in
      let new = probe_heard me c.args.from c.args.number c.args.upto in
      let more = c.reserve_up_to.ensures.more.rooms in
      let many = c.most_confirmed-count.ensures c.args.number in
      let enough : confirmed_in (map (confirm_by_number c.args.number) me.reads) ≤ c.reserve_up_to.new.replies.rooms = omega (arith, many, c.in_ok-reserve_up_to.ensures.enough) in
      reworded g.S.Store.model d c.args._store.now c.args._store.now me c.hear.new.me out out _ _ (Ok Done)
      (sym (heard_is d me c.args.from c.args.number c.args.upto c.args.term (c.if-term-me.false ∙ stands.cached.term)))
      (done_in_memory g.S.Store.model d c.args._store.now me c.hear.new.me stands out (server_of d new) (durable_is d me c.args.from c.args.number c.args.upto new)
      (subst (λ m. IsAfter d me m (server_of d new)) (sym c.hear.ensures) (heard_after d me c.args.from c.args.number c.args.upto c.reserve_up_to.new.replies more enough stands.cached)) fresh);
}
