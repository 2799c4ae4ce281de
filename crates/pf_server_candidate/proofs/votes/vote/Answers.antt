use Rattle.std.proofs.Common.{sym, ap, ◌∙◌}
use Rattle.pf_protocol.specs.Outcomes.{nothing}
use Rattle.pf_protocol.specs.Leading.{on_vote}
use Rattle.pf_protocol.specs.declared.answers.Answer.TheVariants.{Done}
use Rattle.std.proofs.Common.{Ok}
use Rattle.pf_server_memory.specs.Standing.{server_of}
use Rattle.pf_server_memory.proofs.Steps.{half_of}
use Rattle.pf_server_memory.proofs.StepEnds.{nothing_done, reworded}
use Rattle.pf_server_candidate.specs.Merging.{won}
use Rattle.pf_server_candidate.proofs.VoteRules.{wins, own_role}
use Rattle.pf_server_candidate.proofs.Ready.{low_base, own_numbered, vote_numbered, low_first, ready}
use Rattle.pf_server_candidate.proofs.votes.vote.Goals as goal

pub returns-in_default : goal.returns-in_default
returns-in_default g c = record {
  step = λ d stands.
      let me = c.args.me.now in
      let s = server_of d me in
      reworded g.S.Store.model d c.args.store.now c.args.store.now me me c.args.out.now c.args.out.now (nothing s) (on_vote s c.args.term c.args.vote s.role) (Ok Done)
      (sym (c.in_default.ensures d stands.cached) ∙ ap (on_vote s c.args.term c.args.vote) (own_role d me))
      (nothing_done g.S.Store.model d c.args.store.now me c.args.out.now stands c.requires.fresh);
}

pub plan-requires-clause-base : goal.plan-requires-clause-base
plan-requires-clause-base g c = low_base c.args.me.now c.requires.bounded

pub plan-requires-clause-own : goal.plan-requires-clause-own
plan-requires-clause-own g c = own_numbered c.args.me.now c.requires.bounded c.args.term c.args.vote c.in-Some.own.now c.in-Some.ensures

pub plan-requires-clause-vote : goal.plan-requires-clause-vote
plan-requires-clause-vote g c = vote_numbered c.args.me.now c.requires.bounded c.args.from c.args.term c.args.vote c.requires.coming

pub plan-requires-clause-first : goal.plan-requires-clause-first
plan-requires-clause-first g c =
    low_first c.requires.stands.0 c.args.me.now c.requires.stands.1.cached c.requires.bounded c.args.from c.args.term c.args.vote c.in-Some.own.now c.requires.coming c.in-Some.ensures

pub take_over-requires-clause-ready : goal.take_over-requires-clause-ready
take_over-requires-clause-ready g c =
    ready c.requires.stands.0 c.args.me.now c.requires.stands.1.cached c.requires.bounded c.args.from c.args.term c.args.vote c.in-Some.own.now c.requires.coming c.in-Some.ensures c.in_ok-takeover.takeover c.in_ok-takeover.ensures
    (g.S.Store.model.format c.args.store.now) (half_of g.S.Store.model c.requires.stands.0 c.args.store.now c.args.me.now c.requires.stands.1)

pub returns : goal.returns
returns g c = record {
  step = λ d stands.
      let me = c.args.me.now in
      let s = server_of d me in
      let own = c.in-Some.own.now in
      reworded g.S.Store.model d c.args.store.now c.take_over.new.store me c.take_over.new.me c.args.out.now c.take_over.new.out (won s own c.args.vote) (on_vote s c.args.term c.args.vote s.role) c.take_over.result
      (wins d me stands.cached c.args.term c.args.vote own c.in-Some.ensures)
      (c.take_over.ensures own c.args.vote c.in_ok-takeover.ensures d stands);
}
