use Rattle.std.proofs.Common.{None, Ok, subst, sym, ◌∙◌}
use Rattle.pf_server.specs.Turns.{Claims}
use Rattle.pf_server.proofs.Bounds.{bounded_here}
use Rattle.pf_server.specs.Idle.{HasNoJob}
use Rattle.pf_server.proofs.ClaimedJobs.{claims_by}
use Rattle.pf_server.proofs.NothingToClaim.{claims_none, none_left, still_none}
use Rattle.pf_server.proofs.ServerStands.{known_here, meets_here}
use Rattle.pf_server.proofs.server.Server.claim.Goals as goal

pub claim-claimed-requires : goal.claim-claimed-requires
claim-claimed-requires g c =
    let known = known_here g.S.Store.model c.args.self.now.seat c.args.self.now.store c.args.self.now.state c.in-Runs.me c.in-Runs.is c.requires in
    record { cached = (known.0.durable, known.1.stands.cached); bounded = bounded_here g.S.Store.model c.args.self.now.seat c.args.self.now.store c.in-Runs.me known.0 known.1 known.2 c.requires.made.setup }

pub returns-clause-step : goal.returns-clause-step
returns-clause-step g c = λ s meets.
    let runs = meets_here g.S.Store.model c.args.self.now.seat c.args.self.now.store c.args.self.now.state c.in-Runs.me s c.in-Runs.is meets in
    subst (λ z. Claims g.S.Store.model c.args.self.now.seat c.args.self.now.store z s c.claim-claimed.result) (sym c.forget_answers-2.ensures)
    (claims_by g.S.Store.model c.args.self.now.seat c.args.self.now.store c.in-Runs.me c.claim-claimed.new.me s runs c.claim-claimed.result c.claim-claimed.ensures.ok c.claim-claimed.ensures.err)

pub invariant_of-self-then-self : goal.invariant_of-self-then-self
invariant_of-self-then-self g c = record {
  no_job = λ idle. subst HasNoJob (sym c.forget_answers.ensures) (still_none c.in-Runs.me (subst HasNoJob c.in-Runs.is (c.args.self.now.no_job c.if-self.true)));
}

pub invariant_of-self-2 : goal.invariant_of-self-2
invariant_of-self-2 g c =
    let known = known_here g.S.Store.model c.args.self.now.seat c.args.self.now.store c.args.self.now.state c.in-Runs.me c.in-Runs.is c.requires in
    record {
      no_job = λ idle.
          subst HasNoJob (sym c.forget_answers-2.ensures)
          (none_left c.in-Runs.me c.claim-claimed.new.me c.claim-claimed.result known.0.durable known.1.stands.cached c.claim-claimed.ensures.ok (sym c.found_none-self.ensures ∙ idle));
    }

pub returns-then-self-clause-step : goal.returns-then-self-clause-step
returns-then-self-clause-step g c = λ s meets.
    let runs = meets_here g.S.Store.model c.args.self.now.seat c.args.self.now.store c.args.self.now.state c.in-Runs.me s c.in-Runs.is meets in
    subst (λ z. Claims g.S.Store.model c.args.self.now.seat c.args.self.now.store z s (Ok None)) (sym c.forget_answers.ensures)
    (claims_none g.S.Store.model c.args.self.now.seat c.args.self.now.store c.in-Runs.me s runs (subst HasNoJob c.in-Runs.is (c.args.self.now.no_job c.if-self.true)))
