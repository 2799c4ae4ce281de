use Rattle.std.proofs.Common.{◌<◌, ◌^◌, sym, subst}
use Rattle.pf_server_restart.specs.Beginning.{setup_of_seat}
use Rattle.pf_server_leader.specs.Submitting.{submit_refusal}
use Rattle.pf_protocol.specs.Leading.{on_submit}
use Rattle.pf_protocol.proofs.ForRows.{submit_asks}
use Rattle.pf_server.specs.declared.ends.Before.{Before}
use Rattle.pf_server.proofs.Bounds.{bounded_here, low_life}
use Rattle.pf_server.proofs.StepOutcomes.{row_comes, row_ends, row_told, submit_roomy}
use Rattle.pf_server.proofs.ServerStands.{known_here, meets_here}
use Rattle.pf_server.proofs.server.Server.submit.Goals as goal
use Rattle.pf_server_memory.specs.Bounds.{far}

pub submit-ended-requires : goal.submit-ended-requires
submit-ended-requires g c =
    let known = known_here g.S.Store.model c.args.self.now.seat c.args.self.now.store c.args.self.now.state c.in-Runs.me c.in-Runs.is c.requires.order in
    record {
      stands = (known.0.durable, known.1.stands);
      bounded = bounded_here g.S.Store.model c.args.self.now.seat c.args.self.now.store c.in-Runs.me known.0 known.1 known.2 c.requires.order.made.setup;
      fresh = c.requires.fresh;
      op = c.requires.op;
    }

pub end-requires : goal.end-requires
end-requires g c =
    let known = known_here g.S.Store.model c.args.self.now.seat c.args.self.now.store c.args.self.now.state c.in-Runs.me c.in-Runs.is c.requires.order in
    record {
      life = subst (λ (b : Before). b.life < far) (sym c.note-before.ensures) (low_life g.S.Store.model c.args.self.now.seat c.args.self.now.store c.in-Runs.me known.0 known.1 known.2);
      answerable = row_ends g.S.Store.model c.args.self.now.seat c.args.self.now.store c.submit-ended.new.store c.in-Runs.me c.submit-ended.new.me c.args.out.now c.submit-ended.new.out (λ u z. submit_refusal u c.args.out.now c.args.op z) (λ u z. on_submit u z c.args.op z.role) c.submit-ended.result c.submit-ended.ensures.step known.0 known.1 (λ none. (submit_asks (setup_of_seat c.args.self.now.seat) c.args.self.now.seat.sectors known.2.next known.0 known.2.asks c.args.op).asked);
    }

pub returns-clause-step : goal.returns-clause-step
returns-clause-step g c = λ s meets.
    let runs = meets_here g.S.Store.model c.args.self.now.seat c.args.self.now.store c.args.self.now.state c.in-Runs.me s c.in-Runs.is meets in
    row_comes g.S.Store.model c.args.self.now.seat c.args.self.now.store c.submit-ended.new.store c.in-Runs.me c.submit-ended.new.me c.args.out.now c.submit-ended.new.out (λ u z. submit_refusal u c.args.out.now c.args.op z) (λ u z. on_submit u z c.args.op z.role) c.submit-ended.result c.submit-ended.ensures.step s runs c.note-before.result c.note-before.ensures c.end.new.state c.end.result (submit_roomy (setup_of_seat c.args.self.now.seat) c.args.out.now c.args.op s) c.end.ensures

pub returns-clause-told : goal.returns-clause-told
returns-clause-told g c =
    let known = known_here g.S.Store.model c.args.self.now.seat c.args.self.now.store c.args.self.now.state c.in-Runs.me c.in-Runs.is c.requires.order in
    row_told g.S.Store.model c.args.self.now.seat c.args.self.now.store c.submit-ended.new.store c.in-Runs.me c.submit-ended.new.me c.args.out.now c.submit-ended.new.out (λ u z. submit_refusal u c.args.out.now c.args.op z) (λ u z. on_submit u z c.args.op z.role) c.submit-ended.result c.submit-ended.ensures.step known.0 known.1
