use Rattle.std.proofs.Common.{◌<◌, ◌^◌, sym, subst}
use Rattle.pf_server_restart.specs.Beginning.{setup_of_seat}
use Rattle.pf_server_apply.specs.Fetching.{fetch_refusal}
use Rattle.pf_protocol.specs.Leading.{on_fetch}
use Rattle.pf_protocol.proofs.ForRows.{fetch_asks_next}
use Rattle.pf_server.specs.declared.ends.Before.{Before}
use Rattle.pf_server.proofs.Bounds.{bounded_here, low_life}
use Rattle.pf_server.proofs.StepOutcomes.{fetch_fits, fetch_roomy, row_comes, row_ends, row_told}
use Rattle.pf_server.proofs.ServerStands.{known_here, meets_here, next_here}
use Rattle.pf_server.proofs.server.Server.fetch.Goals as goal
use Rattle.pf_server_memory.specs.Bounds.{far}

pub fetch-ended-requires : goal.fetch-ended-requires
fetch-ended-requires g c =
    let known = known_here g.S.Store.model c.args.self.now.seat c.args.self.now.store c.args.self.now.state c.in-Runs.me c.in-Runs.is c.requires.order in
    record {
      stands = (known.0.durable, known.1.stands);
      bounded = bounded_here g.S.Store.model c.args.self.now.seat c.args.self.now.store c.in-Runs.me known.0 known.1 known.2 c.requires.order.made.setup;
      fresh = c.requires.fresh;
    }

pub end-requires : goal.end-requires
end-requires g c =
    let known = known_here g.S.Store.model c.args.self.now.seat c.args.self.now.store c.args.self.now.state c.in-Runs.me c.in-Runs.is c.requires.order in
    record {
      life = subst (λ (b : Before). b.life < far) (sym c.note-before.ensures) (low_life g.S.Store.model c.args.self.now.seat c.args.self.now.store c.in-Runs.me known.0 known.1 known.2);
      answerable = row_ends g.S.Store.model c.args.self.now.seat c.args.self.now.store c.args.self.now.store c.in-Runs.me c.fetch-ended.new.me c.args.out.now c.fetch-ended.new.out (λ u z. fetch_refusal u c.args.out.now c.args.range c.args.number z) (λ u z. on_fetch z c.args.range c.args.number z.role) c.fetch-ended.result c.fetch-ended.ensures.step known.0 known.1 (λ none. (fetch_asks_next (setup_of_seat c.args.self.now.seat) c.args.self.now.seat.sectors c.args.number known.0 (record { asked = known.2.asks.asked; below = next_here g.S.Store.model c.args.self.now.seat c.args.self.now.store c.args.self.now.state c.in-Runs.me c.args.number known.0 c.in-Runs.is c.requires.next known.1 }) c.args.range c.requires.range (fetch_fits (setup_of_seat c.args.self.now.seat) c.args.out.now c.args.range c.args.number known.0 none)).asked);
    }

pub returns-clause-step : goal.returns-clause-step
returns-clause-step g c = λ s meets.
    let runs = meets_here g.S.Store.model c.args.self.now.seat c.args.self.now.store c.args.self.now.state c.in-Runs.me s c.in-Runs.is meets in
    row_comes g.S.Store.model c.args.self.now.seat c.args.self.now.store c.args.self.now.store c.in-Runs.me c.fetch-ended.new.me c.args.out.now c.fetch-ended.new.out (λ u z. fetch_refusal u c.args.out.now c.args.range c.args.number z) (λ u z. on_fetch z c.args.range c.args.number z.role) c.fetch-ended.result c.fetch-ended.ensures.step s runs c.note-before.result c.note-before.ensures c.end.new.state c.end.result (fetch_roomy (setup_of_seat c.args.self.now.seat) c.args.out.now c.args.range c.args.number s) c.end.ensures

pub returns-clause-told : goal.returns-clause-told
returns-clause-told g c =
    let known = known_here g.S.Store.model c.args.self.now.seat c.args.self.now.store c.args.self.now.state c.in-Runs.me c.in-Runs.is c.requires.order in
    row_told g.S.Store.model c.args.self.now.seat c.args.self.now.store c.args.self.now.store c.in-Runs.me c.fetch-ended.new.me c.args.out.now c.fetch-ended.new.out (λ u z. fetch_refusal u c.args.out.now c.args.range c.args.number z) (λ u z. on_fetch z c.args.range c.args.number z.role) c.fetch-ended.result c.fetch-ended.ensures.step known.0 known.1
