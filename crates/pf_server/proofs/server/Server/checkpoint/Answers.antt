use Rattle.std.proofs.Common.{◌<◌, ◌^◌, sym, subst}
use Rattle.pf_server_restart.specs.Beginning.{setup_of_seat}
use Rattle.pf_server_memory.specs.Bounds.{far}
use Rattle.pf_server_memory.specs.Standing.{room_refusal}
use Rattle.pf_protocol.specs.Saving.{on_checkpoint}
use Rattle.pf_protocol.proofs.ForRows.{checkpoint_asks}
use Rattle.pf_server.specs.declared.ends.Before.{Before}
use Rattle.pf_server.proofs.Bounds.{bounded_here, low_life}
use Rattle.pf_server.proofs.StepOutcomes.{room_roomy, row_comes, row_ends, row_told}
use Rattle.pf_server.proofs.ServerStands.{known_here, meets_here}
use Rattle.pf_server.proofs.server.Server.checkpoint.Goals as goal

pub checkpoint-ended-requires : goal.checkpoint-ended-requires
checkpoint-ended-requires g c =
    let known = known_here g.S.Store.model c.args.self.now.seat c.args.self.now.store c.args.self.now.state c.in-Runs.me c.in-Runs.is c.requires.order in
    record {
      stands = (known.0.durable, known.1.stands);
      bounded = bounded_here g.S.Store.model c.args.self.now.seat c.args.self.now.store c.in-Runs.me known.0 known.1 known.2 c.requires.order.made.setup;
    }

pub end-requires : goal.end-requires
end-requires g c =
    let known = known_here g.S.Store.model c.args.self.now.seat c.args.self.now.store c.args.self.now.state c.in-Runs.me c.in-Runs.is c.requires.order in
    record {
      life = subst (λ (b : Before). b.life < far) (sym c.note-before.ensures) (low_life g.S.Store.model c.args.self.now.seat c.args.self.now.store c.in-Runs.me known.0 known.1 known.2);
      answerable = row_ends g.S.Store.model c.args.self.now.seat c.args.self.now.store c.checkpoint-ended.new.store c.in-Runs.me c.checkpoint-ended.new.me c.args.out.now c.args.out.now (λ u z. room_refusal c.args.out.now (on_checkpoint z)) (λ u z. on_checkpoint z) c.checkpoint-ended.result (λ d stands. c.checkpoint-ended.ensures.step d c.args.out.now stands c.requires.fresh) known.0 known.1 (λ none. (checkpoint_asks (setup_of_seat c.args.self.now.seat) c.args.self.now.seat.sectors known.2.next known.0 known.2.asks).asked);
    }

pub returns-clause-step : goal.returns-clause-step
returns-clause-step g c = λ s meets.
    let runs = meets_here g.S.Store.model c.args.self.now.seat c.args.self.now.store c.args.self.now.state c.in-Runs.me s c.in-Runs.is meets in
    row_comes g.S.Store.model c.args.self.now.seat c.args.self.now.store c.checkpoint-ended.new.store c.in-Runs.me c.checkpoint-ended.new.me c.args.out.now c.args.out.now (λ u z. room_refusal c.args.out.now (on_checkpoint z)) (λ u z. on_checkpoint z) c.checkpoint-ended.result (λ d stands. c.checkpoint-ended.ensures.step d c.args.out.now stands c.requires.fresh) s runs c.note-before.result c.note-before.ensures c.end.new.state c.end.result (room_roomy c.args.out.now (on_checkpoint s)) c.end.ensures

pub returns-clause-told : goal.returns-clause-told
returns-clause-told g c =
    let known = known_here g.S.Store.model c.args.self.now.seat c.args.self.now.store c.args.self.now.state c.in-Runs.me c.in-Runs.is c.requires.order in
    row_told g.S.Store.model c.args.self.now.seat c.args.self.now.store c.checkpoint-ended.new.store c.in-Runs.me c.checkpoint-ended.new.me c.args.out.now c.args.out.now (λ u z. room_refusal c.args.out.now (on_checkpoint z)) (λ u z. on_checkpoint z) c.checkpoint-ended.result (λ d stands. c.checkpoint-ended.ensures.step d c.args.out.now stands c.requires.fresh) known.0 known.1
