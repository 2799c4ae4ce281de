use Rattle.std.proofs.Common.{◌<◌, ◌^◌, sym, subst}
use Rattle.pf_server_restart.specs.Beginning.{setup_of_seat}
use Rattle.pf_server_memory.specs.Bounds.{far}
use Rattle.pf_server_memory.specs.Standing.{room_refusal}
use Rattle.pf_protocol.specs.Leading.{on_resend}
use Rattle.pf_protocol.proofs.ForRows.{resend_asks}
use Rattle.pf_server.specs.declared.ends.Before.{Before}
use Rattle.pf_server.proofs.Bounds.{bounded_here, low_life, own_here}
use Rattle.pf_server.proofs.StepOutcomes.{room_roomy, row_comes, row_ends, row_told}
use Rattle.pf_server.proofs.ServerStands.{known_here, meets_here}
use Rattle.pf_server.proofs.server.Server.resend.Goals as goal

pub resend-ended-requires : goal.resend-ended-requires
resend-ended-requires g c =
    let known = known_here g.S.Store.model c.args.self.now.seat c.args.self.now.store c.args.self.now.state c.in-Runs.me c.in-Runs.is c.requires.order in
    record {
      stands = (known.0.durable, known.1.stands);
      bounded = bounded_here g.S.Store.model c.args.self.now.seat c.args.self.now.store c.in-Runs.me known.0 known.1 known.2 c.requires.order.made.setup;
      fresh = c.requires.fresh;
      own = own_here g.S.Store.model c.args.self.now.seat c.args.self.now.store c.in-Runs.me known.0 known.1 known.2;
    }

pub end-requires : goal.end-requires
end-requires g c =
    let known = known_here g.S.Store.model c.args.self.now.seat c.args.self.now.store c.args.self.now.state c.in-Runs.me c.in-Runs.is c.requires.order in
    record {
      life = subst (λ (b : Before). b.life < far) (sym c.note-before.ensures) (low_life g.S.Store.model c.args.self.now.seat c.args.self.now.store c.in-Runs.me known.0 known.1 known.2);
      answerable = row_ends g.S.Store.model c.args.self.now.seat c.args.self.now.store c.args.self.now.store c.in-Runs.me c.in-Runs.me c.args.out.now c.resend-ended.new.out (λ u z. room_refusal c.args.out.now (on_resend z z.role)) (λ u z. on_resend z z.role) c.resend-ended.result c.resend-ended.ensures.step known.0 known.1 (λ none. (resend_asks (setup_of_seat c.args.self.now.seat) c.args.self.now.seat.sectors known.2.next known.0 known.2.asks).asked);
    }

pub returns-clause-step : goal.returns-clause-step
returns-clause-step g c = λ s meets.
    let runs = meets_here g.S.Store.model c.args.self.now.seat c.args.self.now.store c.args.self.now.state c.in-Runs.me s c.in-Runs.is meets in
    row_comes g.S.Store.model c.args.self.now.seat c.args.self.now.store c.args.self.now.store c.in-Runs.me c.in-Runs.me c.args.out.now c.resend-ended.new.out (λ u z. room_refusal c.args.out.now (on_resend z z.role)) (λ u z. on_resend z z.role) c.resend-ended.result c.resend-ended.ensures.step s runs c.note-before.result c.note-before.ensures c.end.new.state c.end.result (room_roomy c.args.out.now (on_resend s s.role)) c.end.ensures

pub returns-clause-told : goal.returns-clause-told
returns-clause-told g c =
    let known = known_here g.S.Store.model c.args.self.now.seat c.args.self.now.store c.args.self.now.state c.in-Runs.me c.in-Runs.is c.requires.order in
    row_told g.S.Store.model c.args.self.now.seat c.args.self.now.store c.args.self.now.store c.in-Runs.me c.in-Runs.me c.args.out.now c.resend-ended.new.out (λ u z. room_refusal c.args.out.now (on_resend z z.role)) (λ u z. on_resend z z.role) c.resend-ended.result c.resend-ended.ensures.step known.0 known.1
