use Rattle.std.proofs.Common.{length, ap, ◌∙◌}
use Rattle.pf_protocol.specs.Answers.{fetch_turn}
use Rattle.pf_group_network.specs.Readings.{readings_with}
use Rattle.pf_group_network.proofs.TurnBegins.{few_parcels, in_order, same_room_refusal, server_there}
use Rattle.pf_group_network.proofs.Fetches.{fetch_goes, fetch_turned, is_next, its_number}
use Rattle.pf_group_network.proofs.network.Network.fetch.Goals as goal

pub outbox-out-requires : goal.outbox-out-requires
outbox-out-requires g c = few_parcels g.S.Store.model c.requires.reached.0 c.requires.reached.1.0 c.args.self.now c.requires.reached.1.1

pub fetch-outcome-requires-clause-order : goal.fetch-outcome-requires-clause-order
fetch-outcome-requires-clause-order g c = in_order g.S.Store.model c.requires.reached.0 c.requires.reached.1.0 c.args.self.now c.requires.reached.1.1 c.args.server c.index_mut.result.now (server_there g.S.Store.model c.requires.reached.0 c.requires.reached.1.0 c.args.self.now c.requires.reached.1.1 c.args.server c.index_mut.result.now c.requires.server c.index_mut.ensures.value)

pub fetch-outcome-requires-clause-next : goal.fetch-outcome-requires-clause-next
fetch-outcome-requires-clause-next g c = is_next g.S.Store.model c.requires.reached.0 c.requires.reached.1.0 c.args.self.now c.requires.reached.1.1 c.args.server c.index_mut.result.now c.count-number.result (c.count-number.ensures ∙ ap length c.reserve.ensures.same ∙ its_number g.S.Store.model c.requires.reached.0 c.requires.reached.1.0 c.args.self.now c.requires.reached.1.1) (server_there g.S.Store.model c.requires.reached.0 c.requires.reached.1.0 c.args.self.now c.requires.reached.1.1 c.args.server c.index_mut.result.now c.requires.server c.index_mut.ensures.value)

pub end-requires : goal.end-requires
end-requires g c =
    let outcome = c.fetch-outcome in
    let out = c.outbox-out.result in
    let room = same_room_refusal g.S.Store.model c.requires.reached.0 c.requires.reached.1.0 c.args.self.now c.requires.reached.1.1 out c.outbox-out.ensures in (
      c.requires.reached.0,
      (
        c.requires.reached.1.0.group,
        (
          fetch_turn (c.requires.reached.0) c.requires.reached.1.0.group c.args.range,
          fetch_turned g.S.Store.model c.requires.reached.0 c.requires.reached.1.0 c.args.self.now c.requires.reached.1.1 c.args.server c.args.range c.requires.range c.index_mut.result.now outcome.new.self c.reserve-2.new.self c.note_read.new.readings out outcome.new.out c.count-number.result (c.count-number.ensures ∙ ap length c.reserve.ensures.same ∙ its_number g.S.Store.model c.requires.reached.0 c.requires.reached.1.0 c.args.self.now c.requires.reached.1.1) outcome.result
              (record {
                low = c.requires.server;
                read = c.index_mut.ensures.value;
                seat = outcome.ensures.seat;
                told_same = outcome.ensures.told;
                items = c.reserve-2.ensures.same;
                place = c.in_ok-reserve-2.ensures.room;
                fresh = c.outbox-out.ensures;
                tells = outcome.ensures.step;
                down = outcome.ensures.down;
              }) (c.note_read.ensures ∙ ap (λ xs. readings_with xs outcome.result) c.reserve.ensures.same) room,
        ),
      ),
    )

pub returns : goal.returns
returns g c setup past reached =
    let outcome = c.fetch-outcome in
    let out = c.outbox-out.result in
    let room = same_room_refusal g.S.Store.model setup past c.args.self.now reached out c.outbox-out.ensures in
    fetch_goes g.S.Store.model setup past c.args.self.now reached c.args.server c.args.range c.requires.range c.index_mut.result.now outcome.new.self c.reserve-2.new.self c.note_read.new.readings out outcome.new.out c.count-number.result (c.count-number.ensures ∙ ap length c.reserve.ensures.same ∙ its_number g.S.Store.model setup past c.args.self.now reached) outcome.result
    (record {
      low = c.requires.server;
      read = c.index_mut.ensures.value;
      seat = outcome.ensures.seat;
      told_same = outcome.ensures.told;
      items = c.reserve-2.ensures.same;
      place = c.in_ok-reserve-2.ensures.room;
      fresh = c.outbox-out.ensures;
      tells = outcome.ensures.step;
      down = outcome.ensures.down;
    }) (c.note_read.ensures ∙ ap (λ xs. readings_with xs outcome.result) c.reserve.ensures.same) room
    c.end.new.self c.end.ensures.halted c.end.ensures.stores c.end.ensures.taken c.end.result c.end.ensures.same (c.end.ensures.step setup past.group (fetch_turn setup past.group c.args.range))
