use Rattle.pf_protocol.specs.declared.events.Event.TheVariants.{Submit}
use Rattle.pf_protocol.specs.Answers.{submit_turn}
use Rattle.pf_group_network.proofs.TurnBegins.{few_parcels, in_order, its_condition, same_room_refusal, server_there}
use Rattle.pf_group_network.proofs.Plain.{plain_goes, plain_turned}
use Rattle.pf_group_network.proofs.Submits.{submits}
use Rattle.pf_group_network.proofs.network.Network.submit.Goals as goal

pub outbox-out-requires : goal.outbox-out-requires
outbox-out-requires g c = let q = c.requires.reached in few_parcels g.S.Store.model q.0 q.1.0 c.args.self.now q.1.1

pub submit-outcome-requires-clause-order : goal.submit-outcome-requires-clause-order
submit-outcome-requires-clause-order g c =
    let q = c.requires.reached in
    in_order g.S.Store.model q.0 q.1.0 c.args.self.now q.1.1 c.args.server c.index_mut.result.now
    (server_there g.S.Store.model q.0 q.1.0 c.args.self.now q.1.1 c.args.server c.index_mut.result.now c.requires.server c.index_mut.ensures.value)

pub end-requires : goal.end-requires
end-requires g c =
    let q = c.requires.reached in
    let outcome = c.submit-outcome in
    let me = c.index_mut.result.now in
    let out = c.outbox-out.result in
    let there = server_there g.S.Store.model q.0 q.1.0 c.args.self.now q.1.1 c.args.server me c.requires.server c.index_mut.ensures.value in
    let m = its_condition g.S.Store.model q.0 q.1.0 c.args.self.now q.1.1 c.args.server me there in
    let room = same_room_refusal g.S.Store.model q.0 q.1.0 c.args.self.now q.1.1 out c.outbox-out.ensures in (
      q.0,
      (
        q.1.0.group,
        (
          submit_turn q.0 q.1.0.group c.args.op,
          plain_turned g.S.Store.model q.0 q.1.0 c.args.self.now q.1.1 c.args.server me outcome.new.self c.reserve.new.self out outcome.new.out _ _ outcome.result
              (record {
                low = c.requires.server;
                read = c.index_mut.ensures.value;
                seat = outcome.ensures.seat;
                told_same = outcome.ensures.told;
                items = c.reserve.ensures.same;
                place = c.in_ok-reserve.ensures.room;
                fresh = c.outbox-out.ensures;
                tells = outcome.ensures.step;
                down = outcome.ensures.down;
              }) (Submit c.args.server c.args.op) (submit_turn q.0 q.1.0.group c.args.op) (λ how. q.1.0.group)
              (submits q.0 q.1.0 q.1.1.viable q.1.1.short c.args.server c.args.op c.requires.server c.requires.op out room me.seat m.2.seat),
        ),
      ),
    )

pub returns : goal.returns
returns g c setup past reached =
    let outcome = c.submit-outcome in
    let me = c.index_mut.result.now in
    let out = c.outbox-out.result in
    let there = server_there g.S.Store.model setup past c.args.self.now reached c.args.server me c.requires.server c.index_mut.ensures.value in
    let m = its_condition g.S.Store.model setup past c.args.self.now reached c.args.server me there in
    let room = same_room_refusal g.S.Store.model setup past c.args.self.now reached out c.outbox-out.ensures in
    plain_goes g.S.Store.model setup past c.args.self.now reached c.args.server me outcome.new.self c.reserve.new.self out outcome.new.out _ _ outcome.result
    (record {
      low = c.requires.server;
      read = c.index_mut.ensures.value;
      seat = outcome.ensures.seat;
      told_same = outcome.ensures.told;
      items = c.reserve.ensures.same;
      place = c.in_ok-reserve.ensures.room;
      fresh = c.outbox-out.ensures;
      tells = outcome.ensures.step;
      down = outcome.ensures.down;
    }) (Submit c.args.server c.args.op) (submit_turn setup past.group c.args.op)
    (submits setup past reached.viable reached.short c.args.server c.args.op c.requires.server c.requires.op out room me.seat m.2.seat)
    c.end.new.self c.end.ensures.halted c.end.ensures.stores c.end.ensures.taken c.end.result c.end.ensures.same (c.end.ensures.step setup past.group (submit_turn setup past.group c.args.op))
