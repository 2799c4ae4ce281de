use Rattle.pf_protocol.specs.declared.events.Event.TheVariants.{Checkpoint}
use Rattle.pf_protocol.specs.Answers.{plain_turn}
use Rattle.pf_protocol.specs.Saving.{on_checkpoint}
use Rattle.pf_group_network.proofs.TurnBegins.{few_parcels, in_order, same_room_refusal, server_there}
use Rattle.pf_group_network.proofs.Plain.{plain_goes, plain_turned}
use Rattle.pf_group_network.proofs.Simple.{checkpoints}
use Rattle.pf_group_network.proofs.network.Network.checkpoint.Goals as goal

pub outbox-out-requires : goal.outbox-out-requires
outbox-out-requires g c = let q = c.requires.reached in few_parcels g.S.Store.model q.0 q.1.0 c.args.self.now q.1.1

pub checkpoint-outcome-requires-clause-order : goal.checkpoint-outcome-requires-clause-order
checkpoint-outcome-requires-clause-order g c =
    let q = c.requires.reached in
    in_order g.S.Store.model q.0 q.1.0 c.args.self.now q.1.1 c.args.server c.index_mut.result.now
    (server_there g.S.Store.model q.0 q.1.0 c.args.self.now q.1.1 c.args.server c.index_mut.result.now c.requires.server c.index_mut.ensures.value)

pub end-requires : goal.end-requires
end-requires g c =
    let q = c.requires.reached in
    let outcome = c.checkpoint-outcome in
    let me = c.index_mut.result.now in
    let out = c.outbox-out.result in
    let room = same_room_refusal g.S.Store.model q.0 q.1.0 c.args.self.now q.1.1 out c.outbox-out.ensures in (
      q.0,
      (
        q.1.0.group,
        (
          (plain_turn q.1.0.group on_checkpoint),
          plain_turned g.S.Store.model q.0 q.1.0 c.args.self.now q.1.1 c.args.server me outcome.new.self c.reserve.new.self out outcome.new.out _ _ outcome.result
              (record {
                low = c.requires.server;
                read = c.index_mut.ensures.value;
                seat = outcome.ensures.seat;
                told_same = outcome.ensures.told;
                items = c.reserve.ensures.same;
                place = c.in_ok-reserve.ensures.room;
                fresh = c.outbox-out.ensures;
                tells = outcome.ensures.step;
                down = outcome.ensures.down;
              }) (Checkpoint c.args.server) (plain_turn q.1.0.group on_checkpoint) (λ how. q.1.0.group)
              (checkpoints q.0 q.1.0 q.1.1.viable q.1.1.short c.args.server c.requires.server out room),
        ),
      ),
    )

pub returns : goal.returns
returns g c setup past reached =
    let outcome = c.checkpoint-outcome in
    let me = c.index_mut.result.now in
    let out = c.outbox-out.result in
    let room = same_room_refusal g.S.Store.model setup past c.args.self.now reached out c.outbox-out.ensures in
    plain_goes g.S.Store.model setup past c.args.self.now reached c.args.server me outcome.new.self c.reserve.new.self out outcome.new.out _ _ outcome.result
    (record {
      low = c.requires.server;
      read = c.index_mut.ensures.value;
      seat = outcome.ensures.seat;
      told_same = outcome.ensures.told;
      items = c.reserve.ensures.same;
      place = c.in_ok-reserve.ensures.room;
      fresh = c.outbox-out.ensures;
      tells = outcome.ensures.step;
      down = outcome.ensures.down;
    }) (Checkpoint c.args.server) (plain_turn past.group on_checkpoint)
    (checkpoints setup past reached.viable reached.short c.args.server c.requires.server out room)
    c.end.new.self c.end.ensures.halted c.end.ensures.stores c.end.ensures.taken c.end.result c.end.ensures.same (c.end.ensures.step setup past.group (plain_turn past.group on_checkpoint))
