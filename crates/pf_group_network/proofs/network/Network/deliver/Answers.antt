use Rattle.std.proofs.Common.{arith, ap, ◌∙◌}
use Rattle.std.proofs.lemmas.Option.{slice_get_read}
use Rattle.pf_protocol.specs.declared.events.Event.TheVariants.{Deliver}
use Rattle.pf_protocol.specs.Groups.{delivered_in}
use Rattle.pf_protocol.specs.Answers.{deliver_turn}
use Rattle.pf_group_network.specs.declared.network.Network.{Network}
use Rattle.pf_group_network.specs.declared.kept.Parcel.{Parcel}
use Rattle.pf_group_network.proofs.StepResults.{read_there}
use Rattle.pf_group_network.proofs.TurnBegins.{few_parcels, in_order, its_condition, same_room_refusal, server_there}
use Rattle.pf_group_network.proofs.Deliveries.{came, comes, delivers_lost, delivers_none, for_member, delivery_none, delivery_whole, sent_there, to_member}
use Rattle.pf_group_network.proofs.Plain.{event_goes, plain_turned}
use Rattle.pf_group_network.proofs.network.Network.deliver.Goals as goal

pub returns-then-place-len : goal.returns-then-place-len
returns-then-place-len g c setup past reached =
    delivers_none g.S.Store.model setup past c.args.self.now reached c.args.k
    (omega (arith, c.len.ensures, c.if-place-len.true, c.args.self.now.packets.ok))

pub returns-then-index : goal.returns-then-index
returns-then-index g c setup past reached =
    let packets = c.args.self.now.packets in
    let at = slice_get_read packets.items packets.len c.args.k c.index.result.now packets.ok.0 (omega (arith, c.len.ensures, c.if-place-len.false)) c.index.ensures in
    delivers_lost g.S.Store.model setup past c.args.self.now reached c.args.k c.index.result.now at c.if-index.true

pub outbox-out-requires : goal.outbox-out-requires
outbox-out-requires g c = few_parcels g.S.Store.model c.requires.0 c.requires.1.0 c.args.self.now c.requires.1.1

pub index_mut-requires : goal.index_mut-requires
index_mut-requires g c =
    let packets = c.args.self.now.packets in
    let parcel = c.index.result.now in
    let at = slice_get_read packets.items packets.len c.args.k parcel packets.ok.0 (omega (arith, c.len.ensures, c.if-place-len.false)) c.index.ensures in
    let packet = c.in_ok-packet.packet in
    let bytes = ap (λ (x : Parcel). x.bytes) (read_there packets.items c.args.k parcel c.index-2.result.now at c.index-2.ensures) in
    let same = came g.S.Store.model c.requires.0 c.requires.1.0 c.args.self.now c.requires.1.1 c.args.k parcel at packet c.index-2.result.now.bytes bytes c.in_ok-packet.ensures in
    let low = to_member g.S.Store.model c.requires.0 c.requires.1.0 c.args.self.now c.requires.1.1 c.args.k parcel at packet same in
    omega (arith, low, c.requires.1.1.shows.three, c.args.self.now.servers.ok)

pub receive-outcome-requires-clause-order : goal.receive-outcome-requires-clause-order
receive-outcome-requires-clause-order g c =
    let packets = c.args.self.now.packets in
    let parcel = c.index.result.now in
    let at = slice_get_read packets.items packets.len c.args.k parcel packets.ok.0 (omega (arith, c.len.ensures, c.if-place-len.false)) c.index.ensures in
    let packet = c.in_ok-packet.packet in
    let bytes = ap (λ (x : Parcel). x.bytes) (read_there packets.items c.args.k parcel c.index-2.result.now at c.index-2.ensures) in
    let same = came g.S.Store.model c.requires.0 c.requires.1.0 c.args.self.now c.requires.1.1 c.args.k parcel at packet c.index-2.result.now.bytes bytes c.in_ok-packet.ensures in
    let low = to_member g.S.Store.model c.requires.0 c.requires.1.0 c.args.self.now c.requires.1.1 c.args.k parcel at packet same in
    let me = c.index_mut.result.now in
    let here = server_there g.S.Store.model c.requires.0 c.requires.1.0 c.args.self.now c.requires.1.1 packet.to me low c.index_mut.ensures.value in
    let m = its_condition g.S.Store.model c.requires.0 c.requires.1.0 c.args.self.now c.requires.1.1 packet.to me here in
    in_order g.S.Store.model c.requires.0 c.requires.1.0 c.args.self.now c.requires.1.1 packet.to me here

pub receive-outcome-requires-clause-packet : goal.receive-outcome-requires-clause-packet
receive-outcome-requires-clause-packet g c =
    let packets = c.args.self.now.packets in
    let parcel = c.index.result.now in
    let at = slice_get_read packets.items packets.len c.args.k parcel packets.ok.0 (omega (arith, c.len.ensures, c.if-place-len.false)) c.index.ensures in
    let packet = c.in_ok-packet.packet in
    let bytes = ap (λ (x : Parcel). x.bytes) (read_there packets.items c.args.k parcel c.index-2.result.now at c.index-2.ensures) in
    let same = came g.S.Store.model c.requires.0 c.requires.1.0 c.args.self.now c.requires.1.1 c.args.k parcel at packet c.index-2.result.now.bytes bytes c.in_ok-packet.ensures in
    let low = to_member g.S.Store.model c.requires.0 c.requires.1.0 c.args.self.now c.requires.1.1 c.args.k parcel at packet same in
    let me = c.index_mut.result.now in
    let here = server_there g.S.Store.model c.requires.0 c.requires.1.0 c.args.self.now c.requires.1.1 packet.to me low c.index_mut.ensures.value in
    let m = its_condition g.S.Store.model c.requires.0 c.requires.1.0 c.args.self.now c.requires.1.1 packet.to me here in
    for_member g.S.Store.model c.requires.0 c.requires.1.0 c.args.self.now c.requires.1.1 c.args.k parcel at packet same me.seat m.2.seat

pub end-outcome-requires : goal.end-outcome-requires
end-outcome-requires g c =
    let packets = c.args.self.now.packets in
    let parcel = c.index.result.now in
    let at = slice_get_read packets.items packets.len c.args.k parcel packets.ok.0 (omega (arith, c.len.ensures, c.if-place-len.false)) c.index.ensures in
    let packet = c.in_ok-packet.packet in
    let bytes = ap (λ (x : Parcel). x.bytes) (read_there packets.items c.args.k parcel c.index-2.result.now at c.index-2.ensures) in
    let same = came g.S.Store.model c.requires.0 c.requires.1.0 c.args.self.now c.requires.1.1 c.args.k parcel at packet c.index-2.result.now.bytes bytes c.in_ok-packet.ensures in
    let low = to_member g.S.Store.model c.requires.0 c.requires.1.0 c.args.self.now c.requires.1.1 c.args.k parcel at packet same in
    let me = c.index_mut.result.now in
    let here = server_there g.S.Store.model c.requires.0 c.requires.1.0 c.args.self.now c.requires.1.1 packet.to me low c.index_mut.ensures.value in
    let m = its_condition g.S.Store.model c.requires.0 c.requires.1.0 c.args.self.now c.requires.1.1 packet.to me here in
    let out = c.outbox-out.result in
    let outcome = c.receive-outcome in
    let grp = c.requires.1.0.group in
    let room = same_room_refusal g.S.Store.model c.requires.0 c.requires.1.0 c.args.self.now c.requires.1.1 out c.outbox-out.ensures in
    let sent = (sent_there g.S.Store.model c.requires.0 c.requires.1.0 c.args.self.now c.requires.1.1 c.args.k parcel at) in
    let turn = deliver_turn (c.requires.0) grp sent.0 in
    let is = comes g.S.Store.model c.requires.0 c.requires.1.0 c.args.self.now c.requires.1.1 c.args.k parcel at packet same c.if-index.false out room me.seat m.2.seat in (
      c.requires.0,
      (
        grp,
        (
          turn,
          plain_turned g.S.Store.model c.requires.0 c.requires.1.0 c.args.self.now c.requires.1.1 packet.to me outcome.new.self c.reserve.new.self out outcome.new.out _ _ outcome.result
              (record {
                low = low;
                read = c.index_mut.ensures.value;
                seat = outcome.ensures.seat;
                told_same = outcome.ensures.told;
                items = c.reserve.ensures.same;
                place = c.in_ok-reserve.ensures.room;
                fresh = c.outbox-out.ensures;
                tells = outcome.ensures.step;
                down = outcome.ensures.down;
              }) (Deliver c.args.k) turn (λ how. delivered_in how grp c.args.k sent.0) is,
        ),
      ),
    )

pub returns : goal.returns
returns g c setup past reached =
    let packets = c.args.self.now.packets in
    let parcel = c.index.result.now in
    let at = slice_get_read packets.items packets.len c.args.k parcel packets.ok.0 (omega (arith, c.len.ensures, c.if-place-len.false)) c.index.ensures in
    let packet = c.in_ok-packet.packet in
    let bytes = ap (λ (x : Parcel). x.bytes) (read_there packets.items c.args.k parcel c.index-2.result.now at c.index-2.ensures) in
    let same = came g.S.Store.model setup past c.args.self.now reached c.args.k parcel at packet c.index-2.result.now.bytes bytes c.in_ok-packet.ensures in
    let low = to_member g.S.Store.model setup past c.args.self.now reached c.args.k parcel at packet same in
    let me = c.index_mut.result.now in
    let here = server_there g.S.Store.model setup past c.args.self.now reached packet.to me low c.index_mut.ensures.value in
    let m = its_condition g.S.Store.model setup past c.args.self.now reached packet.to me here in
    let out = c.outbox-out.result in
    let outcome = c.receive-outcome in
    let grp = past.group in
    let room = same_room_refusal g.S.Store.model setup past c.args.self.now reached out c.outbox-out.ensures in
    let sent = (sent_there g.S.Store.model setup past c.args.self.now reached c.args.k parcel at) in
    let turn = deliver_turn (setup) grp sent.0 in
    let is = comes g.S.Store.model setup past c.args.self.now reached c.args.k parcel at packet same c.if-index.false out room me.seat m.2.seat in
    let end = c.end-outcome in
    let end_of_delivery = c.set_delivered in
    event_goes g.S.Store.model setup past c.args.self.now reached packet.to me outcome.new.self c.reserve.new.self out outcome.new.out _ _ outcome.result
    (record {
      low = low;
      read = c.index_mut.ensures.value;
      seat = outcome.ensures.seat;
      told_same = outcome.ensures.told;
      items = c.reserve.ensures.same;
      place = c.in_ok-reserve.ensures.room;
      fresh = c.outbox-out.ensures;
      tells = outcome.ensures.step;
      down = outcome.ensures.down;
    }) (Deliver c.args.k) turn (λ how. delivered_in how grp c.args.k sent.0) is
    end.new.self _ (λ halted. ap (λ (x : Network g.row.S.Denot). x.servers.items) (end.ensures.halted halted)) end.ensures.stores end.ensures.taken
    (λ answer so shows. delivery_whole g.S.Store.model setup grp packet.to c.args.k sent.0 turn.rule sent.1 end.new.self end_of_delivery.new.packets end.result end_of_delivery.ensures.items end_of_delivery.ensures.capacity answer (end.ensures.same ∙ so) shows)
    (λ e so shows. delivery_none g.S.Store.model setup grp packet.to c.args.k sent.0 turn.rule sent.1 end.new.self end_of_delivery.new.packets end.result end_of_delivery.ensures.items end_of_delivery.ensures.capacity e (end.ensures.same ∙ so) shows)
    end.result end.ensures.same (end.ensures.step setup grp turn)
