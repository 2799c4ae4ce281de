use Rattle.std.proofs.Common.{ap}
use Rattle.pf_group_network.proofs.TurnBegins.{in_order, server_there}
use Rattle.pf_group_network.proofs.Stops.{stops}
use Rattle.pf_group_network.proofs.network.Network.stop.Goals as goal

pub stop-requires : goal.stop-requires
stop-requires g c =
    let q = c.requires.reached in
    in_order g.S.Store.model q.0 q.1.0 c.args.self.now q.1.1 c.args.server c.index_mut.result.now
    (server_there g.S.Store.model q.0 q.1.0 c.args.self.now q.1.1 c.args.server c.index_mut.result.now c.requires.server c.index_mut.ensures.value)

pub returns : goal.returns
returns g c setup past reached =
    stops g.S.Store.model setup past c.args.self.now reached c.args.server c.index_mut.result.now c.stop.new.self
    (server_there g.S.Store.model setup past c.args.self.now reached c.args.server c.index_mut.result.now c.requires.server c.index_mut.ensures.value)
    c.stop.ensures.seat (ap g.S.Store.model.told c.stop.ensures.store) c.stop.result c.stop.ensures.step c.stop.ensures.down c.stop.ensures.store
