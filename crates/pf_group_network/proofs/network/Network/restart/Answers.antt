use Rattle.pf_group_network.proofs.TurnBegins.{in_order, server_there}
use Rattle.pf_group_network.proofs.Stops.{restarts, somehow}
use Rattle.pf_group_network.proofs.network.Network.restart.Goals as goal

pub restart-requires : goal.restart-requires
restart-requires g c =
    let q = c.requires.reached in
    in_order g.S.Store.model q.0 q.1.0 c.args.self.now q.1.1 c.args.server c.index_mut.result.now
    (server_there g.S.Store.model q.0 q.1.0 c.args.self.now q.1.1 c.args.server c.index_mut.result.now c.requires.server c.index_mut.ensures.value)

pub returns-clause-told : goal.returns-clause-told
returns-clause-told g c setup past reached is_told honest =
    restarts g.S.Store.model setup past c.args.self.now reached c.args.server c.index_mut.result.now c.restart.new.self
    (server_there g.S.Store.model setup past c.args.self.now reached c.args.server c.index_mut.result.now c.requires.server c.index_mut.ensures.value)
    c.restart.ensures.seat c.restart.ensures.told is_told honest c.restart.result c.restart.ensures.step c.restart.ensures.any_moment

pub returns-clause-somehow : goal.returns-clause-somehow
returns-clause-somehow g c setup past reached =
    somehow g.S.Store.model setup past c.args.self.now reached c.args.server c.index_mut.result.now c.restart.new.self
    (server_there g.S.Store.model setup past c.args.self.now reached c.args.server c.index_mut.result.now c.requires.server c.index_mut.ensures.value)
    c.restart.ensures.seat c.restart.ensures.told c.restart.result c.restart.ensures.somehow c.restart.ensures.cause
