use Rattle.std.proofs.Common.{refl, ap}
use Rattle.std.specs.Vec.{with_item}
use Rattle.pf_group_network.proofs.TurnBegins.{in_order, server_there}
use Rattle.pf_group_network.proofs.Claims.{claims_at}
use Rattle.pf_group_network.proofs.Stores.{stores_kept}
use Rattle.pf_group_network.proofs.network.Network.claim_at.Goals as goal

pub claim-requires : goal.claim-requires
claim-requires g c = in_order g.S.Store.model c.requires.reached.0 c.requires.reached.1.0 c.args.self.now c.requires.reached.1.1 c.args.server c.index_mut.result.now (server_there g.S.Store.model c.requires.reached.0 c.requires.reached.1.0 c.args.self.now c.requires.reached.1.1 c.args.server c.index_mut.result.now c.requires.server c.index_mut.ensures.value)

pub returns-clause-step : goal.returns-clause-step
returns-clause-step g c setup past reached =
    claims_at g.S.Store.model setup past c.args.self.now reached c.args.server c.index_mut.result.now c.claim.new.self (server_there g.S.Store.model setup past c.args.self.now reached c.args.server c.index_mut.result.now c.requires.server c.index_mut.ensures.value) c.claim.ensures.seat (ap g.S.Store.model.told c.claim.ensures.store) c.claim.result c.claim.ensures.step c.claim.ensures.down

pub returns-clause-stores : goal.returns-clause-stores
returns-clause-stores g c =
    stores_kept c.args.self.now (record c.args.self.now { servers = with_item c.args.self.now.servers c.args.server c.claim.new.self }) c.args.server c.claim.new.self refl c.index_mut.result.now
    (server_there g.S.Store.model c.requires.reached.0 c.requires.reached.1.0 c.args.self.now c.requires.reached.1.1 c.args.server c.index_mut.result.now c.requires.server c.index_mut.ensures.value)
    c.claim.ensures.store
