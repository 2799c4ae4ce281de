use Rattle.pf_group_network.proofs.Taken.{lists_unread}
use Rattle.pf_group_network.proofs.network.Network.unread.Goals as goal

pub returns : goal.returns
returns g c setup grp shows = lists_unread grp c.args.self.now.readings.items shows.traffic.readings 0 c.unread.result.now c.unread.ensures
