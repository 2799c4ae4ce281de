use Rattle.pf_group_network.proofs.Shown.{IsGreatest, served_at}
use Rattle.pf_group_network.proofs.network.Network.leader.Given as goal

abbrev pub invariant-loop-server : goal.invariant-loop-server
invariant-loop-server g l = IsGreatest (served_at l.self.servers.items) l.server-index l.leader
