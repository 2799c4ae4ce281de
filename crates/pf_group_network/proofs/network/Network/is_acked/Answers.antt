use Rattle.std.proofs.Common.{ap, ◌∙◌}
use Rattle.std.specs.List.{list_any}
use Rattle.pf_group_network.specs.AckedSlots.{is_acked_at}
use Rattle.pf_group_network.proofs.AckedSets.{found_alike}
use Rattle.pf_group_network.proofs.network.Network.is_acked.Goals as goal

pub returns : goal.returns
returns g c setup grp shows = c.has.ensures ∙ (ap (list_any (is_acked_at c.args.term c.args.slot)) shows.traffic.acked ∙ found_alike c.args.term c.args.slot grp.acked)
