use Rattle.std.proofs.Common.{◌∙◌}
use Rattle.pf_group_network.proofs.acked.AckedList.has.Goals as goal

pub returns : goal.returns
returns c = c.contains.ensures ∙ c.args.self.now.found c.args.term c.args.slot
