use Rattle.std.proofs.Common.{arith}
use Rattle.pf_group_rounds.specs.pf_group.specs.GroupIs.{state_of}
use Rattle.pf_group_rounds.specs.pf_group.proofs.Leasts.{least_is, least_none}
use Rattle.pf_shared.proofs.behind.Behind.least_from.Goals as goal

pub returns-then-k-packets-clause-least : goal.returns-then-k-packets-clause-least
returns-then-k-packets-clause-least g c told = least_is (state_of c.args.self.now.group) c.args.from c.left_from-k.result (c.left_from-k.ensures.first told) (let count = c.packets.ensures.count told in omega arith)

pub returns-else-k-packets-clause-least : goal.returns-else-k-packets-clause-least
returns-else-k-packets-clause-least g c told = least_none (state_of c.args.self.now.group) c.args.from c.left_from-k.result (c.left_from-k.ensures.first told) (let count = c.packets.ensures.count told in omega arith)
