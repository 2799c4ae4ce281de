use Rattle.std.proofs.Common.{◌≡◌, ◌<◌, ◌≤◌, IfSome, Ok}
use Rattle.pf_group_rounds.specs.pf_group.specs.Packets.{least_from}
use Rattle.pf_shared.proofs.LookEntries.{tells, told_so}
use Rattle.pf_shared.proofs.parts.SharedGroup.left_from.Goals as goal

pub returns-clause-told : goal.returns-clause-told
returns-clause-told g c = let t = c.begin-turn.ensures in let e = c.end_look.ensures in
    tells c.args.self.now c.args.seat.now c.begin-turn.new.seat c.end_look.new.seat c.begin-turn.result.value t.root t.seen.1 t.own t.alone t.seat.1 e.seat.0 e.seat.1 e.history
    (λ a g. a ≡ least_from c.args.from g) (Ok c.least_from.result) c.end_look.result c.least_from.ensures.least e.told e.ok e.err

pub returns-clause-few : goal.returns-clause-few
returns-clause-few g c = told_so (λ left. IfSome left (λ k. (c.args.from ≤ k) × (k < 65536))) (Ok c.least_from.result) c.end_look.result c.least_from.ensures.few c.end_look.ensures.told
