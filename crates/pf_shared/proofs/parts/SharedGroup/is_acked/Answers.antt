use Rattle.std.proofs.Common.{◌≡◌, Ok}
use Rattle.pf_group_rounds.specs.pf_group_network.specs.Shown.{is_acked}
use Rattle.pf_shared.proofs.LookEntries.{tells}
use Rattle.pf_shared.proofs.parts.SharedGroup.is_acked.Goals as goal

pub returns : goal.returns
returns g c = let t = c.begin-turn.ensures in let e = c.end_look.ensures in
    tells c.args.self.now c.args.seat.now c.begin-turn.new.seat c.end_look.new.seat c.begin-turn.result.value t.root t.seen.1 t.own t.alone t.seat.1 e.seat.0 e.seat.1 e.history
    (λ a g. a ≡ is_acked g c.args.term c.args.slot) (Ok c.is_acked.result) c.end_look.result c.is_acked.ensures e.told e.ok e.err
