use Rattle.std.proofs.Common.{◌≡◌, map}
use Rattle.pf_shared.specs.pf_group_network.specs.Showing.{acked_entry}
use Rattle.pf_live_looks.proofs.LooksTold.{tells}
use Rattle.pf_live_looks.proofs.looks.acked.Goals as goal

pub returns : goal.returns
returns g c = let t = c.begin-turn.ensures in let e = c.end_look.ensures in
    tells c.args.shared.now c.args.seat.now c.begin-turn.new.seat c.end_look.new.seat c.begin-turn.result.value t.root t.seen.1 t.own t.alone t.seat.1 e.seat.0 e.seat.1 e.history c.group.result.now c.group.ensures
    (λ a g. a.items ≡ map acked_entry g.acked) c.acked-told.result c.end_look.result c.acked-told.ensures e.told e.ok e.err
