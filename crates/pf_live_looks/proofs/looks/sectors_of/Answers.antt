use Rattle.std.proofs.Common.{◌≡◌}
use Rattle.pf_live_looks.proofs.LooksTold.{tells_at}
use Rattle.pf_live_looks.proofs.looks.sectors_of.Goals as goal

pub returns : goal.returns
returns g c = let t = c.begin-turn.ensures in let e = c.end_look.ensures in
    tells_at c.args.shared.now c.args.seat.now c.begin-turn.new.seat c.end_look.new.seat c.begin-turn.result.value t.root t.seen.1 t.own t.alone t.seat.1 e.seat.0 e.seat.1 e.history c.group.result.now c.group.ensures
    c.args.server (λ a s. a ≡ s.sectors) c.sectors_of-told.result c.end_look.result c.sectors_of-told.ensures e.told e.ok e.err c.told_of.result c.told_of.ensures
