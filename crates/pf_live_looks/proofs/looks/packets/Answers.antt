use Rattle.std.proofs.Common.{◌≡◌, ◌≤◌, Ok, length}
use Rattle.pf_shared.proofs.LookEntries.{told_so}
use Rattle.pf_live_looks.proofs.LooksTold.{tells}
use Rattle.pf_live_looks.proofs.looks.packets.Goals as goal

pub returns-clause-told : goal.returns-clause-told
returns-clause-told g c = let t = c.begin-turn.ensures in let e = c.end_look.ensures in
    tells c.args.shared.now c.args.seat.now c.begin-turn.new.seat c.end_look.new.seat c.begin-turn.result.value t.root t.seen.1 t.own t.alone t.seat.1 e.seat.0 e.seat.1 e.history c.group.result.now c.group.ensures
    (λ a g. a ≡ length g.packets) (Ok c.packets.result) c.end_look.result c.packets.ensures.count e.told e.ok e.err

pub returns-clause-few : goal.returns-clause-few
returns-clause-few g c = told_so (λ count. count ≤ 65536) (Ok c.packets.result) c.end_look.result c.packets.ensures.few c.end_look.ensures.told
