use Rattle.std.proofs.Common.{◌≡◌, ◌<◌, IsTrue, Ok, slice_get}
use Rattle.pf_shared.specs.pf_group.specs.Readers.{is_left}
use Rattle.pf_shared.proofs.LookEntries.{told_so}
use Rattle.pf_live_looks.proofs.LooksTold.{tells}
use Rattle.pf_live_looks.proofs.looks.is_left.Goals as goal

pub returns-clause-told : goal.returns-clause-told
returns-clause-told g c = let t = c.begin-turn.ensures in let e = c.end_look.ensures in
    tells c.args.shared.now c.args.seat.now c.begin-turn.new.seat c.end_look.new.seat c.begin-turn.result.value t.root t.seen.1 t.own t.alone t.seat.1 e.seat.0 e.seat.1 e.history c.group.result.now c.group.ensures
    (λ a g. a ≡ is_left (slice_get g.packets c.args.number)) (Ok c.is_left.result) c.end_look.result c.is_left.ensures.left e.told e.ok e.err

pub returns-clause-sent : goal.returns-clause-sent
returns-clause-sent g c = told_so (λ left. IsTrue left → c.args.number < 65536) (Ok c.is_left.result) c.end_look.result c.is_left.ensures.sent c.end_look.ensures.told
