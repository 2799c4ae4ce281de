use Rattle.std.proofs.Common.{◌<◌, IfSome, Ok}
use Rattle.pf_group_rounds.specs.pf_group_network.specs.Shown.{IsLeader}
use Rattle.pf_shared.proofs.LookEntries.{tells, told_so}
use Rattle.pf_shared.proofs.parts.SharedGroup.leader.Goals as goal

pub returns-clause-told : goal.returns-clause-told
returns-clause-told g c = let t = c.begin-turn.ensures in let e = c.end_look.ensures in
    tells c.args.self.now c.args.seat.now c.begin-turn.new.seat c.end_look.new.seat c.begin-turn.result.value t.root t.seen.1 t.own t.alone t.seat.1 e.seat.0 e.seat.1 e.history
    (λ a g. IsLeader g a) (Ok c.leader.result) c.end_look.result c.leader.ensures.leader e.told e.ok e.err

pub returns-clause-low : goal.returns-clause-low
returns-clause-low g c = told_so (λ l. IfSome l (λ served. served.1 < 3)) (Ok c.leader.result) c.end_look.result c.leader.ensures.low c.end_look.ensures.told
