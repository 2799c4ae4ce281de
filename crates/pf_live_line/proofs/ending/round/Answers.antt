use Rattle.pf_turn.proofs.Lists.{begins_trans}
use Rattle.std.proofs.Common.{IsTrue, Option}
use Rattle.pf_turn.specs.Lists.{Begins}
use Rattle.pf_base.specs.declared.live_end.LiveEnd.{LiveEnd}
use Rattle.pf_live_seats.specs.pf_shared.specs.Seats.{root_in, seen_by}
use Rattle.pf_live_seats.specs.Deliveries.{LiveTrace}
use Rattle.pf_live_line.specs.Judging.{IsJudged}
use Rattle.pf_live_line.proofs.Rounds.{ran_once, told_any, told_so}
use Rattle.pf_live_line.proofs.ending.round.Goals as goal

pub returns-clause-begins : goal.returns-clause-begins
returns-clause-begins g c = begins_trans (seen_by c.args.crew.seat) (seen_by c.run-crew.result.0.seat) (seen_by c.judge-told.new.self.seat) c.run-crew.ensures.begins c.judge-told.ensures.judged.begins

pub returns-clause-ran : goal.returns-clause-ran
returns-clause-ran g c = let line = c.args.line.now in let e = c.run-crew.ensures in let no = c.if-wants.false in
    told_any c.judge-told.result (ran_once line.group line.cell line.plan line.rings.items c.args.crew c.run-crew.result.0 c.judge-told.new.self e.begins (e.seats no) (e.ended no) c.judge-told.ensures.judged)

pub returns-clause-end : goal.returns-clause-end
returns-clause-end g c = let line = c.args.line.now in let root = root_in line.group in let ran = seen_by c.run-crew.result.0.seat in let now = seen_by c.judge-told.new.self.seat in
    told_so c.judge-told.result (λ (o : Option LiveEnd). IsTrue root.told → IsJudged line.plan root ran now o) (λ o. IsTrue root.told → (before : LiveTrace) × Begins (seen_by c.args.crew.seat) before × IsJudged line.plan root before now o)
    (λ o judged told. (ran, c.run-crew.ensures.begins, judged told)) c.judge-told.ensures.end
