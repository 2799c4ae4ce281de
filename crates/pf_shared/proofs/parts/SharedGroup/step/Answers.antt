use Rattle.pf_shared.specs.Behinds.{list_of}
use Rattle.pf_shared.specs.Seats.{IsAlone, number_of, root_in, seen_by}
use Rattle.pf_shared.proofs.TakenTurns.{took_err, took_step}
use Rattle.pf_shared.proofs.parts.SharedGroup.step.Goals as goal

pub returns-clause-step : goal.returns-clause-step
returns-clause-step g c = let t = c.begin-turn.ensures in let s = c.args.seat.now in
    took_step (number_of s) _ t.seat.1.0 (IsAlone s) (seen_by s) (seen_by c.begin-turn.new.seat) (list_of c.begin-turn.result.value) (record { begins = t.seen.1; own = t.own; exact = λ a. t.alone a.0 a.1 }) t.seen.0 (root_in c.args.self.now) c.args.event c.act.result (seen_by c.act.new.seat) c.act.ensures.step

pub returns-clause-err : goal.returns-clause-err
returns-clause-err g c = let t = c.begin-turn.ensures in let s = c.args.seat.now in
    took_err (number_of s) _ t.seat.1.0 (IsAlone s) (seen_by s) (seen_by c.begin-turn.new.seat) (list_of c.begin-turn.result.value) (record { begins = t.seen.1; own = t.own; exact = λ a. t.alone a.0 a.1 }) t.seen.0 c.act.result (seen_by c.act.new.seat) c.act.ensures.err
