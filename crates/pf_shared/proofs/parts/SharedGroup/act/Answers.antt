use Rattle.pf_group_rounds.specs.pf_group.specs.Events.{rule_event}
use Rattle.pf_shared.specs.Behinds.{ActsAs, list_of}
use Rattle.pf_shared.specs.Calls.{Finds, SeatHasStepped}
use Rattle.pf_shared.specs.Seats.{number_of, root_in, seen_by}
use Rattle.pf_shared.proofs.SeatCalls.{turn_finds, turn_grew, turn_root, turn_steps}
use Rattle.pf_shared.proofs.TakenTurns.{taken_finds}
use Rattle.pf_shared.proofs.parts.SharedGroup.act.Goals as goal

pub end-requires : goal.end-requires
end-requires g c = let s = c.args.seat.now in let old = c.args.turn.value in let new = c.step-answer.new.self in let n = number_of s in let m = c.number-number.result in let root = root_in c.args.self.now in
    let finds : Finds n (Unit {0}) (seen_by s) (list_of old) = taken_finds n (seen_by s) (list_of old) c.requires.found in record {
      seat = c.requires.seat;
      root = turn_root root n m c.number-number.ensures (Unit {0}) (seen_by s) old new c.requires.root finds (λ a. ActsAs m c.args.event a old new) (λ a d. (rule_event c.args.event d.found, d.acts)) c.step-answer.result c.step-answer.ensures.ok c.step-answer.ensures.err;
      grew = turn_grew root n m c.number-number.ensures (Unit {0}) (seen_by s) old new c.requires.root finds (λ a. ActsAs m c.args.event a old new) (λ a d. (rule_event c.args.event d.found, d.acts)) c.step-answer.result (seen_by s) c.requires.found c.step-answer.ensures.ok c.step-answer.ensures.err;
    }

pub returns-clause-step : goal.returns-clause-step
returns-clause-step g c = let s = c.args.seat.now in let old = c.args.turn.value in let new = c.step-answer.new.self in let n = number_of s in let m = c.number-number.result in let root = root_in c.args.self.now in
    let finds : Finds n (Unit {0}) (seen_by s) (list_of old) = taken_finds n (seen_by s) (list_of old) c.requires.found in
    turn_steps root n m c.number-number.ensures (Unit {0}) (seen_by s) old new c.requires.root finds (λ a. ActsAs m c.args.event a old new) (λ a d. (rule_event c.args.event d.found, d.acts)) (λ a. SeatHasStepped root n (Unit {0}) (seen_by s) c.args.event a (seen_by c.end.new.seat)) (seen_by c.end.new.seat) (λ a d w. record { found = d.found; steps = w }) c.step-answer.result c.step-answer.ensures.ok c.end.ensures.seen

pub returns-clause-err : goal.returns-clause-err
returns-clause-err g c = let s = c.args.seat.now in let old = c.args.turn.value in let new = c.step-answer.new.self in let n = number_of s in let m = c.number-number.result in let root = root_in c.args.self.now in
    let finds : Finds n (Unit {0}) (seen_by s) (list_of old) = taken_finds n (seen_by s) (list_of old) c.requires.found in
    turn_finds root n m c.number-number.ensures (Unit {0}) (seen_by s) old new c.requires.root finds (λ a. ActsAs m c.args.event a old new) (λ a d. (rule_event c.args.event d.found, d.acts)) c.step-answer.result (seen_by c.end.new.seat) c.step-answer.ensures.err c.end.ensures.seen
