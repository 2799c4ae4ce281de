use Rattle.std.proofs.Common.{◌≡◌, ◌∙◌, sym, subst}
use Rattle.pf_turn.specs.Lists.{GrewBy}
use Rattle.pf_protocol.specs.declared.events.Event.TheVariants.{Finish}
use Rattle.pf_shared.specs.declared.moment.SeatMoment.TheVariants.{Happened}
use Rattle.pf_shared.specs.Behinds.{list_of}
use Rattle.pf_shared.specs.Calls.{Finds}
use Rattle.pf_shared.specs.Seats.{IsAlone, number_of, root_in, seen_by}
use Rattle.pf_shared.proofs.SeatCalls.{grew_by, steps_of, brings_back}
use Rattle.pf_shared.proofs.parts.SharedGroup.finish.Goals as goal

pub finish-answer-requires : goal.finish-answer-requires
finish-answer-requires g c = let t = c.begin-turn.ensures in let s = c.args.seat.now in let old = c.begin-turn.result.value in let n = number_of s in let m = c.number-number.result in let root = root_in c.args.self.now in
    let same : m ≡ n = c.number-number.ensures ∙ t.seat.1.0 in let finds : Finds n (IsAlone s) (seen_by s) (list_of old) = record { begins = t.seen.1; own = t.own; exact = λ a. t.alone a.0 a.1 } in
    brings_back root n m same (IsAlone s) (seen_by s) old old t.root finds c.args.filled c.requires.claimed

pub end-requires : goal.end-requires
end-requires g c = let t = c.begin-turn.ensures in let s = c.args.seat.now in let old = c.begin-turn.result.value in let new = c.finish-answer.new.self in let n = number_of s in let m = c.number-number.result in let root = root_in c.args.self.now in
    let same : m ≡ n = c.number-number.ensures ∙ t.seat.1.0 in let finds : Finds n (IsAlone s) (seen_by s) (list_of old) = record { begins = t.seen.1; own = t.own; exact = λ a. t.alone a.0 a.1 } in record {
      seat = t.seat.0;
      root = c.finish-answer.ensures.root ∙ t.root;
      grew = subst (λ i. GrewBy i (seen_by c.begin-turn.new.seat) (list_of new)) (sym t.seat.1.0)
          (grew_by n m (seen_by c.begin-turn.new.seat) (list_of old) (list_of new) (Happened (record { event = (Finish c.args.filled.server c.args.filled.life c.args.filled.slot); answer = c.finish-answer.result })) same t.seen.0 c.finish-answer.ensures.listed);
    }

pub returns-clause-step : goal.returns-clause-step
returns-clause-step g c = let t = c.begin-turn.ensures in let s = c.args.seat.now in let old = c.begin-turn.result.value in let new = c.finish-answer.new.self in let n = number_of s in let m = c.number-number.result in let root = root_in c.args.self.now in
    let same : m ≡ n = c.number-number.ensures ∙ t.seat.1.0 in let finds : Finds n (IsAlone s) (seen_by s) (list_of old) = record { begins = t.seen.1; own = t.own; exact = λ a. t.alone a.0 a.1 } in
    steps_of root n m same (IsAlone s) (seen_by s) old new t.root finds (Finish c.args.filled.server c.args.filled.life c.args.filled.slot) c.finish-answer.result (seen_by c.end.new.seat) c.finish-answer.ensures c.end.ensures.seen
