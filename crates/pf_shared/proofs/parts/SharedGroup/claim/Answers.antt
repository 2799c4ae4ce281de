use Rattle.std.proofs.Common.{◌≡◌, ◌∙◌, sym, subst}
use Rattle.pf_turn.specs.Lists.{GrewBy}
use Rattle.pf_protocol.specs.declared.events.Event.TheVariants.{Claim}
use Rattle.pf_shared.specs.Behinds.{Acts, list_of}
use Rattle.pf_shared.specs.Calls.{Finds, SeatSteps}
use Rattle.pf_shared.specs.Seats.{IsAlone, number_of, root_in, seen_by}
use Rattle.pf_shared.proofs.SeatCalls.{turn_finds, turn_grew, turn_root, turn_steps, claim_taken}
use Rattle.pf_shared.proofs.parts.SharedGroup.claim.Goals as goal

pub end-requires : goal.end-requires
end-requires g c = let t = c.begin-turn.ensures in let s = c.args.seat.now in let old = c.begin-turn.result.value in let new = c.claim-answer.new.self in let n = number_of s in let m = c.number-number.result in let root = root_in c.args.self.now in
    let same : m ≡ n = c.number-number.ensures ∙ t.seat.1.0 in let finds : Finds n (IsAlone s) (seen_by s) (list_of old) = record { begins = t.seen.1; own = t.own; exact = λ a. t.alone a.0 a.1 } in record {
      seat = t.seat.0;
      root = turn_root root n m same (IsAlone s) (seen_by s) old new t.root finds (λ a. Acts m Claim a old new) (λ a d. (Claim, d)) c.claim-answer.result c.claim-answer.ensures.ok c.claim-answer.ensures.err;
      grew = subst (λ i. GrewBy i (seen_by c.begin-turn.new.seat) (list_of new)) (sym t.seat.1.0)
          (turn_grew root n m same (IsAlone s) (seen_by s) old new t.root finds (λ a. Acts m Claim a old new) (λ a d. (Claim, d)) c.claim-answer.result (seen_by c.begin-turn.new.seat) t.seen.0 c.claim-answer.ensures.ok c.claim-answer.ensures.err);
    }

pub returns-clause-step : goal.returns-clause-step
returns-clause-step g c = let t = c.begin-turn.ensures in let s = c.args.seat.now in let old = c.begin-turn.result.value in let new = c.claim-answer.new.self in let n = number_of s in let m = c.number-number.result in let root = root_in c.args.self.now in
    let same : m ≡ n = c.number-number.ensures ∙ t.seat.1.0 in let finds : Finds n (IsAlone s) (seen_by s) (list_of old) = record { begins = t.seen.1; own = t.own; exact = λ a. t.alone a.0 a.1 } in
    turn_steps root n m same (IsAlone s) (seen_by s) old new t.root finds (λ a. Acts m Claim a old new) (λ a d. (Claim, d)) (λ a. SeatSteps root n (IsAlone s) (seen_by s) Claim a (seen_by c.end.new.seat)) (seen_by c.end.new.seat) (λ a d w. w) c.claim-answer.result c.claim-answer.ensures.ok c.end.ensures.seen

pub returns-clause-err : goal.returns-clause-err
returns-clause-err g c = let t = c.begin-turn.ensures in let s = c.args.seat.now in let old = c.begin-turn.result.value in let new = c.claim-answer.new.self in let n = number_of s in let m = c.number-number.result in let root = root_in c.args.self.now in
    let same : m ≡ n = c.number-number.ensures ∙ t.seat.1.0 in let finds : Finds n (IsAlone s) (seen_by s) (list_of old) = record { begins = t.seen.1; own = t.own; exact = λ a. t.alone a.0 a.1 } in
    turn_finds root n m same (IsAlone s) (seen_by s) old new t.root finds (λ a. Acts m Claim a old new) (λ a d. (Claim, d)) c.claim-answer.result (seen_by c.end.new.seat) c.claim-answer.ensures.err c.end.ensures.seen

pub returns-clause-taken : goal.returns-clause-taken
returns-clause-taken g c = let t = c.begin-turn.ensures in let s = c.args.seat.now in let old = c.begin-turn.result.value in let new = c.claim-answer.new.self in let n = number_of s in let m = c.number-number.result in let root = root_in c.args.self.now in
    let same : m ≡ n = c.number-number.ensures ∙ t.seat.1.0 in let finds : Finds n (IsAlone s) (seen_by s) (list_of old) = record { begins = t.seen.1; own = t.own; exact = λ a. t.alone a.0 a.1 } in
    claim_taken root n m same (IsAlone s) (seen_by s) old new t.root finds c.claim-answer.result (seen_by c.end.new.seat) c.claim-answer.ensures.ok c.end.ensures.seen
