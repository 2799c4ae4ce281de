use Rattle.std.proofs.Common.{◌≡◌, ◌∙◌, sym, subst}
use Rattle.pf_turn.specs.Lists.{GrewBy}
use Rattle.pf_protocol.specs.declared.events.Event.TheVariants.{GiveBack}
use Rattle.pf_protocol.specs.declared.answers.Answer.TheVariants.{Done}
use Rattle.pf_shared.specs.declared.moment.SeatMoment.TheVariants.{Happened}
use Rattle.pf_shared.specs.Behinds.{list_of}
use Rattle.pf_shared.specs.Calls.{Finds}
use Rattle.pf_shared.specs.Seats.{IsAlone, number_of, root_in, seen_by}
use Rattle.pf_shared.proofs.SeatCalls.{grew_by, steps_of, in_its_hand}
use Rattle.pf_shared.proofs.parts.SharedGroup.drop_job.Goals as goal

pub give_back-requires : goal.give_back-requires
give_back-requires g c = let t = c.begin-turn.ensures in let s = c.args.seat.now in let old = c.begin-turn.result.value in let n = number_of s in let m = c.number-number.result in let root = root_in c.args.self.now in
    let same : m ≡ n = c.number-number.ensures ∙ t.seat.1.0 in let finds : Finds n (IsAlone s) (seen_by s) (list_of old) = record { begins = t.seen.1; own = t.own; exact = λ a. t.alone a.0 a.1 } in
    in_its_hand root n m same (IsAlone s) (seen_by s) old old t.root finds _ c.args.job.op c.requires.claimed

pub end-requires : goal.end-requires
end-requires g c = let t = c.begin-turn.ensures in let s = c.args.seat.now in let old = c.begin-turn.result.value in let new = c.give_back.new.self in let n = number_of s in let m = c.number-number.result in let root = root_in c.args.self.now in
    let same : m ≡ n = c.number-number.ensures ∙ t.seat.1.0 in let finds : Finds n (IsAlone s) (seen_by s) (list_of old) = record { begins = t.seen.1; own = t.own; exact = λ a. t.alone a.0 a.1 } in record {
      seat = t.seat.0;
      root = c.give_back.ensures.root ∙ t.root;
      grew = subst (λ i. GrewBy i (seen_by c.begin-turn.new.seat) (list_of new)) (sym t.seat.1.0)
          (grew_by n m (seen_by c.begin-turn.new.seat) (list_of old) (list_of new) (Happened (record { event = (GiveBack c.args.job.server c.args.job.life c.args.job.slot); answer = Done })) same t.seen.0 c.give_back.ensures.listed);
    }

pub returns-clause-step : goal.returns-clause-step
returns-clause-step g c = let t = c.begin-turn.ensures in let s = c.args.seat.now in let old = c.begin-turn.result.value in let new = c.give_back.new.self in let n = number_of s in let m = c.number-number.result in let root = root_in c.args.self.now in
    let same : m ≡ n = c.number-number.ensures ∙ t.seat.1.0 in let finds : Finds n (IsAlone s) (seen_by s) (list_of old) = record { begins = t.seen.1; own = t.own; exact = λ a. t.alone a.0 a.1 } in
    steps_of root n m same (IsAlone s) (seen_by s) old new t.root finds (GiveBack c.args.job.server c.args.job.life c.args.job.slot) Done (seen_by c.end.new.seat) c.give_back.ensures c.end.ensures.seen
