use Rattle.std.proofs.Common.{◌≡◌, ℕ, ◌<◌, ◌≤◌, Option, Some, None, IfSome, IsTrue, Result, Ok, Err, IfOk, refl, sym, ◌∙◌, subst}
use Rattle.pf_base.specs.declared.errors.NoMemory.{NoMemory}
use Rattle.pf_protocol.specs.Groups.{Group}
use Rattle.pf_protocol.specs.declared.answers.Answer.{Answer}
use Rattle.pf_group_rounds.specs.pf_group.specs.declared.event.GroupEvent.TheVariants as asked
use Rattle.pf_group_rounds.specs.pf_group.specs.Packets.{least_from}
use Rattle.pf_shared.specs.Behinds.{list_of}
use Rattle.pf_shared.specs.Calls.{Finds}
use Rattle.pf_shared.specs.Seats.{IsAlone, number_of, root_in, seen_by}
use Rattle.pf_shared.specs.Since.{state_by_now}
use Rattle.pf_shared.specs.Looks.{Looks}
use Rattle.pf_shared.proofs.LookEntries.{group_is, look_err, look_ok, told_back}
use Rattle.pf_shared.proofs.TakenTurns.{at_err, took_err, took_with}
use Rattle.pf_shared.proofs.parts.SharedGroup.deliver_left.Goals as goal

none_is : (o : Option ℕ) → ((k : ℕ) → o ≡ Some k → ⊥) → o ≡ None
none_is None none = refl
none_is (Some k) none = absurd (none k refl)

pub returns-in_default-clause-delivers : goal.returns-in_default-clause-delivers
returns-in_default-clause-delivers g c = let t = c.begin-turn.ensures in let s = c.args.seat.now in let b = c.begin-turn.result.value in let n = number_of s in
    let finds : Finds n (IsAlone s) (seen_by s) (list_of b) = record { begins = t.seen.1; own = t.own; exact = λ a. t.alone a.0 a.1 } in
    let P : Group → Type 0 = λ x. least_from c.args.from x ≡ None in
    let told = look_ok (root_in c.args.self.now) n _ t.seat.1.0 (IsAlone s) (seen_by s) b t.root finds (seen_by c.end_look.new.seat) (λ (u : Unit {0}) (x : Group). P x) (Ok tt) c.end_look.result
    (λ told. sym (c.least_from.ensures.least told) ∙ none_is c.least_from.result (λ k is. c.in_default.not-Some k is)) c.end_look.ensures.told c.end_look.ensures.ok in
    subst (λ (r : Result (Unit {0}) NoMemory). IfOk r (λ u. Looks (root_in c.args.self.now) n (IsAlone s) (seen_by s) P (seen_by c.end_look.new.seat))) c.in_ok-end_look.was told

pub returns-clause-delivers : goal.returns-clause-delivers
returns-clause-delivers g c = let t = c.begin-turn.ensures in let s = c.args.seat.now in let b = c.begin-turn.result.value in let n = number_of s in let root = root_in c.args.self.now in let new = seen_by c.act.new.seat in
    let finds : Finds n (IsAlone s) (seen_by s) (list_of b) = record { begins = t.seen.1; own = t.own; exact = λ a. t.alone a.0 a.1 } in
    let mid = seen_by c.begin-turn.new.seat in
    let P : Group → Type 0 = λ x. IsTrue root.told → least_from c.args.from x ≡ Some c.in-Some.k in
    let here : P (state_by_now root mid) = subst (λ l. P (state_by_now root l)) (sym t.seen.0)
    (subst P (group_is root n _ t.seat.1.0 (IsAlone s) (seen_by s) b t.root finds new) (λ told. sym (c.least_from.ensures.least (told_back root n _ t.seat.1.0 (IsAlone s) (seen_by s) b t.root finds new told)) ∙ c.in-Some.is)) in
    let w = took_with n _ t.seat.1.0 (IsAlone s) (seen_by s) mid (list_of b) finds t.seen.0 root P (asked.Deliver c.in-Some.k) c.in_ok-answer.answer new c.in_ok-answer.ensures.step here in
    let few = subst (λ o. IfSome o (λ k. (c.args.from ≤ k) × (k < 65536))) c.in-Some.is c.least_from.ensures.few in
    (w.1.0, few.0, few.1, w.1.1)

pub returns-in_err-end_look-clause-err : goal.returns-in_err-end_look-clause-err
returns-in_err-end_look-clause-err g c = let t = c.begin-turn.ensures in let s = c.args.seat.now in let b = c.begin-turn.result.value in let n = number_of s in
    let finds : Finds n (IsAlone s) (seen_by s) (list_of b) = record { begins = t.seen.1; own = t.own; exact = λ a. t.alone a.0 a.1 } in
    let r : Result (Unit {0}) NoMemory = Err c.in_err-end_look.field-0.0 in
    at_err (Finds n (IsAlone s) (seen_by s) (seen_by c.end_look.new.seat)) c.from_residual.result
    (look_err (root_in c.args.self.now) n _ t.seat.1.0 (IsAlone s) (seen_by s) b t.root finds (seen_by c.end_look.new.seat) r c.in_err-end_look.ensures.err)

pub returns-in_err-answer-clause-err : goal.returns-in_err-answer-clause-err
returns-in_err-answer-clause-err g c = let t = c.begin-turn.ensures in let s = c.args.seat.now in let b = c.begin-turn.result.value in let n = number_of s in let new = seen_by c.act.new.seat in
    let finds : Finds n (IsAlone s) (seen_by s) (list_of b) = record { begins = t.seen.1; own = t.own; exact = λ a. t.alone a.0 a.1 } in
    let r : Result Answer NoMemory = Err c.in_err-answer.field-0.0 in
    at_err (Finds n (IsAlone s) (seen_by s) new) c.from_residual-in_err-answer.result
    (took_err n _ t.seat.1.0 (IsAlone s) (seen_by s) (seen_by c.begin-turn.new.seat) (list_of b) finds t.seen.0 r new c.in_err-answer.ensures.err)
