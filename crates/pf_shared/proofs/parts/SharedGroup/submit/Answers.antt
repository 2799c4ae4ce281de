use Rattle.std.proofs.Common.{◌≡◌, IsTrue, Result, Err, sym, subst}
use Rattle.pf_base.specs.declared.errors.NoMemory.{NoMemory}
use Rattle.pf_protocol.specs.declared.answers.Answer.{Answer}
use Rattle.pf_protocol.specs.Groups.{Group}
use Rattle.pf_group_rounds.specs.pf_group.specs.declared.event.GroupEvent.TheVariants as asked
use Rattle.pf_group_rounds.specs.pf_group.specs.Readers.{ServerTells}
use Rattle.pf_shared.specs.Behinds.{list_of}
use Rattle.pf_shared.specs.Calls.{Finds}
use Rattle.pf_shared.specs.Seats.{IsAlone, number_of, root_in, seen_by}
use Rattle.pf_shared.specs.Since.{state_by_now}
use Rattle.pf_shared.proofs.LookEntries.{group_is, told_back}
use Rattle.pf_shared.proofs.TakenTurns.{at_err, took_err, took_with}
use Rattle.pf_shared.proofs.parts.SharedGroup.submit.Goals as goal

pub returns-clause-submits : goal.returns-clause-submits
returns-clause-submits g c = let t = c.begin-turn.ensures in let s = c.args.seat.now in let b = c.begin-turn.result.value in let n = number_of s in let root = root_in c.args.self.now in let new = seen_by c.act.new.seat in
    let finds : Finds n (IsAlone s) (seen_by s) (list_of b) = record { begins = t.seen.1; own = t.own; exact = λ a. t.alone a.0 a.1 } in
    let mid = seen_by c.begin-turn.new.seat in
    let P : Group → Type 0 = λ x. IsTrue root.told → ServerTells x c.args.server c.term_of-term.result (λ term s. term ≡ s.durable.term) in
    let here : P (state_by_now root mid) = subst (λ l. P (state_by_now root l)) (sym t.seen.0) (subst P (group_is root n _ t.seat.1.0 (IsAlone s) (seen_by s) b t.root finds new) (λ told. c.term_of-term.ensures (told_back root n _ t.seat.1.0 (IsAlone s) (seen_by s) b t.root finds new told))) in
    let w = took_with n _ t.seat.1.0 (IsAlone s) (seen_by s) mid (list_of b) finds t.seen.0 root P (asked.Submit c.args.server c.args.range c.args.payload) c.in_ok-answer.answer new c.in_ok-answer.ensures.step here in
    (w.1.0, w.1.1)

pub returns-in_err-answer-clause-err : goal.returns-in_err-answer-clause-err
returns-in_err-answer-clause-err g c = let t = c.begin-turn.ensures in let s = c.args.seat.now in let b = c.begin-turn.result.value in let n = number_of s in let new = seen_by c.act.new.seat in
    let finds : Finds n (IsAlone s) (seen_by s) (list_of b) = record { begins = t.seen.1; own = t.own; exact = λ a. t.alone a.0 a.1 } in
    let r : Result Answer NoMemory = Err c.in_err-answer.field-0.0 in
    at_err (Finds n (IsAlone s) (seen_by s) new) c.from_residual.result
    (took_err n _ t.seat.1.0 (IsAlone s) (seen_by s) (seen_by c.begin-turn.new.seat) (list_of b) finds t.seen.0 r new c.in_err-answer.ensures.err)
