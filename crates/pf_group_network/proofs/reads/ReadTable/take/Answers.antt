use Rattle.std.proofs.Common.{is_some, slice_get, slice_set, arith, sym, ap, subst, ◌∙◌}
use Rattle.std.specs.Prelude.{vec_capacity, vec_len}
use Rattle.std.proofs.lemmas.Option.{same_Some, slice_get_read, slice_get_within}
use Rattle.pf_group_network.specs.declared.kept.Reading.{Reading}
use Rattle.pf_group_network.specs.Readings.{without_answer}
use Rattle.pf_group_network.specs.Unread.{AreListed, ReadingsAre, reading_answer, without_answer_in}
use Rattle.pf_group_network.proofs.Unread.{answer_there, keeps_all, nothing_is, takes_one}
use Rattle.pf_group_network.proofs.reads.ReadTable.take.Goals as goal

pub returns-then-not-has_answer_at-clause-answer : goal.returns-then-not-has_answer_at-clause-answer
returns-then-not-has_answer_at-clause-answer c =
    let items = c.deref.ensures.value ∙ ap (λ (r : ReadingsAre). r.items) c.self.view_is in
    nothing_is (reading_answer (slice_get c.args.self.now.items c.args.number))
    (ap (λ xs. is_some (reading_answer (slice_get xs c.args.number))) (sym items) ∙ sym c.has_answer_at.ensures ∙ c.if-not-has_answer_at.true)

pub returns-then-not-has_answer_at-clause-left : goal.returns-then-not-has_answer_at-clause-left
returns-then-not-has_answer_at-clause-left c =
    let items = c.deref.ensures.value ∙ ap (λ (r : ReadingsAre). r.items) c.self.view_is in
    keeps_all c.args.self.now.items c.args.number
    (ap (λ xs. is_some (reading_answer (slice_get xs c.args.number))) (sym items) ∙ sym c.has_answer_at.ensures ∙ c.if-not-has_answer_at.true)

pub index_mut-requires : goal.index_mut-requires
index_mut-requires c =
    let i = c.self.inside.list in
    let has = ap (λ xs. is_some (reading_answer (slice_get xs c.args.number))) (sym c.deref.ensures.value) ∙ sym c.has_answer_at.ensures ∙ c.if-not-has_answer_at.false in
    let at = answer_there i.items c.args.number has in
    omega (arith, slice_get_within i.items c.args.number _ at.1, i.ok.0)

pub returns-clause-answer : goal.returns-clause-answer
returns-clause-answer c =
    let i = c.self.inside.list in
    let number = c.args.number in
    let has = ap (λ xs. is_some (reading_answer (slice_get xs number))) (sym c.deref.ensures.value) ∙ sym c.has_answer_at.ensures ∙ c.if-not-has_answer_at.false in
    let at = answer_there i.items number has in
    let was = slice_get_read i.items i.len number c.index_mut.result.now i.ok.0 (omega (arith, slice_get_within i.items number _ at.1, i.ok.0)) c.index_mut.ensures.value in
    c.take-answer.ensures.answer ∙ sym (ap reading_answer was) ∙ ap (λ (r : ReadingsAre). reading_answer (slice_get r.items number)) c.self.view_is

pub returns-clause-left : goal.returns-clause-left
returns-clause-left c =
    let i = c.self.inside.list in
    let number = c.args.number in
    let has = ap (λ xs. is_some (reading_answer (slice_get xs number))) (sym c.deref.ensures.value) ∙ sym c.has_answer_at.ensures ∙ c.if-not-has_answer_at.false in
    let at = answer_there i.items number has in
    let was = slice_get_read i.items i.len number c.index_mut.result.now i.ok.0 (omega (arith, slice_get_within i.items number _ at.1, i.ok.0)) c.index_mut.ensures.value in
    ap (slice_set i.items number) c.take-answer.ensures.left ∙ sym (ap (without_answer_in i.items number) was)
    ∙ ap (λ (r : ReadingsAre). without_answer_in r.items number (slice_get r.items number)) c.self.view_is

pub invariant_of-self : goal.invariant_of-self
invariant_of-self c =
    let i = c.self.inside in
    let number = c.args.number in
    let has = ap (λ xs. is_some (reading_answer (slice_get xs number))) (sym c.deref.ensures.value) ∙ sym c.has_answer_at.ensures ∙ c.if-not-has_answer_at.false in
    let at = answer_there i.list.items number has in
    let was = slice_get_read i.list.items i.list.len number c.index_mut.result.now i.list.ok.0 (omega (arith, slice_get_within i.list.items number _ at.1, i.list.ok.0)) c.index_mut.ensures.value in
    let its = same_Some c.index_mut.result.now _ (sym was ∙ at.1) in
    let now = c.take-answer.ensures.left ∙ ap without_answer its in
    let unread = c.forget_taken.new.unread in
    subst (λ (r : Reading). AreListed (slice_set i.list.items number r) unread.items (vec_len unread) (vec_capacity unread)) (sym now)
    (takes_one i.list.items i.unread.items (vec_len i.unread) (vec_capacity i.unread) c.self.invariant number at.0 at.1 unread.items (vec_len unread) (vec_capacity unread)
    (λ n other there. c.forget_taken.ensures.among n other (ap (λ xs. slice_get xs n) (c.deref-2.ensures.value ∙ ap (slice_set i.list.items number) now) ∙ there)) c.forget_taken.ensures.len c.forget_taken.ensures.capacity)
