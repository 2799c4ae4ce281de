use Rattle.std.proofs.Common.{length, Some, slice_get, arith, sym, ap, ◌∙◌}
use Rattle.std.specs.Prelude.{vec_capacity, vec_len}
use Rattle.std.proofs.lemmas.Option.{slice_get_read}
use Rattle.pf_group_network.specs.Keeping.{with_answer_in}
use Rattle.pf_group_network.specs.Unread.{ReadingsAre}
use Rattle.pf_group_network.proofs.Unread.{answers_one, keeps_answer, one_waits, waiting_is}
use Rattle.pf_group_network.proofs.reads.ReadTable.answer.Goals as goal

pub returns-then-not-waits : goal.returns-then-not-waits
returns-then-not-waits c =
    let i = c.self.inside in
    let items = ap (λ (r : ReadingsAre). r.items) c.self.view_is in
    let at = slice_get_read i.list.items i.list.len c.args.number c.index.result.now i.list.ok.0 (omega (arith, c.requires, ap length items, i.list.ok.0)) c.index.ensures in
    rw (← items) (keeps_answer i.list.items c.args.number c.args.sectors c.index.result.now at (sym c.waits.ensures ∙ c.if-not-waits.true))

pub put-requires : goal.put-requires
put-requires c =
    let i = c.self.inside in
    let items = ap (λ (r : ReadingsAre). r.items) c.self.view_is in
    let at = slice_get_read i.list.items i.list.len c.args.number c.index.result.now i.list.ok.0 (omega (arith, c.requires, ap length items, i.list.ok.0)) c.index.ensures in
    let waiting = at ∙ ap Some (waiting_is c.index.result.now (sym c.waits.ensures ∙ c.if-not-waits.false)) in
    omega (arith, one_waits i.list.items c.args.number waiting, c.self.invariant.room)

pub invariant_of-self : goal.invariant_of-self
invariant_of-self c =
    let i = c.self.inside in
    let items = ap (λ (r : ReadingsAre). r.items) c.self.view_is in
    let at = slice_get_read i.list.items i.list.len c.args.number c.index.result.now i.list.ok.0 (omega (arith, c.requires, ap length items, i.list.ok.0)) c.index.ensures in
    let waiting = at ∙ ap Some (waiting_is c.index.result.now (sym c.waits.ensures ∙ c.if-not-waits.false)) in
    rw (c.put.ensures.items, c.put.ensures.len)
    (answers_one i.list.items i.unread.items (vec_len i.unread) (vec_capacity i.unread) c.self.invariant c.args.number c.args.sectors waiting (vec_capacity c.put.new.list) c.put.ensures.capacity)

pub returns : goal.returns
returns c =
    let i = c.self.inside in
    let items = ap (λ (r : ReadingsAre). r.items) c.self.view_is in
    let at = slice_get_read i.list.items i.list.len c.args.number c.index.result.now i.list.ok.0 (omega (arith, c.requires, ap length items, i.list.ok.0)) c.index.ensures in
    let waiting = at ∙ ap Some (waiting_is c.index.result.now (sym c.waits.ensures ∙ c.if-not-waits.false)) in
    sym (ap (with_answer_in i.list.items c.args.number c.args.sectors) waiting) ∙ ap (λ xs. with_answer_in xs c.args.number c.args.sectors (slice_get xs c.args.number)) items
