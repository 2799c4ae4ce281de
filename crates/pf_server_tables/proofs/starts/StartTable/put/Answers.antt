use Rattle.std.proofs.Common.{rules, ◌≡◌, ◌<◌, false, arith, sym, ap, ◌∙◌}
use Rattle.std.specs.List.{insert}
use Rattle.std.specs.FinMap as finite
use Rattle.std.proofs.lemmas.Bool.{cond-true, false≢true}
use Rattle.std.proofs.lemmas.List.Sorted.{answers_always}
use Rattle.pf_entry.specs.Records.{add_start}
use Rattle.pf_entry.specs.StartMaps.{starts_of, terms_in}
use Rattle.pf_entry.specs.Tables.{ascends}
use Rattle.pf_server_tables.proofs.StartTables.{term_of, start, in_place, in_gap, absent}
use Rattle.pf_server_tables.proofs.starts.StartTable.put.Goals as goal

pub invariant_of-self : goal.invariant_of-self
invariant_of-self c =
    let found = c.in-Ok.ensures.position term_of (answers_always _ _ _ (λ f a r g called. search rules)) in
    (in_place c.deref.result.now c.self.inside.rows.items c.deref.ensures.value c.args.term c.args.first c.in-Ok.place c.index_mut.result.now c.self.invariant c.in-Ok.ensures.bound found c.index_mut.ensures.value).ascending

pub returns-in-Ok-clause-starts : goal.returns-in-Ok-clause-starts
returns-in-Ok-clause-starts c =
    let found = c.in-Ok.ensures.position term_of (answers_always _ _ _ (λ f a r g called. search rules)) in
    (in_place c.deref.result.now c.self.inside.rows.items c.deref.ensures.value c.args.term c.args.first c.in-Ok.place c.index_mut.result.now c.self.invariant c.in-Ok.ensures.bound found c.index_mut.ensures.value).added
    ∙ ap (λ t. add_start t.starts c.args.term c.args.first) c.self.view_is

pub invariant_of-self-in-Err : goal.invariant_of-self-in-Err
invariant_of-self-in-Err c =
    let rows = c.self.inside.rows.items in
    let found = c.in-Err.ensures.position term_of (answers_always _ _ _ (λ f a r g called. search rules)) in
    let new : finite.contains_key c.args.self.now.starts c.args.term ≡ false =
    ap (λ t. finite.contains_key t.starts c.args.term) (sym c.self.view_is) ∙ absent c.deref.result.now rows c.deref.ensures.value c.args.term c.in-Err.place c.self.invariant c.in-Err.ensures.bound found in
    let room : c.self.inside.rows.len < c.self.inside.rows.cap = omega (arith, c.requires new, ap (λ t. t.spare) c.self.view_is) in
    let items : c.insert.new.self.items ≡ insert rows c.in-Err.place (start c.args.term c.args.first) = c.insert.ensures.items ∙ cond-true _ _ _ (c.insert.ensures.succeeds room) in
    ap (λ xs. ascends (terms_in xs)) items
    ∙ (in_gap c.deref.result.now rows c.deref.ensures.value c.args.term c.args.first c.in-Err.place c.self.invariant c.in-Err.ensures.bound found).ascending

pub returns-in-Err-clause-starts : goal.returns-in-Err-clause-starts
returns-in-Err-clause-starts c =
    let rows = c.self.inside.rows.items in
    let found = c.in-Err.ensures.position term_of (answers_always _ _ _ (λ f a r g called. search rules)) in
    let new : finite.contains_key c.args.self.now.starts c.args.term ≡ false =
    ap (λ t. finite.contains_key t.starts c.args.term) (sym c.self.view_is) ∙ absent c.deref.result.now rows c.deref.ensures.value c.args.term c.in-Err.place c.self.invariant c.in-Err.ensures.bound found in
    let room : c.self.inside.rows.len < c.self.inside.rows.cap = omega (arith, c.requires new, ap (λ t. t.spare) c.self.view_is) in
    let items : c.insert.new.self.items ≡ insert rows c.in-Err.place (start c.args.term c.args.first) = c.insert.ensures.items ∙ cond-true _ _ _ (c.insert.ensures.succeeds room) in
    ap starts_of items
    ∙ (in_gap c.deref.result.now rows c.deref.ensures.value c.args.term c.args.first c.in-Err.place c.self.invariant c.in-Err.ensures.bound found).added
    ∙ ap (λ t. add_start t.starts c.args.term c.args.first) c.self.view_is

pub returns-in-Err-clause-same_room : goal.returns-in-Err-clause-same_room
returns-in-Err-clause-same_room c has =
    let found = c.in-Err.ensures.position term_of (answers_always _ _ _ (λ f a r g called. search rules)) in
    let new : finite.contains_key c.args.self.now.starts c.args.term ≡ false =
    ap (λ t. finite.contains_key t.starts c.args.term) (sym c.self.view_is) ∙ absent c.deref.result.now c.self.inside.rows.items c.deref.ensures.value c.args.term c.in-Err.place c.self.invariant c.in-Err.ensures.bound found in
    absurd (false≢true (sym new ∙ has))
