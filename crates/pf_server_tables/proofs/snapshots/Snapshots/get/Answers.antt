use Rattle.std.proofs.Common.{rules, sym, ap, ◌∙◌}
use Rattle.std.specs.FinMap as finite
use Rattle.std.proofs.lemmas.List.Sorted.{answers_always}
use Rattle.pf_server_tables.proofs.MarkTables.{mark_of, got, got_none}
use Rattle.pf_server_tables.proofs.snapshots.Snapshots.get.Goals as goal

pub returns-in-Ok : goal.returns-in-Ok
returns-in-Ok c =
    let found = c.in-Ok.ensures.position mark_of (answers_always _ _ _ (λ f a r g called. search rules)) in
    ap (λ m. finite.get m c.args.mark) (sym c.self.view_is)
    ∙ got c.deref.result.now c.self.inside.rows.items c.deref.ensures.value c.args.mark c.in-Ok.place c.index.result.now c.self.invariant.ascending c.in-Ok.ensures.bound found c.index.ensures

pub returns-in-Err : goal.returns-in-Err
returns-in-Err c =
    let found = c.in-Err.ensures.position mark_of (answers_always _ _ _ (λ f a r g called. search rules)) in
    ap (λ m. finite.get m c.args.mark) (sym c.self.view_is)
    ∙ got_none c.deref.result.now c.self.inside.rows.items c.deref.ensures.value c.args.mark c.in-Err.field-0 c.self.invariant.ascending c.in-Err.ensures.bound found
