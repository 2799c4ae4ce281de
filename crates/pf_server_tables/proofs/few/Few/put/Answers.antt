use Rattle.std.proofs.Common.{Err, Ok, ap, subst, ◌∙◌}
use Rattle.std.specs.FinMap as finite
use Rattle.pf_entry.specs.Tables.{ascends}
use Rattle.pf_holes.specs.SlotSets.{IsPlaceIn}
use Rattle.pf_server_tables.specs.FewTables.{few_of, slots_in}
use Rattle.pf_server_tables.proofs.Fews.{ascends-between, ascends-over, put_between, put_over}
use Rattle.pf_server_tables.proofs.few.Few.put.Goals as goal

pub returns-in-Ok-clause-ok : goal.returns-in-Ok-clause-ok
returns-in-Ok-clause-ok g c =
    let rows = c.self.inside.rows.items in
    let slot = c.args.slot in
    let place = subst (λ rows. IsPlaceIn (slots_in rows) slot (Ok c.in-Ok.place)) c.deref.ensures.value c.in-Ok.ensures in
    put_over rows slot c.in-Ok.place c.index_mut.result.now c.args.value c.self.invariant place c.index_mut.ensures.value ∙ ap (λ m. finite.insert m slot c.args.value) c.self.view_is

pub returns-in_ok-insert-in-Err-clause-ok : goal.returns-in_ok-insert-in-Err-clause-ok
returns-in_ok-insert-in-Err-clause-ok g c =
    let rows = c.self.inside.rows.items in
    let slot = c.args.slot in
    let place = subst (λ rows. IsPlaceIn (slots_in rows) slot (Err c.in-Err.place)) c.deref.ensures.value c.in-Err.ensures in
    ap few_of c.in_ok-insert-in-Err.ensures.items ∙ put_between rows slot c.in-Err.place c.args.value place ∙ ap (λ m. finite.insert m slot c.args.value) c.self.view_is

pub invariant_of-self : goal.invariant_of-self
invariant_of-self g c =
    let rows = c.self.inside.rows.items in
    let place = subst (λ rows. IsPlaceIn (slots_in rows) c.args.slot (Ok c.in-Ok.place)) c.deref.ensures.value c.in-Ok.ensures in
    ascends-over rows c.args.slot c.in-Ok.place c.index_mut.result.now c.args.value c.self.invariant place c.index_mut.ensures.value

pub invariant_of-self-in-Continue-1 : goal.invariant_of-self-in-Continue-1
invariant_of-self-in-Continue-1 g c =
    let rows = c.self.inside.rows.items in
    let place = subst (λ rows. IsPlaceIn (slots_in rows) c.args.slot (Err c.in-Err.place)) c.deref.ensures.value c.in-Err.ensures in
    ap (λ rows. ascends (slots_in rows)) c.in_ok-insert-in-Err.ensures.items ∙ ascends-between rows c.args.slot c.in-Err.place c.args.value c.self.invariant place
