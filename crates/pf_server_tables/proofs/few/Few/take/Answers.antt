use Rattle.std.proofs.Common.{Err, Ok, sym, ap, subst, ◌∙◌}
use Rattle.std.specs.FinMap as finite
use Rattle.pf_entry.specs.Tables.{ascends}
use Rattle.pf_holes.specs.SlotSets.{IsPlaceIn}
use Rattle.pf_server_tables.specs.FewTables.{few_of, slots_in}
use Rattle.pf_server_tables.proofs.Fews.{ascends-without, got, got_none, none_taken, taken}
use Rattle.pf_server_tables.proofs.few.Few.take.Goals as goal

pub returns-in_default : goal.returns-in_default
returns-in_default g c =
    let rows = c.self.inside.rows.items in
    let slot = c.args.slot in
    let place = subst (λ rows. IsPlaceIn (slots_in rows) slot (Err c.in_default.field-0)) c.deref.ensures.value c.in_default.ensures in
    record {
      taken = ap (λ m. finite.get m slot) (sym c.self.view_is) ∙ got_none rows slot c.in_default.field-0 place;
      rest = sym c.self.view_is ∙ none_taken rows slot c.in_default.field-0 place ∙ ap (λ m. finite.remove m slot) c.self.view_is;
    }

pub returns : goal.returns
returns g c =
    let rows = c.self.inside.rows.items in
    let slot = c.args.slot in
    let place = subst (λ rows. IsPlaceIn (slots_in rows) slot (Ok c.in-Ok.place)) c.deref.ensures.value c.in-Ok.ensures in
    record {
      taken = ap (λ m. finite.get m slot) (sym c.self.view_is) ∙ got rows slot c.in-Ok.place c.remove-value.result c.self.invariant place c.remove-value.ensures.value;
      rest = ap few_of c.remove-value.ensures.items ∙ taken rows slot c.in-Ok.place c.self.invariant place ∙ ap (λ m. finite.remove m slot) c.self.view_is;
    }

pub invariant_of-self : goal.invariant_of-self
invariant_of-self g c =
    let rows = c.self.inside.rows.items in
    let place = subst (λ rows. IsPlaceIn (slots_in rows) c.args.slot (Ok c.in-Ok.place)) c.deref.ensures.value c.in-Ok.ensures in
    ap (λ rows. ascends (slots_in rows)) c.remove-value.ensures.items ∙ ascends-without rows c.args.slot c.in-Ok.place c.self.invariant place
