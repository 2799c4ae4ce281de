use Rattle.std.proofs.Common.{ap, subst, ◌∙◌}
use Rattle.std.specs.FinMap as finite
use Rattle.pf_holes.specs.SlotSets.{IsPlaceIn}
use Rattle.pf_server_tables.specs.FewTables.{slots_in}
use Rattle.pf_server_tables.proofs.Fews.{has_is}
use Rattle.pf_server_tables.proofs.few.Few.has.Goals as goal

pub returns : goal.returns
returns g c =
    c.is_ok.ensures.value
    ∙ has_is c.self.inside.rows.items c.args.slot c.place_of.result c.self.invariant
    (subst (λ rows. IsPlaceIn (slots_in rows) c.args.slot c.place_of.result) c.deref.ensures.value c.place_of.ensures)
    ∙ ap (λ m. finite.contains_key m c.args.slot) c.self.view_is
