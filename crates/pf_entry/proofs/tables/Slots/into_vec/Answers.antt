use Rattle.std.proofs.Common.{sym, ap, ◌∙◌}
use Rattle.std.specs.FinMap
use Rattle.pf_entry.proofs.MapLists.{items_are}
use Rattle.pf_entry.proofs.tables.Slots.into_vec.Goals as goal

pub returns-clause-items : goal.returns-clause-items
returns-clause-items c = ap FinMap.keys (sym c.self.view_is) ∙ items_are _ c.self.invariant
