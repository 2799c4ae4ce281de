use Rattle.std.proofs.Common.{sym, ap, ◌∙◌}
use Rattle.std.specs.FinMap
use Rattle.pf_entry.specs.StartMaps.{start_rows}
use Rattle.pf_entry.proofs.MapLists.{start_rows_are}
use Rattle.pf_entry.proofs.tables.Starts.as_slice.Goals as goal

pub returns-clause-entries : goal.returns-clause-entries
returns-clause-entries c = ap FinMap.entries (sym c.self.view_is) ∙ start_rows_are _ c.self.invariant ∙ ap start_rows (sym c.deref.ensures.value)
