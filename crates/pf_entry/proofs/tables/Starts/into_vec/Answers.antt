use Rattle.std.proofs.Common.{sym, ap, ◌∙◌}
use Rattle.std.specs.FinMap
use Rattle.pf_entry.proofs.MapLists.{start_rows_are}
use Rattle.pf_entry.proofs.tables.Starts.into_vec.Goals as goal

pub returns-clause-entries : goal.returns-clause-entries
returns-clause-entries c = ap FinMap.entries (sym c.self.view_is) ∙ start_rows_are _ c.self.invariant
