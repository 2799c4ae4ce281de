use Rattle.std.proofs.Common.{sym, ap, ◌∙◌}
use Rattle.std.specs.FinMap
use Rattle.pf_entry.proofs.MapLists.{log_rows}
use Rattle.pf_entry.proofs.entries.EntryMap.into_vec.Goals as goal

pub returns-clause-entries : goal.returns-clause-entries
returns-clause-entries c = ap FinMap.entries (sym c.self.view_is) ∙ log_rows _ c.self.invariant
