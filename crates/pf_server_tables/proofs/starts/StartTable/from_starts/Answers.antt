use Rattle.std.proofs.Common.{sym, ◌∙◌}
use Rattle.std.specs.FinMap.{same_entries_map}
use Rattle.pf_entry.proofs.MapLists.{start_rows_are}
use Rattle.pf_server_tables.proofs.starts.StartTable.from_starts.Goals as goal

pub returns : goal.returns
returns c = same_entries_map _ _ (start_rows_are c.into_vec.result.items c.into_vec.ensures.ascending ∙ sym c.into_vec.ensures.entries)
