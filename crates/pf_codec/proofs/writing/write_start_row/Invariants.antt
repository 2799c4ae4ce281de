use Rattle.std.proofs.Common.{◌≡◌, ◌++◌, take}
use Rattle.std.specs.List.{flat_map}
use Rattle.pf_entry.specs.StartMaps.{start_rows}
use Rattle.pf_codec.specs.Spelling.{start_bytes}
use Rattle.pf_codec.proofs.writing.write_start_row.Given as goal

abbrev pub invariant-loop-row : goal.invariant-loop-row
invariant-loop-row l = l.writer ≡ l.fn.writer ++ flat_map start_bytes (start_rows (take l.row-index l.rows))
