use Rattle.std.proofs.Common.{◌≡◌, ◌++◌, take}
use Rattle.std.specs.List.{flat_map}
use Rattle.pf_codec.specs.Spelling.{entry_bytes}
use Rattle.pf_codec.proofs.writing.write_row.Given as goal

abbrev pub invariant-loop-entry : goal.invariant-loop-entry
invariant-loop-entry l = l.writer ≡ l.fn.writer ++ flat_map entry_bytes (take l.entry-index l.entries)
