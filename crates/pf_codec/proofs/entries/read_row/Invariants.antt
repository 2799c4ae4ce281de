use Rattle.std.proofs.Common.{◌≡◌, ◌-◌}
use Rattle.pf_codec.specs.Parsers.{row_at}
use Rattle.pf_codec.specs.Reading.{entry_at}
use Rattle.pf_codec.proofs.Rows.{with_front}
use Rattle.pf_codec.proofs.entries.read_row.Given as goal

abbrev pub invariant-loop : goal.invariant-loop
invariant-loop l = with_front l.entries.items (row_at (entry_at l.bounds) (l.count - l.counter) l.reader) ≡ row_at (entry_at l.bounds) l.count l.fn.reader
