use Rattle.std.proofs.Common.{◌≡◌, ◌-◌}
use Rattle.pf_codec.specs.Parsers.{row_at}
use Rattle.pf_codec.specs.Reading.{start_at}
use Rattle.pf_codec.proofs.Rows.{with_front}
use Rattle.pf_codec.proofs.tables.read_start_row.Given as goal

abbrev pub invariant-loop : goal.invariant-loop
invariant-loop l = with_front l.rows.items (row_at start_at (l.count - l.counter) l.reader) ≡ row_at start_at l.count l.fn.reader
