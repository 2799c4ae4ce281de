use Rattle.std.proofs.Common.{◌≡◌, ◌-◌}
use Rattle.pf_codec.specs.Parsers.{row_at}
use Rattle.pf_codec.specs.Reading.{name_at}
use Rattle.pf_codec.proofs.Rows.{with_front}
use Rattle.pf_codec.proofs.entries.read_names.Given as goal

abbrev pub invariant-loop : goal.invariant-loop
invariant-loop l = with_front l.names (row_at name_at (l.count - l.counter) l.reader) ≡ row_at name_at l.count l.fn.reader
