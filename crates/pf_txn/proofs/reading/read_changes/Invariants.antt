use Rattle.std.proofs.Common.{◌≡◌, ◌-◌}
use Rattle.pf_codec.specs.Parsers.{row_at}
use Rattle.pf_txn.specs.Reading.{change_at}
use Rattle.pf_codec.proofs.Rows.{with_front}
use Rattle.pf_txn.proofs.reading.read_changes.Given as goal

abbrev pub invariant-loop : goal.invariant-loop
invariant-loop l = with_front l.changes.items (row_at change_at (l.count - l.counter) l.reader) ≡ row_at change_at l.count l.fn.reader
