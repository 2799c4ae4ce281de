use Rattle.std.proofs.Common.{◌≡◌, ◌-◌}
use Rattle.pf_codec.specs.Parsers.{byte_at, row_at}
use Rattle.pf_codec.proofs.Rows.{with_front}
use Rattle.pf_txn.proofs.reading.read_bytes.Given as goal

abbrev pub invariant-loop : goal.invariant-loop
invariant-loop l = with_front l.bytes.items (row_at byte_at (l.count - l.counter) l.reader) ≡ row_at byte_at l.count l.fn.reader
