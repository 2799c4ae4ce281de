use Rattle.std.proofs.Common.{◌≡◌, ◌-◌}
use Rattle.std.specs.Int.{w64}
use Rattle.pf_codec.specs.Parsers.{number_at, row_at}
use Rattle.pf_codec.proofs.Rows.{with_front}
use Rattle.pf_codec.proofs.tables.read_slot_row.Given as goal

abbrev pub invariant-loop : goal.invariant-loop
invariant-loop l = with_front l.slots.items (row_at (number_at w64) (l.count - l.counter) l.reader) ≡ row_at (number_at w64) l.count l.fn.reader
