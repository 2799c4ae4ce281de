use Rattle.std.proofs.Common.{◌≡◌, ◌-◌}
use Rattle.pf_codec.specs.Parsers.{row_at}
use Rattle.pf_codec.specs.Reading.{sector_at}
use Rattle.pf_codec.proofs.Rows.{with_front}
use Rattle.pf_codec.proofs.reader.ByteReader.sectors_by_one.Given as goal

abbrev pub invariant-loop : goal.invariant-loop
invariant-loop l = with_front l.sectors.items (row_at sector_at (l.count - l.counter) l.self) ≡ row_at sector_at l.count l.fn.self
