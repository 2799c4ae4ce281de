use Rattle.std.proofs.Common.{◌≡◌, ◌-◌, length, take}
use Rattle.pf_codec.specs.Parsers.{byte_at, row_at}
use Rattle.pf_codec.proofs.Rows.{with_front}
use Rattle.pf_codec.proofs.reader.ByteReader.field_by_bytes.Given as goal

abbrev pub invariant-bytes : goal.invariant-bytes
invariant-bytes g l = record {
  len : length l.field ≡ g.row.N;
  row : with_front (take l.k l.field) (row_at byte_at (g.row.N - l.k) l.self) ≡ row_at byte_at g.row.N l.fn.self;
}
