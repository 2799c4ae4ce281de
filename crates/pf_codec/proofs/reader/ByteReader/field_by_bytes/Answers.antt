use Rattle.std.proofs.Common.{◌-◌, ◌+◌, ap, ◌∙◌, arith}
use Rattle.std.proofs.lemmas.List.{length-set, take_more_set}
use Rattle.std.proofs.lemmas.Result.{err_from_is_err_and}
use Rattle.pf_codec.specs.Parsers.{byte_at, row_at}
use Rattle.pf_codec.proofs.Fields.{field_read, no_field}
use Rattle.pf_codec.proofs.Rows.{with_front, goes_on, ends, is_done}
use Rattle.pf_codec.proofs.reader.ByteReader.field_by_bytes.Goals as goal

pub returns-in_err-byte : goal.returns-in_err-byte
returns-in_err-byte g c =
    let p = err_from_is_err_and c.from_residual.result c.from_residual.ensures.1 in
    rw (p.1, p.2) (no_field g.row.N c.args.self.now c.in_err-byte.field-0.0
    (ends byte_at c.in_err-byte.field-0.0 _ g.row.N c.bytes.k c.bytes.self (row_at byte_at g.row.N c.args.self.now) (omega arith) c.in_err-byte.ensures c.bytes.invariant.row))

pub bytes-preserved : goal.bytes-preserved
bytes-preserved g c = record {
  len = length-set _ _ _ ∙ c.bytes.invariant.len;
  row = ap (λ front. with_front front (row_at byte_at (g.row.N - (c.bytes.k + 1)) c.u8.new.self)) (take_more_set c.bytes.field c.bytes.k c.in_ok-byte.byte (omega (arith, c.bytes.invariant.len)))
      ∙ goes_on byte_at _ g.row.N c.bytes.k c.bytes.self c.in_ok-byte.byte c.u8.new.self (row_at byte_at g.row.N c.args.self.now) (omega arith) c.in_ok-byte.ensures c.bytes.invariant.row;
}

pub returns : goal.returns
returns g c =
    field_read g.row.N c.bytes.k c.args.self.now c.bytes.field c.bytes.self c.bytes.invariant.len (omega arith)
    (is_done byte_at _ g.row.N c.bytes.k c.bytes.self (row_at byte_at g.row.N c.args.self.now) (omega arith) c.bytes.invariant.row)
