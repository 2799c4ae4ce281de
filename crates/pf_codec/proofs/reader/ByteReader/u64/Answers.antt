use Rattle.std.specs.Int.{w64}
use Rattle.std.proofs.lemmas.Result.{err_from_is_err_and}
use Rattle.pf_codec.proofs.Fields.{number_read, no_number}
use Rattle.pf_codec.proofs.reader.ByteReader.u64.Goals as goal

pub returns-in_err-field : goal.returns-in_err-field
returns-in_err-field c =
    let p = err_from_is_err_and c.from_residual.result c.from_residual.ensures.1 in
    rw (p.1, p.2) (no_number w64 _ _ c.in_err-field.ensures)

pub returns : goal.returns
returns c = rw c.from_be_bytes.ensures (number_read w64 _ _ _ c.in_ok-field.ensures)
