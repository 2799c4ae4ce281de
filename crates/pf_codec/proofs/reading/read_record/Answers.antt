use Rattle.std.proofs.Common.{length, ap, sym, subst, ◌∙◌, arith}
use Rattle.std.proofs.lemmas.Option.{none-some}
use Rattle.pf_codec.specs.Parsers.{AreBytes, Fails}
use Rattle.pf_codec.specs.Reading.{record_in}
use Rattle.pf_codec.proofs.BodyLaws.{read_is_canonical, canonical_is_read, canonical_is_short}
use Rattle.pf_codec.proofs.reading.read_record.Goals as goal

pub returns-then-bytes-gt-LONGEST-clause-none : goal.returns-then-bytes-gt-LONGEST-clause-none
returns-then-bytes-gt-LONGEST-clause-none c = λ r fits canonical of_kind spelled.
    let short = canonical_is_short c.args.format r canonical in
    omega (arith, short, ap length spelled, ap length c.as_slice-bytes.ensures, c.if-bytes-gt-LONGEST.true)

pub returns-then-bytes-gt-LONGEST-clause-only : goal.returns-then-bytes-gt-LONGEST-clause-only
returns-then-bytes-gt-LONGEST-clause-only c = λ r fits canonical of_kind spelled.
    let short = canonical_is_short c.args.format r canonical in
    absurd (omega (arith, short, ap length spelled, ap length c.as_slice-bytes.ensures, c.if-bytes-gt-LONGEST.true))

pub returns-in-Ok-clause-fits : goal.returns-in-Ok-clause-fits
returns-in-Ok-clause-fits c =
    (read_is_canonical c.args.format c.args.kind c.args.payload.now c.in-Ok.record (subst AreBytes c.as_slice-bytes.ensures c.are_bytes.ensures) (omega (arith, ap length c.as_slice-bytes.ensures, c.if-bytes-gt-LONGEST.false))
    (ap (λ b. record_in b c.args.kind c.args.payload.now) (sym c.of_format.ensures) ∙ c.in-Ok.ensures)).3

pub returns-in-Ok-clause-only : goal.returns-in-Ok-clause-only
returns-in-Ok-clause-only c = λ r fits canonical of_kind spelled.
    sym (ap (λ b. record_in b c.args.kind c.args.payload.now) (sym c.of_format.ensures) ∙ c.in-Ok.ensures)
    ∙ canonical_is_read c.args.format c.args.kind c.args.payload.now r fits canonical of_kind spelled

pub returns-in-Err-Malformed-clause-only : goal.returns-in-Err-Malformed-clause-only
returns-in-Err-Malformed-clause-only c = λ r fits canonical of_kind spelled.
    sym (subst (λ f. Fails f (record_in c.of_format.result c.args.kind c.args.payload.now)) c.in-Err-Malformed.field-0-is c.in-Err-Malformed.ensures)
    ∙ ap (λ b. record_in b c.args.kind c.args.payload.now) c.of_format.ensures
    ∙ canonical_is_read c.args.format c.args.kind c.args.payload.now r fits canonical of_kind spelled

pub returns-in-Ok-clause-canonical : goal.returns-in-Ok-clause-canonical
returns-in-Ok-clause-canonical c =
    (read_is_canonical c.args.format c.args.kind c.args.payload.now c.in-Ok.record (subst AreBytes c.as_slice-bytes.ensures c.are_bytes.ensures) (omega (arith, ap length c.as_slice-bytes.ensures, c.if-bytes-gt-LONGEST.false))
    (ap (λ b. record_in b c.args.kind c.args.payload.now) (sym c.of_format.ensures) ∙ c.in-Ok.ensures)).0

pub returns-in-Ok-clause-of_kind : goal.returns-in-Ok-clause-of_kind
returns-in-Ok-clause-of_kind c =
    (read_is_canonical c.args.format c.args.kind c.args.payload.now c.in-Ok.record (subst AreBytes c.as_slice-bytes.ensures c.are_bytes.ensures) (omega (arith, ap length c.as_slice-bytes.ensures, c.if-bytes-gt-LONGEST.false))
    (ap (λ b. record_in b c.args.kind c.args.payload.now) (sym c.of_format.ensures) ∙ c.in-Ok.ensures)).1

pub returns-in-Ok-clause-payload : goal.returns-in-Ok-clause-payload
returns-in-Ok-clause-payload c =
    (read_is_canonical c.args.format c.args.kind c.args.payload.now c.in-Ok.record (subst AreBytes c.as_slice-bytes.ensures c.are_bytes.ensures) (omega (arith, ap length c.as_slice-bytes.ensures, c.if-bytes-gt-LONGEST.false))
    (ap (λ b. record_in b c.args.kind c.args.payload.now) (sym c.of_format.ensures) ∙ c.in-Ok.ensures)).2

pub returns-in-Err-Malformed-clause-none : goal.returns-in-Err-Malformed-clause-none
returns-in-Err-Malformed-clause-none c = λ r fits canonical of_kind spelled.
    none-some r
    (sym (subst (λ f. Fails f (record_in c.of_format.result c.args.kind c.args.payload.now)) c.in-Err-Malformed.field-0-is c.in-Err-Malformed.ensures) ∙ ap (λ b. record_in b c.args.kind c.args.payload.now) c.of_format.ensures
    ∙ canonical_is_read c.args.format c.args.kind c.args.payload.now r fits canonical of_kind spelled)
