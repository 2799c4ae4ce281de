use Rattle.std.proofs.Common.{length, ap, sym, ◌∙◌}
use Rattle.std.proofs.lemmas.Bool.{eqb-true, eq-eqb}
use Rattle.std.proofs.lemmas.List.{nil_from_length}
use Rattle.pf_codec.proofs.Fields.{ended}
use Rattle.pf_codec.proofs.reader.ByteReader.is_at_end.Goals as goal

pub returns : goal.returns
returns c =
    let bytes = c.next_bytes.result.0.now in
    let both = ended bytes _ c.args.self.now (c.next_bytes.ensures.same ∙ c.self.view_is) c.next_bytes.ensures.none in
    (λ empty. both.0 (nil_from_length bytes (eqb-true _ _ (sym c.is_empty.ensures ∙ empty))), λ read. c.is_empty.ensures ∙ eq-eqb _ _ (ap length (both.1 read)))
