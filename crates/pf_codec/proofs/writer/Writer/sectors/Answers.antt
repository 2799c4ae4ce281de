use Rattle.std.proofs.Common.{◌*◌, ◌++◌, replicate, append_assoc, sym, ap, ◌∙◌}
use Rattle.std.proofs.lemmas.Result.{on_ok_weaker}
use Rattle.pf_codec.specs.Spelling.{sectors_in_row}
use Rattle.pf_codec.proofs.ThinRows.{thin_in_row}
use Rattle.pf_codec.proofs.writer.Writer.sectors.Goals as goal

pub returns : goal.returns
returns c =
    let before = c.args.self.now in
    let written = c.parts-zeros.result.0.now in
    let count = c.parts-zeros.result.1 in
    on_ok_weaker c.zeros.result
    (λ e. e ∙ ap (λ bytes. bytes ++ replicate (512 * count) 0) (c.in_ok-all.ensures ∙ ap (λ bytes. before ++ bytes) c.as_flattened.ensures.value)
    ∙ append_assoc before (sectors_in_row written) (replicate (512 * count) 0)
    ∙ ap (λ bytes. before ++ bytes) (thin_in_row written count ∙ ap sectors_in_row (sym c.parts-zeros.ensures)))
    c.zeros.ensures
