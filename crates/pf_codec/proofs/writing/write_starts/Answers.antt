use Rattle.std.proofs.Common.{◌∙◌, arith}
use Rattle.std.proofs.lemmas.Result.{on_ok_weaker}
use Rattle.pf_codec.proofs.Joins.{start_count, starts_join}
use Rattle.pf_codec.proofs.writing.write_starts.Goals as goal

pub overflow_cast-rows : goal.overflow_cast-rows
overflow_cast-rows c = let count = start_count c.as_slice-rows.result.now c.args.starts.now c.as_slice-rows.ensures.entries in omega (arith, count, c.requires)

pub returns : goal.returns
returns c =
    on_ok_weaker c.write_start_row.result
    (λ e. e ∙ starts_join c.args.writer.now c.u16.new.self c.as_slice-rows.result.now c.args.starts.now c.as_slice-rows.ensures.entries c.in_ok-u16.ensures) c.write_start_row.ensures
