use Rattle.std.proofs.Common.{sym, ◌∙◌}
use Rattle.pf_merge.proofs.VoidTests.{void_rows}
use Rattle.pf_merge.proofs.staying.is_void.Goals as goal

pub returns : goal.returns
returns c = c.has_later.ensures ∙ sym (void_rows c.args.starts.now c.args.slot c.args.term c.as_slice.result.now c.as_slice.ensures.ascending c.as_slice.ensures.entries)
