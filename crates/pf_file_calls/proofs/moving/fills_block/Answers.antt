use Rattle.std.proofs.Common.{sym, ◌∙◌}
use Rattle.pf_file_calls.specs.Moving.{stores, fills_block}
use Rattle.pf_file_calls.proofs.Steps.{ok_along, fills_new}
use Rattle.pf_file_calls.proofs.moving.fills_block.Goals as goal

pub returns-then-is_new : goal.returns-then-is_new
returns-then-is_new c =
    ok_along c.stores.result
    (stores c.args.volume.now c.args.block c.args.fill c.args.index c.deref.result.now)
    (fills_block c.args.volume.now c.args.block c.args.fill c.args.index)
    (fills_new c.args.volume.now c.args.block c.args.fill c.args.index c.deref.result.now
    (c.deref.ensures.value ∙ c.in_ok-bytes.ensures)
    (sym c.is_new.ensures ∙ c.if-is_new.true))
    c.stores.ensures
