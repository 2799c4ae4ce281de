use Rattle.std.proofs.Common.{◌+◌, sym, ap, ◌∙◌}
use Rattle.pf_base.specs.declared.asks.Reply.TheVariants.{Written}
use Rattle.pf_file_calls.specs.declared.moving.DataMoving.{DataMoving}
use Rattle.pf_file_calls.specs.Moving.{fills, moves_on}
use Rattle.pf_file_calls.proofs.Steps.{ok_along, fills_more}
use Rattle.pf_file_calls.proofs.moving.goes_on.Goals as goal

pub returns-in-Stores : goal.returns-in-Stores
returns-in-Stores c =
    let t = c.args.tree.now.tables in
    ok_along c.fills.result
    (fills c.args.volume.now t c.in-Stores.fill (c.in-Stores.index + 1))
    (moves_on c.args.volume.now t c.args.moving.now Written)
    (fills_more c.args.volume.now t c.in-Stores.fill c.in-Stores.index ∙ ap (λ (m : DataMoving). moves_on c.args.volume.now t m Written) (sym c.in-Stores.is))
    c.fills.ensures
