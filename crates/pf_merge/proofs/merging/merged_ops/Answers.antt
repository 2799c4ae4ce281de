use Rattle.std.proofs.Common.{◌+◌, ◌∙◌}
use Rattle.std.specs.Option.{option_copied}
use Rattle.pf_merge.proofs.MergeResults.{op_is, one_made}
use Rattle.pf_merge.proofs.merging.merged_ops.Goals as goal

pub loop-slot-preserved : goal.loop-slot-preserved
loop-slot-preserved c =
    let base = c.args.base in
    let own = c.args.own.now in
    let other = c.args.other.now in
    let slot = c.loop-slot.slot in
    let mine = c.next_at.ensures own.log c.loop-slot.invariant.own_rest in
    let theirs = c.next_at-in-loop-slot.ensures other.log c.loop-slot.invariant.other_rest in
    one_made base own other slot c.loop-slot.mine.now c.loop-slot.theirs.now c.next_at.result.1.now c.next_at-in-loop-slot.result.1.now
    c.loop-slot.ops.items c.push.new.self.items c.in_ok-op_at.field-0 c.loop-slot.invariant c.loop-slot.auto.slot mine.1 theirs.1
    (c.in_ok-op_at.ensures ∙ op_is base own other (slot + 1) (option_copied c.next_at.result.0) (option_copied c.next_at-in-loop-slot.result.0) mine.0 theirs.0)
    c.in_ok-push.ensures.items
