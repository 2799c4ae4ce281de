use Rattle.std.proofs.Common.{◌++◌, ℕ, List, take, ap, sym, ◌∙◌, ◌+◌, ◌-◌}
use Rattle.pf_tree_tables.specs.Tables.{untagged_from}
use Rattle.pf_tree_tables.proofs.Looks.{free_end, free_next, taken_end, taken_next}
use Rattle.pf_tree_tables.proofs.look.free_blocks.Goals as goal

pub returns-in_default : goal.returns-in_default
returns-in_default c =
    sym (taken_end _ c.loop-taken.blocks.items (untagged_from c.loop-taken.next c.args.tags.now) (free_end _ c.args.tags.now c.loop-taken.next c.in_default.ensures)) ∙ c.loop-taken.invariant

pub loop-taken-preserved : goal.loop-taken-preserved
loop-taken-preserved c =
    ap (λ (xs : List ℕ). xs ++ take (c.args.count - (c.loop-taken.taken + 1)) (untagged_from (c.in-Some.block + 1) c.args.tags.now)) c.in_ok-push.ensures.items
    ∙ taken_next c.args.count c.loop-taken.taken c.loop-taken.blocks.items (untagged_from c.loop-taken.next c.args.tags.now) (untagged_from (c.in-Some.block + 1) c.args.tags.now) c.in-Some.block c.loop-taken-test.true (free_next _ c.args.tags.now c.loop-taken.next c.in-Some.block c.in-Some.ensures)
    ∙ c.loop-taken.invariant
