use Rattle.std.proofs.Common.{sym, ◌∙◌, ap, List, ℕ, ◌++◌, ◌∷◌, []}
use Rattle.pf_tree_tables.specs.Tables.{blocks_of}
use Rattle.pf_tree_tables.proofs.Looks.{blocks_more}
use Rattle.pf_tree_tables.proofs.look.blocks_of.Goals as goal

pub loop-index-preserved : goal.loop-index-preserved
loop-index-preserved c =
    c.in_ok-push.ensures.items
    ∙ ap (λ (xs : List ℕ). xs ++ c.block_of.result ∷ []) c.loop-index.invariant
    ∙ ap (λ (b : ℕ). blocks_of c.args.tags.now c.args.inode c.loop-index.index ++ b ∷ []) c.block_of.ensures.block
    ∙ sym (blocks_more c.args.tags.now c.args.inode c.loop-index.index)
