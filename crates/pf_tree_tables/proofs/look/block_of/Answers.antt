use Rattle.std.proofs.Common.{refl, ◌∙◌}
use Rattle.pf_tree_tables.proofs.Looks.{block_found, no_block}
use Rattle.pf_tree_tables.proofs.look.block_of.Goals as goal

pub returns-in-Some-clause-block : goal.returns-in-Some-clause-block
returns-in-Some-clause-block c = block_found _ (λ a b. refl) c.args.tags.now c.args.inode c.args.index c.in-Some.block c.in-Some.ensures

pub returns-in-None-clause-block : goal.returns-in-None-clause-block
returns-in-None-clause-block c = c.len.ensures ∙ no_block _ (λ a b. refl) c.args.tags.now c.args.inode c.args.index c.in-None.ensures
