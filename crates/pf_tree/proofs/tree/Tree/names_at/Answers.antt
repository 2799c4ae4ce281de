use Rattle.std.proofs.Common.{List, subst, sym, ◌∙◌}
use Rattle.pf_tree_tables.specs.Names.{NamesAreInOrder, Name}
use Rattle.pf_tree_tables.proofs.AscendingNames.{names_in_order}
use Rattle.pf_tree.proofs.tree.Tree.names_at.Goals as goal

pub returns-clause-order : goal.returns-clause-order
returns-clause-order c =
    subst (λ (names : List Name). NamesAreInOrder names) (sym (c.new.ensures ∙ c.in_ok-names.ensures)) (names_in_order c.names_in-rows.result.now c.names_in-rows.ensures.ascending)
