use Rattle.std.proofs.Common.{List, ◌∙◌, ap, subst, sym}
use Rattle.pf_tree.specs.declared.listing.Listed.{Listed}
use Rattle.pf_tree.specs.Held.{Held, data_of}
use Rattle.pf_tree.specs.Listings.{Lists, listing}
use Rattle.pf_tree.specs.Standing.{TablesStandFor}
use Rattle.pf_tree.proofs.tree.Tree.listing.Goals as goal

pub returns-clause-rows : goal.returns-clause-rows
returns-clause-rows c = c.new.ensures ∙ c.in_ok-rows.ensures.rows ∙ ap (λ (h : Held). listing h.tables) c.self.view_is

pub returns-clause-tree : goal.returns-clause-tree
returns-clause-tree c = λ tree s.
    let tables = c.self.inside.tables in
    let inside = subst (λ (h : Held). TablesStandFor (data_of h.first h.tables) h.tables tree) (sym c.self.view_is) s in
    subst (λ (rows : List Listed). Lists tree rows) (sym c.new.ensures) (c.in_ok-rows.ensures.tree (data_of c.self.inside.first tables) tree inside)
