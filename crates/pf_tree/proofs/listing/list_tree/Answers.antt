use Rattle.std.proofs.Common.{◌≡◌, ◌∙◌, ap, subst, sym, rules, List, Option}
use Rattle.std.specs.Ordering.{is_lt, nat_cmp}
use Rattle.std.specs.Cmp.Lexicographic.{slice_cmp}
use Rattle.std.proofs.lemmas.List.Sorted.{answers_always}
use Rattle.pf_tree.specs.declared.listing.Uplink.{Uplink}
use Rattle.pf_tree.specs.Listings.{Lists, in_order, rows_upto}
use Rattle.pf_tree.proofs.Listings.{before, before_ranks, listing_lists}
use Rattle.pf_tree.proofs.Sorts.{stable_sort_is}
use Rattle.pf_tree.proofs.listing.list_tree.Goals as goal

pub returns-clause-rows : goal.returns-clause-rows
returns-clause-rows c =
    let asks = answers_always _ _ _ (λ f a r g called. let e : r ≡ slice_cmp nat_cmp a.0.now.path a.1.0.now.path = search rules in ap is_lt e) in
    stable_sort_is before before_ranks c.in_ok-rows.rows.items c.sort_by.new.self.items
    (c.in_ok-sort_by.ensures.sorted before before_ranks asks) (c.in_ok-sort_by.ensures.stable before before_ranks asks)
    ∙ ap in_order (c.in_ok-rows.ensures ∙ ap (λ (links : List (Option Uplink)). rows_upto c.args.tables.now links 1024) (c.deref.ensures.value ∙ c.in_ok-links.ensures.links))

pub returns-clause-tree : goal.returns-clause-tree
returns-clause-tree c = λ d tree s.
    subst (Lists tree) (sym (returns-clause-rows c)) (listing_lists d c.args.tables.now tree s c.in_ok-links.ensures.ascending)
