use Rattle.std.proofs.Common.{◌≡◌, ◌<◌, ℕ}
use Rattle.pf_tree_tables.specs.Tables.{IsAscending, names_in}
use Rattle.pf_tree.specs.Listings.{uplinks}
use Rattle.pf_tree.proofs.listing.uplinks_of.Given as goal

abbrev pub invariant-loop-directory : goal.invariant-loop-directory
invariant-loop-directory l = record {
  links : l.links.items ≡ uplinks l.tables.entries l.directory;
  ascending : (d : ℕ) → d < l.directory → IsAscending (names_in l.tables.entries d);
}
