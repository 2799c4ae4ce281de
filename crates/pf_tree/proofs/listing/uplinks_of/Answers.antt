use Rattle.std.proofs.Common.{◌∙◌, ap, sym, subst, inl, inr, Option, List, ℕ, arith}
use Rattle.std.proofs.lemmas.Bool.{cases_eq}
use Rattle.pf_tree_tables.specs.declared.tables.DirectoryEntry.{DirectoryEntry}
use Rattle.pf_tree_tables.specs.Tables.{IsAscending, names_in}
use Rattle.pf_tree.specs.declared.listing.Uplink.{Uplink}
use Rattle.pf_tree.specs.Listings.{noted, uplinks}
use Rattle.pf_tree.proofs.Listings.{uplinks_none, uplinks_more}
use Rattle.pf_tree.proofs.listing.uplinks_of.Goals as goal

pub loop-directory-init : goal.loop-directory-init
loop-directory-init c = record {
  links = c.in_ok-links.ensures ∙ sym (uplinks_none c.args.tables.now.entries);
  ascending = λ d low. absurd (omega (arith, low));
}

pub loop-directory-preserved : goal.loop-directory-preserved
loop-directory-preserved c =
    let es = c.args.tables.now.entries in
    let k = c.loop-directory.directory in
    record {
      links =
          c.in_ok-note.ensures
          ∙ ap (λ (rows : List DirectoryEntry). noted c.loop-directory.links.items k rows) c.names_in.ensures.names
          ∙ ap (λ (ls : List (Option Uplink)). noted ls k (names_in es k)) c.loop-directory.invariant.links
          ∙ sym (uplinks_more es k);
      ascending = λ d low. elim (cases_eq d k) [
        | inl same ↦ subst (λ (j : ℕ). IsAscending (names_in es j)) (sym same) (subst IsAscending c.names_in.ensures.names c.names_in.ensures.ascending)
        | inr apart ↦ c.loop-directory.invariant.ascending d (omega (arith, low, apart))
      ];
    }

pub returns-clause-links : goal.returns-clause-links
returns-clause-links c = c.loop-directory.invariant.links ∙ ap (uplinks c.args.tables.now.entries) (omega arith)
