use Rattle.std.proofs.Common.{rules, ◌∙◌, ap, not, List, subst, sym}
use Rattle.std.specs.Str.{bytes_eq}
use Rattle.std.proofs.lemmas.Fn.{filter_same}
use Rattle.pf_tree_tables.specs.declared.tables.DirectoryEntry.{DirectoryEntry}
use Rattle.pf_tree_tables.specs.Tables.{other_entries}
use Rattle.pf_check.specs.Raw.{AreDistinct}
use Rattle.pf_check.proofs.DirectoryEntries.{others_distinct}
use Rattle.pf_check.proofs.rows.DirectoryRows.forget.Goals as goal

pub returns-clause-others : goal.returns-clause-others
returns-clause-others c =
    filter_same _ (λ (row : DirectoryEntry). not (bytes_eq row.name c.args.name.now)) _ (λ x b f' k. search rules) _ _ c.retain.ensures.filtered
    ∙ ap (λ (rows : List DirectoryEntry). other_entries rows c.args.name.now) c.self.view_is

pub returns-clause-distinct : goal.returns-clause-distinct
returns-clause-distinct c = λ d. subst AreDistinct (sym (returns-clause-others c)) (others_distinct c.args.self.now c.args.name.now d)
