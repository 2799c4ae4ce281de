use Rattle.std.proofs.Common.{◌≤◌, ℕ, List, Option, subst, sym, ◌∙◌}
use Rattle.std.specs.Option.{MatchOption}
use Rattle.std.specs.declared.cmp.Reverse.{Reverse}
use Rattle.pf_tree_tables.specs.declared.index.Row.{Row}
use Rattle.pf_tree_tables.specs.Index.{HasValue, IsLeastWith, free_cmp, row_cmp}
use Rattle.pf_tree_tables.specs.Ordered.{AreBefore, IsLeastOf}
use Rattle.pf_tree_tables.proofs.IndexPlaces.{least_free, least_used, none_free, other_used}
use Rattle.pf_tree_tables.proofs.index.Index.least.Goals as goal

pub returns-in_err-number : goal.returns-in_err-number
returns-in_err-number g c =
    let index = c.args.self.now in
    let before = subst (λ (ns : List (Reverse ℕ)). AreBefore (λ a b. free_cmp b a) ns (record { 0 = c.args.first })) c.deref.ensures.value c.in_err-number.ensures in
    subst (λ (r : Option ℕ). MatchOption r ((k : ℕ) → c.args.first ≤ k → HasValue g.T.Ord.cmp index c.args.value k → ⊥) (IsLeastWith g.T.Ord.cmp index c.args.value c.args.first)) (sym c.from_residual.ensures)
    (none_free g.met.T.Ord.total index c.args.value c.args.first (sym (c.if-eq.ensures ∙ g.met.T.Ord.matches_eq _ _)) before)

pub returns-then-eq : goal.returns-then-eq
returns-then-eq g c =
    let least = subst (λ (ns : List (Reverse ℕ)). IsLeastOf (λ a b. free_cmp b a) ns (record { 0 = c.args.first }) c.in_ok-number.number) c.deref.ensures.value c.in_ok-number.ensures in
    least_free g.met.T.Ord.total c.args.self.now c.args.value c.args.first (sym (c.if-eq.ensures ∙ g.met.T.Ord.matches_eq _ _)) c.in_ok-number.number least

pub returns-then-eq-2 : goal.returns-then-eq-2
returns-then-eq-2 g c =
    let least = subst (λ (rs : List (Row g.row.T.Denot)). IsLeastOf (row_cmp g.T.Ord.cmp) rs (record { value = c.args.value; number = c.args.first }) c.in_ok-row.row) c.deref-2.ensures.value c.in_ok-row.ensures in
    least_used g.met.T.Ord.total c.args.self.now c.args.value c.args.first (sym (c.if-eq.ensures ∙ g.met.T.Ord.matches_eq _ _)) c.in_ok-row.row least (sym (c.if-eq-2.ensures ∙ g.met.T.Ord.matches_eq _ _))

pub returns-else-eq-2 : goal.returns-else-eq-2
returns-else-eq-2 g c =
    let least = subst (λ (rs : List (Row g.row.T.Denot)). IsLeastOf (row_cmp g.T.Ord.cmp) rs (record { value = c.args.value; number = c.args.first }) c.in_ok-row.row) c.deref-2.ensures.value c.in_ok-row.ensures in
    other_used g.met.T.Ord.total c.args.self.now c.args.value c.args.first (sym (c.if-eq.ensures ∙ g.met.T.Ord.matches_eq _ _)) c.in_ok-row.row least (sym (c.if-eq-2.ensures ∙ g.met.T.Ord.matches_eq _ _))
