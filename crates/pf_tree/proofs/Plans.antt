-- What a plan answers, told in the words of the calls.
use Rattle.std.proofs.Common.{◌≡◌, ℕ, ◌+◌, Bool, true, false, cond, ◌==◌, nat_lt, List, [], ◌∷◌, length, Option, Some, None, is_some, Result, Vec, Global, sym, ap, ◌∙◌, subst}
use Rattle.std.specs.Option.{option_and_then, unwrap_or, option_map}
use Rattle.std.proofs.lemmas.Bool.{cond-true}
use Rattle.pf_tree_tables.specs.declared.changes.Change.{Change}
use Rattle.pf_tree.specs.declared.faults.TreeFault.{TreeFault}
use Rattle.pf_tree_tables.specs.Names.{Path}
use Rattle.pf_tree.specs.Paths.{is_same, below}
use Rattle.pf_tree.specs.Trees.{Node, File, first_some, when, file_refusal, size_refusal, block_count, size_at}
use Rattle.pf_tree_tables.specs.Tables.{Tables, blocks_of, untagged_from}
use Rattle.pf_tree.specs.Plans.{node_at, node_of, node_in, found, sizes, resizes, tables_sight}
use Rattle.pf_tree.specs.Held.{IsFileAt, data_of, size_changes}
use Rattle.pf_tree.specs.Faults.{PlansTo}

pub reached : (top p : Path) → is_same p top ≡ true → true ≡ is_some (below top p)
reached top [] e = ap is_some (sym (cond-true (is_same [] top) (Some []) None e))
reached top (n ∷ p) e = ap is_some (sym (cond-true (is_same (n ∷ p) top) (Some []) (option_map (λ x. n ∷ x) (below top p)) e))

pub plans_as : (r r2 : Option ℕ) (cs cs2 : List Change) (result : Result (Vec Change Global) TreeFault) → r ≡ r2 → cs ≡ cs2 → PlansTo r2 cs2 result → PlansTo r cs result
plans_as r r2 cs cs2 result e f h =
    subst (λ (x : Option ℕ). PlansTo x cs result) (sym e) (subst (λ (x : List Change). PlansTo r2 x result) (sym f) h)

module _ (first : ℕ) (t : Tables) (p : Path) (i old : ℕ) (file : IsFileAt t p i old) where
  node_is : node_at t p ≡ Some (File old (blocks_of t.tags i (block_count old)))
  node_is = ap (option_and_then (node_of t)) file.leads ∙ ap (node_in t.tags i) file.is

  pub size_is : size_at (node_at t p) ≡ old
  size_is = ap size_at node_is

  pub size_refused : (size : ℕ) → size_refusal (tables_sight (data_of first t) t) p size ≡ when 87 (nat_lt (block_count old + length (untagged_from first t.tags)) (block_count size))
  size_refused size = ap (λ n. when 87 (nat_lt (block_count n + length (untagged_from first t.tags)) (block_count size))) size_is

  pub sizes_are : (size : ℕ) → sizes (data_of first t) t p size ≡ cond (size == old) [] (size_changes first t.tags i old size)
  sizes_are size =
      ap (λ n. cond (size == n) [] (resizes (data_of first t) t (found t p) (node_at t p) size)) size_is
      ∙ ap (λ (j : ℕ). cond (size == old) [] (resizes (data_of first t) t j (node_at t p) size)) (ap (λ o. unwrap_or o 0) file.leads)
      ∙ ap (λ (o : Option Node). cond (size == old) [] (resizes (data_of first t) t i o size)) node_is

  -- the refusals of a call on a file, where the first ones do not hold
  pub refused_as : (b : Bool) (size : ℕ) → file_refusal (node_at t) p ≡ None → b ≡ false → first_some (file_refusal (node_at t) p) (first_some (when 88 b) (size_refusal (tables_sight (data_of first t) t) p size)) ≡ when 87 (nat_lt (block_count old + length (untagged_from first t.tags)) (block_count size))
  refused_as b size e f =
      ap (λ o. first_some o (first_some (when 88 b) (size_refusal (tables_sight (data_of first t) t) p size))) e
      ∙ ap (λ b. first_some (when 88 b) (size_refusal (tables_sight (data_of first t) t) p size)) f ∙ size_refused size
