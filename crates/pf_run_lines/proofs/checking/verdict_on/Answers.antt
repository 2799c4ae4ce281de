use Rattle.std.proofs.Common.{◌≡◌, ℕ, ◌+◌, ◌<◌, ◌∙◌, List, [], ◌∷◌, ◌++◌, length, take, get_or, refl, ap, sym}
use Rattle.std.proofs.lemmas.List.{take_more}
use Rattle.pf_tree_tables.specs.declared.changes.Txn.{Txn}
use Rattle.pf_check.specs.Raw.{RawTables, empty_tables, tables_made, made_by}
use Rattle.pf_run_lines.proofs.checking.verdict_on.Goals as goal

made_by_append : (t : RawTables) (xs ys : List Txn) → made_by t (xs ++ ys) ≡ made_by (made_by t xs) ys
made_by_append t [] ys = refl
made_by_append t (x ∷ xs) ys = made_by_append (tables_made t x.changes) xs ys

-- one transaction more
made_by_more : (t : RawTables) (txns : List Txn) (k : ℕ) (txn : Txn) → k < length txns → made_by t (take (k + 1) txns) ≡ tables_made (made_by t (take k txns)) (get_or txns k txn).changes
made_by_more t txns k txn low = ap (made_by t) (take_more txns k txn low) ∙ made_by_append t (take k txns) (get_or txns k txn ∷ [])

pub loop-txn-preserved : goal.loop-txn-preserved
loop-txn-preserved c =
    let txn = c.txn-item.result in
    let txns = c.args.txns.now in
    let k = c.loop-txn.txn-index in
    c.in_ok-put.ensures.ok
    ∙ ap (λ (t : RawTables). tables_made t txn.changes) c.loop-txn.invariant
    ∙ ap (λ (x : Txn). tables_made (made_by empty_tables (take k txns)) x.changes) c.txn-item.is
    ∙ sym (made_by_more empty_tables txns k txn c.loop-txn-test.true)
