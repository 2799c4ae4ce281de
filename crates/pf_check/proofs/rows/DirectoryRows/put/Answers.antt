use Rattle.std.proofs.Common.{◌≡◌, ◌<◌, ◌≤◌, ◌++◌, ◌∷◌, [], ◌∙◌, ap, sym, subst, length, set, List, ℕ, arith}
use Rattle.pf_tree_tables.specs.declared.tables.DirectoryEntry.{DirectoryEntry}
use Rattle.pf_tree_tables.specs.Names.{Name}
use Rattle.pf_check.specs.Raw.{AreDistinct, put_name}
use Rattle.pf_check.proofs.DirectoryEntries.{row_with, place_in, put_there, put_last, put_distinct}
use Rattle.pf_check.proofs.rows.DirectoryRows.put.Goals as goal

place_is : (rows view : List DirectoryEntry) (n m : Name) (place : ℕ) → place ≡ place_in rows n → rows ≡ view → n ≡ m → place ≡ place_in view m
place_is rows view n m place e f g = e ∙ ap (λ (r : List DirectoryEntry). place_in r n) f ∙ ap (place_in view) g

there : (rows view : List DirectoryEntry) (n m l : Name) (i place : ℕ) → place ≡ place_in rows n → rows ≡ view → n ≡ m → l ≡ m → place < length rows → set rows place (row_with i l) ≡ put_name view m i
there rows view n m l i place e f g h low =
    let p = place_is rows view n m place e f g in
    let len = ap length f in
    ap (λ (r : List DirectoryEntry). set r place (row_with i l)) f
    ∙ ap (λ (k : ℕ). set view k (row_with i l)) p
    ∙ ap (λ (x : Name). set view (place_in view m) (row_with i x)) h
    ∙ sym (put_there view m i (omega (arith, low, p, len)))

last : (rows view : List DirectoryEntry) (n m l : Name) (i place : ℕ) → place ≡ place_in rows n → rows ≡ view → n ≡ m → l ≡ m → length rows ≤ place → rows ++ row_with i l ∷ [] ≡ put_name view m i
last rows view n m l i place e f g h far =
    let p = place_is rows view n m place e f g in
    let len = ap length f in
    ap (λ (r : List DirectoryEntry). r ++ row_with i l ∷ []) f
    ∙ ap (λ (x : Name). view ++ row_with i x ∷ []) h
    ∙ sym (put_last view m i (omega (arith, far, p, len)))

pub returns-then-place-len-clause-ok : goal.returns-then-place-len-clause-ok
returns-then-place-len-clause-ok c =
    there c.self.inside.rows.items c.args.self.now c.as_slice.result.now c.args.name.now c.in_ok-name.name c.args.inode c.place_of-place.result
    (c.place_of-place.ensures ∙ ap (λ (rs : List DirectoryEntry). place_in rs c.as_slice.result.now) c.deref.ensures.value) c.self.view_is c.as_slice.ensures c.in_ok-name.ensures (omega arith)

pub returns-then-place-len-clause-distinct : goal.returns-then-place-len-clause-distinct
returns-then-place-len-clause-distinct c = λ d. subst AreDistinct (sym (returns-then-place-len-clause-ok c)) (put_distinct c.args.self.now c.args.name.now c.args.inode d)

pub returns-in_ok-push-clause-ok : goal.returns-in_ok-push-clause-ok
returns-in_ok-push-clause-ok c =
    c.in_ok-push.ensures.items
    ∙ last c.self.inside.rows.items c.args.self.now c.as_slice.result.now c.args.name.now c.in_ok-name.name c.args.inode c.place_of-place.result
    (c.place_of-place.ensures ∙ ap (λ (rs : List DirectoryEntry). place_in rs c.as_slice.result.now) c.deref.ensures.value) c.self.view_is c.as_slice.ensures c.in_ok-name.ensures (omega arith)

pub returns-in_ok-push-clause-distinct : goal.returns-in_ok-push-clause-distinct
returns-in_ok-push-clause-distinct c = λ d. subst AreDistinct (sym (returns-in_ok-push-clause-ok c)) (put_distinct c.args.self.now c.args.name.now c.args.inode d)
