-- A list whose keys ascend is the list of its map.
use Rattle.std.proofs.Common.{◌≡◌, ℕ, true, List, [], ◌∷◌, map, length, nat_lt, refl, sym, ap, ◌∙◌, arith}
use Rattle.std.specs.Ordering.{nat_cmp}
use Rattle.std.specs.Cmp.{nat_cmp_total}
use Rattle.std.specs.FinMap
use Rattle.std.specs.FinMap.{put, entries-insert, len-entries, len-empty}
use Rattle.std.proofs.lemmas.Bool.{and_parts}
use Rattle.pf_entry.specs.Sets
use Rattle.pf_entry.specs.Tables.{ascends, ascends_from}
use Rattle.pf_entry.specs.StartMaps.{terms_in, start_rows, starts_of}
use Rattle.pf_entry.specs.EntryMaps.{slots_in, entry_rows, log_of}
use Rattle.pf_entry.specs.declared.tables.Start.{Start}
use Rattle.pf_entry.specs.declared.entries.Entry.{Entry}

put_least : {X : Type 0} → (k n : ℕ) (v x : X) (es : List (ℕ × X)) → nat_lt k n ≡ true → put nat_cmp k v ((n, x) ∷ es) ≡ (k, v) ∷ (n, x) ∷ es
put_least k n v x es lt = rw lt refl

no_rows : {X : Type 0} → (es : List X) → length es ≡ 0 → es ≡ []
no_rows [] is = refl
no_rows (e ∷ es) is = grind arith

empty_rows : (X : Type 0) → FinMap.entries {X = X} {R = nat_cmp} FinMap.empty ≡ []
empty_rows X = no_rows _ (sym (len-entries FinMap.empty) ∙ len-empty nat_cmp X)

module _ {R X : Type 0} (key : R → ℕ) (value : R → X) where
  abbrev pairs : List R → List (ℕ × X)
  pairs rows = map (λ row. (key row, value row)) rows

  rows_from : (row : R) (rows : List R) → ascends_from (key row) (map key rows) ≡ true → FinMap.entries {R = nat_cmp} (FinMap.from_entries (pairs (row ∷ rows))) ≡ pairs (row ∷ rows)
  rows_from row [] is = entries-insert nat_cmp_total FinMap.empty (key row) (value row) ∙ ap (put nat_cmp (key row) (value row)) (empty_rows X)
  rows_from row (next ∷ rows) is =
      let p = and_parts _ _ is in
      entries-insert nat_cmp_total (FinMap.from_entries (pairs (next ∷ rows))) (key row) (value row)
      ∙ ap (put nat_cmp (key row) (value row)) (rows_from next rows p.1)
      ∙ put_least (key row) (key next) (value row) (value next) (pairs rows) p.0

pub log_rows : (rows : List Entry) → ascends (slots_in rows) ≡ true → FinMap.entries (log_of rows) ≡ entry_rows rows
unfolding log_of
log_rows [] is = empty_rows Entry
log_rows (row ∷ rows) is = rows_from (λ e. e.slot) (λ e. e) row rows is

pub start_rows_are : (rows : List Start) → ascends (terms_in rows) ≡ true → FinMap.entries (starts_of rows) ≡ start_rows rows
unfolding starts_of
start_rows_are [] is = empty_rows ℕ
start_rows_are (row ∷ rows) is = rows_from (λ row. row.term) (λ row. row.first) row rows is

keys_of : (ns : List ℕ) → map (λ e. e.0) (map (λ n. let e : ℕ × Unit {0} = (n, tt) in e) ns) ≡ ns
keys_of [] = refl
keys_of (n ∷ ns) = ap (λ ms. n ∷ ms) (keys_of ns)

same_keys : (ns : List ℕ) → map (λ n. n) ns ≡ ns
same_keys [] = refl
same_keys (n ∷ ns) = ap (λ ms. n ∷ ms) (same_keys ns)

pub items_are : (ns : List ℕ) → ascends ns ≡ true → Sets.items (Sets.from_items ns) ≡ ns
unfolding Sets.from_items
items_are [] is = ap (map (λ e. e.0)) (empty_rows (Unit {0}))
items_are (n ∷ ns) is = ap (map (λ e. e.0)) (rows_from (λ n. n) (λ n. tt) n ns (ap (ascends_from n) (same_keys ns) ∙ is)) ∙ keys_of (n ∷ ns)
