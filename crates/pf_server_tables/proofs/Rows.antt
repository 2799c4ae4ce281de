-- Rows in the order of their keys, and the map that they stand for.
use Rattle.std.proofs.Common.{◌≡◌, ℕ, zero, suc, ◌<◌, ◌≤◌, ◌≢◌, inl, inr, true, List, [], ◌∷◌, map, length, get_or, slice_set, nat_lt, Result, Ok, Err, Some, None, arith, refl, sym, ap, subst, ◌∙◌}
use Rattle.std.specs.Ordering.{nat_cmp, ordering_index}
use Rattle.std.specs.Result.{MatchResult}
use Rattle.std.specs.Cmp.{nat_cmp_total}
use Rattle.std.specs.List.{insert, remove}
use Rattle.std.specs.List.Sorted.{IsSearchInRange, IsBinarySearchResult, IsNonDecreasingBy}
use Rattle.std.specs.FinMap
use Rattle.std.specs.FinMap.{put, entries-insert, len-entries, len-empty, get-empty}
use Rattle.std.proofs.lemmas.Cmp.{ranked}
use Rattle.std.proofs.lemmas.Bool.{and_parts, cases_eq, cases_lt}
use Rattle.std.proofs.lemmas.Bool.Decides.{nat_tests}
use Rattle.std.proofs.lemmas.List.{length-map, get_or-map}
use Rattle.std.proofs.lemmas.List.Sorted.{IsNonDecreasingBy-from_default}
use Rattle.pf_entry.specs.Maps.{Map}
use Rattle.pf_entry.specs.Tables.{ascends}
use Rattle.pf_holes.specs.SlotSets.{SlotsAreRising}
use Rattle.pf_holes.proofs.SlotOrder.{rising-ascends, ascends-rising}
use Rattle.pf_holes.proofs.SlotLists.{rising-insert}
use Rattle.pf_server_tables.proofs.Inserts.{insert_again, insert_removed, insert_swap, get_same, get_other, remove_inserted}

put_least : {X : Type 0} → (k n : ℕ) (v x : X) (es : List (ℕ × X)) → nat_lt k n ≡ true → put nat_cmp k v ((n, x) ∷ es) ≡ (k, v) ∷ (n, x) ∷ es
put_least k n v x es lt = rw lt refl

no_rows : {X : Type 0} → (es : List X) → length es ≡ 0 → es ≡ []
no_rows [] is = refl
no_rows (e ∷ es) is = grind arith

empty_rows : (X : Type 0) → FinMap.entries {X = X} {R = nat_cmp} FinMap.empty ≡ []
empty_rows X = no_rows _ (sym (len-entries FinMap.empty) ∙ len-empty nat_cmp X)

rest : (x : ℕ) (xs : List ℕ) → SlotsAreRising (x ∷ xs) → SlotsAreRising xs
rest x xs rising i j lt in_list = rising (suc i) (suc j) (omega arith) (omega arith)

module _ {R X : Type 0} (key : R → ℕ) (value : R → X) where
  abbrev pub keys : List R → List ℕ
  keys rows = map key rows

  abbrev pub pairs : List R → List (ℕ × X)
  pairs rows = map (λ row. (key row, value row)) rows

  abbrev pub map_of : List R → Map X
  map_of rows = FinMap.from_entries (pairs rows)

  -- a row in the place of one of its key
  pub map_of-set : (rows : List R) (i : ℕ) (row : R) → SlotsAreRising (keys rows) → i < length rows → get_or (keys rows) i 0 ≡ key row → map_of (slice_set rows i row) ≡ FinMap.insert (map_of rows) (key row) (value row)
  map_of-set [] i row rising lt is = absurd (omega arith)
  map_of-set (r ∷ rs) zero row rising lt is =
      sym (ap (λ k. FinMap.insert (FinMap.insert (map_of rs) k (value r)) (key row) (value row)) is ∙ insert_again (map_of rs) (key row) (value r) (value row))
  map_of-set (r ∷ rs) (suc i) row rising lt is =
      let len = length-map rs key in
      let low : key r < get_or (keys rs) i 0 = rising 0 (suc i) (omega arith) (omega arith) in
      ap (λ m. FinMap.insert m (key r) (value r)) (map_of-set rs i row (rest (key r) (keys rs) rising) (omega arith) is)
      ∙ insert_swap (map_of rs) (key row) (value row) (key r) (value r) (λ e. omega arith)

  -- a row at its place among others
  pub map_of-insert : (rows : List R) (i : ℕ) (row : R) → i ≤ length rows → ((k : ℕ) → k < i → get_or (keys rows) k 0 < key row) → map_of (insert rows i row) ≡ FinMap.insert (map_of rows) (key row) (value row)
  map_of-insert [] zero row le low = refl
  map_of-insert [] (suc i) row le low = absurd (omega arith)
  map_of-insert (r ∷ rs) zero row le low = refl
  map_of-insert (r ∷ rs) (suc i) row le low =
      let first : key r < key row = low 0 (omega arith) in
      ap (λ m. FinMap.insert m (key r) (value r)) (map_of-insert rs i row (omega arith) (λ k lt. low (suc k) (omega arith)))
      ∙ insert_swap (map_of rs) (key row) (value row) (key r) (value r) (λ e. omega arith)

  pub keys-set : (rows : List R) (i : ℕ) (row : R) → i < length rows → get_or (keys rows) i 0 ≡ key row → keys (slice_set rows i row) ≡ keys rows
  keys-set [] i row lt is = absurd (omega arith)
  keys-set (r ∷ rs) zero row lt is = ap (λ k. k ∷ keys rs) (sym is)
  keys-set (r ∷ rs) (suc i) row lt is = ap (λ ks. key r ∷ ks) (keys-set rs i row (omega arith) is)

  pub keys-insert : (rows : List R) (i : ℕ) (row : R) → i ≤ length rows → keys (insert rows i row) ≡ insert (keys rows) i (key row)
  keys-insert [] zero row le = refl
  keys-insert [] (suc i) row le = absurd (omega arith)
  keys-insert (r ∷ rs) zero row le = refl
  keys-insert (r ∷ rs) (suc i) row le = ap (λ ks. key r ∷ ks) (keys-insert rs i row (omega arith))

  -- the entries of the map are the rows
  pub entries_are : (rows : List R) → ascends (keys rows) ≡ true → FinMap.entries (map_of rows) ≡ pairs rows
  entries_are [] is = empty_rows X
  entries_are (row ∷ []) is = entries-insert nat_cmp_total FinMap.empty (key row) (value row) ∙ ap (put nat_cmp (key row) (value row)) (empty_rows X)
  entries_are (row ∷ next ∷ rows) is =
      let p = and_parts _ _ is in
      entries-insert nat_cmp_total (map_of (next ∷ rows)) (key row) (value row)
      ∙ ap (put nat_cmp (key row) (value row)) (entries_are (next ∷ rows) p.1)
      ∙ put_least (key row) (key next) (value row) (value next) (pairs rows) p.0

  pub len_is : (rows : List R) → ascends (keys rows) ≡ true → FinMap.len (map_of rows) ≡ length rows
  len_is rows is = len-entries (map_of rows) ∙ ap length (entries_are rows is) ∙ length-map rows (λ row. (key row, value row))

  firsts : (rows : List R) → map (λ e. e.0) (pairs rows) ≡ keys rows
  firsts [] = refl
  firsts (row ∷ rows) = ap (λ ks. key row ∷ ks) (firsts rows)

  pub keys_are : (rows : List R) → ascends (keys rows) ≡ true → FinMap.keys (map_of rows) ≡ keys rows
  keys_are rows is = ap (map (λ e. e.0)) (entries_are rows is) ∙ firsts rows

  -- a key that no row has
  pub get_none : (rows : List R) (q : ℕ) → ((k : ℕ) → k < length rows → get_or (keys rows) k 0 ≢ q) → FinMap.get (map_of rows) q ≡ None
  get_none [] q apart = get-empty nat_cmp q
  get_none (r ∷ rs) q apart =
      get_other (map_of rs) (key r) (value r) q (λ e. apart 0 (omega arith) (sym e))
      ∙ get_none rs q (λ k lt. apart (suc k) (omega arith))

  -- the key of a row
  pub get_row : (rows : List R) (i : ℕ) (d : R) → SlotsAreRising (keys rows) → i < length rows → FinMap.get (map_of rows) (key (get_or rows i d)) ≡ Some (value (get_or rows i d))
  get_row [] i d rising lt = absurd (omega arith)
  get_row (r ∷ rs) zero d rising lt = get_same (map_of rs) (key r) (value r)
  get_row (r ∷ rs) (suc i) d rising lt =
      let len = length-map rs key in
      let low : key r < get_or (keys rs) i 0 = rising 0 (suc i) (omega arith) (omega arith) in
      let same : get_or (keys rs) i 0 ≡ key (get_or rs i d) = get_or-map key rs i d 0 (omega arith) in
      get_other (map_of rs) (key r) (value r) (key (get_or rs i d)) (λ e. omega arith)
      ∙ get_row rs i d (rest (key r) (keys rs) rising) (omega arith)

  -- without the first row
  pub remove_first : (row : R) (rows : List R) → SlotsAreRising (keys (row ∷ rows)) → FinMap.remove (map_of (row ∷ rows)) (key row) ≡ map_of rows
  remove_first row rows rising =
      let len = length-map rows key in
      remove_inserted (map_of rows) (key row) (value row) (get_none rows (key row) (λ k lt e.
      let low : key row < get_or (keys rows) k 0 = rising 0 (suc k) (omega arith) (omega arith) in omega arith))

  -- without one row
  pub map_of-remove : (rows : List R) (i : ℕ) → SlotsAreRising (keys rows) → i < length rows → map_of (remove rows i) ≡ FinMap.remove (map_of rows) (get_or (keys rows) i 0)
  map_of-remove [] i rising lt = absurd (omega arith)
  map_of-remove (r ∷ rs) zero rising lt = sym (remove_first r rs rising)
  map_of-remove (r ∷ rs) (suc i) rising lt =
      let len = length-map rs key in
      let low : key r < get_or (keys rs) i 0 = rising 0 (suc i) (omega arith) (omega arith) in
      ap (λ m. FinMap.insert m (key r) (value r)) (map_of-remove rs i (rest (key r) (keys rs) rising) (omega arith))
      ∙ insert_removed (map_of rs) (key r) (value r) (get_or (keys rs) i 0) (λ e. omega arith)

  pub keys-remove : (rows : List R) (i : ℕ) → keys (remove rows i) ≡ remove (keys rows) i
  keys-remove [] zero = refl
  keys-remove [] (suc i) = refl
  keys-remove (r ∷ rs) zero = refl
  keys-remove (r ∷ rs) (suc i) = ap (λ ks. key r ∷ ks) (keys-remove rs i)

  -- where a row has the key
  pub record IsAt (rows : List R) (q i : ℕ) : Type 0 where
    pub within : i < length rows
    pub there : get_or (keys rows) i 0 ≡ q

  -- where a row of the key would go
  pub record IsGap (rows : List R) (q i : ℕ) : Type 0 where
    pub within : i ≤ length rows
    pub low : (k : ℕ) → k < i → get_or (keys rows) k 0 < q
    pub high : (k : ℕ) → i ≤ k → k < length rows → q < get_or (keys rows) k 0

  rises : (rows : List R) → SlotsAreRising (keys rows) → (i j : ℕ) → i ≤ j → j < length rows → get_or (keys rows) i 0 ≤ get_or (keys rows) j 0
  rises rows rising i j le lt =
      let len = length-map rows key in
      elim (cases_eq i j) [
        | inl same ↦ let e : get_or (keys rows) i 0 ≡ get_or (keys rows) j 0 = ap (λ k. get_or (keys rows) k 0) same in omega arith
        | inr apart ↦ let h : get_or (keys rows) i 0 < get_or (keys rows) j 0 = rising i j (omega arith) (omega arith) in omega arith
      ]

  comparisons_rise : (rows : List R) (q : ℕ) (d : R) → SlotsAreRising (keys rows) → IsNonDecreasingBy (λ row. ordering_index (nat_cmp (key row) q)) rows
  comparisons_rise rows q d rising =
      IsNonDecreasingBy-from_default (λ row. ordering_index (nat_cmp (key row) q)) rows d (λ i j le lt.
      let low : key (get_or rows i d) ≤ key (get_or rows j d) = omega (arith, rises rows rising i j le lt, get_or-map key rows i d 0 (omega arith), get_or-map key rows j d 0 lt) in
      grind (arith, nat_tests))

  searched_rows : (rows : List R) (q : ℕ) (d : R) (r : Result ℕ ℕ) → SlotsAreRising (keys rows) → IsSearchInRange r (length rows) → IsBinarySearchResult (λ row. nat_cmp (key row) q) rows r → MatchResult r (IsAt rows q) (IsGap rows q)
  searched_rows rows q d (Ok i) rising within is = record { within = within; there = get_or-map key rows i d 0 within ∙ ranked _ q _ (sym (is d)) }
  searched_rows rows q d (Err i) rising within is =
      let parts = is (comparisons_rise rows q d rising) in
      record {
        within = within;
        low = λ k lt.
            let h : key (get_or rows k d) < q = ranked _ q _ (sym (parts.0 k d (omega arith) lt)) in
            omega (arith, get_or-map key rows k d 0 (omega arith));
        high = λ k le lt.
            let h : q < key (get_or rows k d) = ranked _ q _ (sym (parts.1 k d le lt)) in
            omega (arith, get_or-map key rows k d 0 lt);
      }

  -- what a binary search by the key tells
  pub searched : (slice rows : List R) → slice ≡ rows → (q : ℕ) (d : R) (r : Result ℕ ℕ) → ascends (keys rows) ≡ true → IsSearchInRange r (length slice) → IsBinarySearchResult (λ row. nat_cmp (key row) q) slice r → MatchResult r (IsAt rows q) (IsGap rows q)
  searched slice rows e q d r is within found =
      searched_rows rows q d r (rising-ascends (keys rows) is) (subst (λ xs. IsSearchInRange r (length xs)) e within)
      (subst (λ xs. IsBinarySearchResult (λ row. nat_cmp (key row) q) xs r) e found)

  -- the row that is found
  pub key_at : (rows : List R) (q i : ℕ) (row : R) → row ≡ get_or rows i row → IsAt rows q i → key row ≡ q
  key_at rows q i row is at = ap key is ∙ sym (get_or-map key rows i row 0 at.within) ∙ at.there

  pub ascends-at_gap : (rows : List R) (q i : ℕ) (row : R) → ascends (keys rows) ≡ true → IsGap rows q i → key row ≡ q → ascends (keys (insert rows i row)) ≡ true
  ascends-at_gap rows q i row is gap own =
      let len = length-map rows key in
      ap ascends (keys-insert rows i row gap.within ∙ ap (insert (keys rows) i) own)
      ∙ ascends-rising (insert (keys rows) i q) (rising-insert (keys rows) i q (omega (arith, gap.within)) gap.low (λ k le lt. gap.high k le (omega arith)) (rising-ascends (keys rows) is))

  pub none_at_gap : (rows : List R) (q i : ℕ) → IsGap rows q i → FinMap.get (map_of rows) q ≡ None
  none_at_gap rows q i gap = get_none rows q (λ k lt e.
      elim (cases_lt k i) [
        | inl under ↦ let h : get_or (keys rows) k 0 < q = gap.low k under in omega arith
        | inr over ↦ let h : q < get_or (keys rows) k 0 = gap.high k over lt in omega arith
      ])

  pub put_at : (rows : List R) (q i : ℕ) (row : R) → ascends (keys rows) ≡ true → IsAt rows q i → key row ≡ q → map_of (slice_set rows i row) ≡ FinMap.insert (map_of rows) q (value row)
  put_at rows q i row is at own =
      map_of-set rows i row (rising-ascends (keys rows) is) at.within (at.there ∙ sym own) ∙ ap (λ k. FinMap.insert (map_of rows) k (value row)) own

  pub ascends-at : (rows : List R) (q i : ℕ) (row : R) → ascends (keys rows) ≡ true → IsAt rows q i → key row ≡ q → ascends (keys (slice_set rows i row)) ≡ true
  ascends-at rows q i row is at own = ap ascends (keys-set rows i row at.within (at.there ∙ sym own)) ∙ is

  pub put_in_gap : (rows : List R) (q i : ℕ) (row : R) → IsGap rows q i → key row ≡ q → map_of (insert rows i row) ≡ FinMap.insert (map_of rows) q (value row)
  put_in_gap rows q i row gap own =
      map_of-insert rows i row gap.within (λ k lt. let h : get_or (keys rows) k 0 < q = gap.low k lt in omega arith)
      ∙ ap (λ k. FinMap.insert (map_of rows) k (value row)) own

-- pairs are their own rows
pub own_pairs : {X : Type 0} → (es : List (ℕ × X)) → pairs (λ e. e.0) (λ e. e.1) es ≡ es
own_pairs [] = refl
own_pairs (e ∷ es) = ap (λ rest. e ∷ rest) (own_pairs es)
