-- What a table of a few slots keeps.
use Rattle.std.proofs.Common.{◌≡◌, ℕ, true, List, [], ◌∷◌, length, get_or, slice_set, Result, Ok, Err, is_ok, Some, None, is_some, arith, refl, sym, ap, ◌∙◌}
use Rattle.std.specs.Ordering.{nat_cmp}
use Rattle.std.specs.List.{insert, remove}
use Rattle.std.specs.List.Sorted.{IsSearchInRange, IsBinarySearchResult}
use Rattle.std.specs.FinMap
use Rattle.std.proofs.lemmas.List.{get_or-map, length-map}
use Rattle.pf_entry.specs.Tables.{ascends}
use Rattle.pf_holes.specs.SlotSets.{IsPlaceIn}
use Rattle.pf_holes.proofs.Found.{remove_none}
use Rattle.pf_holes.proofs.SlotOrder.{ascends-rising, rising-ascends}
use Rattle.pf_holes.proofs.SlotLists.{rising-remove}
use Rattle.pf_server_tables.specs.FewTables.{few_of, slots_in}
use Rattle.pf_server_tables.proofs.Rows.{IsAt, IsGap, ascends-at, ascends-at_gap, get_row, key_at, keys-remove, map_of, map_of-remove, none_at_gap, own_pairs, put_at, put_in_gap, searched}

module _ {V : Type 0} where
  abbrev pub slot_of : ℕ × V → ℕ
  slot_of row = row.0

  abbrev value_of : ℕ × V → V
  value_of row = row.1

  few_are : (rows : List (ℕ × V)) → few_of rows ≡ map_of slot_of value_of rows
  few_are rows = ap FinMap.from_entries (sym (own_pairs rows))

  -- where a search by the slot ends
  placed_in : (rows : List (ℕ × V)) (d : ℕ × V) (q : ℕ) (r : Result ℕ ℕ) → ascends (slots_in rows) ≡ true → IsSearchInRange r (length rows) → IsBinarySearchResult (λ row. nat_cmp (slot_of row) q) rows r → IsPlaceIn (slots_in rows) q r
  placed_in rows d q (Ok i) is within found =
      let at = searched slot_of value_of rows rows refl q d (Ok i) is within found in
      let len = length-map rows slot_of in
      (omega (arith, at.within, len), at.there)
  placed_in rows d q (Err i) is within found =
      let gap = searched slot_of value_of rows rows refl q d (Err i) is within found in
      let len = length-map rows slot_of in
      (omega (arith, gap.within, len), gap.low, λ k le lt. gap.high k le (omega (arith, lt, len)))

  pub placed : (rows : List (ℕ × V)) (q : ℕ) (r : Result ℕ ℕ) → ascends (slots_in rows) ≡ true → IsSearchInRange r (length rows) → IsBinarySearchResult (λ row. nat_cmp (slot_of row) q) rows r → IsPlaceIn (slots_in rows) q r
  placed [] q (Ok i) is within found = absurd (omega (arith, within))
  placed [] q (Err i) is within found = (within, λ k lt. absurd (omega (arith, lt, within)), λ k le lt. absurd (omega (arith, lt)))
  placed (row ∷ rows) q r is within found = placed_in (row ∷ rows) row q r is within found

  there : (rows : List (ℕ × V)) (q i : ℕ) → IsPlaceIn (slots_in rows) q (Ok i) → IsAt slot_of value_of rows q i
  there rows q i place = let len = length-map rows slot_of in record { within = omega (arith, place.0, len); there = place.1 }

  between : (rows : List (ℕ × V)) (q i : ℕ) → IsPlaceIn (slots_in rows) q (Err i) → IsGap slot_of value_of rows q i
  between rows q i place =
      let len = length-map rows slot_of in
      record { within = omega (arith, place.0, len); low = place.1; high = λ k le lt. place.2 k le (omega (arith, lt, len)) }

  -- what the slot has
  pub got_none : (rows : List (ℕ × V)) (q i : ℕ) → IsPlaceIn (slots_in rows) q (Err i) → FinMap.get (few_of rows) q ≡ None
  got_none rows q i place = ap (λ m. FinMap.get m q) (few_are rows) ∙ none_at_gap slot_of value_of rows q i (between rows q i place)

  got_at : (rows : List (ℕ × V)) (q i : ℕ) (d : ℕ × V) → ascends (slots_in rows) ≡ true → IsPlaceIn (slots_in rows) q (Ok i) → FinMap.get (few_of rows) q ≡ Some (get_or rows i d).1
  got_at rows q i d is place =
      let at = there rows q i place in
      let own : slot_of (get_or rows i d) ≡ q = sym (get_or-map slot_of rows i d 0 at.within) ∙ at.there in
      ap (λ m. FinMap.get m q) (few_are rows)
      ∙ ap (FinMap.get (map_of slot_of value_of rows)) (sym own)
      ∙ get_row slot_of value_of rows i d (rising-ascends (slots_in rows) is) at.within

  pub got : (rows : List (ℕ × V)) (q i : ℕ) (row : ℕ × V) → ascends (slots_in rows) ≡ true → IsPlaceIn (slots_in rows) q (Ok i) → row ≡ get_or rows i row → FinMap.get (few_of rows) q ≡ Some row.1
  got rows q i row is place read = got_at rows q i row is place ∙ ap (λ (r : ℕ × V). Some r.1) (sym read)

  pub has_is : (rows : List (ℕ × V)) (q : ℕ) (r : Result ℕ ℕ) → ascends (slots_in rows) ≡ true → IsPlaceIn (slots_in rows) q r → is_ok r ≡ FinMap.contains_key (few_of rows) q
  has_is rows q (Err i) is place = sym (ap is_some (got_none rows q i place))
  has_is [] q (Ok i) is place = absurd (omega (arith, place.0))
  has_is (row ∷ rows) q (Ok i) is place = sym (ap is_some (got_at (row ∷ rows) q i row is place))

  -- another value in the place of one of the slot
  module _ (rows : List (ℕ × V)) (q i : ℕ) (row : ℕ × V) (v : V) (is : ascends (slots_in rows) ≡ true) (place : IsPlaceIn (slots_in rows) q (Ok i)) (read : row ≡ get_or rows i row) where
    own_slot : slot_of row ≡ q
    own_slot = key_at slot_of value_of rows q i row read (there rows q i place)

    pub ascends-over : ascends (slots_in (slice_set rows i (row.0, v))) ≡ true
    ascends-over = ascends-at slot_of value_of rows q i (row.0, v) is (there rows q i place) own_slot

    pub put_over : few_of (slice_set rows i (row.0, v)) ≡ FinMap.insert (few_of rows) q v
    put_over =
        few_are (slice_set rows i (row.0, v)) ∙ put_at slot_of value_of rows q i (row.0, v) is (there rows q i place) own_slot
        ∙ ap (λ m. FinMap.insert m q v) (sym (few_are rows))

  -- a value of a slot that has none
  pub ascends-between : (rows : List (ℕ × V)) (q i : ℕ) (v : V) → ascends (slots_in rows) ≡ true → IsPlaceIn (slots_in rows) q (Err i) → ascends (slots_in (insert rows i (q, v))) ≡ true
  ascends-between rows q i v is place = ascends-at_gap slot_of value_of rows q i (q, v) is (between rows q i place) refl

  pub put_between : (rows : List (ℕ × V)) (q i : ℕ) (v : V) → IsPlaceIn (slots_in rows) q (Err i) → few_of (insert rows i (q, v)) ≡ FinMap.insert (few_of rows) q v
  put_between rows q i v place =
      few_are (insert rows i (q, v)) ∙ put_in_gap slot_of value_of rows q i (q, v) (between rows q i place) refl
      ∙ ap (λ m. FinMap.insert m q v) (sym (few_are rows))

  -- a value that is taken out
  pub ascends-without : (rows : List (ℕ × V)) (q i : ℕ) → ascends (slots_in rows) ≡ true → IsPlaceIn (slots_in rows) q (Ok i) → ascends (slots_in (remove rows i)) ≡ true
  ascends-without rows q i is place =
      ap ascends (keys-remove slot_of value_of rows i) ∙ ascends-rising (remove (slots_in rows) i) (rising-remove (slots_in rows) i place.0 (rising-ascends (slots_in rows) is))

  pub taken : (rows : List (ℕ × V)) (q i : ℕ) → ascends (slots_in rows) ≡ true → IsPlaceIn (slots_in rows) q (Ok i) → few_of (remove rows i) ≡ FinMap.remove (few_of rows) q
  taken rows q i is place =
      let at = there rows q i place in
      few_are (remove rows i) ∙ map_of-remove slot_of value_of rows i (rising-ascends (slots_in rows) is) at.within
      ∙ ap (FinMap.remove (map_of slot_of value_of rows)) at.there
      ∙ ap (λ m. FinMap.remove m q) (sym (few_are rows))

  pub none_taken : (rows : List (ℕ × V)) (q i : ℕ) → IsPlaceIn (slots_in rows) q (Err i) → few_of rows ≡ FinMap.remove (few_of rows) q
  none_taken rows q i place = remove_none (few_of rows) q (ap is_some (got_none rows q i place))
