-- Maps and sets as the lists of their entries, and how these are read.
use Rattle.std.proofs.Common.{◌≡◌, ℕ, ◌+◌, ◌-◌, ◌*◌, ◌%◌, ◌/◌, ◌<◌, ◌≤◌, ◌^◌, Bool, true, false, T, ◌&&◌, ◌==◌, nat_lt, List, [], ◌∷◌, ◌++◌, map, length, Some, None, refl, sym, ap, subst, ◌∙◌, arith, inl, inr}
use Rattle.std.specs.Int.{w64}
use Rattle.std.specs.List.{flat_map, list_all, list_any}
use Rattle.std.specs.Ordering.{nat_cmp, eq_by_cmp, is_lt}
use Rattle.std.specs.FinMap
use Rattle.std.specs.FinMap.{find, is_sorted, entries_sorted, same_entries_map, get-entries, len-entries, contains_key-keys}
use Rattle.std.proofs.lemmas.Bool.Decides.{nat_tests}
use Rattle.std.proofs.lemmas.Bool.{cases_Bool, and_parts, and_from, or_cases, or_left, or_right, ltb-true, leb-true, eqb-true, lt-ltb, le-leb, eq-eqb, ne_eqb, cond-true, cond-false, false≢true}
use Rattle.std.proofs.lemmas.List.{length-map}
use Rattle.std.proofs.lemmas.Option.{same_Some, none-some}
use Rattle.pf_entry.specs.Maps.{Map, Numbers}
use Rattle.pf_entry.specs.Sets
use Rattle.pf_entry.specs.Lists.{Every}
use Rattle.pf_entry.proofs.Lists.{every_more, every_map}
use Rattle.pf_entry.specs.Tables.{ascends, ascends_from}
use Rattle.pf_entry.specs.StartMaps.{terms_in, start_rows, starts_of}
use Rattle.pf_entry.specs.EntryMaps.{slots_in, entry_rows, log_of}
use Rattle.pf_entry.proofs.MapLists.{log_rows, start_rows_are, items_are}
use Rattle.pf_entry.specs.Canonical.{Bounds, IsCanonicalEntry, IsCanonicalIn}
use Rattle.pf_entry.specs.declared.entries.Entry.{Entry}
use Rattle.pf_entry.specs.declared.tables.Start.{Start}
use Rattle.pf_codec.specs.Parsers.{row_at, IsExact}
use Rattle.pf_codec.specs.Spelling.{number, start_bytes, starts_bytes, slots_bytes, sectors_in_row, sectors_bytes, log_bytes}
use Rattle.pf_codec.specs.Reading.{sector_at, start_at, starts_at, is_slot_within, is_log, log_at, slots_at, is_chunk, sectors_at}
use Rattle.pf_codec.specs.Fitting.{IsWord, EntryFitsWords, StartsFit, IsEntry, AreApplied, IsChunk}
use Rattle.pf_codec.proofs.Exact.{then_exact, last_exact, checked_exact, tested_exact, nothing_exact, chosen_exact, respelled, renamed, row_exact, sector_exact, u16_exact, u32_exact, u64_exact}
use Rattle.pf_codec.proofs.EntryLaws.{entries_exact, every_of_list_all, list_all_of_every, every_both}

true_of : (b : Bool) → T b → b ≡ true
true_of true h = refl
true_of false h = absurd h

same_number : (q k : ℕ) → eq_by_cmp nat_cmp q k ≡ (q == k)
same_number q k = grind (arith, nat_tests)

less_of : (k n : ℕ) → is_lt (nat_cmp k n) ≡ true → k < n
less_of k n is = grind (arith, nat_tests)

module _ {V : Type 0} where
  below_next : (k n : ℕ) (v w : V) (es : List (ℕ × V)) → is_sorted nat_cmp ((k, v) ∷ (n, w) ∷ es) ≡ true → k < n
  below_next k n v w es is =
      let both = and_parts _ _ is in
      let here = and_parts _ _ both.0 in
      less_of k n here.0

  tail_sorted : (e : ℕ × V) (es : List (ℕ × V)) → is_sorted nat_cmp (e ∷ es) ≡ true → is_sorted nat_cmp es ≡ true
  tail_sorted e es is = (and_parts _ _ is).1

  ascends_below : (e : ℕ × V) (es : List (ℕ × V)) → is_sorted nat_cmp (e ∷ es) ≡ true → ascends_from e.0 (map (λ row. row.0) es) ≡ true
  ascends_below e [] is = refl
  ascends_below e (f ∷ es) is = and_from _ _ (lt-ltb e.0 f.0 (below_next e.0 f.0 e.1 f.1 es is)) (ascends_below f es (tail_sorted e (f ∷ es) is))

  sorted_ascends : (es : List (ℕ × V)) → is_sorted nat_cmp es ≡ true → ascends (map (λ row. row.0) es) ≡ true
  sorted_ascends [] is = refl
  sorted_ascends (e ∷ es) is = ascends_below e es is

  -- the first key is below any other
  found_above : (e : ℕ × V) (es : List (ℕ × V)) (k : ℕ) (v : V) → is_sorted nat_cmp (e ∷ es) ≡ true → find nat_cmp k es ≡ Some v → e.0 < k
  found_above e [] k v is at = absurd (none-some v at)
  found_above e (f ∷ es) k v is at =
      let lt : e.0 < f.0 = below_next e.0 f.0 e.1 f.1 es is in
      elim (cases_Bool (eq_by_cmp nat_cmp k f.0)) [
        | inl same ↦ let is_f : k ≡ f.0 = eqb-true k f.0 (sym (same_number k f.0) ∙ same) in omega (arith, lt, is_f)
        | inr apart ↦
            let above : f.0 < k = found_above f es k v (tail_sorted e (f ∷ es) is) (sym (cond-false _ _ _ apart) ∙ at) in
            omega (arith, lt, above)
      ]

  every_entry : (P : ℕ → V → Type 0) (es : List (ℕ × V)) → is_sorted nat_cmp es ≡ true → ((k : ℕ) (v : V) → find nat_cmp k es ≡ Some v → P k v) → Every (λ row. P row.0 row.1) es
  every_entry P [] is h = tt
  every_entry P (e ∷ es) is h = (
    h e.0 e.1 (cond-true _ _ _ (same_number e.0 e.0 ∙ eq-eqb e.0 e.0 refl)),
    every_entry P es (tail_sorted e es is) (λ k v at.
        let above : e.0 < k = found_above e es k v is at in
        h k v (cond-false _ _ _ (same_number k e.0 ∙ ne_eqb k e.0 (λ same. omega (arith, above, same))) ∙ at)),
  )

  found_entry : (P : ℕ → V → Type 0) (es : List (ℕ × V)) (k : ℕ) (v : V) → Every (λ row. P row.0 row.1) es → find nat_cmp k es ≡ Some v → P k v
  found_entry P [] k v each at = absurd (none-some v at)
  found_entry P (e ∷ es) k v each at =
      elim (cases_Bool (eq_by_cmp nat_cmp k e.0)) [
        | inl same ↦
            let is_k : e.0 ≡ k = sym (eqb-true k e.0 (sym (same_number k e.0) ∙ same)) in
            let is_v : e.1 ≡ v = same_Some e.1 v (sym (cond-true _ _ _ same) ∙ at) in
            subst (P k) is_v (subst (λ n. P n e.1) is_k each.0)
        | inr apart ↦ found_entry P es k v each.1 (sym (cond-false _ _ _ apart) ∙ at)
      ]

  sorted : (m : Map V) → is_sorted nat_cmp (FinMap.entries m) ≡ true
  sorted m = true_of _ (entries_sorted m)

  pub keys_ascend : (m : Map V) → ascends (FinMap.keys m) ≡ true
  keys_ascend m = sorted_ascends (FinMap.entries m) (sorted m)

  pub every_of_gets : (P : ℕ → V → Type 0) (m : Map V) → ((k : ℕ) (v : V) → FinMap.get m k ≡ Some v → P k v) → Every (λ row. P row.0 row.1) (FinMap.entries m)
  every_of_gets P m h = every_entry P (FinMap.entries m) (sorted m) (λ k v at. h k v (get-entries m k ∙ at))

  pub get_of_every : (P : ℕ → V → Type 0) (m : Map V) (k : ℕ) (v : V) → Every (λ row. P row.0 row.1) (FinMap.entries m) → FinMap.get m k ≡ Some v → P k v
  get_of_every P m k v each at = found_entry P (FinMap.entries m) k v each (sym (get-entries m k) ∙ at)

-- ---- starts

abbrev start_of : ℕ × ℕ → Start
start_of row = record { term = row.0; first = row.1 }

rows_back : (es : List (ℕ × ℕ)) → start_rows (map start_of es) ≡ es
rows_back [] = refl
rows_back (e ∷ es) = ap (λ r. e ∷ r) (rows_back es)

starts_there : (rows : List Start) → map start_of (start_rows rows) ≡ rows
starts_there [] = refl
starts_there (row ∷ rows) = ap (λ r. row ∷ r) (starts_there rows)

terms_are : (es : List (ℕ × ℕ)) → terms_in (map start_of es) ≡ map (λ row. row.0) es
terms_are [] = refl
terms_are (e ∷ es) = ap (λ r. e.0 ∷ r) (terms_are es)

terms_ascend : (m : Map ℕ) → ascends (terms_in (map start_of (FinMap.entries m))) ≡ true
terms_ascend m = ap ascends (terms_are (FinMap.entries m)) ∙ keys_ascend m

starts_back : (m : Map ℕ) → starts_of (map start_of (FinMap.entries m)) ≡ m
starts_back m = same_entries_map _ m (start_rows_are (map start_of (FinMap.entries m)) (terms_ascend m) ∙ rows_back (FinMap.entries m))

abbrev StartFits : Start → Type 0
StartFits row = IsWord row.term × IsWord row.first

abbrev spelled_start : Start → List ℕ
spelled_start row = number w64 row.term ++ number w64 row.first

start_exact : IsExact StartFits spelled_start start_at
unfolding start_at
start_exact =
    then_exact u64_exact StartFits (λ row. row.term) (λ row. number w64 row.first) _ (λ row fits. fits.0)
    (λ term low. last_exact u64_exact (λ row. StartFits row × (row.term ≡ term)) (λ row. row.first) _ (λ row is. is.0.1)
    (λ first first_low. checked_exact (λ row. (StartFits row × (row.term ≡ term)) × (row.first ≡ first)) (λ row. true) (record { term = term; first = first })
    (λ row is i. record { term = sym is.0.1 i; first = sym is.1 i }) (λ row is. refl) (λ passes. (((low, first_low), refl), refl))))

spelled_rows : (es : List (ℕ × ℕ)) → flat_map spelled_start (map start_of es) ≡ flat_map start_bytes es
unfolding start_bytes
spelled_rows [] = refl
spelled_rows (e ∷ es) = ap (λ r. spelled_start (start_of e) ++ r) (spelled_rows es)

abbrev AreStarts : Map ℕ → Type 0
AreStarts m = StartsFit m × (FinMap.len m < 2 ^ 16)

len_rows : (m : Map ℕ) → length (map start_of (FinMap.entries m)) ≡ FinMap.len m
len_rows m = length-map (FinMap.entries m) start_of ∙ sym (len-entries m)

starts_are : (rows : List Start) (count : ℕ) → count < 2 ^ 16 → length rows ≡ count → Every StartFits rows → ascends (terms_in rows) ≡ true
    → (AreStarts (starts_of rows) × (FinMap.len (starts_of rows) ≡ count)) × (map start_of (FinMap.entries (starts_of rows)) ≡ rows)
starts_are rows count low is fits passes =
    let there = start_rows_are rows passes in
    let len : FinMap.len (starts_of rows) ≡ count = len-entries (starts_of rows) ∙ ap length there ∙ length-map rows (λ row. (row.term, row.first)) ∙ is in
    (((subst (Every (λ row. IsWord row.0 × IsWord row.1)) (sym there) (every_map (λ row. IsWord row.0 × IsWord row.1) (λ row. (row.term, row.first)) rows fits), subst (λ n. n < 2 ^ 16) (sym len) low), len), ap (map start_of) there ∙ starts_there rows)

pub starts_exact : IsExact AreStarts starts_bytes starts_at
unfolding starts_bytes starts_at
starts_exact =
    then_exact u16_exact AreStarts FinMap.len (λ m. flat_map start_bytes (FinMap.entries m)) _ (λ m is. is.1)
    (λ count low. respelled
    (last_exact (row_exact start_exact count) (λ m. AreStarts m × (FinMap.len m ≡ count)) (λ m. map start_of (FinMap.entries m)) _
    (λ m is. (len_rows m ∙ is.1, every_map StartFits start_of (FinMap.entries m) is.0.0))
    (λ rows fits. tested_exact (λ m. (AreStarts m × (FinMap.len m ≡ count)) × (map start_of (FinMap.entries m) ≡ rows)) (ascends (terms_in rows)) (starts_of rows)
    (λ m is. (ap starts_of (sym is.1) ∙ starts_back m, ap (λ rs. ascends (terms_in rs)) (sym is.1) ∙ terms_ascend m))
    (starts_are rows count low fits.0 fits.1)))
    (λ m. flat_map start_bytes (FinMap.entries m)) (λ m is. spelled_rows (FinMap.entries m)))

-- ---- sets of slots

abbrev unit_rows : List ℕ → List (ℕ × Unit {0})
unit_rows ns = map (λ n. (n, tt)) ns

units_back : (es : List (ℕ × Unit {0})) → unit_rows (map (λ row. row.0) es) ≡ es
units_back [] = refl
units_back (e ∷ es) = ap (λ r. e ∷ r) (units_back es)

slots_back : (set : Numbers) → Sets.from_items (Sets.items set) ≡ set
slots_back set =
    same_entries_map _ set
    (sym (units_back (FinMap.entries (Sets.from_items (Sets.items set)))) ∙ ap unit_rows (items_are (Sets.items set) (keys_ascend set)) ∙ units_back (FinMap.entries set))

every_item : (P : ℕ → Type 0) (ns : List ℕ) → ((n : ℕ) → list_any (eq_by_cmp nat_cmp n) ns ≡ true → P n) → Every P ns
every_item P [] h = tt
every_item P (n ∷ ns) h = (h n (or_left _ _ (same_number n n ∙ eq-eqb n n refl)), every_item P ns (λ m at. h m (or_right _ _ at)))

item_of_every : (P : ℕ → Type 0) (ns : List ℕ) (n : ℕ) → Every P ns → list_any (eq_by_cmp nat_cmp n) ns ≡ true → P n
item_of_every P [] n each at = absurd (false≢true at)
item_of_every P (m ∷ ns) n each at =
    elim (or_cases _ _ at) [
      | inl here ↦ subst P (sym (eqb-true n m (sym (same_number n m) ∙ here))) each.0
      | inr there ↦ item_of_every P ns n each.1 there
    ]

len_items : (set : Numbers) → length (Sets.items set) ≡ Sets.len set
len_items set = length-map (FinMap.entries set) (λ row. row.0) ∙ sym (len-entries set)

module _ (base : ℕ) where
  abbrev slot_test : List ℕ → Bool
  slot_test slots = ascends slots && list_all (nat_lt base) slots

  slots_pass : (set : Numbers) → AreApplied base set → slot_test (Sets.items set) ≡ true
  slots_pass set is =
      and_from _ _ (keys_ascend set)
      (list_all_of_every (λ n. base < n) (nat_lt base) (λ n lt. lt-ltb base n lt) (Sets.items set) (every_item (λ n. base < n) (Sets.items set) (λ n at. is.above n (contains_key-keys set n ∙ at))))

  slots_are : (slots : List ℕ) (count : ℕ) → count < 2 ^ 32 → length slots ≡ count → Every IsWord slots → slot_test slots ≡ true
      → (AreApplied base (Sets.from_items slots) × (Sets.len (Sets.from_items slots) ≡ count)) × (Sets.items (Sets.from_items slots) ≡ slots)
  slots_are slots count low is fits passes =
      let both = and_parts _ _ passes in
      let there = items_are slots both.0 in
      let set = Sets.from_items slots in
      let len : Sets.len set ≡ count = sym (len_items set) ∙ ap length there ∙ is in
      let above = every_of_list_all (λ n. base < n) (nat_lt base) (λ n t. ltb-true base n t) slots both.1 in (
        (
          record {
            fit = subst (Every IsWord) (sym there) fits;
            few = subst (λ n. n < 2 ^ 32) (sym len) low;
            above = λ n at. item_of_every (λ m. base < m) slots n above (ap (list_any (eq_by_cmp nat_cmp n)) (sym there) ∙ sym (contains_key-keys set n) ∙ at);
          },
          len,
        ),
        there,
      )

  pub slots_exact : IsExact (AreApplied base) slots_bytes (slots_at base)
  unfolding slots_bytes slots_at
  slots_exact =
      then_exact u32_exact (AreApplied base) Sets.len (λ set. flat_map (number w64) (Sets.items set)) _ (λ set is. is.few)
      (λ count low. last_exact (row_exact u64_exact count) (λ set. AreApplied base set × (Sets.len set ≡ count)) Sets.items _
      (λ set is. (len_items set ∙ is.1, is.0.fit))
      (λ slots fits. tested_exact (λ set. (AreApplied base set × (Sets.len set ≡ count)) × (Sets.items set ≡ slots)) (slot_test slots) (Sets.from_items slots)
      (λ set is. (ap Sets.from_items (sym is.1) ∙ slots_back set, ap slot_test (sym is.1) ∙ slots_pass set is.0.0))
      (slots_are slots count low fits.0 fits.1)))

-- ---- sectors

chunk_passes : (sectors : List (List ℕ)) → IsChunk sectors → is_chunk (length sectors) ≡ true
chunk_passes sectors is =
    let eighths : length sectors % 8 ≡ 0 = let k = is.eighths.0 in let e : length sectors ≡ 8 * k = is.eighths.1 in omega (arith, e) in
    and_from _ _ (and_from _ _ (le-leb 16 (length sectors) is.some) (le-leb (length sectors) 4096 is.fits)) (eq-eqb _ _ eighths)

chunk_is : (sectors : List (List ℕ)) → is_chunk (length sectors) ≡ true → Every (λ bytes. length bytes ≡ 512) sectors → IsChunk sectors
chunk_is sectors passes bytes =
    let two = and_parts _ _ passes in
    let one = and_parts _ _ two.0 in
    let none_left : length sectors % 8 ≡ 0 = eqb-true _ _ two.1 in
    record { some = leb-true _ _ one.0; fits = leb-true _ _ one.1; eighths = (length sectors / 8, omega (arith, none_left)); bytes = bytes }

pub sectors_exact : IsExact IsChunk sectors_bytes sectors_at
unfolding sectors_bytes sectors_at
sectors_exact =
    then_exact u32_exact IsChunk length sectors_in_row _ (λ sectors is. let few = is.fits in omega (arith, few))
    (λ count low. chosen_exact (λ sectors. IsChunk sectors × (length sectors ≡ count)) sectors_in_row (is_chunk count) (row_at sector_at count) (λ bytes. None)
    (λ passes. renamed (row_exact sector_exact count) (λ sectors. IsChunk sectors × (length sectors ≡ count))
    (λ sectors is. (chunk_is sectors (ap is_chunk is.0 ∙ passes) is.1, is.0)) (λ sectors is. (is.1, is.0.bytes)))
    (λ fails. nothing_exact _ _ (λ sectors is. false≢true (sym fails ∙ ap is_chunk (sym is.1) ∙ chunk_passes sectors is.0))))

-- ---- logs

few_between : (n top : ℕ) (ns : List ℕ) → ascends_from n ns ≡ true → Every (λ m. m ≤ top) ns → n ≤ top → n + length ns ≤ top
few_between n top [] is each low = omega arith
few_between n top (m ∷ ns) is each low =
    let both = and_parts _ _ is in
    let lt : n < m = ltb-true n m both.0 in
    let rest : m + length ns ≤ top = few_between m top ns both.1 each.1 each.0 in
    omega (arith, lt, rest)

few_within : (base window : ℕ) (ns : List ℕ) → ascends ns ≡ true → Every (λ n. (base < n) × (n ≤ base + window)) ns → length ns ≤ window
few_within base window [] is each = omega arith
few_within base window (n ∷ ns) is each =
    let lt : base < n = each.0.0 in
    let rest : n + length ns ≤ base + window = few_between n (base + window) ns is (every_more (λ m. (base < m) × (m ≤ base + window)) (λ m. m ≤ base + window) (λ m w. w.1) ns each.1) each.0.1 in
    omega (arith, lt, rest)

pub values_of : (rows : List Entry) → map (λ row. row.1) (entry_rows rows) ≡ rows
values_of [] = refl
values_of (e ∷ rows) = ap (λ r. e ∷ r) (values_of rows)

module _ (bounds : Bounds) (window : bounds.window < 2 ^ 32) (base : ℕ) where
  abbrev Stands : ℕ × Entry → Type 0
  Stands row = IsCanonicalIn bounds base row.0 row.1

  abbrev pub AllStand : Map Entry → Type 0
  AllStand log = (slot : ℕ) (e : Entry) → FinMap.get log slot ≡ Some e → IsCanonicalIn bounds base slot e

  pub record IsLog (log : Map Entry) : Type 0 where
    pub fit : Every EntryFitsWords (FinMap.values log)
    pub stand : AllStand log

  rows_all_stand : (log : Map Entry) → AllStand log → Every Stands (FinMap.entries log)
  rows_all_stand log stand = every_of_gets (IsCanonicalIn bounds base) log stand

  pub canonical_values : (log : Map Entry) → AllStand log → Every (IsCanonicalEntry bounds) (FinMap.values log)
  canonical_values log stand =
      every_map (IsCanonicalEntry bounds) (λ row. row.1) (FinMap.entries log) (every_more Stands (λ row. IsCanonicalEntry bounds row.1) (λ row stands. stands.canonical) (FinMap.entries log) (rows_all_stand log stand))

  all_stand : (log : Map Entry) → IsLog log → Every Stands (FinMap.entries log)
  all_stand log is = rows_all_stand log is.stand

  log_entries : (log : Map Entry) → IsLog log → Every (IsEntry bounds) (FinMap.values log)
  log_entries log is = every_both EntryFitsWords (IsCanonicalEntry bounds) (FinMap.values log) is.fit (canonical_values log is.stand)

  keys_within : (log : Map Entry) → AllStand log → Every (λ n. (base < n) × (n ≤ base + bounds.window)) (FinMap.keys log)
  keys_within log stand =
      every_map (λ n. (base < n) × (n ≤ base + bounds.window)) (λ row. row.0) (FinMap.entries log)
      (every_more Stands (λ row. (base < row.0) × (row.0 ≤ base + bounds.window)) (λ row stands. (stands.is_above, stands.within)) (FinMap.entries log) (rows_all_stand log stand))

  pub log_len : (log : Map Entry) → AllStand log → length (FinMap.values log) < 2 ^ 32
  log_len log stand =
      let few : length (FinMap.keys log) ≤ bounds.window = few_within base bounds.window (FinMap.keys log) (keys_ascend log) (keys_within log stand) in
      let keys : length (FinMap.keys log) ≡ length (FinMap.entries log) = length-map (FinMap.entries log) (λ row. row.0) in
      let values : length (FinMap.values log) ≡ length (FinMap.entries log) = length-map (FinMap.entries log) (λ row. row.1) in
      omega (arith, few, keys, values, window)

  entry_rows_back : (es : List (ℕ × Entry)) → Every Stands es → entry_rows (map (λ row. row.1) es) ≡ es
  entry_rows_back [] each = refl
  entry_rows_back (e ∷ es) each = λ i. (each.0.in_slot i, e.1) ∷ entry_rows_back es each.1 i

  slots_are_keys : (es : List (ℕ × Entry)) → Every Stands es → slots_in (map (λ row. row.1) es) ≡ map (λ row. row.0) es
  slots_are_keys [] each = refl
  slots_are_keys (e ∷ es) each = λ i. each.0.in_slot i ∷ slots_are_keys es each.1 i

  values_ascend : (log : Map Entry) → IsLog log → ascends (slots_in (FinMap.values log)) ≡ true
  values_ascend log is = ap ascends (slots_are_keys (FinMap.entries log) (all_stand log is)) ∙ keys_ascend log

  log_back : (log : Map Entry) → IsLog log → log_of (FinMap.values log) ≡ log
  log_back log is = same_entries_map _ log (log_rows (FinMap.values log) (values_ascend log is) ∙ entry_rows_back (FinMap.entries log) (all_stand log is))

  slot_within : (slot : ℕ) → base < slot → slot ≤ base + bounds.window → is_slot_within base bounds.window slot ≡ true
  slot_within slot lt le = let near : slot - base ≤ bounds.window = omega arith in and_from _ _ (lt-ltb base slot lt) (le-leb (slot - base) bounds.window near)

  within_slot : (slot : ℕ) → is_slot_within base bounds.window slot ≡ true → (base < slot) × (slot ≤ base + bounds.window)
  within_slot slot t =
      let both = and_parts _ _ t in
      let lt : base < slot = ltb-true base slot both.0 in
      let le : slot - base ≤ bounds.window = leb-true (slot - base) bounds.window both.1 in
      (lt, omega (arith, lt, le))

  entry_within : (row : ℕ × Entry) → Stands row → is_slot_within base bounds.window row.1.slot ≡ true
  entry_within row stands = ap (is_slot_within base bounds.window) stands.in_slot ∙ slot_within row.0 stands.is_above stands.within

  log_passes : (log : Map Entry) → IsLog log → is_log bounds base (FinMap.values log) ≡ true
  unfolding is_log
  log_passes log is =
      and_from _ _ (values_ascend log is)
      (list_all_of_every (λ e. is_slot_within base bounds.window e.slot ≡ true) (λ e. is_slot_within base bounds.window e.slot) (λ e t. t) (FinMap.values log)
      (every_map (λ e. is_slot_within base bounds.window e.slot ≡ true) (λ row. row.1) (FinMap.entries log) (every_more Stands (λ row. is_slot_within base bounds.window row.1.slot ≡ true) entry_within (FinMap.entries log) (all_stand log is))))

  rows_stand : (rows : List Entry) → Every (IsEntry bounds) rows → list_all (λ e. is_slot_within base bounds.window e.slot) rows ≡ true → Every Stands (entry_rows rows)
  rows_stand [] each t = tt
  rows_stand (e ∷ rows) each t =
      let both = and_parts _ _ t in
      let w = within_slot e.slot both.0 in
      (record { canonical = each.0.1; in_slot = refl; is_above = w.0; within = w.1 }, rows_stand rows each.1 both.1)

  log_is : (rows : List Entry) → Every (IsEntry bounds) rows → is_log bounds base rows ≡ true → IsLog (log_of rows) × (FinMap.values (log_of rows) ≡ rows)
  unfolding is_log
  log_is rows each t =
      let both = and_parts _ _ t in
      let there = log_rows rows both.0 in
      let values : FinMap.values (log_of rows) ≡ rows = ap (map (λ row. row.1)) there ∙ values_of rows in (
        record {
          fit = subst (Every EntryFitsWords) (sym values) (every_more (IsEntry bounds) EntryFitsWords (λ e is. is.0) rows each);
          stand = λ slot e at. get_of_every (IsCanonicalIn bounds base) (log_of rows) slot e (subst (Every Stands) (sym there) (rows_stand rows each both.1)) at;
        },
        values,
      )

  pub log_exact : IsExact IsLog log_bytes (log_at bounds base)
  unfolding log_at
  log_exact =
      last_exact (entries_exact bounds) IsLog FinMap.values _ (λ log is. (log_len log is.stand, log_entries log is))
      (λ rows fits. tested_exact (λ log. IsLog log × (FinMap.values log ≡ rows)) (is_log bounds base rows) (log_of rows)
      (λ log is. (ap log_of (sym is.1) ∙ log_back log is.0, ap (is_log bounds base) (sym is.1) ∙ log_passes log is.0))
      (log_is rows fits.1))
