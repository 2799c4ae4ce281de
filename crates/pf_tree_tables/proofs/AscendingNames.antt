-- Names that ascend: where one of them stands, and what is left without it or with one more.
use Rattle.std.proofs.Common.{◌≡◌, ◌≢◌, ℕ, zero, suc, ◌+◌, ◌<◌, inl, inr, true, false, List, [], ◌∷◌, length, map, get_or, Some, None, Result, Ok, Err, refl, sym, ap, ◌∙◌, arith}
use Rattle.std.specs.List.{insert, remove, position_or_len}
use Rattle.std.specs.List.Sorted.{IsBinarySearchResult, IsSearchInRange}
use Rattle.std.specs.Cmp.Lexicographic.{slice_cmp}
use Rattle.std.specs.Ordering.{is_lt, nat_cmp, ordering_reverse}
use Rattle.std.specs.declared.cmp.Ordering.{Ordering}
use Rattle.std.specs.declared.cmp.Ordering.TheVariants.{Less, Equal, Greater}
use Rattle.std.specs.Result.{MatchResult}
use Rattle.std.specs.Str.{bytes_eq}
use Rattle.std.proofs.lemmas.Bool.{false_from_ne_true, true≢false, false≢true, cases_lt}
use Rattle.std.proofs.lemmas.Cmp.{nat_list_cmp_total, tied_itself}
use Rattle.std.proofs.lemmas.List.Sums.{position_or_len_is}
use Rattle.std.proofs.lemmas.List.{get_or-map, length-map}
use Rattle.std.proofs.lemmas.List.Sorted.{searchable_from_sorted}
use Rattle.std.proofs.lemmas.Map.Lookups.{exact_bytes}
use Rattle.pf_tree_tables.specs.declared.tables.DirectoryEntry.{DirectoryEntry}
use Rattle.pf_tree_tables.specs.Names.{Name, NamesAreInOrder, is_name_before}
use Rattle.pf_tree_tables.specs.Tables.{IsAscending, IsGap, IsThere, entry_found, other_entries, put_entry}
use Rattle.pf_tree_tables.proofs.Entries.{same_name, is_name, here, past, kept, dropped}

no_entry : DirectoryEntry
no_entry = record { inode = 0; name = [] }

less : (o : Ordering) → is_lt o ≡ true → o ≡ Less
less Less e = refl
less Equal e = absurd (false≢true e)
less Greater e = absurd (false≢true e)

not_itself : (a b : Name) → is_name_before a b ≡ true → a ≢ b
not_itself a b up same =
    true≢false (sym up ∙ ap is_lt (ap (slice_cmp nat_cmp a) (sym same) ∙ tied_itself nat_list_cmp_total a))

not_back : (a b : Name) → is_name_before a b ≡ true → is_name_before b a ≡ false
not_back a b up = ap is_lt (nat_list_cmp_total.antisymm b a ∙ ap ordering_reverse (less (slice_cmp nat_cmp a b) up))

rising : (r : DirectoryEntry) (rows : List DirectoryEntry) → IsAscending (r ∷ rows) → IsAscending rows
rising r rows up = λ i j d low within. up (suc i) (suc j) d (omega (arith, low)) (omega (arith, within))

first_before : (r : DirectoryEntry) (rows : List DirectoryEntry) → IsAscending (r ∷ rows) → (k : ℕ) (d : DirectoryEntry) → k < length rows → is_name_before r.name (get_or rows k d).name ≡ true
first_before r rows up k d low = up 0 (suc k) d (omega arith) (omega (arith, low))

not_named : (rows : List DirectoryEntry) (name : Name) → ((k : ℕ) (d : DirectoryEntry) → k < length rows → (get_or rows k d).name ≢ name) → entry_found rows name ≡ None
not_named [] name apart = refl
not_named (r ∷ rows) name apart =
    past name r rows (false_from_ne_true _ (λ e. apart 0 r (omega arith) (is_name r name e)))
    ∙ not_named rows name (λ k d low. apart (suc k) d (omega (arith, low)))

all_others : (rows : List DirectoryEntry) (name : Name) → ((k : ℕ) (d : DirectoryEntry) → k < length rows → (get_or rows k d).name ≢ name) → other_entries rows name ≡ rows
all_others [] name apart = refl
all_others (r ∷ rows) name apart =
    kept name r rows (false_from_ne_true _ (λ e. apart 0 r (omega arith) (is_name r name e)))
    ∙ ap (λ rs. r ∷ rs) (all_others rows name (λ k d low. apart (suc k) d (omega (arith, low))))

earlier_apart : (r : DirectoryEntry) (rows : List DirectoryEntry) (name : Name) (i : ℕ) → IsAscending (r ∷ rows) → IsThere (r ∷ rows) name (suc i) → bytes_eq r.name name ≡ false
earlier_apart r rows name i up at =
    let low : i < length rows = let l = at.0 in omega (arith, l) in
    false_from_ne_true _ (λ e. not_itself r.name (get_or rows i r).name (first_before r rows up i r low) (is_name r name e ∙ sym (at.1 r)))

pub found_here : (rows : List DirectoryEntry) (name : Name) (i : ℕ) (d : DirectoryEntry) → IsAscending rows → IsThere rows name i → entry_found rows name ≡ Some (get_or rows i d).inode
found_here [] name i d up at = let l = at.0 in absurd (omega (arith, l))
found_here (r ∷ rows) name zero d up at = here name r rows (same_name r name (at.1 d))
found_here (r ∷ rows) name (suc i) d up at =
    past name r rows (earlier_apart r rows name i up at)
    ∙ found_here rows name i d (rising r rows up) (let l = at.0 in omega (arith, l), at.1)

-- without the name at a place
pub others_here : (rows : List DirectoryEntry) (name : Name) (i : ℕ) → IsAscending rows → IsThere rows name i → other_entries rows name ≡ remove rows i
others_here [] name i up at = let l = at.0 in absurd (omega (arith, l))
others_here (r ∷ rows) name zero up at =
    dropped name r rows (same_name r name (at.1 r))
    ∙ all_others rows name (λ k d low e. not_itself r.name (get_or rows k d).name (first_before r rows up k d low) (at.1 r ∙ sym e))
others_here (r ∷ rows) name (suc i) up at =
    kept name r rows (earlier_apart r rows name i up at)
    ∙ ap (λ rs. r ∷ rs) (others_here rows name i (rising r rows up) (let l = at.0 in omega (arith, l), at.1))

module _ (rows : List DirectoryEntry) (name : Name) (i : ℕ) (gap : IsGap rows name i) where
  gap_apart : (k : ℕ) (d : DirectoryEntry) → k < length rows → (get_or rows k d).name ≢ name
  gap_apart k d low =
      elim (cases_lt k i) [
        | inl before ↦ not_itself (get_or rows k d).name name (gap.1.0 k d (omega arith) before)
        | inr after ↦ λ e. not_itself name (get_or rows k d).name (gap.1.1 k d after low) (sym e)
      ]

  pub found_gap : entry_found rows name ≡ None
  found_gap = not_named rows name gap_apart

  pub others_gap : other_entries rows name ≡ rows
  others_gap = all_others rows name gap_apart

  pub place_is : position_or_len (λ (other : DirectoryEntry). is_name_before name other.name) rows ≡ i
  place_is =
      position_or_len_is (λ (other : DirectoryEntry). is_name_before name other.name) rows i no_entry gap.0
      (λ k low. not_back (get_or rows k no_entry).name name (gap.1.0 k no_entry (omega arith) low))
      (λ low. gap.1.1 i no_entry (omega arith) low)

-- what a binary search by the name finds
pub searched : (rows : List DirectoryEntry) (name : Name) (r : Result ℕ ℕ) → IsAscending rows → IsSearchInRange r (length rows) → IsBinarySearchResult (λ (row : DirectoryEntry). slice_cmp nat_cmp row.name name) rows r → MatchResult r (IsThere rows name) (IsGap rows name)
searched rows name (Ok i) up bound at = (bound, λ d. exact_bytes _ _ (at d))
searched rows name (Err i) up bound at =
    let rises = searchable_from_sorted nat_list_cmp_total (λ (row : DirectoryEntry). row.name) rows name (λ k d low within. not_back (get_or rows k d).name (get_or rows (k + 1) d).name (up k (k + 1) d (omega arith) within)) in
    let p = at rises in (
      bound,
      (λ k d low high. ap is_lt (p.0 k d low high), λ k d low high. ap is_lt (nat_list_cmp_total.antisymm name (get_or rows k d).name ∙ ap ordering_reverse (p.1 k d low high))),
    )

pub put_is : (rows list : List DirectoryEntry) (row : DirectoryEntry) (name : Name) (p : ℕ) → rows ≡ list → name ≡ row.name → IsGap rows name p → insert rows p row ≡ put_entry list row
put_is rows list row name p e f gap =
    ap (λ k. insert rows k row) (sym (place_is rows name p gap))
    ∙ ap (λ (n : Name). insert rows (position_or_len (λ (other : DirectoryEntry). is_name_before n other.name) rows) row) f
    ∙ ap (λ (rs : List DirectoryEntry). put_entry rs row) e

pub names_in_order : (rows : List DirectoryEntry) → IsAscending rows → NamesAreInOrder (map (λ (row : DirectoryEntry). row.name) rows)
names_in_order rows up i j d low within =
    let name : DirectoryEntry → Name = λ row. row.name in
    let inside : j < length rows = let n = length-map rows name in omega (arith, n, within) in
    let at_i = get_or-map name rows i no_entry d (omega (arith, low, inside)) in
    let at_j = get_or-map name rows j no_entry d inside in
    ap (λ (n : Name). is_name_before n (get_or (map name rows) j d)) at_i
    ∙ ap (λ (n : Name). is_name_before (get_or rows i no_entry).name n) at_j
    ∙ up i j no_entry low inside
