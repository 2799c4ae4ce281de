-- What the table of starts keeps.
use Rattle.std.proofs.Common.{◌≡◌, ℕ, true, false, is_some, List, length, get_or, slice_set, Ok, Err, refl, ap}
use Rattle.std.specs.Ordering.{nat_cmp}
use Rattle.std.specs.List.{insert}
use Rattle.std.specs.List.Sorted.{IsSearchInRange, IsBinarySearchResult}
use Rattle.std.specs.FinMap
use Rattle.pf_entry.specs.declared.tables.Start.{Start}
use Rattle.pf_entry.specs.Records.{add_start}
use Rattle.pf_entry.specs.StartMaps.{starts_of, terms_in}
use Rattle.pf_entry.specs.Tables.{ascends}
use Rattle.pf_server_tables.proofs.Rows.{searched, key_at, put_at, ascends-at, put_in_gap, ascends-at_gap, none_at_gap, len_is}

abbrev pub term_of : Start → ℕ
term_of row = row.term

abbrev pub first_of : Start → ℕ
first_of row = row.first

abbrev pub start : (term first : ℕ) → Start
start term first = record { term = term; first = first }

-- rows with the start of a term put among them
pub record IsPut (rows : List Start) (term first : ℕ) (put : List Start) : Type 0 where
  pub ascending : ascends (terms_in put) ≡ true
  pub added : starts_of put ≡ add_start (starts_of rows) term first

-- in the place of that of the term
pub in_place : (slice rows : List Start) → slice ≡ rows → (term first place : ℕ) (row : Start) → ascends (terms_in rows) ≡ true → IsSearchInRange (Ok place) (length slice) → IsBinarySearchResult (λ r. nat_cmp (term_of r) term) slice (Ok place) → row ≡ get_or rows place row → IsPut rows term first (slice_set rows place (start row.term first))
unfolding starts_of add_start
in_place slice rows e term first place row is within found read =
    let at = searched term_of first_of slice rows e term row (Ok place) is within found in
    let own : row.term ≡ term = key_at term_of first_of rows term place row read at in
    record {
      ascending = ascends-at term_of first_of rows term place (start row.term first) is at own;
      added = put_at term_of first_of rows term place (start row.term first) is at own;
    }

-- or at the place of a new term
pub in_gap : (slice rows : List Start) → slice ≡ rows → (term first place : ℕ) → ascends (terms_in rows) ≡ true → IsSearchInRange (Err place) (length slice) → IsBinarySearchResult (λ r. nat_cmp (term_of r) term) slice (Err place) → IsPut rows term first (insert rows place (start term first))
unfolding starts_of add_start
in_gap slice rows e term first place is within found =
    let gap = searched term_of first_of slice rows e term (start term first) (Err place) is within found in
    record {
      ascending = ascends-at_gap term_of first_of rows term place (start term first) is gap refl;
      added = put_in_gap term_of first_of rows term place (start term first) gap refl;
    }

-- which had no start
pub absent : (slice rows : List Start) → slice ≡ rows → (term place : ℕ) → ascends (terms_in rows) ≡ true → IsSearchInRange (Err place) (length slice) → IsBinarySearchResult (λ r. nat_cmp (term_of r) term) slice (Err place) → FinMap.contains_key (starts_of rows) term ≡ false
unfolding starts_of
absent slice rows e term place is within found =
    ap is_some (none_at_gap term_of first_of rows term place (searched term_of first_of slice rows e term (start term term) (Err place) is within found))

pub len-starts_of : (rows : List Start) → ascends (terms_in rows) ≡ true → FinMap.len (starts_of rows) ≡ length rows
unfolding starts_of
len-starts_of rows is = len_is term_of first_of rows is
