-- What the table of snapshots keeps.
use Rattle.std.proofs.Common.{◌≡◌, ℕ, suc, ◌+◌, ◌<◌, ◌≤◌, true, List, [], ◌∷◌, length, get_or, slice_set, Some, None, nat_lt, Ok, Err, arith, refl, sym, ap, ◌∙◌}
use Rattle.std.specs.Ordering.{nat_cmp}
use Rattle.std.specs.List.{insert, remove}
use Rattle.std.specs.List.Sorted.{IsSearchInRange, IsBinarySearchResult}
use Rattle.std.specs.FinMap
use Rattle.std.proofs.lemmas.Bool.{cond-true, cond-false, lt-ltb, le-ltb, and_parts}
use Rattle.std.proofs.lemmas.List.Edits.{length-insert}
use Rattle.std.proofs.lemmas.List.{length-set}
use Rattle.pf_entry.specs.Ops.{Sector}
use Rattle.pf_entry.specs.Tables.{ascends}
use Rattle.pf_holes.proofs.SlotOrder.{rising-ascends}
use Rattle.pf_protocol.specs.Saving.{four_greatest, without_least}
use Rattle.pf_server_tables.specs.SnapshotTables.{marks_in, snapshots_of, AreFew}
use Rattle.pf_server_tables.proofs.Rows.{searched, key_at, map_of, own_pairs, len_is, keys_are, remove_first, put_at, ascends-at, put_in_gap, ascends-at_gap, none_at_gap, get_row}

abbrev pub Snapshot : Type 0
Snapshot = ℕ × List Sector

abbrev pub mark_of : Snapshot → ℕ
mark_of row = row.0

abbrev pub sectors_of : Snapshot → List Sector
sectors_of row = row.1

pub snapshots_are : (rows : List Snapshot) → snapshots_of rows ≡ map_of mark_of sectors_of rows
snapshots_are rows = ap FinMap.from_entries (sym (own_pairs rows))

len_of : (rows : List Snapshot) → ascends (marks_in rows) ≡ true → FinMap.len (snapshots_of rows) ≡ length rows
len_of rows is = ap FinMap.len (snapshots_are rows) ∙ len_is mark_of sectors_of rows is

-- four or fewer are all kept
pub all_kept : (rows : List Snapshot) → ascends (marks_in rows) ≡ true → length rows ≤ 4 → snapshots_of rows ≡ four_greatest (snapshots_of rows)
all_kept rows is few = sym (cond-false _ _ _ (ap (nat_lt 4) (len_of rows is) ∙ le-ltb 4 (length rows) few))

-- of five the least goes
pub least_goes : (rows : List Snapshot) → ascends (marks_in rows) ≡ true → 4 < length rows → snapshots_of (remove rows 0) ≡ four_greatest (snapshots_of rows)
least_goes [] is many = absurd (omega arith)
least_goes (row ∷ rows) is many =
    sym (cond-true _ _ _ (ap (nat_lt 4) (len_of (row ∷ rows) is) ∙ lt-ltb 4 (suc (length rows)) many)
    ∙ ap (without_least (snapshots_of (row ∷ rows))) (ap FinMap.keys (snapshots_are (row ∷ rows)) ∙ keys_are mark_of sectors_of (row ∷ rows) is)
    ∙ ap (λ m. FinMap.remove m (mark_of row)) (snapshots_are (row ∷ rows))
    ∙ remove_first mark_of sectors_of row rows (rising-ascends (marks_in (row ∷ rows)) is)
    ∙ sym (snapshots_are rows))

rest_ascends : (rows : List Snapshot) → ascends (marks_in rows) ≡ true → ascends (marks_in (remove rows 0)) ≡ true
rest_ascends [] is = refl
rest_ascends (row ∷ []) is = refl
rest_ascends (row ∷ next ∷ rows) is = (and_parts _ _ is).1

rest_length : (rows : List Snapshot) (n : ℕ) → length rows ≤ suc n → length (remove rows 0) ≤ n
rest_length [] n le = omega arith
rest_length (row ∷ rows) n le = omega arith

-- rows with the sectors of one mark put among them
pub record IsPut (rows : List Snapshot) (mark : ℕ) (sectors : List Sector) (more : ℕ) (put : List Snapshot) : Type 0 where
  pub ascending : ascends (marks_in put) ≡ true
  pub added : snapshots_of put ≡ FinMap.insert (snapshots_of rows) mark sectors
  pub len : length put ≡ length rows + more

-- in the place of those of the mark
pub in_place : (slice rows : List Snapshot) → slice ≡ rows → (mark place : ℕ) (sectors : List Sector) (row : Snapshot) → ascends (marks_in rows) ≡ true → IsSearchInRange (Ok place) (length slice) → IsBinarySearchResult (λ r. nat_cmp (mark_of r) mark) slice (Ok place) → row ≡ get_or rows place row → IsPut rows mark sectors 0 (slice_set rows place (row.0, sectors))
in_place slice rows e mark place sectors row is within found read =
    let at = searched mark_of sectors_of slice rows e mark row (Ok place) is within found in
    let own : row.0 ≡ mark = key_at mark_of sectors_of rows mark place row read at in
    record {
      ascending = ascends-at mark_of sectors_of rows mark place (row.0, sectors) is at own;
      added =
          snapshots_are (slice_set rows place (row.0, sectors)) ∙ put_at mark_of sectors_of rows mark place (row.0, sectors) is at own
          ∙ ap (λ m. FinMap.insert m mark sectors) (sym (snapshots_are rows));
      len = let same = length-set rows place (row.0, sectors) in omega (arith, same);
    }

-- or at the place of a new mark
pub in_gap : (slice rows : List Snapshot) → slice ≡ rows → (mark place : ℕ) (sectors : List Sector) → ascends (marks_in rows) ≡ true → IsSearchInRange (Err place) (length slice) → IsBinarySearchResult (λ r. nat_cmp (mark_of r) mark) slice (Err place) → IsPut rows mark sectors 1 (insert rows place (mark, sectors))
in_gap slice rows e mark place sectors is within found =
    let gap = searched mark_of sectors_of slice rows e mark (mark, sectors) (Err place) is within found in
    record {
      ascending = ascends-at_gap mark_of sectors_of rows mark place (mark, sectors) is gap refl;
      added =
          snapshots_are (insert rows place (mark, sectors)) ∙ put_in_gap mark_of sectors_of rows mark place (mark, sectors) gap refl
          ∙ ap (λ m. FinMap.insert m mark sectors) (sym (snapshots_are rows));
      len = length-insert rows place (mark, sectors) gap.within;
    }

-- the table after it, where there are at most four
pub few_after : (capacity : ℕ) (rows : List Snapshot) (mark : ℕ) (sectors : List Sector) (more : ℕ) (put : List Snapshot) → IsPut rows mark sectors more put → length rows + more ≤ 4 → 5 ≤ capacity → AreFew capacity put
few_after capacity rows mark sectors more put is few room = record { ascending = is.ascending; few = omega (arith, is.len); room = room }

pub kept_after : (rows : List Snapshot) (mark : ℕ) (sectors : List Sector) (more : ℕ) (put : List Snapshot) → IsPut rows mark sectors more put → length rows + more ≤ 4 → snapshots_of put ≡ four_greatest (FinMap.insert (snapshots_of rows) mark sectors)
kept_after rows mark sectors more put is few = all_kept put is.ascending (omega (arith, is.len)) ∙ ap four_greatest is.added

-- and where there are five
pub few_of_five : (capacity : ℕ) (rows : List Snapshot) (mark : ℕ) (sectors : List Sector) (put : List Snapshot) → IsPut rows mark sectors 1 put → length rows ≤ 4 → 5 ≤ capacity → AreFew capacity (remove put 0)
few_of_five capacity rows mark sectors put is few room = record { ascending = rest_ascends put is.ascending; few = rest_length put 4 (omega (arith, is.len)); room = room }

pub four_of_five : (rows : List Snapshot) (mark : ℕ) (sectors : List Sector) (put : List Snapshot) → IsPut rows mark sectors 1 put → 4 < length rows + 1 → snapshots_of (remove put 0) ≡ four_greatest (FinMap.insert (snapshots_of rows) mark sectors)
four_of_five rows mark sectors put is many = least_goes put is.ascending (omega (arith, is.len)) ∙ ap four_greatest is.added

-- the sectors that a search finds
pub got : (slice rows : List Snapshot) → slice ≡ rows → (mark place : ℕ) (row : Snapshot) → ascends (marks_in rows) ≡ true → IsSearchInRange (Ok place) (length slice) → IsBinarySearchResult (λ r. nat_cmp (mark_of r) mark) slice (Ok place) → row ≡ get_or rows place row → FinMap.get (snapshots_of rows) mark ≡ Some row.1
got slice rows e mark place row is within found read =
    let at = searched mark_of sectors_of slice rows e mark row (Ok place) is within found in
    let own : row.0 ≡ mark = key_at mark_of sectors_of rows mark place row read at in
    ap (λ m. FinMap.get m mark) (snapshots_are rows)
    ∙ ap (FinMap.get (map_of mark_of sectors_of rows)) (sym own ∙ ap mark_of read)
    ∙ get_row mark_of sectors_of rows place row (rising-ascends (marks_in rows) is) at.within
    ∙ ap (λ (r : Snapshot). Some r.1) (sym read)

pub got_none : (slice rows : List Snapshot) → slice ≡ rows → (mark place : ℕ) → ascends (marks_in rows) ≡ true → IsSearchInRange (Err place) (length slice) → IsBinarySearchResult (λ r. nat_cmp (mark_of r) mark) slice (Err place) → FinMap.get (snapshots_of rows) mark ≡ None
got_none slice rows e mark place is within found =
    ap (λ m. FinMap.get m mark) (snapshots_are rows)
    ∙ none_at_gap mark_of sectors_of rows mark place (searched mark_of sectors_of slice rows e mark (mark, []) (Err place) is within found)
