-- The test of starts over their list.
use Rattle.std.proofs.Common.{◌≡◌, ℕ, true, Bool, ◌||◌, ◌&&◌, List, [], ◌∷◌, Some, nat_lt, nat_le, refl, ap, ◌∙◌, map}
use Rattle.std.specs.List.{list_any}
use Rattle.std.specs.FinMap
use Rattle.std.specs.FinMap.{get-entries, find}
use Rattle.std.specs.Ordering.{nat_cmp}
use Rattle.pf_entry.specs.Lists.{Every}
use Rattle.pf_entry.proofs.Lists.{every_more}
use Rattle.pf_entry.specs.Maps.{Map}
use Rattle.pf_entry.specs.Voids.{is_void, began_by}
use Rattle.pf_entry.specs.Tables.{ascends}
use Rattle.pf_entry.specs.StartMaps.{terms_in, start_rows}
use Rattle.pf_entry.specs.declared.tables.Start.{Start}
use Rattle.pf_merge.proofs.AscendingLists.{found_all}

abbrev later : ℕ → ℕ → Start → Bool
later slot term s = nat_lt term s.term && nat_le s.first slot

any_row : (starts : Map ℕ) (slot term : ℕ) (rows : List Start) → Every (λ s. FinMap.get starts s.term ≡ Some s.first) rows → list_any (λ t. nat_lt term t && began_by (FinMap.get starts t) slot) (map (λ e. e.0) (start_rows rows)) ≡ list_any (later slot term) rows
any_row starts slot term [] there = refl
any_row starts slot term (s ∷ ss) there =
    ap (λ o. (nat_lt term s.term && began_by o slot) || list_any (λ t. nat_lt term t && began_by (FinMap.get starts t) slot) (map (λ e. e.0) (start_rows ss))) there.0
    ∙ ap (λ b. later slot term s || b) (any_row starts slot term ss there.1)

pub void_rows : (starts : Map ℕ) (slot term : ℕ) (rows : List Start) → ascends (terms_in rows) ≡ true → FinMap.entries starts ≡ start_rows rows → is_void starts slot term ≡ list_any (later slot term) rows
unfolding is_void
void_rows starts slot term rows ascending are =
    ap (λ es. list_any (λ t. nat_lt term t && began_by (FinMap.get starts t) slot) (map (λ e. e.0) es)) are
    ∙ any_row starts slot term rows
    (every_more (λ s. find nat_cmp s.term (start_rows rows) ≡ Some s.first) (λ s. FinMap.get starts s.term ≡ Some s.first)
    (λ s there. get-entries starts s.term ∙ ap (find nat_cmp s.term) are ∙ there) rows (found_all (λ s. s.term) (λ s. s.first) rows ascending))
