-- A listing of a tree whose names are those that calls can make ascends strictly.
use Rattle.std.proofs.Common.{◌≡◌, ◌≢◌, ℕ, zero, suc, ◌<◌, inl, inr, Bool, true, false, List, [], ◌∷◌, length, map, get_or, Some, None, IsTrue, refl, sym, ap, ◌∙◌, arith}
use Rattle.std.specs.Prelude.{AllPairs}
use Rattle.std.specs.List.{AllByRecursion, IsDistinct}
use Rattle.std.specs.Ordering.{is_lt, nat_cmp, ordering_reverse}
use Rattle.std.specs.declared.cmp.Ordering.{Ordering}
use Rattle.std.specs.declared.cmp.Ordering.TheVariants.{Less, Equal, Greater}
use Rattle.std.specs.Cmp.Lexicographic.{slice_cmp}
use Rattle.std.specs.Str.{bytes_eq}
use Rattle.std.proofs.lemmas.Bool.{cases_Bool, cond-true, cond-false, false_from_ne_true, false≢true}
use Rattle.std.proofs.lemmas.Cmp.{nat_list_cmp_total}
use Rattle.std.proofs.lemmas.Map.Keys.{IsDistinct-IsPermutation}
use Rattle.std.proofs.lemmas.Map.Lookups.{exact_bytes}
use Rattle.std.proofs.lemmas.Option.{none-some}
use Rattle.std.proofs.lemmas.Slice.Eq.{bytes_eq-Decides}
use Rattle.pf_tree_tables.specs.Names.{Path, is_name_before}
use Rattle.pf_tree.specs.declared.listing.Listed.{Listed}
use Rattle.pf_tree.specs.Listings.{Lists, path_listed}
use Rattle.pf_tree.specs.Paths.{is_same, path_bytes}
use Rattle.pf_tree.specs.Standing.{IsMap}
use Rattle.pf_tree.specs.Trees.{Node, Dir, File, Tree, at}
use Rattle.pf_tree.proofs.Paths.{is_same_true, is_same_false}
use Rattle.pf_layout.specs.Paths.{HasNames, IsName}
use Rattle.pf_layout.proofs.PathLaws.{paths_apart}

same_bytes : Listed → Listed → Bool
same_bytes row other = bytes_eq row.path other.path

flips : (row other : Listed) → same_bytes row other ≡ same_bytes other row
unfolding same_bytes
flips row other =
    elim (cases_Bool (bytes_eq row.path other.path)) [
      | inl is ↦ is ∙ sym ((bytes_eq-Decides other.path row.path).1 (sym ((bytes_eq-Decides row.path other.path).0 is)))
      | inr isnt ↦
          isnt
          ∙ sym (false_from_ne_true _ (λ h. false≢true (sym isnt ∙ (bytes_eq-Decides row.path other.path).1 (sym ((bytes_eq-Decides other.path row.path).0 h)))))
    ]

listed_path : (p : Path) (node : Node) → (path_listed p node).path ≡ path_bytes p
listed_path p Dir = refl
listed_path p (File size blocks) = refl

apart_from : (x : Path) (node : Node) (rows : Tree) → AllByRecursion IsName x → HasNames rows → at rows x ≡ None → AllByRecursion (λ other. same_bytes (path_listed x node) other ≡ false) (map (λ row. path_listed row.0 row.1) rows)
unfolding same_bytes
apart_from x node [] is_x names none = tt
apart_from x node (row ∷ rows) is_x names none =
    let apart : x ≢ row.0 =
    λ same. none-some row.1 (sym none ∙ cond-true (is_same x row.0) (Some row.1) (at rows x) (is_same_true x row.0 same)) in (
      false_from_ne_true _ (λ h. apart (paths_apart x row.0 is_x names.0
          (sym (listed_path x node) ∙ (bytes_eq-Decides (path_listed x node).path (path_listed row.0 row.1).path).0 h ∙ listed_path row.0 row.1))),
      apart_from x node rows is_x names.1 (sym (cond-false (is_same x row.0) (Some row.1) (at rows x) (is_same_false x row.0 apart)) ∙ none),
    )

tree_distinct : (rows : Tree) → IsMap rows → HasNames rows → IsDistinct same_bytes (map (λ row. path_listed row.0 row.1) rows)
unfolding IsDistinct
tree_distinct [] m names = tt
tree_distinct (row ∷ rows) m names = (apart_from row.0 row.1 rows names.0 names.1 m.0, tree_distinct rows m.1 names.1)

all_at : (P : Listed → Type 0) (rows : List Listed) → AllByRecursion P rows → (k : ℕ) (d : Listed) → k < length rows → P (get_or rows k d)
all_at P [] all k d low = absurd (omega (arith, low))
all_at P (row ∷ rows) all zero d low = all.0
all_at P (row ∷ rows) all (suc k) d low = all_at P rows all.1 k d (omega (arith, low))

distinct_at : (rows : List Listed) → IsDistinct same_bytes rows → (i j : ℕ) (d : Listed) → i < j → j < length rows → same_bytes (get_or rows i d) (get_or rows j d) ≡ false
unfolding IsDistinct
distinct_at [] all i j d low within = absurd (omega (arith, within))
distinct_at (row ∷ rows) all i zero d low within = absurd (omega (arith, low))
distinct_at (row ∷ rows) all zero (suc j) d low within = all_at (λ other. same_bytes row other ≡ false) rows all.0 j d (omega (arith, within))
distinct_at (row ∷ rows) all (suc i) (suc j) d low within = distinct_at rows all.1 i j d (omega (arith, low)) (omega (arith, within))

strictly : (a b : List ℕ) (o : Ordering) → slice_cmp nat_cmp a b ≡ o → is_name_before b a ≡ false → bytes_eq a b ≡ false → is_name_before a b ≡ true
strictly a b Less e back apart = ap is_lt e
strictly a b Equal e back apart = absurd (false≢true (sym apart ∙ (bytes_eq-Decides a b).1 (exact_bytes a b e)))
strictly a b Greater e back apart = absurd (false≢true (sym back ∙ ap is_lt (nat_list_cmp_total.antisymm b a ∙ ap ordering_reverse e)))

pub listing_ascends : (tree : Tree) (rows : List Listed) → IsMap tree → HasNames tree → Lists tree rows → AllPairs (λ row later. IsTrue (is_name_before row.path later.path)) rows
unfolding same_bytes
listing_ascends tree rows m names l i j d low within =
    strictly (get_or rows i d).path (get_or rows j d).path (slice_cmp nat_cmp (get_or rows i d).path (get_or rows j d).path) refl
    (l.order i j d low within)
    (distinct_at rows (IsDistinct-IsPermutation same_bytes flips (map (λ row. path_listed row.0 row.1) tree) rows l.all (tree_distinct tree m names)) i j d low within)
