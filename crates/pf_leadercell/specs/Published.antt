-- The pairs of a term and a server that were published, and what each pass has seen of them.
use Rattle.std.specs.Prelude.{◌≡◌, ℕ, ◌≤◌, ◌<◌, Bool, true, List, [], ◌∷◌, ◌++◌, slice_index}
use mathlib.Core.Option.{some}
use lib.ListN.{get_elem?}
use Rattle.pf_leadercell.specs.declared.view.LeaderView.{LeaderView}

abbrev pub Pair : Type 0
Pair = ℕ × ℕ

-- ys begins with xs
abbrev pub Begins : List Pair → List Pair → Type 0
Begins xs ys = (rest : List Pair) × (xs ++ rest ≡ ys)

abbrev pub last_or : Pair → List Pair → Pair
last_or d [] = d
last_or d (x ∷ xs) = last_or x xs

-- the pair that was published last; a list that was seen is never empty
abbrev pub last_of : List Pair → Pair
last_of xs = last_or (0, 0) xs

-- no term of the list is above t
abbrev pub AllUpTo : ℕ → List Pair → Type 0
AllUpTo t [] = Unit {0}
AllUpTo t (x ∷ xs) = (x.0 ≤ t) × AllUpTo t xs

abbrev pub pass_view : Bool → List Pair → LeaderView
pass_view first seen = record { first = first; seen = seen }

abbrev pub PassFits : ℕ → List Pair → ℕ → LeaderView → Type 0
PassFits one log j v = Begins v.seen log × (v.first ≡ true → (j ≡ one) × (v.seen ≡ log))

-- the words are the pair that was published last, no published term is above its own, and its server is one of the three. Each pass has
-- seen a beginning of the list, and the first pass all of it
abbrev pub Kept : List ℕ → List LeaderView → Type 0
Kept words views =
    (one : ℕ) × (log : List Pair) × (last_of log ≡ (slice_index words 0, slice_index words 1)) × AllUpTo (slice_index words 0) log × (slice_index words 1 < 3)
    × ((j : ℕ) (v : LeaderView) → get_elem? views j ≡ some v → PassFits one log j v)

-- all that was published is seen, and the pair that stands is the last of it
abbrev pub Hints : LeaderView → List ℕ → List ℕ → LeaderView → Type 0
Hints v before after w = (w.first ≡ v.first) × Begins v.seen w.seen × (last_of w.seen ≡ (slice_index after 0, slice_index after 1))
    × AllUpTo (slice_index after 0) w.seen
    × (v.first ≡ true → w.seen ≡ v.seen) × (slice_index after 1 < 3)

-- the pair is added to what was published
abbrev pub Publishes : LeaderView → List ℕ → List ℕ → LeaderView → Type 0
Publishes v before after w = w ≡ pass_view v.first (v.seen ++ (slice_index after 0, slice_index after 1) ∷ [])
