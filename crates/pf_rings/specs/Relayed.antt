-- What was put is what was taken and then what the ring holds, eight at most. One pass at most puts, and it has the list of what was
-- put; one at most takes, and it has the list of what was taken. Each knows a beginning of the other's list.
use Rattle.std.specs.Prelude.{◌≡◌, ◌⊎◌, ℕ, ◌≤◌, Bool, true, List, [], ◌∷◌, ◌++◌, length}
use mathlib.Core.Option.{some}
use lib.ListN.{get_elem?}
use Rattle.pf_rings.specs.declared.view.Request.{Request}
use Rattle.pf_rings.specs.declared.view.RingView.{RingView}

abbrev pub relay_view : Bool → Bool → List Request → List Request → RingView
relay_view puts takes sent got = record { puts = puts; takes = takes; sent = sent; got = got }

-- ys begins with xs
abbrev pub Begins : List Request → List Request → Type 0
Begins xs ys = (rest : List Request) × (xs ++ rest ≡ ys)

abbrev pub RelayFits : ℕ → ℕ → List Request → List Request → ℕ → RingView → Type 0
RelayFits writer reader sent got j v = (v.puts ≡ true → (j ≡ writer) × (v.sent ≡ sent) × Begins v.got got)
    × (v.takes ≡ true → (j ≡ reader) × (v.got ≡ got) × Begins v.sent sent)

abbrev pub Relayed : List Request → List RingView → Type 0
Relayed items views = (writer : ℕ) × (reader : ℕ) × (sent : List Request) × (got : List Request) × (sent ≡ got ++ items) × (length items ≤ 8)
    × ((j : ℕ) (v : RingView) → get_elem? views j ≡ some v → RelayFits writer reader sent got j v)

-- one request more was put
abbrev pub HasPut : RingView → Request → RingView → Type 0
HasPut v x w = w ≡ relay_view v.puts v.takes (v.sent ++ x ∷ []) v.got

-- one request more was taken. Of it and what was put one list begins the other
abbrev pub RingHasTaken : RingView → Request → RingView → Type 0
RingHasTaken v x w = (w ≡ relay_view v.puts v.takes v.sent (v.got ++ x ∷ [])) × (Begins w.sent w.got ⊎ Begins w.got w.sent)

abbrev pub Meets : RingView → List Request → Type 0
Meets v items = (v.sent ≡ v.got ++ items) × (length items ≤ 8)
