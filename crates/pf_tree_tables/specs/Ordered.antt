-- Lists that ascend, without ties: what is found in one, and one item fewer or more.
use Rattle.std.specs.Prelude.{◌≡◌, ◌≢◌, ◌⊎◌, AllPairs, ℕ, ◌+◌, ◌<◌, ◌≤◌, false, List, length, get_or}
use Rattle.std.specs.List.{Contains}
use Rattle.std.specs.Ordering.{is_lt}
use Rattle.std.specs.declared.cmp.Ordering.{Ordering}
use Rattle.std.specs.declared.cmp.Ordering.TheVariants.{Less, Equal}

abbrev pub AreAscending : {K : Type 0} → (K → K → Ordering) → List K → Type 0
AreAscending R items = AllPairs (λ item later. R item later ≡ Less) items

-- the place of the first item that is not before another
pub record IsFirstNotBefore {K : Type 0} (R : K → K → Ordering) (items : List K) (wanted : K) (place : ℕ) : Type 0 where
  pub bound : place ≤ length items
  pub before : (k : ℕ) (d : K) → k < place → R (get_or items k d) wanted ≡ Less
  pub after : (k : ℕ) (d : K) → place ≤ k → k < length items → is_lt (R (get_or items k d) wanted) ≡ false

-- each item is before another
abbrev pub AreBefore : {K : Type 0} → (K → K → Ordering) → List K → K → Type 0
AreBefore {K} R items from = (other : K) → Contains items other → R other from ≡ Less

-- the least of the items that are not before another
pub record IsLeastOf {K : Type 0} (R : K → K → Ordering) (items : List K) (from item : K) : Type 0 where
  pub there : Contains items item
  pub behind : is_lt (R item from) ≡ false
  pub least : (other : K) → Contains items other → is_lt (R other from) ≡ false → is_lt (R other item) ≡ false

-- no item ties with another
abbrev pub TiesWithNone : {K : Type 0} → (K → K → Ordering) → List K → K → Type 0
TiesWithNone {K} R items item = (other : K) → Contains items other → R other item ≢ Equal

-- an item is taken out
pub record TakesItem {K : Type 0} (R : K → K → Ordering) (before : List K) (item : K) (after : List K) : Type 0 where
  pub ascend : AreAscending R after
  pub kept : (other : K) → Contains before other → other ≢ item → Contains after other
  pub only : (other : K) → Contains after other → Contains before other × (other ≢ item)
  pub fewer : length after + 1 ≡ length before

-- an item is put where it belongs
pub record Puts {K : Type 0} (R : K → K → Ordering) (before : List K) (item : K) (after : List K) : Type 0 where
  pub ascend : AreAscending R after
  pub there : Contains after item
  pub kept : (other : K) → Contains before other → Contains after other
  pub only : (other : K) → Contains after other → (other ≡ item) ⊎ Contains before other
  pub more : length after ≡ length before + 1
