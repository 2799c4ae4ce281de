-- Where numbers stand by their values.
use Rattle.std.specs.Prelude.{◌≡◌, ◌≢◌, ℕ, ◌+◌, ◌<◌, ◌≤◌, true, false, List, length, get_or, vec_capacity}
use Rattle.std.specs.Bool.{MatchBool}
use Rattle.std.specs.List.{Contains}
use Rattle.std.specs.Ordering.{is_eq, nat_cmp, ordering_then}
use Rattle.std.specs.declared.cmp.Ordering.{Ordering}
use Rattle.std.specs.declared.cmp.Reverse.{Reverse}
use Rattle.pf_tree_tables.specs.declared.index.Row.{Row}
use Rattle.pf_tree_tables.specs.declared.index.Index.{Index}
use Rattle.pf_tree_tables.specs.Ordered.{AreAscending, Puts, TakesItem}

-- by their values, and by their numbers where the values tie
abbrev pub row_cmp : {T : Type 0} → (T → T → Ordering) → Row T → Row T → Ordering
row_cmp R a b = ordering_then (R a.value b.value) (nat_cmp a.number b.number)

-- the greater first
abbrev pub free_cmp : Reverse ℕ → Reverse ℕ → Ordering
free_cmp a b = nat_cmp b.0 a.0

-- rows ascend, and free numbers descend
pub record IndexIsInOrder {T : Type 0} (R : T → T → Ordering) (index : Index T) : Type 0 where
  pub ascend : AreAscending (row_cmp R) index.rows.items
  pub descend : AreAscending free_cmp index.free.items

-- there is room for so many rows, and for so many free numbers
pub record IndexHasRoom {T : Type 0} (count : ℕ) (index : Index T) : Type 0 where
  pub rows : count ≤ vec_capacity index.rows
  pub free : count ≤ vec_capacity index.free

-- a row is that of a number whose value is not blank
pub record IsInUse {T : Type 0} (R : T → T → Ordering) (values : List T) (blank : T) (row : Row T) : Type 0 where
  pub within : row.number < length values
  pub value : row.value ≡ get_or values row.number blank
  pub used : is_eq (R row.value blank) ≡ false

-- a free number is one whose value is blank
pub record IsFreeNumber {T : Type 0} (R : T → T → Ordering) (values : List T) (blank : T) (number : ℕ) : Type 0 where
  pub within : number < length values
  pub free : is_eq (R (get_or values number blank) blank) ≡ true

-- the index of values: the numbers in use have rows, which ascend, and the free numbers descend
pub record IsIndexOf {T : Type 0} (R : T → T → Ordering) (values : List T) (index : Index T) : Type 0 where
  pub order : IndexIsInOrder R index
  pub used : (row : Row T) → IsInUse R values index.blank row → Contains index.rows.items row
  pub only_used : (row : Row T) → Contains index.rows.items row → IsInUse R values index.blank row
  pub free : (number : Reverse ℕ) → IsFreeNumber R values index.blank number.0 → Contains index.free.items number
  pub only_free : (number : Reverse ℕ) → Contains index.free.items number → IsFreeNumber R values index.blank number.0
  pub count : length index.rows.items + length index.free.items ≡ length values

-- a number with its value is there: in its row, or among the free ones where the value is blank
abbrev pub IndexStands : {T : Type 0} → (T → T → Ordering) → Index T → Row T → Type 0
IndexStands R index row = MatchBool (is_eq (R row.value index.blank)) (Contains index.free.items (record { 0 = row.number })) (Contains index.rows.items row)

-- no row and no free number has the number
pub record IsNowhere {T : Type 0} (number : ℕ) (index : Index T) : Type 0 where
  pub used : (row : Row T) → Contains index.rows.items row → row.number ≢ number
  pub free : (other : Reverse ℕ) → Contains index.free.items other → other.0 ≢ number

-- what an edit leaves as it is
pub record IndexIsKept {T : Type 0} (old new : Index T) : Type 0 where
  pub blank : new.blank ≡ old.blank
  pub room : (count : ℕ) → IndexHasRoom count old → IndexHasRoom count new

-- a number with its value is taken out
abbrev pub TakesOut : {T : Type 0} → (T → T → Ordering) → Index T → Row T → Index T → Type 0
TakesOut R old row new =
    MatchBool (is_eq (R row.value old.blank)) (TakesItem free_cmp old.free.items (record { 0 = row.number }) new.free.items × (new.rows.items ≡ old.rows.items))
    (TakesItem (row_cmp R) old.rows.items row new.rows.items × (new.free.items ≡ old.free.items))

-- a number with its value is put where it belongs
abbrev pub PutsIn : {T : Type 0} → (T → T → Ordering) → Index T → Row T → Index T → Type 0
PutsIn R old row new =
    MatchBool (is_eq (R row.value old.blank)) (Puts free_cmp old.free.items (record { 0 = row.number }) new.free.items × (new.rows.items ≡ old.rows.items))
    (Puts (row_cmp R) old.rows.items row new.rows.items × (new.free.items ≡ old.free.items))

-- a row that is there ties with a value, or a free number where that is blank
abbrev pub HasValue : {T : Type 0} → (T → T → Ordering) → Index T → T → ℕ → Type 0
HasValue {T} R index value number =
    MatchBool (is_eq (R value index.blank)) (Contains index.free.items (record { 0 = number }))
    ((row : Row T) × Contains index.rows.items row × (row.number ≡ number) × (is_eq (R row.value value) ≡ true))

-- the least number from another on with a value
pub record IsLeastWith {T : Type 0} (R : T → T → Ordering) (index : Index T) (value : T) (first number : ℕ) : Type 0 where
  pub low : first ≤ number
  pub there : HasValue R index value number
  pub least : (other : ℕ) → first ≤ other → HasValue R index value other → number ≤ other
