-- The calls of a ring one after another, how many requests stand after them, and what each side has seen of them.
use Rattle.std.specs.Prelude.{◌≡◌, ℕ, suc, ◌<◌, Bool, true, false, not, cond, ◌==◌, List, [], ◌∷◌, ◌++◌}
use mathlib.Core.Option.{some}
use lib.ListN.{get_elem?}
use Rattle.atomic_table.specs.Table.{State, Me, Step}
use Rattle.pf_rings.specs.declared.count.RingCall.{RingCall}
use Rattle.pf_rings.specs.declared.count.RingCall.TheVariants.{Put, Full, Take, Empty}
use Rattle.pf_rings.specs.declared.count.RingSight.{RingSight}

-- where n requests stand, these calls are answered so one after another, and then m stand
abbrev pub CallsLead : ℕ → List RingCall → ℕ → Type 0
CallsLead n [] m = n ≡ m
CallsLead n (Put ∷ calls) m = (n < 8) × CallsLead (suc n) calls m
CallsLead n (Full ∷ calls) m = (n ≡ 8) × CallsLead n calls m
CallsLead n (Take ∷ calls) m = (k : ℕ) × (n ≡ suc k) × CallsLead k calls m
CallsLead n (Empty ∷ calls) m = (n ≡ 0) × CallsLead n calls m

-- how many requests these calls put, and took
abbrev pub puts_in : List RingCall → ℕ
puts_in [] = 0
puts_in (Put ∷ calls) = suc (puts_in calls)
puts_in (_ ∷ calls) = puts_in calls

abbrev pub takes_in : List RingCall → ℕ
takes_in [] = 0
takes_in (Take ∷ calls) = suc (takes_in calls)
takes_in (_ ∷ calls) = takes_in calls

-- whether the host made the call, and not the server thread
abbrev pub is_host : RingCall → Bool
is_host Put = true
is_host Full = true
is_host Take = false
is_host Empty = false

-- all are of the host, or none is
abbrev pub AllOf : (host : Bool) → List RingCall → Type 0
AllOf host [] = Unit {0}
AllOf host (call ∷ calls) = (is_host call ≡ host) × AllOf host calls

-- the history went on by calls of the other side alone
abbrev pub CallsWentOn : (host : Bool) → (old new : List RingCall) → Type 0
CallsWentOn host old new = (rest : List RingCall) × (old ++ rest ≡ new) × AllOf (not host) rest

-- The history went on by calls of the other side, and then by this call. From an empty ring on each was answered as one after another.
pub record Called (host : Bool) (old : List RingCall) (call : RingCall) (new : List RingCall) : Type 0 where
  pub before : List RingCall
  pub others : CallsWentOn host old before
  pub last : new ≡ before ++ call ∷ []
  pub standing : ℕ
  pub legal : CallsLead 0 new standing

abbrev pub sight_of : Bool → Bool → List RingCall → List RingCall → RingSight
sight_of puts takes host server = record { puts = puts; takes = takes; host = host; server = server }

-- one seat at most is the host's, which lacks calls of the server thread alone, and one at most the server thread's
abbrev pub CountFollows : (writer reader : ℕ) → List RingCall → ℕ → RingSight → Type 0
CountFollows writer reader log j v = (v.puts ≡ true → (j ≡ writer) × CallsWentOn true v.host log)
    × (v.takes ≡ true → (j ≡ reader) × CallsWentOn false v.server log)

module _ {S : Type 0} where
  -- the word is how many stand after the history
  abbrev pub Counted : State S RingSight → Type 0
  Counted s = (writer reader n : ℕ) × (log : List RingCall) × (s.words ≡ n ∷ []) × CallsLead 0 log n
      × ((j : ℕ) (v : RingSight) → get_elem? s.views j ≡ some v → CountFollows writer reader log j v)

  -- so many stood, and where they were eight the call was answered full
  abbrev pub finds_place : Step S → Me S RingSight → ℕ → Me S RingSight → Type 0
  finds_place st m r m' = (m'.1 ≡ m.1) × (log : List RingCall) × CallsWentOn true m.0.host log × CallsLead 0 log r
      × (m'.0 ≡ sight_of m.0.puts m.0.takes (cond (r == 8) (log ++ Full ∷ []) log) m.0.server)

  abbrev pub raises : Step S → Me S RingSight → ℕ → Me S RingSight → Type 0
  raises st m r m' = (m'.1 ≡ m.1) × (log : List RingCall) × CallsWentOn true m.0.host log × CallsLead 0 (log ++ Put ∷ []) (suc r)
      × (m'.0 ≡ sight_of m.0.puts m.0.takes (log ++ Put ∷ []) m.0.server)

  -- so many stood, and where none did the call was answered empty
  abbrev pub finds_request : Step S → Me S RingSight → ℕ → Me S RingSight → Type 0
  finds_request st m r m' = (m'.1 ≡ m.1) × (log : List RingCall) × CallsWentOn false m.0.server log × CallsLead 0 log r
      × (m'.0 ≡ sight_of m.0.puts m.0.takes m.0.host (cond (r == 0) (log ++ Empty ∷ []) log))

  abbrev pub lowers : Step S → Me S RingSight → ℕ → Me S RingSight → Type 0
  lowers st m r m' = (m'.1 ≡ m.1) × (log : List RingCall) × CallsWentOn false m.0.server log × (k : ℕ) × (r ≡ suc k) × CallsLead 0 (log ++ Take ∷ []) k
      × (m'.0 ≡ sight_of m.0.puts m.0.takes m.0.host (log ++ Take ∷ []))

  -- both sides have seen the whole history
  abbrev pub sees_all : Step S → Me S RingSight → ℕ → Me S RingSight → Type 0
  sees_all st m r m' = (m'.1 ≡ m.1) × (log : List RingCall) × CallsWentOn true m.0.host log × CallsWentOn false m.0.server log × CallsLead 0 log r
      × (m'.0 ≡ sight_of m.0.puts m.0.takes log log)
