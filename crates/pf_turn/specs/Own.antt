-- What a seat's own entries are, each by what stands before it.
use Rattle.std.specs.Prelude.{◌≡◌, ℕ, zero, suc, List, [], ◌∷◌, ◌++◌}
use Rattle.pf_turn.specs.declared.log.Stamped.{Stamped}
use Rattle.pf_turn.specs.Lists.{Every}

module _ {E : Type 0} where
  -- so is each entry of seat n, after what stands before it
  abbrev pub EachAfter : (n : ℕ) → (List (Stamped E) → E → Type 0) → (before list : List (Stamped E)) → Type 0
  EachAfter n P before [] = Unit {0}
  EachAfter n P before (e ∷ es) = (e.seat ≡ n → P before e.what) × EachAfter n P (before ++ e ∷ []) es

  abbrev pub EachOf : (n : ℕ) → (List (Stamped E) → E → Type 0) → List (Stamped E) → Type 0
  EachOf n P list = EachAfter n P [] list

  -- so it is of each of these seats, by a rule for each
  abbrev pub AreKnown : (ℕ → List (Stamped E) → E → Type 0) → List ℕ → List (Stamped E) → Type 0
  AreKnown P seats list = Every (λ n. EachOf n (P n) list) seats

  -- each entry of the list keeps the rule of its seat, after what stands before it
  abbrev pub AllAfter : (ℕ → List (Stamped E) → E → Type 0) → (before list : List (Stamped E)) → Type 0
  AllAfter P before [] = Unit {0}
  AllAfter P before (e ∷ es) = P e.seat before e.what × AllAfter P (before ++ e ∷ []) es

  abbrev pub AllOfSeats : (ℕ → List (Stamped E) → E → Type 0) → List (Stamped E) → Type 0
  AllOfSeats P list = AllAfter P [] list

-- the numbers from k down to 1
abbrev pub down_from : ℕ → List ℕ
down_from zero = []
down_from (suc k) = suc k ∷ down_from k
