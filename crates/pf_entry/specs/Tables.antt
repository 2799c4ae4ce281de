-- Lists of numbers that ascend.
use Rattle.std.specs.Prelude.{ℕ, Bool, true, ◌&&◌, List, [], ◌∷◌, nat_lt}

abbrev pub ascends_from : ℕ → List ℕ → Bool
ascends_from n [] = true
ascends_from n (m ∷ ms) = nat_lt n m && ascends_from m ms

-- each number is above the one before it
abbrev pub ascends : List ℕ → Bool
ascends [] = true
ascends (n ∷ ns) = ascends_from n ns
