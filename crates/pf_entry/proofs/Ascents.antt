-- Lists of numbers that ascend.
use Rattle.std.proofs.Common.{◌≡◌, ℕ, ◌≤◌, true, List, [], ◌∷◌, nat_lt, arith, refl}
use Rattle.std.proofs.lemmas.Bool.{and_parts, and_from, ltb-true, lt-ltb}
use Rattle.pf_entry.specs.Tables.{ascends, ascends_from}

-- one that ascends from a number ascends from each lower one
pub from_lower : (n m : ℕ) (ms : List ℕ) → n ≤ m → ascends_from m ms ≡ true → ascends_from n ms ≡ true
from_lower n m [] le is = refl
from_lower n m (k ∷ ks) le is =
    let parts = and_parts (nat_lt m k) (ascends_from k ks) is in
    and_from _ _ (lt-ltb n k (omega (arith, le, ltb-true m k parts.0))) parts.1

pub rest_ascends : (n : ℕ) (ms : List ℕ) → ascends_from n ms ≡ true → ascends ms ≡ true
rest_ascends n [] is = refl
rest_ascends n (m ∷ ms) is = (and_parts (nat_lt n m) (ascends_from m ms) is).1
