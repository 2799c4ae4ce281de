-- What the places of an array stand for.
use Rattle.std.proofs.Common.{◌≡◌, ℕ, zero, suc, ◌+◌, ◌<◌, ◌≢◌, List, [], ◌∷◌, length, get_or, slice_set, Option, Some, None, arith, refl, sym, ap, ◌∙◌}
use Rattle.std.specs.FinMap
use Rattle.std.specs.FinMap.{get-empty}
use Rattle.pf_entry.specs.Maps.{Map}
use Rattle.pf_server_tables.specs.KnownTables.{with_place, known_from}
use Rattle.pf_server_tables.proofs.Inserts.{insert_again, insert_swap, get_same, get_other}

with_place-insert : (n : ℕ) (place : Option ℕ) (m : Map ℕ) (k v : ℕ) → k ≢ n → with_place n place (FinMap.insert m k v) ≡ FinMap.insert (with_place n place m) k v
with_place-insert n None m k v apart = refl
with_place-insert n (Some upto) m k v apart = insert_swap m k v n upto apart

over : (n : ℕ) (place : Option ℕ) (m : Map ℕ) (v : ℕ) → FinMap.insert m n v ≡ FinMap.insert (with_place n place m) n v
over n None m v = refl
over n (Some upto) m v = sym (insert_again m n upto v)

-- one place is written
pub known_from-set : (n k v : ℕ) (places : List (Option ℕ)) → k < length places → known_from n (slice_set places k (Some v)) ≡ FinMap.insert (known_from n places) (n + k) v
known_from-set n k v [] lt = absurd (omega arith)
known_from-set n zero v (p ∷ ps) lt =
    let at : n + 0 ≡ n = omega arith in
    over n p (known_from (suc n) ps) v ∙ ap (λ i. FinMap.insert (with_place n p (known_from (suc n) ps)) i v) (sym at)
known_from-set n (suc k) v (p ∷ ps) lt =
    let at : suc n + k ≡ n + suc k = omega arith in
    ap (with_place n p) (known_from-set (suc n) k v ps (omega arith))
    ∙ with_place-insert n p (known_from (suc n) ps) (suc n + k) v (λ e. omega arith)
    ∙ ap (λ i. FinMap.insert (known_from n (p ∷ ps)) i v) at

get_apart : (n : ℕ) (place : Option ℕ) (m : Map ℕ) (q : ℕ) → q ≢ n → FinMap.get (with_place n place m) q ≡ FinMap.get m q
get_apart n None m q apart = refl
get_apart n (Some upto) m q apart = get_other m n upto q apart

none_before : (n q : ℕ) (places : List (Option ℕ)) → q < n → FinMap.get (known_from n places) q ≡ None
none_before n q [] lt = get-empty _ q
none_before n q (p ∷ ps) lt = get_apart n p (known_from (suc n) ps) q (λ e. omega arith) ∙ none_before (suc n) q ps (omega arith)

get_first : (n : ℕ) (place : Option ℕ) (m : Map ℕ) → FinMap.get m n ≡ None → FinMap.get (with_place n place m) n ≡ place
get_first n None m none = none
get_first n (Some upto) m none = get_same m n upto

-- one place is read
pub get-known_from : (n k : ℕ) (places : List (Option ℕ)) (d : Option ℕ) → k < length places → FinMap.get (known_from n places) (n + k) ≡ get_or places k d
get-known_from n k [] d lt = absurd (omega arith)
get-known_from n zero (p ∷ ps) d lt =
    let at : n + 0 ≡ n = omega arith in
    ap (FinMap.get (known_from n (p ∷ ps))) at ∙ get_first n p (known_from (suc n) ps) (none_before (suc n) n ps (omega arith))
get-known_from n (suc k) (p ∷ ps) d lt =
    let at : n + suc k ≡ suc n + k = omega arith in
    get_apart n p (known_from (suc n) ps) (n + suc k) (λ e. omega arith)
    ∙ ap (FinMap.get (known_from (suc n) ps)) at ∙ get-known_from (suc n) k ps d (omega arith)
