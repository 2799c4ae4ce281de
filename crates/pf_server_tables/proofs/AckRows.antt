-- What rows of marks, one for each slot, stand for.
use Rattle.std.proofs.Common.{◌≡◌, ℕ, zero, suc, ◌+◌, ◌-◌, ◌<◌, ◌≤◌, ◌≢◌, Bool, true, false, ◌||◌, List, [], ◌∷◌, ◌++◌, length, get_or, slice_set, Some, None, arith, refl, sym, ap, ◌∙◌}
use Rattle.std.specs.Ordering.{nat_cmp}
use Rattle.std.specs.FinMap
use Rattle.std.specs.FinMap.{get-empty}
use Rattle.std.proofs.lemmas.Bool.{eq-eqb, ne_eqb}
use Rattle.pf_entry.specs.Maps.{Map, Numbers}
use Rattle.pf_entry.specs.Sets
use Rattle.pf_entry.proofs.Sets.{contains-empty, contains-insert}
use Rattle.pf_holes.proofs.Found.{same_number}
use Rattle.pf_protocol.specs.Leading.{members, acknowledged}
use Rattle.pf_server_tables.specs.AckTables.{servers_from, acks_of, table_has_acked}
use Rattle.pf_server_tables.proofs.Inserts.{insert_again, insert_swap, get_same, get_other}

-- one more server has its mark
pub servers_from-set : (n k : ℕ) (row : List Bool) → k < length row → servers_from n (slice_set row k true) ≡ Sets.insert (servers_from n row) (n + k)
servers_from-set n k [] lt = absurd (omega arith)
servers_from-set n zero (true ∷ bs) lt =
    let at : n ≡ n + 0 = omega arith in
    sym (insert_again (servers_from (suc n) bs) n tt tt) ∙ ap (Sets.insert (servers_from n (true ∷ bs))) at
servers_from-set n zero (false ∷ bs) lt =
    let at : n ≡ n + 0 = omega arith in ap (Sets.insert (servers_from (suc n) bs)) at
servers_from-set n (suc k) (true ∷ bs) lt =
    let at : suc n + k ≡ n + suc k = omega arith in
    ap (λ s. Sets.insert s n) (servers_from-set (suc n) k bs (omega arith))
    ∙ insert_swap (servers_from (suc n) bs) (suc n + k) tt n tt (λ e. omega arith)
    ∙ ap (Sets.insert (servers_from n (true ∷ bs))) at
servers_from-set n (suc k) (false ∷ bs) lt =
    let at : suc n + k ≡ n + suc k = omega arith in
    servers_from-set (suc n) k bs (omega arith) ∙ ap (Sets.insert (servers_from (suc n) bs)) at

contains_same : (s : Numbers) (n : ℕ) → Sets.contains (Sets.insert s n) n ≡ true
contains_same s n = contains-insert s n n ∙ ap (λ b. b || Sets.contains s n) (same_number n n ∙ eq-eqb n n refl)

contains_other : (s : Numbers) (n q : ℕ) → q ≢ n → Sets.contains (Sets.insert s n) q ≡ Sets.contains s q
contains_other s n q apart = contains-insert s n q ∙ ap (λ b. b || Sets.contains s q) (same_number q n ∙ ne_eqb q n apart)

none_below : (n q : ℕ) (row : List Bool) → q < n → Sets.contains (servers_from n row) q ≡ false
none_below n q [] lt = contains-empty q
none_below n q (true ∷ bs) lt = contains_other (servers_from (suc n) bs) n q (λ e. omega arith) ∙ none_below (suc n) q bs (omega arith)
none_below n q (false ∷ bs) lt = none_below (suc n) q bs (omega arith)

-- a server is in the set where it has its mark
pub contains-servers_from : (n k : ℕ) (row : List Bool) → Sets.contains (servers_from n row) (n + k) ≡ get_or row k false
contains-servers_from n k [] = contains-empty (n + k)
contains-servers_from n zero (true ∷ bs) =
    let at : n + 0 ≡ n = omega arith in
    ap (Sets.contains (servers_from n (true ∷ bs))) at ∙ contains_same (servers_from (suc n) bs) n
contains-servers_from n zero (false ∷ bs) = none_below (suc n) (n + 0) bs (omega arith)
contains-servers_from n (suc k) (true ∷ bs) =
    let at : n + suc k ≡ suc n + k = omega arith in
    contains_other (servers_from (suc n) bs) n (n + suc k) (λ e. omega arith)
    ∙ ap (Sets.contains (servers_from (suc n) bs)) at ∙ contains-servers_from (suc n) k bs
contains-servers_from n (suc k) (false ∷ bs) =
    let at : n + suc k ≡ suc n + k = omega arith in
    ap (Sets.contains (servers_from (suc n) bs)) at ∙ contains-servers_from (suc n) k bs

acks_of-push : (base : ℕ) (rows : List (List Bool)) (row : List Bool) → acks_of base (rows ++ row ∷ []) ≡ FinMap.insert (acks_of base rows) (base + length rows + 1) (servers_from 0 row)
acks_of-push base [] row =
    let at : suc base ≡ base + 0 + 1 = omega arith in ap (λ k. FinMap.insert FinMap.empty k (servers_from 0 row)) at
acks_of-push base (r ∷ rs) row =
    let at : suc base + length rs + 1 ≡ base + suc (length rs) + 1 = omega arith in
    ap (λ m. FinMap.insert m (suc base) (servers_from 0 r)) (acks_of-push (suc base) rs row)
    ∙ insert_swap (acks_of (suc base) rs) (suc base + length rs + 1) (servers_from 0 row) (suc base) (servers_from 0 r) (λ e. omega arith)
    ∙ ap (λ k. FinMap.insert (acks_of base (r ∷ rs)) k (servers_from 0 row)) at

acks_of-set : (base k : ℕ) (rows : List (List Bool)) (row : List Bool) → k < length rows → acks_of base (slice_set rows k row) ≡ FinMap.insert (acks_of base rows) (base + k + 1) (servers_from 0 row)
acks_of-set base k [] row lt = absurd (omega arith)
acks_of-set base zero (r ∷ rs) row lt =
    let at : suc base ≡ base + 0 + 1 = omega arith in
    sym (insert_again (acks_of (suc base) rs) (suc base) (servers_from 0 r) (servers_from 0 row))
    ∙ ap (λ k. FinMap.insert (acks_of base (r ∷ rs)) k (servers_from 0 row)) at
acks_of-set base (suc k) (r ∷ rs) row lt =
    let at : suc base + k + 1 ≡ base + suc k + 1 = omega arith in
    ap (λ m. FinMap.insert m (suc base) (servers_from 0 r)) (acks_of-set (suc base) k rs row (omega arith))
    ∙ insert_swap (acks_of (suc base) rs) (suc base + k + 1) (servers_from 0 row) (suc base) (servers_from 0 r) (λ e. omega arith)
    ∙ ap (λ i. FinMap.insert (acks_of base (r ∷ rs)) i (servers_from 0 row)) at

-- no row has a slot up to the base
pub none_under : (base slot : ℕ) (rows : List (List Bool)) → slot ≤ base → FinMap.get (acks_of base rows) slot ≡ None
none_under base slot [] le = get-empty nat_cmp slot
none_under base slot (r ∷ rs) le = get_other (acks_of (suc base) rs) (suc base) (servers_from 0 r) slot (λ e. omega arith) ∙ none_under (suc base) slot rs (omega arith)

-- nor one past them all
pub none_past : (base slot : ℕ) (rows : List (List Bool)) → base + length rows < slot → FinMap.get (acks_of base rows) slot ≡ None
none_past base slot [] lt = get-empty nat_cmp slot
none_past base slot (r ∷ rs) lt = get_other (acks_of (suc base) rs) (suc base) (servers_from 0 r) slot (λ e. omega arith) ∙ none_past (suc base) slot rs (omega arith)

get-acks_of : (base k : ℕ) (rows : List (List Bool)) (d : List Bool) → k < length rows → FinMap.get (acks_of base rows) (base + k + 1) ≡ Some (servers_from 0 (get_or rows k d))
get-acks_of base k [] d lt = absurd (omega arith)
get-acks_of base zero (r ∷ rs) d lt =
    let at : base + 0 + 1 ≡ suc base = omega arith in
    ap (FinMap.get (acks_of base (r ∷ rs))) at ∙ get_same (acks_of (suc base) rs) (suc base) (servers_from 0 r)
get-acks_of base (suc k) (r ∷ rs) d lt =
    let at : base + suc k + 1 ≡ suc base + k + 1 = omega arith in
    get_other (acks_of (suc base) rs) (suc base) (servers_from 0 r) (base + suc k + 1) (λ e. omega arith)
    ∙ ap (FinMap.get (acks_of (suc base) rs)) at ∙ get-acks_of (suc base) k rs d (omega arith)

-- the row of a slot
pub get_slot : (base slot : ℕ) (rows : List (List Bool)) (row : List Bool) → base < slot → slot ≤ base + length rows → row ≡ get_or rows (slot - base - 1) row → FinMap.get (acks_of base rows) slot ≡ Some (servers_from 0 row)
get_slot base slot rows row low high is =
    let at : slot ≡ base + (slot - base - 1) + 1 = omega arith in
    ap (FinMap.get (acks_of base rows)) at ∙ get-acks_of base (slot - base - 1) rows row (omega arith) ∙ ap (λ r. Some (servers_from 0 r)) (sym is)

-- a slot more, with its first server
pub begun : (base server : ℕ) (rows : List (List Bool)) (row : List Bool) → servers_from 0 row ≡ Sets.insert Sets.empty server → acks_of base (rows ++ row ∷ []) ≡ acknowledged (acks_of base rows) server (base + length rows + 1)
unfolding acknowledged
begun base server rows row is =
    acks_of-push base rows row
    ∙ ap (FinMap.insert (acks_of base rows) (base + length rows + 1)) (is ∙ ap (λ o. Sets.insert (members o) server) (sym (none_past base (base + length rows + 1) rows (omega arith))))

-- one server more at a slot
pub added : (base server slot : ℕ) (rows : List (List Bool)) (row : List Bool) → base < slot → slot ≤ base + length rows → row ≡ get_or rows (slot - base - 1) row → server < length row → acks_of base (slice_set rows (slot - base - 1) (slice_set row server true)) ≡ acknowledged (acks_of base rows) server slot
unfolding acknowledged
added base server slot rows row low high is within =
    let at : base + (slot - base - 1) + 1 ≡ slot = omega arith in
    let here : 0 + server ≡ server = omega arith in
    acks_of-set base (slot - base - 1) rows (slice_set row server true) (omega arith)
    ∙ ap (λ k. FinMap.insert (acks_of base rows) k (servers_from 0 (slice_set row server true))) at
    ∙ ap (FinMap.insert (acks_of base rows) slot)
    (servers_from-set 0 server row within ∙ ap (Sets.insert (servers_from 0 row)) here
    ∙ ap (λ o. Sets.insert (members o) server) (sym (get_slot base slot rows row low high is)))

pub has_none : (acks : Map Numbers) (server slot : ℕ) → FinMap.get acks slot ≡ None → table_has_acked acks server slot ≡ false
has_none acks server slot none = ap (λ o. Sets.contains (members o) server) none ∙ contains-empty server

pub has_row : (acks : Map Numbers) (server slot : ℕ) (row : List Bool) → FinMap.get acks slot ≡ Some (servers_from 0 row) → table_has_acked acks server slot ≡ get_or row server false
has_row acks server slot row is =
    let here : server ≡ 0 + server = omega arith in
    ap (λ o. Sets.contains (members o) server) is ∙ ap (Sets.contains (servers_from 0 row)) here ∙ contains-servers_from 0 server row
