-- The bytes of a crash, place by place.
use Rattle.std.proofs.Common.{◌≡◌, ℕ, zero, suc, ◌+◌, ◌<◌, Bool, true, false, List, [], ◌∷◌, ◌++◌, length, take, drop, set, get_or, append_assoc, sym, ap, ◌∙◌, arith, add-one, add-zero, zero-add, refl, subst}
use Rattle.std.specs.Prelude.{if◌then◌else◌}
use Rattle.std.proofs.lemmas.List.{drop_more, drop-set-lt, take_more, take_more_set}
use Rattle.pf_disk.specs.Recorded.{is_touched}
use Rattle.pf_disk.specs.Scrambles.{next_number, top_byte, scrambled}

-- the rest begins with its first byte
at_place : (ranges : List (ℕ × ℕ)) (p n b : ℕ) (rest : List ℕ) (touched : Bool) → is_touched ranges p ≡ touched
    → scrambled ranges p n (b ∷ rest) ≡ (if touched then top_byte (next_number n) ∷ scrambled ranges (p + 1) (next_number n) rest else b ∷ scrambled ranges (p + 1) n rest)
at_place ranges p n b rest touched is =
    (λ i. if is i then top_byte (next_number n) ∷ scrambled ranges (suc p) (next_number n) rest else b ∷ scrambled ranges (suc p) n rest)
    ∙ ap (λ (k : ℕ). if touched then top_byte (next_number n) ∷ scrambled ranges k (next_number n) rest else b ∷ scrambled ranges k n rest) (sym (add-one p))

pub one_kept : (ranges : List (ℕ × ℕ)) (p n : ℕ) (bytes : List ℕ) → p < length bytes → is_touched ranges p ≡ false
    → take p bytes ++ scrambled ranges p n (drop p bytes) ≡ take (p + 1) bytes ++ scrambled ranges (p + 1) n (drop (p + 1) bytes)
one_kept ranges p n bytes lt none =
    let b = get_or bytes p 0 in
    let rest = scrambled ranges (p + 1) n (drop (p + 1) bytes) in
    ap (λ (l : List ℕ). take p bytes ++ scrambled ranges p n l) (drop_more bytes p 0 lt)
    ∙ ap (λ (l : List ℕ). take p bytes ++ l) (at_place ranges p n b (drop (p + 1) bytes) false none)
    ∙ sym (append_assoc (take p bytes) (b ∷ []) rest)
    ∙ ap (λ (l : List ℕ). l ++ rest) (sym (take_more bytes p 0 lt))

pub one_changed : (ranges : List (ℕ × ℕ)) (p n v : ℕ) (bytes : List ℕ) → p < length bytes → is_touched ranges p ≡ true → v ≡ top_byte (next_number n)
    → take p bytes ++ scrambled ranges p n (drop p bytes) ≡ take (p + 1) (set bytes p v) ++ scrambled ranges (p + 1) (next_number n) (drop (p + 1) (set bytes p v))
one_changed ranges p n v bytes lt some is =
    let rest = scrambled ranges (p + 1) (next_number n) (drop (p + 1) bytes) in
    ap (λ (l : List ℕ). take p bytes ++ scrambled ranges p n l) (drop_more bytes p 0 lt)
    ∙ ap (λ (l : List ℕ). take p bytes ++ l) (at_place ranges p n (get_or bytes p 0) (drop (p + 1) bytes) true some)
    ∙ ap (λ (y : ℕ). take p bytes ++ y ∷ rest) (sym is)
    ∙ sym (append_assoc (take p bytes) (v ∷ []) rest)
    ∙ ap (λ (l : List ℕ). l ++ rest) (sym (take_more_set bytes p v lt))
    ∙ ap (λ (l : List ℕ). take (p + 1) (set bytes p v) ++ scrambled ranges (p + 1) (next_number n) l) (sym (drop-set-lt (p + 1) bytes p v (omega arith)))

-- a place that no range holds keeps its byte
kept_from : (ranges : List (ℕ × ℕ)) (p n : ℕ) (bytes : List ℕ) (k : ℕ) → is_touched ranges (p + k) ≡ false → get_or (scrambled ranges p n bytes) k 0 ≡ get_or bytes k 0
kept_from ranges p n [] k none = refl
kept_from ranges p n (b ∷ bytes) zero none =
    let here : is_touched ranges p ≡ false = subst (λ j. is_touched ranges j ≡ false) (add-zero p) none in
    λ i. get_or (if here i then top_byte (next_number n) ∷ scrambled ranges (suc p) (next_number n) bytes else b ∷ scrambled ranges (suc p) n bytes) 0 0
kept_from ranges p n (b ∷ bytes) (suc k) none =
    let e : p + suc k ≡ suc p + k = omega arith in
    let on : is_touched ranges (suc p + k) ≡ false = subst (λ j. is_touched ranges j ≡ false) e none in
    by_test (is_touched ranges p) (kept_from ranges (suc p) (next_number n) bytes k on) (kept_from ranges (suc p) n bytes k on)
  where
    by_test : (touched : Bool) → get_or (scrambled ranges (suc p) (next_number n) bytes) k 0 ≡ get_or bytes k 0 → get_or (scrambled ranges (suc p) n bytes) k 0 ≡ get_or bytes k 0
        → get_or (if touched then top_byte (next_number n) ∷ scrambled ranges (suc p) (next_number n) bytes else b ∷ scrambled ranges (suc p) n bytes) (suc k) 0 ≡ get_or bytes k 0
    by_test true changed kept = changed
    by_test false changed kept = kept

pub kept : (ranges : List (ℕ × ℕ)) (n : ℕ) (bytes : List ℕ) (k : ℕ) → is_touched ranges k ≡ false → get_or (scrambled ranges 0 n bytes) k 0 ≡ get_or bytes k 0
kept ranges n bytes k none = kept_from ranges 0 n bytes k (subst (λ j. is_touched ranges j ≡ false) (sym (zero-add k)) none)
