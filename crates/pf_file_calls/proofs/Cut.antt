-- Bytes as sectors, and back.
use Rattle.std.proofs.Common.{◌≡◌, ℕ, zero, suc, ◌+◌, ◌-◌, ◌*◌, ◌<◌, List, [], ◌∷◌, ◌++◌, length, take, drop, get_or, Result, Ok, Err, OnOk, refl, sym, ap, ◌∙◌, append_assoc, add-one, arith}
use Rattle.std.proofs.lemmas.List.{append-nil, length-append}
use Rattle.pf_file_calls.specs.Blocks.{bytes_of, sectors_of}

suc_bytes : (sectors : List (List ℕ)) (i : ℕ) (d : List ℕ) → i < length sectors → bytes_of (take (suc i) sectors) ≡ bytes_of (take i sectors) ++ get_or sectors i d
suc_bytes [] i d low = absurd (omega (arith, low))
suc_bytes (s ∷ ss) zero d low = append-nil s
suc_bytes (s ∷ ss) (suc i) d low = ap (λ x. s ++ x) (suc_bytes ss i d (omega (arith, low))) ∙ sym (append_assoc s (bytes_of (take i ss)) (get_or ss i d))

-- one more sector
pub more_bytes : (sectors : List (List ℕ)) (i : ℕ) (d : List ℕ) → i < length sectors → bytes_of (take (i + 1) sectors) ≡ bytes_of (take i sectors) ++ get_or sectors i d
more_bytes sectors i d low = ap (λ n. bytes_of (take n sectors)) (add-one i) ∙ suc_bytes sectors i d low

pub join_more : (bytes all after : List ℕ) (sectors : List (List ℕ)) (i : ℕ) → all ≡ bytes ++ bytes_of (take i sectors) → i < length sectors → after ≡ all ++ get_or sectors i [] → after ≡ bytes ++ bytes_of (take (i + 1) sectors)
join_more bytes all after sectors i e low is =
    is
    ∙ ap (λ x. x ++ get_or sectors i []) e
    ∙ append_assoc bytes (bytes_of (take i sectors)) (get_or sectors i [])
    ∙ ap (λ x. bytes ++ x) (sym (more_bytes sectors i [] low))

pub join_count : (all after sector : List ℕ) (n i : ℕ) → length all ≡ n + 512 * i → after ≡ all ++ sector → length sector ≡ 512 → length after ≡ n + 512 * (i + 1)
join_count all after sector n i e is whole = ap (λ (x : List ℕ). length x) is ∙ (let l = length-append all sector in omega (arith, l, e, whole))

pub cut_none : (bytes : List ℕ) → sectors_of 0 bytes ≡ []
unfolding sectors_of
cut_none bytes = refl

pub cut_more : (count : ℕ) (bytes : List ℕ) → 0 < count → sectors_of count bytes ≡ take 512 bytes ∷ sectors_of (count - 1) (drop 512 bytes)
unfolding sectors_of
cut_more zero bytes some = absurd (omega (arith, some))
cut_more (suc count) bytes some = ap (λ n. take 512 bytes ∷ sectors_of n (drop 512 bytes)) (let e : count ≡ suc count - 1 = omega arith in e)

pub length_cut : (count : ℕ) (bytes : List ℕ) → length (sectors_of count bytes) ≡ count
unfolding sectors_of
length_cut zero bytes = refl
length_cut (suc count) bytes = let e = length_cut count (drop 512 bytes) in omega (arith, e)

-- what is put at the end: nothing more of no sectors, and else one and what is put for the rest
pub put_none : (xs : List (List ℕ)) (count : ℕ) (bytes : List ℕ) → count ≡ 0 → xs ≡ xs ++ sectors_of count bytes
put_none xs count bytes none = sym (append-nil xs) ∙ ap (λ x. xs ++ x) (sym (cut_none bytes)) ∙ ap (λ n. xs ++ sectors_of n bytes) (sym none)

pub put_more : (xs before after : List (List ℕ)) (count : ℕ) (bytes sector rest : List ℕ) → 0 < count → sector ≡ take 512 bytes → rest ≡ drop 512 bytes → before ≡ xs ++ sector ∷ [] → after ≡ before ++ sectors_of (count - 1) rest → after ≡ xs ++ sectors_of count bytes
put_more xs before after count bytes sector rest some s r b e =
    e
    ∙ ap (λ x. x ++ sectors_of (count - 1) rest) b
    ∙ append_assoc xs (sector ∷ []) (sectors_of (count - 1) rest)
    ∙ ap (λ x. xs ++ (x ∷ sectors_of (count - 1) rest)) s
    ∙ ap (λ x. xs ++ (take 512 bytes ∷ sectors_of (count - 1) x)) r
    ∙ ap (λ x. xs ++ x) (sym (cut_more count bytes some))

pub put_ok : {E : Type 0} (result : Result Unit E) (xs before after : List (List ℕ)) (count : ℕ) (bytes sector rest : List ℕ) → 0 < count → sector ≡ take 512 bytes → rest ≡ drop 512 bytes → before ≡ xs ++ sector ∷ [] → OnOk result (after ≡ before ++ sectors_of (count - 1) rest) → OnOk result (after ≡ xs ++ sectors_of count bytes)
put_ok (Ok u) xs before after count bytes sector rest some s r b e = put_more xs before after count bytes sector rest some s r b e
put_ok (Err f) xs before after count bytes sector rest some s r b e = tt
