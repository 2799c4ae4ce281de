-- The words of a line, piece by piece.
use Rattle.std.proofs.Common.{◌≡◌, ℕ, zero, suc, ◌+◌, ◌<◌, ◌≤◌, nat_lt, cond, List, [], ◌∷◌, ◌++◌, length, take, drop, filter, Some, None, refl, ap, sym, ◌∙◌, arith, append_assoc}
use Rattle.std.proofs.lemmas.Bool.Decides.{nat_tests}
use Rattle.std.proofs.lemmas.List.{take-append-le, take_all}
use Rattle.std.proofs.lemmas.List.Elements.{filter-append}
use Rattle.std.proofs.lemmas.List.Splits.{slice_split_first, slice_split_none}
use Rattle.std.proofs.lemmas.List.Sums.{fails_before_first}
use Rattle.std.specs.List.{position, position_or_len, slice_split}
use Rattle.pf_text.specs.Words.{is_blank, is_word, words_of}

take_more : (n : ℕ) (xs ys : List (List ℕ)) → take n (take n xs ++ ys) ≡ take n (xs ++ ys)
take_more zero xs ys = refl
take_more (suc n) [] ys = refl
take_more (suc n) (x ∷ xs) ys = ap (λ (l : List (List ℕ)). x ∷ l) (take_more n xs ys)

-- eight words take no more
pub no_room : (words more : List (List ℕ)) → length words ≡ 8 → words ≡ take 8 (words ++ more)
no_room words more full = sym (take-append-le 8 words more (omega (arith, full)) ∙ take_all 8 words (omega (arith, full)))

found_at : (n l i : ℕ) → cond (nat_lt n l) (Some n) None ≡ Some i → (n ≡ i) × (n < l)
found_at n l i found = grind (arith, nat_tests)

none_in : (n l : ℕ) → cond (nat_lt n l) (Some n) None ≡ None → l ≤ n
none_in n l none = grind (arith, nat_tests)

pub found_within : (bytes : List ℕ) (i : ℕ) → position is_blank bytes ≡ Some i → i < length bytes
found_within bytes i found =
    let at = found_at (position_or_len is_blank bytes) (length bytes) i found in
    omega (arith, at.0, at.1)

words_found : (bytes : List ℕ) (i : ℕ) → position is_blank bytes ≡ Some i → words_of bytes ≡ filter is_word (take i bytes ∷ []) ++ words_of (drop (i + 1) bytes)
words_found bytes i found =
    let at = found_at (position_or_len is_blank bytes) (length bytes) i found in
    ap (λ (l : List (List ℕ)). filter is_word l) (slice_split_first is_blank bytes 0 at.1)
    ∙ ap (λ n. filter is_word (take n bytes ∷ slice_split is_blank (drop (n + 1) bytes))) at.0
    ∙ filter-append is_word (take i bytes ∷ []) (slice_split is_blank (drop (i + 1) bytes))

words_last : (bytes : List ℕ) → position is_blank bytes ≡ None → words_of bytes ≡ filter is_word (bytes ∷ [])
words_last bytes none =
    let past = none_in (position_or_len is_blank bytes) (length bytes) none in
    ap (λ (l : List (List ℕ)). filter is_word l) (slice_split_none is_blank bytes (λ k d within. fails_before_first is_blank bytes k d (omega (arith, within, past))))

-- behind a piece of the line
pub words_more : (was now whole : List (List ℕ)) (bytes next : List ℕ) (i : ℕ) → take 8 (was ++ words_of bytes) ≡ whole → position is_blank bytes ≡ Some i
    → now ≡ take 8 (was ++ filter is_word (take i bytes ∷ [])) → next ≡ drop (i + 1) bytes → take 8 (now ++ words_of next) ≡ whole
words_more was now whole bytes next i before found is there =
    let piece = filter is_word (take i bytes ∷ []) in
    let more = words_of (drop (i + 1) bytes) in
    ap (λ (l : List ℕ). take 8 (now ++ words_of l)) there
    ∙ ap (λ (l : List (List ℕ)). take 8 (l ++ more)) is
    ∙ take_more 8 (was ++ piece) more
    ∙ ap (λ (l : List (List ℕ)). take 8 l) (append_assoc was piece more ∙ ap (λ (l : List (List ℕ)). was ++ l) (sym (words_found bytes i found)))
    ∙ before

-- and behind the last
pub words_all : (was now whole : List (List ℕ)) (bytes : List ℕ) → take 8 (was ++ words_of bytes) ≡ whole → position is_blank bytes ≡ None
    → now ≡ take 8 (was ++ filter is_word (bytes ∷ [])) → now ≡ whole
words_all was now whole bytes before none is = is ∙ ap (λ (l : List (List ℕ)). take 8 (was ++ l)) (sym (words_last bytes none)) ∙ before
