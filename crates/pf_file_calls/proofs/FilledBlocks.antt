-- The bytes of a block, filled one after another.
use Rattle.std.proofs.Common.{◌≡◌, ℕ, zero, suc, ◌+◌, ◌<◌, List, [], ◌∷◌, ◌++◌, length, take, get_or, refl, ap, ◌∙◌, add-one, arith}
use Rattle.std.proofs.lemmas.List.{length-take}
use Rattle.pf_file_calls.specs.declared.filling.Fill.{Fill}
use Rattle.pf_file_calls.specs.Filling.{filled_byte, filled_from}

suc_filled : (f : Fill) (place : ℕ) (bytes : List ℕ) (k d : ℕ) → k < length bytes → filled_from f place (take (suc k) bytes) ≡ filled_from f place (take k bytes) ++ filled_byte f (place + k) (get_or bytes k d) ∷ []
suc_filled f place [] k d low = absurd (omega (arith, low))
suc_filled f place (b ∷ bs) zero d low = ap (λ n. filled_byte f n b ∷ []) (let e : place ≡ place + 0 = omega arith in e)
suc_filled f place (b ∷ bs) (suc k) d low =
    ap (λ x. filled_byte f place b ∷ x)
    (suc_filled f (suc place) bs k d (omega (arith, low))
    ∙ ap (λ n. filled_from f (suc place) (take k bs) ++ filled_byte f n (get_or bs k d) ∷ []) (let e : suc place + k ≡ place + suc k = omega arith in e))

-- one more byte
pub more_filled : (f : Fill) (place : ℕ) (bytes : List ℕ) (k d : ℕ) → k < length bytes → filled_from f place (take (k + 1) bytes) ≡ filled_from f place (take k bytes) ++ filled_byte f (place + k) (get_or bytes k d) ∷ []
more_filled f place bytes k d low = ap (λ n. filled_from f place (take n bytes)) (add-one k) ∙ suc_filled f place bytes k d low

pub length_filled : (f : Fill) (place : ℕ) (bytes : List ℕ) → length (filled_from f place bytes) ≡ length bytes
length_filled f place [] = refl
length_filled f place (b ∷ bs) = let e = length_filled f (suc place) bs in omega (arith, e)

pub length_upto : (f : Fill) (place : ℕ) (bytes : List ℕ) (k : ℕ) (after : List ℕ) → after ≡ filled_from f place (take k bytes) → k ≡ length bytes → length after ≡ length bytes
length_upto f place bytes k after e all =
    ap (λ (x : List ℕ). length x) e ∙ length_filled f place (take k bytes)
    ∙ (let l = length-take k bytes in omega (arith, l, all))
