-- Values in fields that are zero past them.
use Rattle.std.proofs.Common.{◌≡◌, ℕ, ◌+◌, ◌-◌, ◌≤◌, List, ◌++◌, length, take, drop, replicate, ap, sym, ◌∙◌, arith, append_assoc, length-append}
use Rattle.std.proofs.lemmas.List.{drop-replicate}
use Rattle.std.proofs.Math.Seq.{take-append_seam, drop-append-add}
use Rattle.std.specs.List.{splice}
use Rattle.pf_base.specs.Values.{zero_filled, value_padded, IsPadded}

-- bytes over the zeros that follow others
over_zeros : (most : ℕ) (old xs : List ℕ) → old ++ (xs ++ drop (length old + length xs) (zero_filled most old)) ≡ zero_filled most (old ++ xs)
over_zeros most old xs =
    ap (λ (zs : List ℕ). old ++ (xs ++ zs)) (drop-append-add old (replicate (most - length old) 0) (length xs) ∙ drop-replicate (length xs) (most - length old) 0)
    ∙ sym (append_assoc old xs (replicate (most - length old - length xs) 0))
    ∙ ap (λ (n : ℕ). (old ++ xs) ++ replicate n 0) (omega (arith, length-append old xs))

-- bytes that are put over the zeros of a field
written : (field xs : List ℕ) (len : ℕ) → IsPadded field len → splice field len (len + length xs) xs ≡ value_padded (take len field ++ xs)
written field xs len h =
    let old = take len field in
    ap (λ (f : List ℕ). old ++ (xs ++ drop (len + length xs) f)) (sym h.zeros)
    ∙ ap (λ (n : ℕ). old ++ (xs ++ drop (n + length xs) (value_padded old))) (sym h.there)
    ∙ over_zeros 400 old xs

pub reads : (field xs after : List ℕ) (len : ℕ) → IsPadded field len → after ≡ splice field len (len + length xs) xs → take (len + length xs) after ≡ take len field ++ xs
reads field xs after len h is =
    let all = take len field ++ xs in
    let count : length all ≡ len + length xs = length-append (take len field) xs ∙ ap (λ (n : ℕ). n + length xs) h.there in
    ap (take (len + length xs)) (is ∙ written field xs len h)
    ∙ ap (λ (n : ℕ). take n (value_padded all)) (sym count)
    ∙ take-append_seam all (replicate (400 - length all) 0)

pub extended : (field xs after : List ℕ) (len : ℕ) → IsPadded field len → length (take len field) + length xs ≤ 400 → after ≡ splice field len (len + length xs) xs → IsPadded after (len + length xs)
extended field xs after len h room is =
    let read = reads field xs after len h is in
    let there = h.there in
    record {
      few = omega (arith, there, room);
      there = ap length read ∙ length-append (take len field) xs ∙ ap (λ (n : ℕ). n + length xs) there;
      zeros = ap value_padded read ∙ sym (is ∙ written field xs len h);
    }
