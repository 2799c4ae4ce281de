-- What was written stays as more is put behind it.
use Rattle.std.proofs.Common.{◌≡◌, ◌∙◌, ℕ, List, ◌++◌, length, sym, ap, append_assoc, drop, take}
use Rattle.std.proofs.Math.Seq.{take-append_seam}
use Rattle.std.proofs.lemmas.List.{take-append-drop}
use Rattle.pf_text.specs.Kept.{KeepsText}

-- what is behind it
apart : (xs ys : List ℕ) → KeepsText xs ys → ys ≡ xs ++ drop (length xs) ys
apart xs ys kept = sym (take-append-drop (length xs) ys) ∙ ap (λ (l : List ℕ). l ++ drop (length xs) ys) kept

pub keeps_put : (xs ys : List ℕ) → KeepsText xs (xs ++ ys)
keeps_put xs ys = take-append_seam xs ys

pub keeps_more : (xs ys zs : List ℕ) → KeepsText xs ys → KeepsText ys zs → KeepsText xs zs
keeps_more xs ys zs first second =
    let behind = drop (length xs) ys in
    let more = drop (length ys) zs in
    let all : zs ≡ xs ++ (behind ++ more) = apart ys zs second ∙ ap (λ (l : List ℕ). l ++ more) (apart xs ys first) ∙ append_assoc xs behind more in
    ap (λ (l : List ℕ). take (length xs) l) all ∙ keeps_put xs (behind ++ more)
