-- The sequence, one number further.
use Rattle.std.proofs.Common.{◌≡◌, ℕ, ◌+◌, List, [], ◌∷◌, ◌++◌, map, refl, ap, sym, ◌∙◌, arith, add-one}
use Rattle.std.specs.List.{flat_map, range_with_len}
use Rattle.std.proofs.lemmas.Grind.{flat_map-append}
use Rattle.std.proofs.lemmas.List.{append-nil, map-id}
use Rattle.std.proofs.lemmas.List.FromFn.{map-range_with_len_more}
use Rattle.pf_gen.specs.Draws.{next_draw, number}
use Rattle.pf_gen.specs.Lines.{drawn_line}
use Rattle.pf_gen.specs.Generated.{drawn_lines}

pub number_none : (first : ℕ) → number first 0 ≡ first
unfolding number
number_none first = refl

pub number_more : (first k : ℕ) → number first (k + 1) ≡ next_draw (number first k)
unfolding number
number_more first k = ap (number first) (add-one k)

pub drawn_none : (first : ℕ) → drawn_lines first 0 ≡ []
unfolding drawn_lines
drawn_none first = refl

range_more : (n : ℕ) → range_with_len 1 (n + 1) ≡ range_with_len 1 n ++ (n + 1) ∷ []
range_more n =
    let same : (k : ℕ) → map (λ (x : ℕ). x) (range_with_len 1 k) ≡ range_with_len 1 k = λ k. map-id (range_with_len 1 k) in
    sym (same (n + 1)) ∙ map-range_with_len_more (λ (x : ℕ). x) 1 n (n + 1) (omega arith) ∙ ap (λ (l : List ℕ). l ++ (n + 1) ∷ []) (same n)

pub drawn_more : (first n : ℕ) → drawn_lines first (n + 1) ≡ drawn_lines first n ++ drawn_line (number first (n + 1))
unfolding drawn_lines
drawn_more first n =
    let line : ℕ → List ℕ = λ k. drawn_line (number first k) in
    ap (flat_map line) (range_more n)
    ∙ flat_map-append line (range_with_len 1 n) ((n + 1) ∷ [])
    ∙ ap (λ (l : List ℕ). flat_map line (range_with_len 1 n) ++ l) (append-nil (line (n + 1)))
