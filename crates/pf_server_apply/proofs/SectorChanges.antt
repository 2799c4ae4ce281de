-- Sectors after an op, by parts.
use Rattle.std.proofs.Common.{◌≡◌, ℕ, zero, suc, ◌+◌, ◌-◌, ◌<◌, ◌≤◌, true, false, cond, List, [], ◌∷◌, ◌++◌, length, map, take, drop, slice_index_or, arith, refl, sym, ap, ◌∙◌}
use Rattle.std.specs.List.{enumerate_from}
use Rattle.std.proofs.lemmas.Bool.{cond-true, cond-false}
use Rattle.std.proofs.lemmas.List.{length-map}
use Rattle.std.proofs.lemmas.Bool.Decides.{nat_tests}
use Rattle.pf_base.specs.Span.{Span, fits_in, is_in}
use Rattle.pf_entry.specs.declared.ops.Op.{Op}
use Rattle.pf_entry.specs.declared.ops.Op.TheVariants.{Write, Noop, Mark}
use Rattle.pf_entry.specs.Ops.{Sector, writes, written}
use Rattle.pf_protocol.specs.Saving.{changed}

module _ (span : Span) (few : span.count ≤ 8) where
  inside : (x : ℕ) → span.first ≤ x → x < span.first + span.count → is_in span x ≡ true
  inside x low high = grind (arith, nat_tests)

  after : (x : ℕ) → span.first + span.count ≤ x → is_in span x ≡ false
  after x high = grind (arith, nat_tests)

  before : (x : ℕ) → x < span.first → is_in span x ≡ false
  before x low = grind (arith, nat_tests)

  module _ (payload : List Sector) where
    -- one sector of a write
    abbrev at_place : (ℕ × Sector) → Sector
    at_place place = cond (is_in span place.0) (slice_index_or payload (place.0 - span.first) place.1) place.1

    abbrev all_from : ℕ → List Sector → List Sector
    all_from n xs = map at_place (enumerate_from n xs)

    past : (n : ℕ) (xs : List Sector) → span.first + span.count ≤ n → all_from n xs ≡ xs
    past n [] le = refl
    past n (x ∷ xs) le = (λ i. cond-false (is_in span n) (slice_index_or payload (n - span.first) x) x (after n le) i ∷ past (n + 1) xs (omega arith) i)

    -- the rest of the payload, from its k-th sector on
    within : (rest : List Sector) (k n : ℕ) (xs : List Sector) → ((j : ℕ) (d : Sector) → slice_index_or payload (k + j) d ≡ slice_index_or rest j d) → n ≡ span.first + k → k + length rest ≡ span.count → length rest ≤ length xs → all_from n xs ≡ rest ++ drop (length rest) xs
    within [] k n xs same at all fits = past n xs (omega arith)
    within (y ∷ rest) k n [] same at all fits = absurd (omega arith)
    within (y ∷ rest) k n (x ∷ xs) same at all fits =
        let e : n - span.first ≡ k + 0 = omega arith in
        λ i. (cond-true (is_in span n) (slice_index_or payload (n - span.first) x) x (inside n (omega arith) (omega arith)) ∙ ap (λ m. slice_index_or payload m x) e ∙ same 0 x) i
        ∷ within rest (k + 1) (n + 1) xs (λ j d. let f : (k + 1) + j ≡ k + suc j = omega arith in ap (λ m. slice_index_or payload m d) f ∙ same (suc j) d) (omega arith) (omega arith) (omega arith) i

    from_before : (a n : ℕ) (xs : List Sector) → n + a ≡ span.first → length payload ≡ span.count → a + span.count ≤ length xs → all_from n xs ≡ take a xs ++ payload ++ drop (a + length payload) xs
    from_before zero n xs at all fits =
        let e : length payload ≡ zero + length payload = omega arith in
        within payload 0 n xs (λ j d. let f : 0 + j ≡ j = omega arith in ap (λ m. slice_index_or payload m d) f) (omega arith) (omega arith) (omega arith) ∙ ap (λ m. payload ++ drop m xs) e
    from_before (suc a) n [] at all fits = absurd (omega arith)
    from_before (suc a) n (x ∷ xs) at all fits =
        let e : suc a + length payload ≡ suc (a + length payload) = omega arith in
        (λ i. cond-false (is_in span n) (slice_index_or payload (n - span.first) x) x (before n (omega arith)) i ∷ from_before a (n + 1) xs (omega arith) all (omega arith) i)
        ∙ ap (λ m. x ∷ take a xs ++ payload ++ drop m (x ∷ xs)) (sym e)

-- nothing is written
unwritten : (n : ℕ) (xs : List Sector) → map (λ (place : ℕ × Sector). place.1) (enumerate_from n xs) ≡ xs
unwritten n [] = refl
unwritten n (x ∷ xs) = ap (λ ys. x ∷ ys) (unwritten (n + 1) xs)

pub changed_by_write : (range : Span) (payload filled sectors : List Sector) → range.count ≤ 8 → length payload ≡ range.count → range.first + range.count ≤ length sectors → filled ≡ payload
    → take range.first sectors ++ filled ++ drop (range.first + length filled) sectors ≡ changed (Write range payload) sectors
unfolding changed writes written
changed_by_write range payload filled sectors few all fits is =
    ap (λ xs. take range.first sectors ++ xs ++ drop (range.first + length xs) sectors) is
    ∙ sym (from_before range few payload range.first 0 sectors (omega arith) all fits)

pub changed_by_noop : (sectors : List Sector) → sectors ≡ changed Noop sectors
unfolding changed writes written
changed_by_noop sectors = sym (unwritten 0 sectors)

pub changed_by_mark : (sectors : List Sector) → sectors ≡ changed Mark sectors
unfolding changed writes written
changed_by_mark sectors = sym (unwritten 0 sectors)

enumerated : (n : ℕ) (xs : List Sector) → length (enumerate_from n xs) ≡ length xs
enumerated n [] = refl
enumerated n (x ∷ xs) = ap suc (enumerated (n + 1) xs)

pub length-changed : (op : Op) (sectors : List Sector) → length (changed op sectors) ≡ length sectors
unfolding changed
length-changed op sectors = length-map (enumerate_from 0 sectors) _ ∙ enumerated 0 sectors

pub within_chunk : (range : Span) (chunk : ℕ) → range.count ≤ 8 → fits_in range chunk ≡ true → range.first + range.count ≤ chunk
within_chunk range chunk few fits = grind (arith, nat_tests)
