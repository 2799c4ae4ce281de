-- Sectors that lie one after the other.
use Rattle.std.proofs.Common.{◌≡◌, ℕ, zero, suc, ◌*◌, ◌+◌, ◌-◌, ◌/◌, ◌≤◌, List, [], ◌∷◌, ◌++◌, length, take, drop, Some, refl, sym, ap, ◌∙◌, arith, slice_get}
use Rattle.std.specs.Simd.{first_chunks}
use Rattle.std.specs.List.{flat_map}
use Rattle.std.proofs.lemmas.List.{append-nil, drop-drop, length-drop, take_all}
use Rattle.pf_entry.specs.Lists.{Every}
use Rattle.pf_codec.specs.Parsers.{row_at}
use Rattle.pf_codec.specs.Reading.{sector_at}
use Rattle.pf_codec.proofs.Exact.{row_exact, sector_exact}
use Rattle.pf_codec.proofs.Fields.{bytes_ahead}

take_chunks : {X : Type 0} (n k m : ℕ) (xs : List X) → k ≤ m → take k (first_chunks n m xs) ≡ first_chunks n k xs
take_chunks n zero m xs h = refl
take_chunks n (suc k) zero xs h = absurd (omega (arith, h))
take_chunks n (suc k) (suc m) xs h = ap (λ rest. take n xs ∷ rest) (take_chunks n k m (drop n xs) (omega (arith, h)))

pub sectors_ahead : (n : ℕ) (front tail : List ℕ) → 512 * n ≤ length front → row_at sector_at n (front ++ tail) ≡ Some (first_chunks 512 n front, drop (512 * n) front ++ tail)
unfolding row_at sector_at
sectors_ahead zero front tail h = refl
sectors_ahead (suc n) front tail h =
    let one = bytes_ahead 512 front tail (front ++ tail) refl (omega (arith, h)) in
    let rest = sectors_ahead n (drop 512 front) tail (omega (arith, h, length-drop 512 front)) in
    let far : 512 + 512 * n ≡ 512 * suc n = omega arith in
    let last : drop (512 * n) (drop 512 front) ≡ drop (512 * suc n) front = drop-drop (512 * n) 512 front ∙ ap (λ k. drop k front) far in
    rw (one, rest, last) refl

-- what is left behind the first k
pub all_left : (k : ℕ) (xs : List ℕ) → take (length xs - k) (drop k xs) ≡ drop k xs
all_left k xs = take_all _ (drop k xs) (omega (arith, length-drop k xs))

pub bulk_found : (n : ℕ) (bytes tail all : List ℕ) (whole items : List (List ℕ)) → bytes ++ tail ≡ all → n ≤ length bytes / 512 → whole ≡ first_chunks 512 (length bytes / 512) bytes → items ≡ take n whole
    → row_at sector_at n all ≡ Some (items, take (length bytes - 512 * n) (drop (512 * n) bytes) ++ tail)
bulk_found n bytes tail all whole items is h front are =
    let same : items ≡ first_chunks 512 n bytes = are ∙ ap (take n) front ∙ take_chunks 512 n (length bytes / 512) bytes h in
    ap (row_at sector_at n) (sym is) ∙ sectors_ahead n bytes tail (omega (arith, h)) ∙ (λ i. Some (sym same i, sym (all_left (512 * n) bytes) i ++ tail))

-- sectors that are all there is
pub whole_found : (n : ℕ) (sectors : List (List ℕ)) → length sectors ≡ n → Every (λ bytes. length bytes ≡ 512) sectors → row_at sector_at n (flat_map (λ sector. sector) sectors) ≡ Some (sectors, [])
whole_found n sectors count full =
    ap (row_at sector_at n) (sym (append-nil (flat_map (λ sector. sector) sectors))) ∙ (row_exact sector_exact n).again sectors [] (count, full)

-- a fact of each place is one of the list
pub every_place : {X : Type 0} → (P : X → Type 0) (xs : List X) → ((k : ℕ) (x : X) → slice_get xs k ≡ Some x → P x) → Every P xs
every_place P [] each = tt
every_place P (x ∷ xs) each = (each 0 x refl, every_place P xs (λ k y at. each (suc k) y at))
