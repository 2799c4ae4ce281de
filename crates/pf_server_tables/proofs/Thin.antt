-- What thin lists of sectors have in a range.
use Rattle.std.proofs.Common.{◌≡◌, ℕ, zero, suc, ◌+◌, ◌-◌, ◌≤◌, List, [], ◌∷◌, ◌++◌, length, drop, take, replicate, refl, ap, sym, ◌∙◌, arith, append_assoc}
use Rattle.std.proofs.lemmas.List.{length-append, length-replicate, replicate-append-replicate, take-replicate, drop-replicate, length-drop, length-take-le, take-append-le, drop-append-le}
use Rattle.pf_server_tables.specs.Thin.{thin}

abbrev Sector : Type 0
Sector = List ℕ

abbrev zeros : ℕ → List Sector
zeros n = replicate n (replicate 512 0)

module _ (written : List Sector) where
  abbrev more : ℕ → List Sector
  more n = written ++ zeros n

  length_more : (n : ℕ) → length (more n) ≡ length written + n
  length_more n = length-append written (zeros n) ∙ ap (λ k. length written + k) (length-replicate n (replicate 512 0))

  pub thin_length : (count : ℕ) → length written ≤ count → length (thin written count) ≡ count
  thin_length count within = let long = length_more (count - length written) in omega (arith, long, within)

  -- what was made longer is as it was
  thin_thin : (end count : ℕ) → length written ≤ count → end ≤ count → thin (thin written end) count ≡ thin written count
  thin_thin end count within low =
      let long = length_more (end - length written) in
      let same : (end - length written) + (count - length (thin written end)) ≡ count - length written = omega (arith, long, within, low) in
      append_assoc written (zeros (end - length written)) (zeros (count - length (thin written end)))
      ∙ ap (λ (zs : List Sector). written ++ zs) (replicate-append-replicate (end - length written) (count - length (thin written end)) (replicate 512 0))
      ∙ ap more same

take_thin : (written : List Sector) (n m : ℕ) → m ≤ length written + n → take m (more written n) ≡ thin (take m written) m
take_thin written n zero low = refl
take_thin [] n (suc m) low =
    let all : suc m ≡ suc m - 0 = omega arith in
    take-replicate (suc m) n (replicate 512 0) (omega (arith, low)) ∙ ap zeros all
take_thin (sector ∷ written) n (suc m) low =
    let rest : m - length (take m written) ≡ suc m - suc (length (take m written)) = omega arith in
    ap (λ (xs : List Sector). sector ∷ xs) (take_thin written n m (omega (arith, low)))
    ∙ ap (more (sector ∷ take m written)) rest

drop_more : (written : List Sector) (n first : ℕ) → drop first (more written n) ≡ more (drop first written) (n - (first - length written))
drop_more written n zero = let all : n ≡ n - (zero - length written) = omega arith in ap (more written) all
drop_more [] n (suc first) =
    let same : n - suc first ≡ n - (suc first - 0) = omega arith in
    drop-replicate (suc first) n (replicate 512 0) ∙ ap zeros same
drop_more (sector ∷ written) n (suc first) =
    let same : n - (first - length written) ≡ n - (suc first - suc (length written)) = omega arith in
    drop_more written n first ∙ ap (more (drop first written)) same

-- a part of them is the part of what was written, and zeros
pub part_is : (written : List Sector) (count first n m : ℕ) → length written ≤ count → m ≡ n → first + m ≤ count
    → thin (take n (drop first written)) m ≡ take n (drop first (thin written count))
part_is written count first n m within same low =
    let left = length-drop first written in
    ap (thin (take n (drop first written))) same
    ∙ sym (ap (take n) (drop_more written (count - length written) first)
    ∙ take_thin (drop first written) ((count - length written) - (first - length written)) n (omega (arith, left, within, same, low)))

-- a part is changed for another as long
module _ (written : List Sector) (end count : ℕ) (within : length written ≤ count) (low : end ≤ count) where
  abbrev reached : List Sector
  reached = thin written end

  abbrev others : List Sector
  others = zeros (count - length reached)

  as_it_was : reached ++ others ≡ thin written count
  as_it_was = thin_thin written end count within low

  reaches : end ≤ length reached
  reaches = let long = length_more written (end - length written) in omega (arith, long)

  pub changed : (first : ℕ) (part : List Sector) → first + length part ≡ end
      → thin (take first reached ++ part ++ drop end reached) count ≡ take first (thin written count) ++ part ++ drop end (thin written count)
  changed first part fits =
      let before = length-take-le first reached (omega (arith, reaches, fits)) in
      let after = length-drop end reached in
      let all = length-append (take first reached ++ part) (drop end reached) in
      let front = length-append (take first reached) part in
      let same : count - length (take first reached ++ part ++ drop end reached) ≡ count - length reached = omega (arith, before, after, all, front, reaches, fits) in
      ap (more (take first reached ++ part ++ drop end reached)) same
      ∙ append_assoc (take first reached ++ part) (drop end reached) others
      ∙ (λ i. sym (take-append-le first reached others (omega (arith, reaches, fits))) i ++ part ++ sym (drop-append-le end reached others reaches) i)
      ∙ (λ i. take first (as_it_was i) ++ part ++ drop end (as_it_was i))

  -- what was there comes out
  pub taken : (first n : ℕ) → first + n ≤ end → take n (drop first reached) ≡ take n (drop first (thin written count))
  taken first n fits =
      let left = length-drop first reached in
      sym (take-append-le n (drop first reached) others (omega (arith, left, reaches, fits)))
      ∙ ap (take n) (sym (drop-append-le first reached others (omega (arith, reaches, fits))))
      ∙ ap (λ (xs : List Sector). take n (drop first xs)) as_it_was
