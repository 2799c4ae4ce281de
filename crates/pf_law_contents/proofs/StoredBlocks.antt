-- What a written block leaves in all blocks.
use Rattle.std.proofs.Common.{◌≡◌, ℕ, zero, suc, ◌+◌, ◌*◌, ◌/◌, ◌%◌, ◌<◌, ◌&&◌, ◌==◌, inl, inr, Bool, true, if◌then◌else◌, List, [], ◌∷◌, ◌++◌, take, drop, length, arith, refl, ap, ◌∙◌}
use Rattle.std.proofs.lemmas.Bool.{and_from, and_parts, cases_Bool, eq-eqb, eqb-true}
use Rattle.std.proofs.lemmas.List.{length-drop}
use Rattle.pf_volume.specs.Volumes.{Extent}
use Rattle.pf_file_calls.specs.Blocks.{bytes_of, sectors_of, writes_block}
use Rattle.pf_law_contents.specs.Stored.{Stored, block_bytes, stored_by}

taken_dropped : (n : ℕ) (xs : List ℕ) → take n xs ++ drop n xs ≡ xs
taken_dropped zero xs = refl
taken_dropped (suc n) [] = refl
taken_dropped (suc n) (x ∷ xs) = ap (λ ys. x ∷ ys) (taken_dropped n xs)

-- bytes that are cut into sectors and joined again
pub cut_joined : (n : ℕ) (bytes : List ℕ) → length bytes ≡ 512 * n → bytes_of (sectors_of n bytes) ≡ bytes
unfolding sectors_of
cut_joined zero [] size = refl
cut_joined zero (b ∷ bytes) size = absurd (omega (arith, size))
cut_joined (suc n) bytes size =
    let rest : length (drop 512 bytes) ≡ 512 * n = length-drop 512 bytes ∙ (omega (arith, size)) in
    ap (λ more. take 512 bytes ++ more) (cut_joined n (drop 512 bytes) rest) ∙ taken_dropped 512 bytes

module _ (v : Extent) (some : 0 < v.sectors) where
  -- blocks with one place are one
  pub one_block : (a b : ℕ) → 8 * a / v.sectors ≡ 8 * b / v.sectors → 8 * a % v.sectors ≡ 8 * b % v.sectors → a ≡ b
  one_block a b chunk first =
      let of_a : 8 * a ≡ v.sectors * (8 * a / v.sectors) + 8 * a % v.sectors = omega (arith, some) in
      let of_b : 8 * b ≡ v.sectors * (8 * b / v.sectors) + 8 * b % v.sectors = omega (arith, some) in
      let same = ap (λ n. v.sectors * n) chunk in
      omega (arith, of_a, of_b, same, first)

  module _ (s : Stored) (block : ℕ) (bytes : List ℕ) (size : length bytes ≡ 4096) where
    abbrev after : Stored
    after = stored_by s (writes_block v block bytes)

    pub written_block : block_bytes v after block ≡ bytes
    written_block =
        let here : ((8 * block / v.sectors == 8 * block / v.sectors) && (8 * block % v.sectors == 8 * block % v.sectors)) ≡ true = and_from _ _ (eq-eqb (8 * block / v.sectors) (8 * block / v.sectors) refl) (eq-eqb (8 * block % v.sectors) (8 * block % v.sectors) refl) in
        ap (λ (b : Bool). bytes_of (if b then sectors_of 8 bytes else s (8 * block / v.sectors) (8 * block % v.sectors))) here
        ∙ cut_joined 8 bytes size

    pub other_block : (b : ℕ) → (b ≡ block → ⊥) → block_bytes v after b ≡ block_bytes v s b
    other_block b other = elim (cases_Bool ((8 * b / v.sectors == 8 * block / v.sectors) && (8 * b % v.sectors == 8 * block % v.sectors))) [
      | inl here ↦
          let p = and_parts _ _ here in
          absurd (other (one_block b block (eqb-true _ _ p.0) (eqb-true _ _ p.1)))
      | inr elsewhere ↦ ap (λ (t : Bool). bytes_of (if t then sectors_of 8 bytes else s (8 * b / v.sectors) (8 * b % v.sectors))) elsewhere
    ]
