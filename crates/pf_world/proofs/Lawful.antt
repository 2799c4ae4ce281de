-- Chunks are looked at one after another.
use Rattle.std.proofs.Common.{◌≡◌, ℕ, suc, ◌+◌, ◌<◌, ◌≤◌, ◌⊎◌, inl, inr, List, Some, length, get_or, slice_get, arith, refl, sym, subst, ◌∙◌}
use Rattle.std.proofs.Math.Nat.{le-suc_iff}
use Rattle.std.proofs.lemmas.Option.{same_Some, slice_get_read}
use Rattle.pf_live_session.specs.pf_group.specs.GroupIs.{GroupIs}
use Rattle.pf_live_session.specs.pf_chunk.specs.Views.{ChunkIs}

module _ (Law : GroupIs → Type 0) where
  -- it holds of the groups of the first chunks
  abbrev pub HoldsBelow : ℕ → List ChunkIs → Type 0
  HoldsBelow i chunks = (k : ℕ) (c : ChunkIs) → k < i → slice_get chunks k ≡ Some c → Law c.group

  module _ (chunks : List ChunkIs) (i : ℕ) (x : ChunkIs) (is : x ≡ get_or chunks i x) (low : i < length chunks) (law : Law x.group) (before : HoldsBelow i chunks) where
    here : slice_get chunks i ≡ Some x
    here = slice_get_read chunks (length chunks) i x refl low is

    at_most : (k : ℕ) (c : ChunkIs) → (suc k ≤ i) ⊎ (suc k ≡ suc i) → slice_get chunks k ≡ Some c → Law c.group
    at_most k c (inl lt) there = before k c lt there
    at_most k c (inr same) there =
        let k_is : k ≡ i = omega (arith, same) in
        subst (λ (d : ChunkIs). Law d.group) (same_Some x c (sym here ∙ subst (λ n. slice_get chunks n ≡ Some c) k_is there)) law

    pub one_more : HoldsBelow (i + 1) chunks
    one_more k c lt there =
        let le : suc k ≤ suc i = omega (arith, lt) in
        at_most k c (le-suc_iff.0 le) there
