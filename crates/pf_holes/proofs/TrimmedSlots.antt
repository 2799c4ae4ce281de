-- Slots that a trim has passed.
use Rattle.std.proofs.Common.{◌≡◌, ℕ, ◌+◌, ◌-◌, ◌<◌, ◌≤◌, Bool, true, cond, ◌&&◌, Option, None, Some, ◌==◌, is_some, nat_lt, nat_le, Equal, min, arith, refl, sym, ap, ◌∙◌}
use Rattle.std.specs.Ordering.{nat_cmp}
use Rattle.std.specs.Cmp.{nat_cmp_total}
use Rattle.std.specs.FinMap
use Rattle.std.specs.FinMap.{FinMap, get-remove, get-retain_keys, same_map, nat_cmp-IsAntisymmetric}
use Rattle.std.proofs.lemmas.Bool.Decides.{nat_tests}
use Rattle.pf_holes.specs.Windows.{SlotsAreWithin}
use Rattle.pf_holes.proofs.Found.{same_number}

-- one of the first slots above the base
abbrev pub is_passed : (base passed q : ℕ) → Bool
is_passed base passed q = nat_lt base q && nat_le q (base + passed)

tied : (x q : ℕ) → nat_cmp q x ≡ Equal → Equal ≡ nat_cmp x q
tied x q t = grind (arith, nat_tests)

module _ {V : Type 0} where
  pub get_above : (m : FinMap nat_cmp V) (base q : ℕ) → FinMap.get (FinMap.retain_keys m (nat_lt base)) q ≡ cond (nat_lt base q) (FinMap.get m q) None
  get_above m base q = get-retain_keys m (nat_lt base) q (λ x t. ap (nat_lt base) (nat_cmp-IsAntisymmetric x q (sym (tied x q t))))

  -- what stands after the slots passed are dropped
  abbrev pub IsPassed : (base passed : ℕ) → FinMap nat_cmp V → FinMap nat_cmp V → Type 0
  IsPassed base passed before now = (q : ℕ) → FinMap.get now q ≡ cond (is_passed base passed q) None (FinMap.get before q)

  none_yet : (base q : ℕ) (x : Option V) → x ≡ cond (is_passed base 0 q) None x
  none_yet base q x = grind (arith, nat_tests)

  pub begins : (base : ℕ) (m : FinMap nat_cmp V) → IsPassed base 0 m m
  begins base m q = none_yet base q (FinMap.get m q)

  one_more : (base passed q : ℕ) (x : Option V) → cond (q == base + passed + 1) None (cond (is_passed base passed q) None x) ≡ cond (is_passed base (passed + 1) q) None x
  one_more base passed q x = grind (arith, nat_tests)

  pub goes_on : (base passed : ℕ) (before now : FinMap nat_cmp V) → IsPassed base passed before now → IsPassed base (passed + 1) before (FinMap.remove now (base + passed + 1))
  goes_on base passed before now is q =
      get-remove nat_cmp_total now (base + passed + 1) q
      ∙ ap (λ b. cond b None (FinMap.get now q)) (same_number q (base + passed + 1))
      ∙ ap (cond (q == base + passed + 1) None) (is q)
      ∙ one_more base passed q (FinMap.get before q)

  all_passed : (base passed upto q : ℕ) (x : Option V) → passed ≡ min (upto - base) 4096 → (is_some x ≡ true → (base < q) × (q ≤ base + 4096)) → cond (is_passed base passed q) None x ≡ cond (nat_lt upto q) x None
  all_passed base passed upto q None all within = grind (arith, nat_tests)
  all_passed base passed upto q (Some v) all within = let both = within refl in grind (arith, nat_tests)

  pub ends : (base passed upto : ℕ) (before now : FinMap nat_cmp V) → SlotsAreWithin base before → IsPassed base passed before now → passed ≡ min (upto - base) 4096 → now ≡ FinMap.retain_keys before (nat_lt upto)
  ends base passed upto before now within is all = same_map nat_cmp_total nat_cmp-IsAntisymmetric _ _ (λ q.
      is q ∙ all_passed base passed upto q (FinMap.get before q) all (within q) ∙ sym (get_above before upto q))
