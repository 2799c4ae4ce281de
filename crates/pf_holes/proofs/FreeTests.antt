-- The test whether an entry is free.
use Rattle.std.proofs.Common.{◌≡◌, ℕ, zero, suc, ◌+◌, ◌-◌, ◌<◌, ◌≤◌, inl, inr, Bool, true, false, ◌||◌, arith, refl, sym, ap, ◌∙◌}
use Rattle.std.specs.List.{list_all, range_with_len}
use Rattle.std.proofs.lemmas.Bool.{cases_Bool, false≢true, and_from, or_cases, or_left, or_right}
use Rattle.pf_entry.specs.Applying.{IsFree, is_free, passes}
use Rattle.pf_entry.specs.Ops.{range_of}
use Rattle.pf_entry.specs.declared.entries.Entry.{Entry}
use Rattle.pf_entry.proofs.Lists.{all_in_range}

all_range : (f : ℕ → Bool) (n a : ℕ) → ((k : ℕ) → a ≤ k → k < a + n → f k ≡ true) → list_all f (range_with_len a n) ≡ true
all_range f zero a each = refl
all_range f (suc n) a each = and_from _ _ (each a (omega arith) (omega arith)) (all_range f n (a + 1) (λ k low high. each k (omega arith) (omega arith)))

module _ (done : ℕ → Bool) (e : Entry) where
  -- the slot is applied, or the entry's list lets it be passed
  abbrev pub lets : ℕ → Bool
  lets p = done p || passes e.look p (range_of e.op)

  pub free_from : ((p : ℕ) → 0 < p → p < e.slot → lets p ≡ true) → is_free done e ≡ true
  unfolding is_free
  free_from each = all_range lets (e.slot - 1) 1 (λ p low high. each p (omega arith) (omega arith))

  pub free_at : is_free done e ≡ true → (p : ℕ) → 0 < p → p < e.slot → lets p ≡ true
  unfolding is_free
  free_at is p low high = all_in_range lets (e.slot - 1) 1 p is (omega arith) (omega arith)

  pub not_free : (p : ℕ) → 0 < p → p < e.slot → lets p ≡ false → is_free done e ≡ false
  not_free p low high fails =
      elim (cases_Bool (is_free done e)) [
        | inl free ↦ absurd (false≢true (sym fails ∙ free_at free p low high))
        | inr is ↦ is
      ]

  pub IsFree-from_test : is_free done e ≡ true → IsFree done e
  IsFree-from_test is p low high absent =
      elim (or_cases _ _ (free_at is p low high)) [
        | inl does ↦ absurd (false≢true (sym absent ∙ does))
        | inr passed ↦ passed
      ]

  pub is_free-from_IsFree : IsFree done e → is_free done e ≡ true
  is_free-from_IsFree free = free_from (λ p low high.
      elim (cases_Bool (done p)) [
        | inl does ↦ or_left (done p) _ does
        | inr absent ↦ or_right (done p) _ (free p low high absent)
      ])

-- what is free in a set is free in a larger one
pub IsFree-more : (done more : ℕ → Bool) (e : Entry) → ((p : ℕ) → done p ≡ true → more p ≡ true) → IsFree done e → IsFree more e
IsFree-more done more e kept free p low high absent =
    free p low high (elim (cases_Bool (done p)) [ inl does ↦ absurd (false≢true (sym absent ∙ kept p does)) | inr is ↦ is ])

-- two sets with the same slots from 1 on have the same free entries
pub is_free-alike : (f g : ℕ → Bool) (e : Entry) → ((p : ℕ) → 0 < p → f p ≡ g p) → is_free f e ≡ is_free g e
is_free-alike f g e alike = same (is_free f e) (is_free g e) (over f g alike) (over g f (λ p low. sym (alike p low)))
  where
    over : (f g : ℕ → Bool) → ((p : ℕ) → 0 < p → f p ≡ g p) → is_free f e ≡ true → is_free g e ≡ true
    over f g alike is = free_from g e (λ p low high. ap (λ b. b || passes e.look p (range_of e.op)) (sym (alike p low)) ∙ free_at f e is p low high)

    same : (a b : Bool) → (a ≡ true → b ≡ true) → (b ≡ true → a ≡ true) → a ≡ b
    same true b to from = sym (to refl)
    same false true to from = from refl
    same false false to from = refl
