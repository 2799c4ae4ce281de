-- The entries of a range of slots, put into a log.
use Rattle.std.proofs.Common.{◌≡◌, ℕ, zero, suc, ◌+◌, ◌<◌, ◌≤◌, ◌⊎◌, inl, inr, map, Some, arith, refl, sym, ap, ◌∙◌}
use Rattle.std.specs.List.{range_with_len}
use Rattle.std.specs.FinMap
use Rattle.std.proofs.lemmas.Bool.{cases_eq}
use Rattle.pf_entry.specs.Maps.{Map}
use Rattle.pf_entry.specs.Records.{put_entry, put_entries}
use Rattle.pf_entry.specs.declared.entries.Entry.{Entry}
use Rattle.pf_entry.proofs.Maps.{get_inserted, get_apart, insert_cases}

module _ (f : ℕ → Entry) (in_slot : (s : ℕ) → (f s).slot ≡ s) where
  -- what stands there after it stood there before, or is of the range
  pub range_cases : (n a : ℕ) (log : Map Entry) (s : ℕ) (x : Entry) → FinMap.get (put_entries log (map f (range_with_len a n))) s ≡ Some x → (FinMap.get log s ≡ Some x) ⊎ ((a ≤ s) × (s < a + n) × (f s ≡ x))
  unfolding put_entries put_entry
  range_cases zero a log s x is = inl is
  range_cases (suc n) a log s x is =
      elim (range_cases n (a + 1) (FinMap.insert log (f a).slot (f a)) s x is) [
        | inl before ↦ elim (insert_cases log (f a).slot (f a) s x before) [
          | inl here ↦ let same : s ≡ a = here.0 ∙ in_slot a in inr (omega arith, omega arith, ap f same ∙ here.1)
          | inr there ↦ inl there.1
        ]
        | inr in_rest ↦ inr (omega (arith, in_rest.0), omega (arith, in_rest.1), in_rest.2)
      ]

  put_apart : (n a : ℕ) (log : Map Entry) (s : ℕ) → s < a → FinMap.get (put_entries log (map f (range_with_len a n))) s ≡ FinMap.get log s
  unfolding put_entries put_entry
  put_apart zero a log s low = refl
  put_apart (suc n) a log s low = put_apart n (a + 1) (FinMap.insert log (f a).slot (f a)) s (omega arith) ∙ get_apart log (f a).slot (f a) s (λ same. omega (arith, same, in_slot a))

  -- each slot of the range has its entry
  pub range_has : (n a : ℕ) (log : Map Entry) (s : ℕ) → a ≤ s → s < a + n → FinMap.get (put_entries log (map f (range_with_len a n))) s ≡ Some (f s)
  unfolding put_entries put_entry
  range_has zero a log s low high = absurd (omega arith)
  range_has (suc n) a log s low high =
      elim (cases_eq s a) [
        | inl same ↦ put_apart n (a + 1) (FinMap.insert log (f a).slot (f a)) s (omega arith) ∙ ap (FinMap.get (FinMap.insert log (f a).slot (f a))) (same ∙ sym (in_slot a)) ∙ get_inserted log (f a).slot (f a) ∙ ap (λ k. Some (f k)) (sym same)
        | inr apart ↦ range_has n (a + 1) (FinMap.insert log (f a).slot (f a)) s (omega arith) (omega arith)
      ]
