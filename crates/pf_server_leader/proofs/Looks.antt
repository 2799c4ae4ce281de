-- Look-behind lists, grown slot by slot.
use Rattle.std.proofs.Common.{◌≡◌, ℕ, zero, suc, ◌+◌, ◌-◌, ◌≤◌, ◌<◌, true, false, cond, [], ◌∷◌, ◌++◌, append-nil, map, nat_lt, arith, ap, ◌∙◌}
use Rattle.std.specs.List.{filter, range_with_len}
use Rattle.std.proofs.lemmas.List.{map-append}
use Rattle.std.proofs.lemmas.List.Elements.{filter-append}
use Rattle.std.proofs.lemmas.Bool.Decides.{nat_tests}
use Rattle.pf_entry.specs.Maps.{Map}
use Rattle.pf_entry.specs.declared.entries.Entry.{Entry}
use Rattle.pf_server_leader.specs.Submitting.{range_named_at}

ranged : (n a : ℕ) → range_with_len a (n + 1) ≡ range_with_len a n ++ (a + n) ∷ []
ranged zero a = ap (λ k. k ∷ []) (omega arith)
ranged (suc n) a = let e : suc n + 1 ≡ suc (n + 1) = omega arith in let f : (a + 1) + n ≡ a + suc n = omega arith in ap (range_with_len a) e ∙ ap (λ xs. a ∷ xs) (ranged n (a + 1) ∙ ap (λ k. range_with_len (a + 1) n ++ k ∷ []) f)

module _ (log : Map Entry) (base from slot : ℕ) (within : from ≤ slot) where
  longer : map (range_named_at log) (filter (nat_lt base) (range_with_len from (slot + 1 - from))) ≡ map (range_named_at log) (filter (nat_lt base) (range_with_len from (slot - from))) ++ map (range_named_at log) (cond (nat_lt base slot) (slot ∷ []) [])
  longer =
      let e : slot + 1 - from ≡ (slot - from) + 1 = omega arith in
      let f : from + (slot - from) ≡ slot = omega arith in
      ap (λ n. map (range_named_at log) (filter (nat_lt base) (range_with_len from n))) e
      ∙ ap (λ xs. map (range_named_at log) (filter (nat_lt base) xs)) (ranged (slot - from) from ∙ ap (λ k. range_with_len from (slot - from) ++ k ∷ []) f)
      ∙ ap (map (range_named_at log)) (filter-append (nat_lt base) _ _)
      ∙ map-append (range_named_at log) _ _

  pub looks_more : base < slot → map (range_named_at log) (filter (nat_lt base) (range_with_len from (slot + 1 - from))) ≡ map (range_named_at log) (filter (nat_lt base) (range_with_len from (slot - from))) ++ range_named_at log slot ∷ []
  looks_more lt = longer ∙ ap (λ b. map (range_named_at log) (filter (nat_lt base) (range_with_len from (slot - from))) ++ map (range_named_at log) (cond b (slot ∷ []) [])) (tested base slot lt)
    where
      tested : (a b : ℕ) → a < b → nat_lt a b ≡ true
      tested a b h = grind (arith, nat_tests)

  pub looks_same : slot ≤ base → map (range_named_at log) (filter (nat_lt base) (range_with_len from (slot + 1 - from))) ≡ map (range_named_at log) (filter (nat_lt base) (range_with_len from (slot - from)))
  looks_same le = longer ∙ ap (λ b. map (range_named_at log) (filter (nat_lt base) (range_with_len from (slot - from))) ++ map (range_named_at log) (cond b (slot ∷ []) [])) (tested base slot le) ∙ append-nil _
    where
      tested : (a b : ℕ) → b ≤ a → nat_lt a b ≡ false
      tested a b h = grind (arith, nat_tests)
