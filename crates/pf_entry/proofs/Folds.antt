-- Slots that write nothing may be left out of a fold.
use Rattle.std.proofs.Common.{◌≡◌, ℕ, zero, suc, ◌+◌, ◌<◌, ◌≤◌, ◌⊎◌, inl, inr, Bool, true, false, List, [], ◌∷◌, Option, Some, None, nat_le, arith, refl, sym, ap, ◌∙◌}
use Rattle.std.specs.Ordering.{nat_cmp, eq_by_cmp}
use Rattle.std.specs.List.{list_any}
use Rattle.std.proofs.lemmas.Bool.Decides.{nat_tests}
use Rattle.std.proofs.lemmas.Bool.{cases_Bool, cases_lt, cond-true, cond-false, false≢true, or_cases, leb-true}
use Rattle.pf_entry.specs.Maps.{Numbers}
use Rattle.pf_entry.specs.Sets
use Rattle.pf_entry.proofs.Sets.{contains-items}
use Rattle.pf_entry.specs.Ops.{Sector, writes}
use Rattle.pf_entry.specs.Applying.{is_applied, after_op, fold_to}
use Rattle.pf_entry.specs.declared.ops.Op.{Op}

-- a number that no applied slot is above
list_bound : (xs : List ℕ) → (n : ℕ) × ((slot : ℕ) → list_any (eq_by_cmp nat_cmp slot) xs ≡ true → slot ≤ n)
list_bound [] = (0, λ slot is. absurd (false≢true is))
list_bound (x ∷ xs) =
    let rest = list_bound xs in (
      rest.0 + x,
      λ slot is. elim (or_cases (eq_by_cmp nat_cmp slot x) (list_any (eq_by_cmp nat_cmp slot) xs) is) [
        | inl here ↦ omega (arith, tied slot x here)
        | inr later ↦ omega (arith, rest.1 slot later)
      ],
    )
  where
    tied : (q k : ℕ) → eq_by_cmp nat_cmp q k ≡ true → q ≡ k
    tied q k = grind (arith, nat_tests)

pub applied_bound : (base : ℕ) (applied : Numbers) → (n : ℕ) × ((slot : ℕ) → is_applied base applied slot ≡ true → slot ≤ n)
applied_bound base applied =
    let set = list_bound (Sets.items applied) in (
      set.0 + base,
      λ slot is. elim (or_cases (nat_le slot base) (Sets.contains applied slot) is) [
        | inl low ↦ omega (arith, leb-true slot base low)
        | inr has ↦ omega (arith, set.1 slot (sym (contains-items applied slot) ∙ has))
      ],
    )

-- an op that writes nothing
abbrev Quiet : (ℕ → Option Op) → (x slot : ℕ) → Type 0
Quiet ops x slot = (op : Op) → ops slot ≡ Some op → writes op x ≡ false

stays_quiet : (o : Option Op) (x : ℕ) (old : Sector) → ((op : Op) → o ≡ Some op → writes op x ≡ false) → after_op o x old ≡ old
stays_quiet None x old quiet = refl
stays_quiet (Some op) x old quiet = cond-false _ _ _ (quiet op refl)

-- slots that write nothing may be left out
module _ (ops : ℕ → Option Op) (done : ℕ → Bool) (x : ℕ) (zeros : Sector) where
  at_last : (m n : ℕ) → n ≡ m → fold_to ops done x zeros n ≡ fold_to ops done x zeros m
  at_last m n same = ap (fold_to ops done x zeros) same

  pub fold_above : (m : ℕ) → ((a : ℕ) → m < a → done a ≡ true → Quiet ops x a) → (n : ℕ) → m ≤ n → fold_to ops done x zeros n ≡ fold_to ops done x zeros m
  fold_above m quiet zero le = at_last m zero (omega (arith, le))
  fold_above m quiet (suc n) le =
      elim (cases_lt m (suc n)) [
        | inl low ↦ above (fold_above m quiet n (omega (arith, low))) (cases_Bool (done (suc n))) low
        | inr high ↦ at_last m (suc n) (omega (arith, high, le))
      ]
    where
      above : fold_to ops done x zeros n ≡ fold_to ops done x zeros m → (done (suc n) ≡ true) ⊎ (done (suc n) ≡ false) → m < suc n → fold_to ops done x zeros (suc n) ≡ fold_to ops done x zeros m
      above before does low = elim does [
        | inl did ↦ cond-true _ _ _ did ∙ stays_quiet (ops (suc n)) x (fold_to ops done x zeros n) (quiet (suc n) low did) ∙ before
        | inr not_did ↦ cond-false _ _ _ not_did ∙ before
      ]
