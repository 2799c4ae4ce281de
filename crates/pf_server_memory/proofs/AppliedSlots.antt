-- The applied slots of a server in memory, which has those up to the checkpoint too.
use Rattle.std.proofs.Common.{◌≡◌, ◌≢◌, ℕ, zero, suc, ◌+◌, ◌-◌, ◌<◌, ◌≤◌, Bool, true, false, not, ◌&&◌, ◌||◌, nat_lt, nat_le, arith, refl, sym, ap, ◌∙◌, Equal}
use Rattle.std.proofs.lemmas.Bool.Decides.{nat_tests}
use Rattle.std.proofs.lemmas.Bool.{cond-true, cond-false, false≢true}
use Rattle.std.specs.Ordering.{nat_cmp, eq_by_cmp}
use Rattle.std.specs.Cmp.{nat_cmp_total}
use Rattle.std.specs.FinMap
use Rattle.pf_entry.specs.Maps.{Numbers}
use Rattle.pf_entry.specs.Sets
use Rattle.pf_entry.specs.Applying.{is_applied}
use Rattle.pf_entry.proofs.Sets.{contains-empty, contains-retain, contains-remove}
use Rattle.pf_protocol.specs.Servers.{climb}

tied : (x q : ℕ) → nat_cmp q x ≡ Equal → Equal ≡ nat_cmp x q
tied x q t = grind (arith, nat_tests)

and_true : (b : Bool) → (b && true) ≡ b
and_true true = refl
and_true false = refl

pub in_above : (slots : Numbers) (base q : ℕ) → Sets.contains (Sets.retain slots (nat_lt base)) q ≡ (Sets.contains slots q && nat_lt base q)
in_above slots base q = contains-retain slots (nat_lt base) q (λ x t. ap (nat_lt base) (FinMap.nat_cmp-IsAntisymmetric x q (sym (tied x q t))))

at_most : (a b : ℕ) → nat_le a b ≡ true → a ≤ b
at_most a b is = grind (arith, nat_tests)

beyond : (a b : ℕ) → nat_le a b ≡ false → nat_lt b a ≡ true
beyond a b is = grind (arith, nat_tests)

module _ (slots : Numbers) (base slot : ℕ) (some : 0 < slot) (prefix : (q : ℕ) → 0 < q → q ≤ base → Sets.contains slots q ≡ true) where
  by_place : (x : Bool) → nat_le slot base ≡ x → Sets.contains slots slot ≡ is_applied base (Sets.retain slots (nat_lt base)) slot
  by_place true is = prefix slot some (at_most slot base is) ∙ sym (ap (λ b. b || Sets.contains (Sets.retain slots (nat_lt base)) slot) is)
  by_place false is =
      sym (and_true (Sets.contains slots slot)) ∙ ap (λ b. Sets.contains slots slot && b) (sym (beyond slot base is)) ∙ sym (in_above slots base slot)
      ∙ sym (ap (λ b. b || Sets.contains (Sets.retain slots (nat_lt base)) slot) is)

  pub is_applied_here : Sets.contains slots slot ≡ is_applied base (Sets.retain slots (nat_lt base)) slot
  is_applied_here = by_place (nat_le slot base) refl

apart_test : (q k : ℕ) → q ≢ k → eq_by_cmp nat_cmp q k ≡ false
apart_test q k apart = grind (arith, nat_tests)

-- so many slots that follow each other are not more than all
pub enough : (n : ℕ) (slots : Numbers) (base : ℕ) → ((q : ℕ) → base < q → q ≤ base + n → Sets.contains slots q ≡ true) → n ≤ Sets.len slots
enough zero slots base all = omega arith
enough (suc n) slots base all =
    let last = base + suc n in
    let here = all last (omega arith) (omega arith) in
    let less = enough n (Sets.remove slots last) base (λ q low high. contains-remove slots last q ∙ (λ i. not (apart_test q last (λ same. false_of q n base high same) i) && all q low (omega (arith, high)) i)) in
    let size = FinMap.len-remove nat_cmp_total slots last ∙ cond-true _ _ _ here in
    let some : Sets.len slots ≢ 0 = λ none. false≢true (sym (contains-empty last) ∙ ap (λ s. Sets.contains s last) (sym (FinMap.empty_of_len slots none)) ∙ here) in
    omega (arith, less, size, some)
  where
    false_of : (q n base : ℕ) → q ≤ base + n → q ≡ base + suc n → ⊥
    false_of q n base high same = omega (arith, high, same)

below : (a b : ℕ) → nat_lt a b ≡ true → a < b
below a b is = grind (arith, nat_tests)

not_below : (a b : ℕ) → nat_lt a b ≡ false → b ≤ a
not_below a b is = grind (arith, nat_tests)

-- one step of the climb
step : (k : ℕ) (slots : Numbers) (n u : ℕ) → n ≤ u → ((q : ℕ) → n < q → q ≤ u → Sets.contains slots q ≡ true) → Sets.contains slots (u + 1) ≡ false
    → (n < u → climb k slots (suc n) ≡ u) → (x : Bool) → nat_lt n u ≡ x → climb (suc k) slots n ≡ u
step k slots n u low all ended rest true is =
    let lt = below n u is in
    cond-true _ _ _ (all (suc n) (omega arith) (omega (arith, lt))) ∙ rest lt
step k slots n u low all ended rest false is =
    let same : n ≡ u = omega (arith, low, not_below n u is) in
    let next : suc n ≡ u + 1 = omega (arith, same) in
    cond-false _ _ _ (ap (Sets.contains slots) next ∙ ended) ∙ same

pub climbs : (k : ℕ) (slots : Numbers) (n u : ℕ) → n ≤ u → u ≤ n + k → ((q : ℕ) → n < q → q ≤ u → Sets.contains slots q ≡ true) → Sets.contains slots (u + 1) ≡ false → climb k slots n ≡ u
climbs zero slots n u low high all ended = omega (arith, low, high)
climbs (suc k) slots n u low high all ended =
    step k slots n u low all ended (λ lt. climbs k slots (suc n) u (omega (arith, lt)) (omega (arith, high)) (λ q a b. all q (omega (arith, a)) b) ended) (nat_lt n u) refl

true_below : (a b : ℕ) → a < b → nat_lt a b ≡ true
true_below a b lt = grind (arith, nat_tests)

module _ (slots : Numbers) (base u : ℕ) (prefix : (q : ℕ) → 0 < q → q ≤ base → Sets.contains slots q ≡ true) (reached : (q : ℕ) → 0 < q → q ≤ u → Sets.contains slots q ≡ true) (ended : Sets.contains slots (u + 1) ≡ false) where
  abbrev pub above : Numbers
  above = Sets.retain slots (nat_lt base)

  not_under : base ≤ u
  not_under = by (nat_le base u) refl
    where
      by : (x : Bool) → nat_le base u ≡ x → base ≤ u
      by true is = at_most base u is
      by false is = absurd (false≢true (sym ended ∙ prefix (u + 1) (omega arith) (omega (arith, below u base (beyond base u is)))))

  all_above : (q : ℕ) → base < q → q ≤ u → Sets.contains above q ≡ true
  all_above q low high = in_above slots base q ∙ (λ i. reached q (omega (arith, low)) high i && true_below base q low i)

  pub climbs_here : climb (Sets.len above) above base ≡ u
  climbs_here =
      let all = enough (u - base) above base (λ q low high. all_above q low (omega (arith, high, not_under))) in
      climbs (Sets.len above) above base u not_under (omega (arith, all, not_under)) all_above (in_above slots base (u + 1) ∙ ap (λ b. b && nat_lt base (u + 1)) ended)
