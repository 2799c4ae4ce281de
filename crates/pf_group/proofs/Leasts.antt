-- The least packet that is left.
use Rattle.std.proofs.Common.{◌≡◌, ℕ, zero, suc, ◌+◌, ◌-◌, ◌<◌, ◌≤◌, Bool, true, false, length, find, max, Some, None, slice_get, arith, refl, sym, ap, ◌∙◌}
use Rattle.std.specs.List.{range_with_len}
use Rattle.std.proofs.lemmas.Bool.{cases_eq, cond-true, cond-false}
use Rattle.std.proofs.Common.{inl, inr}
use Rattle.pf_protocol.specs.Groups.{Group}
use Rattle.pf_group.specs.Readers.{is_left}
use Rattle.pf_group.specs.Packets.{IsFirstLeft, is_left_in, least_from}

abbrev pub NoneUpTo : Group → (first k : ℕ) → Type 0
NoneUpTo g first k = (j : ℕ) → first ≤ j → j < k → is_left_in g j ≡ false

pub none_yet : (g : Group) (first : ℕ) → NoneUpTo g first first
none_yet g first j low high = absurd (omega (arith, low, high))

pub one_further : (g : Group) (first k : ℕ) (left : Bool) → NoneUpTo g first k → left ≡ is_left (slice_get g.packets k) → left ≡ false → NoneUpTo g first (k + 1)
one_further g first k left none is no_more j low high = elim (cases_eq j k) [
  | inl same ↦ ap (is_left_in g) same ∙ sym is ∙ no_more
  | inr apart ↦ none j low (omega (arith, high, apart))
]

pub found_left : (g : Group) (first k packets : ℕ) (left : Bool) → packets ≡ length g.packets → first ≤ k → k < packets → NoneUpTo g first k → left ≡ is_left (slice_get g.packets k) → left ≡ true → IsFirstLeft g first k
found_left g first k packets left count low high none is found = record {
  above = low;
  sent = λ _. omega (arith, count, high);
  none = none;
  here = λ _. sym is ∙ found;
}

pub none_found : (g : Group) (first k packets end : ℕ) → packets ≡ length g.packets → packets ≤ k → NoneUpTo g first k → end ≡ max packets first → IsFirstLeft g first end
none_found g first k packets end count over none is = record {
  above = omega (arith, is);
  sent = λ low. omega (arith, is, count, low);
  none = λ j low high. none j low (omega (arith, high, is, over, low));
  here = λ inside. absurd (omega (arith, inside, is, count));
}

-- what a search finds in a range
find_none : (p : ℕ → Bool) (m a : ℕ) → ((j : ℕ) → a ≤ j → j < a + m → p j ≡ false) → find p (range_with_len a m) ≡ None
find_none p zero a none = refl
find_none p (suc m) a none =
    cond-false (p a) (Some a) _ (none a (omega arith) (omega arith)) ∙ find_none p m (a + 1) (λ j low high. none j (omega (arith, low)) (omega (arith, high)))

find_first : (p : ℕ → Bool) (m a k : ℕ) → a ≤ k → k < a + m → ((j : ℕ) → a ≤ j → j < k → p j ≡ false) → p k ≡ true → find p (range_with_len a m) ≡ Some k
find_first p zero a k low high none found = absurd (omega (arith, low, high))
find_first p (suc m) a k low high none found = elim (cases_eq a k) [
  | inl same ↦ cond-true (p a) (Some a) _ (ap p same ∙ found) ∙ ap (λ n. Some n) same
  | inr apart ↦
      cond-false (p a) (Some a) _ (none a (omega arith) (omega (arith, low, apart)))
      ∙ find_first p m (a + 1) k (omega (arith, low, apart)) (omega (arith, high)) (λ j above. none j (omega (arith, above))) found
]

module _ (g : Group) (first k : ℕ) (is : IsFirstLeft g first k) where
  pub least_is : k < length g.packets → Some k ≡ least_from first g
  least_is low = sym (find_first (is_left_in g) (length g.packets - first) first k is.above (omega (arith, low, is.above)) is.none (is.here low))

  pub least_none : length g.packets ≤ k → None ≡ least_from first g
  least_none high = sym (find_none (is_left_in g) (length g.packets - first) first (λ j low under. is.none j low (omega (arith, low, under, high))))
