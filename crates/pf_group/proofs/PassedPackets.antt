-- Packets that are passed over, and the least other one that is left.
use Rattle.std.proofs.Common.{◌≡◌, inl, inr, ℕ, zero, suc, ◌+◌, ◌-◌, ◌<◌, ◌≤◌, Bool, true, false, not, cond, ◌&&◌, ◌||◌, ◌==◌, length, find, Option, Some, None, slice_get, arith, refl, sym, ap, ◌∙◌}
use Rattle.std.specs.List.{range_with_len}
use Rattle.std.proofs.lemmas.Bool.{cases_lt, cases_eq, cases_Bool, cond-true, cond-false, eq-eqb, eqb-true, false_from_ne_true, false≢true, or_cases, or_left, or_right}
use Rattle.std.proofs.lemmas.Option.{same_Some, slice_get_within}
use Rattle.pf_protocol.specs.Servers.{Setup}
use Rattle.pf_protocol.specs.Groups.{Group, Sent}
use Rattle.pf_protocol.specs.Histories.{History, replay}
use Rattle.pf_protocol.specs.Answers.{IsLegal, most_packets}
use Rattle.pf_protocol.proofs.ForHistories.{legal_room}
use Rattle.pf_group.specs.Readers.{is_left}
use Rattle.pf_group.specs.Packets.{IsPassedUpTo, NoneComesBack, is_left_in, least_from}

-- searches of ranges
find_alike : (p q : ℕ → Bool) (m a : ℕ) → ((j : ℕ) → a ≤ j → q j ≡ p j) → find q (range_with_len a m) ≡ find p (range_with_len a m)
find_alike p q zero a alike = refl
find_alike p q (suc m) a alike =
    ap (λ b. cond b (Some a) (find q (range_with_len (a + 1) m))) (alike a (omega arith))
    ∙ ap (λ o. cond (p a) (Some a) o) (find_alike p q m (a + 1) (λ j low. alike j (omega (arith, low))))

find_past : (p q : ℕ → Bool) (m a n : ℕ) → a ≤ n → ((j : ℕ) → a ≤ j → j < n → q j ≡ false) → ((j : ℕ) → n ≤ j → q j ≡ p j) → find q (range_with_len a m) ≡ find p (range_with_len n ((a + m) - n))
find_past p q zero a n low none alike =
    let over : zero ≡ (a + zero) - n = omega arith in
    ap (λ l. find p (range_with_len n l)) over
find_past p q (suc m) a n low none alike = elim (cases_eq a n) [
  | inl same ↦
      let count : suc m ≡ (a + suc m) - n = omega arith in
      find_alike p q (suc m) a (λ j at. alike j (omega (arith, at, same)))
      ∙ ap (λ b. find p (range_with_len b (suc m))) same
      ∙ ap (λ l. find p (range_with_len n l)) count
  | inr apart ↦
      let count : ((a + 1) + m) - n ≡ (a + suc m) - n = omega arith in
      cond-false (q a) (Some a) _ (none a (omega arith) (omega (arith, low, apart)))
      ∙ find_past p q m (a + 1) n (omega (arith, low, apart)) (λ j at under. none j (omega (arith, at)) under) alike
      ∙ ap (λ l. find p (range_with_len n l)) count
]

pub record IsFound (p : ℕ → Bool) (first end k : ℕ) : Type 0 where
  pub from : first ≤ k
  pub under : k < end
  pub passes : p k ≡ true
  pub none : (j : ℕ) → first ≤ j → j < k → p j ≡ false

find_found : (p : ℕ → Bool) (m a k : ℕ) → find p (range_with_len a m) ≡ Some k → IsFound p a (a + m) k
find_found p zero a k is = absurd (cc)
find_found p (suc m) a k is = elim (cases_Bool (p a)) [
  | inl here ↦
      let at : a ≡ k = same_Some a k (sym (cond-true (p a) (Some a) _ here) ∙ is) in
      record {
        from = omega (arith, at);
        under = omega (arith, at);
        passes = ap p (sym at) ∙ here;
        none = λ j low high. absurd (omega (arith, at, low, high));
      }
  | inr later ↦
      let found = find_found p m (a + 1) k (sym (cond-false (p a) (Some a) _ later) ∙ is) in
      record {
        from = omega (arith, found.from);
        under = omega (arith, found.under);
        passes = found.passes;
        none = λ j low high. elim (cases_eq j a) [
          | inl same ↦ ap p same ∙ later
          | inr apart ↦ found.none j (omega (arith, low, apart)) high
        ];
      }
]

-- the least packet from the first on that is left
pub least_found : (g : Group) (first k : ℕ) → least_from first g ≡ Some k → IsFound (is_left_in g) first (length g.packets) k
least_found g first k is =
    let found = find_found (is_left_in g) (length g.packets - first) first k is in
    record { from = found.from; under = omega (arith, found.from, found.under); passes = found.passes; none = found.none }

-- there are few packets
few : (n : ℕ) → n ≤ most_packets → n ≤ 65536
unfolding most_packets
few n le = le

within : (g : Group) (k : ℕ) → is_left_in g k ≡ true → k < length g.packets
within g k left = by (slice_get g.packets k) refl left
  where
    by : (o : Option Sent) → slice_get g.packets k ≡ o → is_left o ≡ true → k < length g.packets
    by (Some sent) at left = slice_get_within g.packets k sent at
    by None at left = absurd (false≢true left)

pub left_few : (setup : Setup) (history : History) (k : ℕ) → IsLegal setup history → is_left_in (replay setup history) k ≡ true → k < most_packets
left_few setup history k legal left = omega (arith, within (replay setup history) k left, (legal_room setup history legal).count)

pub left_low : (setup : Setup) (history : History) (k : ℕ) → IsLegal setup history → is_left_in (replay setup history) k ≡ true → k < 65536
left_low setup history k legal left = omega (arith, within (replay setup history) k left, few (length (replay setup history).packets) (legal_room setup history legal).count)

passed_over : (l b : Bool) → (l ≡ true → b ≡ true) → (l && not b) ≡ false
passed_over true b is = ap not (is refl)
passed_over false b is = refl

not_passed : (l b : Bool) → b ≡ false → (l && not b) ≡ l
not_passed true b none = ap not none
not_passed false b none = refl

module _ (g : Group) (passed : ℕ → Bool) (next : ℕ) (are : IsPassedUpTo g passed next) where
  -- the least that is left and was not passed over is the least from there on
  pub least_is : find (λ k. is_left_in g k && not (passed k)) (range_with_len 0 (length g.packets)) ≡ least_from next g
  least_is =
      let count : (0 + length g.packets) - next ≡ length g.packets - next = omega arith in
      find_past (is_left_in g) (λ k. is_left_in g k && not (passed k)) (length g.packets) 0 next (omega arith)
      (λ j low under. passed_over (is_left_in g j) (passed j) (are.all j under))
      (λ j from. not_passed (is_left_in g j) (passed j) (false_from_ne_true (passed j) (λ is. absurd (omega (arith, from, are.below j is)))))
      ∙ ap (λ l. find (is_left_in g) (range_with_len next l)) count

  -- those before the next one that is left need not be looked at again
  pub passed_further : (k : ℕ) → IsFound (is_left_in g) next (length g.packets) k → IsPassedUpTo g passed k
  passed_further k found = record {
    below = λ j is. omega (arith, found.from, are.below j is);
    all = λ j under left. elim (cases_lt j next) [
      | inl low ↦ are.all j low left
      | inr from ↦ absurd (false≢true (sym (found.none j from under) ∙ left))
    ];
  }

  -- whatever happens to the group
  pub passed_later : (after : Group) → NoneComesBack g after → next ≤ length g.packets → IsPassedUpTo after passed next
  passed_later after none sent = record {
    below = are.below;
    all = λ j under left. elim (none j left) [
      | inl before ↦ are.all j under before
      | inr new ↦ absurd (omega (arith, new, under, sent))
    ];
  }

  -- this one is passed over as well
  pub one_more_passed : (now : ℕ → Bool) → ((j : ℕ) → now j ≡ (passed j || (next == j))) → IsPassedUpTo g now (next + 1)
  one_more_passed now is = record {
    below = λ j true_now. elim (or_cases (passed j) (next == j) (sym (is j) ∙ true_now)) [
      | inl before ↦ omega (arith, are.below j before)
      | inr same ↦ omega (arith, eqb-true next j same)
    ];
    all = λ j under left. is j ∙ elim (cases_eq next j) [
      | inl same ↦ or_right (passed j) (next == j) (eq-eqb next j same)
      | inr apart ↦ or_left (passed j) (next == j) (are.all j (omega (arith, under, apart)) left)
    ];
  }
