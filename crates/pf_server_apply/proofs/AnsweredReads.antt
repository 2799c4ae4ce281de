-- Reads that are answered, the least first.
use Rattle.std.proofs.Common.{◌≡◌, ℕ, zero, suc, ◌+◌, ◌<◌, ◌≤◌, Bool, true, false, not, ◌&&◌, inl, inr, List, [], ◌∷◌, ◌++◌, length, map, slice_range, None, nat_lt, arith, refl, sym, ap, subst, ◌∙◌}
use Rattle.std.specs.List.{filter, list_all, list_any, remove}
use Rattle.std.proofs.lemmas.Bool.{and_from, and_parts, cases_Bool, cond-true, cond-false, or_left, or_right}
use Rattle.std.proofs.lemmas.Bool.Decides.{nat_tests}
use Rattle.std.proofs.lemmas.List.{append_assoc}
use Rattle.std.specs.Ordering.{nat_cmp, eq_by_cmp}
use Rattle.pf_base.specs.Span.{Span, fits_in}
use Rattle.pf_entry.specs.Ops.{Sector}
use Rattle.pf_entry.specs.Lists.{Every}
use Rattle.pf_entry.proofs.Lists.{every_more}
use Rattle.pf_entry.proofs.Sets.{contains-items}
use Rattle.pf_entry.specs.Sets
use Rattle.pf_entry.specs.Records.{Durable}
use Rattle.pf_entry.specs.Tables.{ascends, ascends_from}
use Rattle.pf_election.specs.declared.probes.ProbedRead.{ProbedRead as ReadHere}
use Rattle.pf_election.specs.Reads.{IsReadAt, IsLeastPlace, IsLeastAt, ReadIsTaken, confirmed_in, is_read_ready}
use Rattle.pf_election.proofs.ConfirmedCounts.{counted_less}
use Rattle.pf_protocol.specs.Servers.{Read, has_applied}
use Rattle.pf_protocol.specs.Rows.{is_ready as is_ready_there}
use Rattle.pf_server_memory.specs.declared.running.Running.{Running}
use Rattle.pf_server_memory.specs.Standing.{server_of, read_in_memory, IsCached}
use Rattle.pf_protocol.specs.Asked.{AreAsked, IsReadAsked}
use Rattle.pf_server_apply.specs.Reads.{read_answered, read_reply}
use Rattle.pf_server_apply.proofs.LeastClaims.{applied_test}

pub lower : (a b : ℕ) → nat_lt a b ≡ true → a < b
lower a b is = grind (arith, nat_tests)

pub is_lower : (a b : ℕ) → a < b → nat_lt a b ≡ true
is_lower a b lt = grind (arith, nat_tests)

abbrev numbers : List ReadHere → List ℕ
numbers reads = map (λ (r : Read). r.number) (map read_in_memory reads)

below : (n : ℕ) (xs : List ReadHere) → ascends_from n (numbers xs) ≡ true → Every (λ r. n < r.number) xs
below n [] is = tt
below n (x ∷ xs) is =
    let parts = and_parts (nat_lt n x.number) (ascends_from x.number (numbers xs)) is in
    let first = lower n x.number parts.0 in
    (first, every_more (λ r. x.number < r.number) (λ r. n < r.number) (λ r lt. omega (arith, lt, first)) xs (below x.number xs parts.1))

from_lower : (n m : ℕ) (ms : List ℕ) → n < m → ascends_from m ms ≡ true → ascends_from n ms ≡ true
from_lower n m [] lt is = refl
from_lower n m (k ∷ ks) lt is =
    let parts = and_parts (nat_lt m k) (ascends_from k ks) is in
    let next = lower m k parts.0 in
    and_from _ _ (is_lower n k (omega (arith, lt, next))) parts.1

pub rest_ascends : (n : ℕ) (ms : List ℕ) → ascends_from n ms ≡ true → ascends ms ≡ true
rest_ascends n [] is = refl
rest_ascends n (m ∷ ms) is = (and_parts (nat_lt n m) (ascends_from m ms) is).1

without_from : (n : ℕ) (xs : List ReadHere) (place : ℕ) → place < length xs → ascends_from n (numbers xs) ≡ true → ascends_from n (numbers (remove xs place)) ≡ true
without_from n [] place lt is = absurd (omega (arith, lt))
without_from n (x ∷ xs) zero lt is = let parts = and_parts (nat_lt n x.number) (ascends_from x.number (numbers xs)) is in from_lower n x.number (numbers xs) (lower n x.number parts.0) parts.1
without_from n (x ∷ xs) (suc p) lt is = let parts = and_parts (nat_lt n x.number) (ascends_from x.number (numbers xs)) is in and_from _ _ parts.0 (without_from x.number xs p (omega (arith, lt)) parts.1)

without_ascends : (xs : List ReadHere) (place : ℕ) → place < length xs → ascends (numbers xs) ≡ true → ascends (numbers (remove xs place)) ≡ true
without_ascends [] place lt is = absurd (omega (arith, lt))
without_ascends (x ∷ xs) zero lt is = rest_ascends x.number (numbers xs) is
without_ascends (x ∷ xs) (suc p) lt is = without_from x.number xs p (omega (arith, lt)) is

module _ (P : Read → Type 0) where
  without_each : (xs : List ReadHere) (place : ℕ) → place < length xs → Every P (map read_in_memory xs) → Every P (map read_in_memory (remove xs place))
  without_each [] place lt each = absurd (omega (arith, lt))
  without_each (x ∷ xs) zero lt each = each.1
  without_each (x ∷ xs) (suc p) lt each = (each.0, without_each xs p (omega (arith, lt)) each.1)

  each_at : (xs : List ReadHere) (place : ℕ) (r : ReadHere) → place < length xs → IsReadAt xs place r → Every P (map read_in_memory xs) → P (read_in_memory r)
  each_at [] place r lt at each = absurd (omega (arith, lt))
  each_at (x ∷ xs) zero r lt at each = subst (λ y. P (read_in_memory y)) at each.0
  each_at (x ∷ xs) (suc p) r lt at each = each_at xs p r (omega (arith, lt)) at each.1

above_at : (n : ℕ) (xs : List ReadHere) (place : ℕ) (r : ReadHere) → place < length xs → IsReadAt xs place r → Every (λ r. n < r.number) xs → n < r.number
above_at n [] place r lt at each = absurd (omega (arith, lt))
above_at n (x ∷ xs) zero r lt at each = subst (λ (y : ReadHere). n < y.number) at each.0
above_at n (x ∷ xs) (suc p) r lt at each = above_at n xs p r (omega (arith, lt)) at each.1

ordered : (xs : List ReadHere) (k place : ℕ) (o r : ReadHere) → ascends (numbers xs) ≡ true → k < place → place < length xs → IsReadAt xs k o → IsReadAt xs place r → o.number < r.number
ordered [] k place o r is before lt there at = absurd (omega (arith, lt))
ordered (x ∷ xs) zero zero o r is before lt there at = absurd (omega (arith, before))
ordered (x ∷ xs) zero (suc p) o r is before lt there at = subst (λ (y : ReadHere). y.number < r.number) there (above_at x.number xs p r (omega (arith, lt)) at (below x.number xs is))
ordered (x ∷ xs) (suc k) zero o r is before lt there at = absurd (omega (arith, before))
ordered (x ∷ xs) (suc k) (suc p) o r is before lt there at = ordered xs k p o r (rest_ascends x.number (numbers xs) is) (omega (arith, before)) (omega (arith, lt)) there at

module _ (f : ReadHere → Bool) where
  pub record IsSplit (xs rest : List ReadHere) (r : ReadHere) : Type 0 where
    pub first : filter f xs ≡ r ∷ filter f rest
    pub others : filter (λ x. not (f x)) xs ≡ filter (λ x. not (f x)) rest

  split : (r : ReadHere) (xs : List ReadHere) (place : ℕ) → place < length xs → IsReadAt xs place r → f r ≡ true → ((k : ℕ) (o : ReadHere) → k < place → IsReadAt xs k o → f o ≡ false) → IsSplit xs (remove xs place) r
  split r [] place lt at here before = absurd (omega (arith, lt))
  split r (x ∷ xs) zero lt at here before =
      let passes : f x ≡ true = ap f at ∙ here in
      record { first = cond-true _ _ _ passes ∙ ap (λ y. y ∷ filter f xs) at; others = cond-false _ _ _ (ap not passes) }
  split r (x ∷ xs) (suc p) lt at here before =
      let fails : f x ≡ false = before 0 x (omega arith) refl in
      let rest = split r xs p (omega (arith, lt)) at here (λ k o low there. before (suc k) o (omega (arith, low)) there) in
      record {
        first = cond-false _ _ _ fails ∙ rest.first ∙ ap (λ ys. r ∷ ys) (sym (cond-false (f x) (x ∷ filter f (remove xs p)) (filter f (remove xs p)) fails));
        others = cond-true _ _ _ (ap not fails) ∙ ap (λ ys. x ∷ ys) rest.others ∙ sym (cond-true (not (f x)) (x ∷ filter (λ y. not (f y)) (remove xs p)) (filter (λ y. not (f y)) (remove xs p)) (ap not fails));
      }

  not_before : (xs : List ReadHere) (place : ℕ) (r : ReadHere) → ascends (numbers xs) ≡ true → IsLeastAt f xs (length xs) place → IsReadAt xs place r → (k : ℕ) (o : ReadHere) → k < place → IsReadAt xs k o → f o ≡ false
  not_before xs place r is least at k o low there =
      elim (cases_Bool (f o)) [
        | inl passes ↦
            let no_more : r.number ≤ o.number = least.least r o k at (omega (arith, low, least.inside)) there passes in
            let less : o.number < r.number = ordered xs k place o r is low least.inside there at in
            absurd (omega (arith, no_more, less))
        | inr fails ↦ fails
      ]

  pub taken_first : (xs : List ReadHere) (place : ℕ) (r : ReadHere) → ascends (numbers xs) ≡ true → IsLeastAt f xs (length xs) place → IsReadAt xs place r → IsSplit xs (remove xs place) r
  taken_first xs place r is least at = split r xs place least.inside at (least.here r at) (not_before xs place r is least at)

  pub none_ready : (xs : List ReadHere) → IsLeastPlace f xs (length xs) None → (filter f xs ≡ []) × (filter (λ x. not (f x)) xs ≡ xs)
  none_ready [] none = (refl, refl)
  none_ready (x ∷ xs) none =
      let fails : f x ≡ false = none x 0 (omega arith) refl in
      let rest = none_ready xs (λ r k lt at. none r (suc k) (omega (arith, lt)) at) in
      (cond-false _ _ _ fails ∙ rest.0, cond-true _ _ _ (ap not fails) ∙ ap (λ ys. x ∷ ys) rest.1)

pub fewer : (xs : List ReadHere) (place : ℕ) → place < length xs → length (remove xs place) + 1 ≡ length xs
fewer [] place lt = absurd (omega (arith, lt))
fewer (x ∷ xs) zero lt = omega arith
fewer (x ∷ xs) (suc p) lt = omega (arith, fewer xs p (omega (arith, lt)))

pub asked_without : (chunk : ℕ) (xs : List ReadHere) (place : ℕ) → place < length xs → AreAsked chunk (map read_in_memory xs) → AreAsked chunk (map read_in_memory (remove xs place))
asked_without chunk xs place lt asked = record { ascending = without_ascends xs place lt asked.ascending; each = without_each (IsReadAsked chunk) xs place lt asked.each }

pub asked_at : (chunk : ℕ) (xs : List ReadHere) (place : ℕ) (r : ReadHere) → place < length xs → IsReadAt xs place r → AreAsked chunk (map read_in_memory xs) → IsReadAsked chunk (read_in_memory r)
asked_at chunk xs place r lt at asked = each_at (IsReadAsked chunk) xs place r lt at asked.each

-- the same reads are ready in memory and by the rules

every_in : (P : ℕ → Type 0) (xs : List ℕ) → ((q : ℕ) → list_any (eq_by_cmp nat_cmp q) xs ≡ true → P q) → Every P xs
every_in P [] all = tt
every_in P (x ∷ xs) all = (all x (or_left _ _ (same_key x)), every_in P xs (λ q has. all q (or_right _ _ has)))
  where
    same_key : (q : ℕ) → eq_by_cmp nat_cmp q q ≡ true
    same_key q = grind (arith, nat_tests)

all_alike : (f g : ℕ → Bool) (xs : List ℕ) → Every (λ q. f q ≡ g q) xs → list_all f xs ≡ list_all g xs
all_alike f g [] same = refl
all_alike f g (x ∷ xs) same = λ i. same.0 i && all_alike f g xs same.1 i

module _ (d : Durable) (me : Running) (cached : IsCached d me) where
  abbrev ready : ReadHere → Bool
  ready = is_read_ready (Sets.contains me.applied.slots)

  alike : (chunk : ℕ) (r : ReadHere) → IsReadAsked chunk (read_in_memory r) → ready r ≡ is_ready_there (server_of d me) (read_in_memory r)
  alike chunk r asked =
      ap (λ b. r.confirmed && b)
      (all_alike (Sets.contains me.applied.slots) (has_applied (server_of d me)) (Sets.items r.named)
      (every_in (λ q. Sets.contains me.applied.slots q ≡ has_applied (server_of d me) q) (Sets.items r.named)
      (λ q has. sym (applied_test d me q cached (asked.slots q (contains-items r.named q ∙ has))))))

  pub ready_alike : (chunk : ℕ) (xs : List ReadHere) → Every (IsReadAsked chunk) (map read_in_memory xs) → map read_in_memory (filter ready xs) ≡ filter (is_ready_there (server_of d me)) (map read_in_memory xs)
  ready_alike chunk [] each = refl
  ready_alike chunk (x ∷ xs) each =
      let same = alike chunk x each.0 in
      elim (cases_Bool (ready x)) [
        | inl passes ↦ ap (map read_in_memory) (cond-true (ready x) (x ∷ filter ready xs) (filter ready xs) passes) ∙ ap (λ ys. read_in_memory x ∷ ys) (ready_alike chunk xs each.1) ∙ sym (cond-true _ _ _ (sym same ∙ passes))
        | inr fails ↦ ap (map read_in_memory) (cond-false (ready x) (x ∷ filter ready xs) (filter ready xs) fails) ∙ ready_alike chunk xs each.1 ∙ sym (cond-false _ _ _ (sym same ∙ fails))
      ]

  pub left_alike : (chunk : ℕ) (xs : List ReadHere) → Every (IsReadAsked chunk) (map read_in_memory xs) → map read_in_memory (filter (λ r. not (ready r)) xs) ≡ filter (λ r. not (is_ready_there (server_of d me) r)) (map read_in_memory xs)
  left_alike chunk [] each = refl
  left_alike chunk (x ∷ xs) each =
      let same = alike chunk x each.0 in
      elim (cases_Bool (ready x)) [
        | inl passes ↦ ap (map read_in_memory) (cond-false (not (ready x)) (x ∷ filter (λ r. not (ready r)) xs) (filter (λ r. not (ready r)) xs) (ap not passes)) ∙ left_alike chunk xs each.1 ∙ sym (cond-false _ _ _ (ap not (sym same ∙ passes)))
        | inr fails ↦ ap (map read_in_memory) (cond-true (not (ready x)) (x ∷ filter (λ r. not (ready r)) xs) (filter (λ r. not (ready r)) xs) (ap not fails)) ∙ ap (λ ys. read_in_memory x ∷ ys) (left_alike chunk xs each.1) ∙ sym (cond-true _ _ _ (ap not (sym same ∙ fails)))
      ]

  replies_alike : (xs : List ReadHere) → map (read_reply me.sectors) xs ≡ map (read_answered (server_of d me)) (map read_in_memory xs)
  unfolding server_of
  replies_alike [] = refl
  replies_alike (x ∷ xs) = ap (λ ys. read_reply me.sectors x ∷ ys) (replies_alike xs)

  pub answers_alike : (chunk : ℕ) (xs : List ReadHere) → Every (IsReadAsked chunk) (map read_in_memory xs) → map (read_reply me.sectors) (filter ready xs) ≡ map (read_answered (server_of d me)) (filter (is_ready_there (server_of d me)) (map read_in_memory xs))
  answers_alike chunk xs each = replies_alike (filter ready xs) ∙ ap (map (read_answered (server_of d me))) (ready_alike chunk xs each)

-- what is known of the read that is taken next
module _ (chunk : ℕ) (f : ReadHere → Bool) (xs rest : List ReadHere) (number : ℕ) (range : Span) (taken : ReadIsTaken f xs number range rest) (asked : AreAsked chunk (map read_in_memory xs)) where
  known : IsReadAsked chunk (read_in_memory taken.read)
  known = asked_at chunk xs taken.place taken.read taken.least.inside taken.at asked

  pub taken_count : range.count ≤ 8
  taken_count = subst (λ (s : Span). s.count ≤ 8) (sym taken.range_is) known.range.few

  pub taken_fits : fits_in range chunk ≡ true
  taken_fits = ap (λ s. fits_in s chunk) taken.range_is ∙ known.fits

  pub taken_rest : AreAsked chunk (map read_in_memory rest)
  taken_rest = subst (λ ys. AreAsked chunk (map read_in_memory ys)) (sym taken.others) (asked_without chunk xs taken.place taken.least.inside asked)

  pub taken_len : length rest + 1 ≡ length xs
  taken_len = ap (λ (ys : List ReadHere). length ys + 1) taken.others ∙ fewer xs taken.place taken.least.inside

  parts : IsSplit f xs rest taken.read
  parts = subst (λ ys. IsSplit f xs ys taken.read) (sym taken.others) (taken_first f xs taken.place taken.read asked.ascending taken.least taken.at)

  pub taken_left : filter (λ x. not (f x)) rest ≡ filter (λ x. not (f x)) xs
  taken_left = sym parts.others

  pub taken_answers : (sectors : List Sector) (before : List (ℕ × List Sector)) → (before ++ (number, slice_range sectors range.first (range.first + range.count)) ∷ []) ++ map (read_reply sectors) (filter f rest) ≡ before ++ map (read_reply sectors) (filter f xs)
  taken_answers sectors before =
      append_assoc before ((number, slice_range sectors range.first (range.first + range.count)) ∷ []) (map (read_reply sectors) (filter f rest))
      ∙ (λ i. before ++ (taken.number_is i, slice_range sectors (taken.range_is i).first ((taken.range_is i).first + (taken.range_is i).count)) ∷ map (read_reply sectors) (filter f rest))
      ∙ ap (λ ys. before ++ map (read_reply sectors) ys) (sym parts.first)

-- one that is taken was confirmed
pub taken_confirmed : (applied : ℕ → Bool) (xs rest : List ReadHere) (number : ℕ) (range : Span) → ReadIsTaken (is_read_ready applied) xs number range rest → confirmed_in xs ≡ confirmed_in rest + 1
taken_confirmed applied xs rest number range t =
    counted_less xs t.place t.read t.least.inside (ap (λ (r : ReadHere). r.confirmed) t.at ∙ (and_parts _ _ (t.least.here t.read t.at)).0)
    ∙ ap (λ (ys : List ReadHere). confirmed_in ys + 1) (sym t.others)
