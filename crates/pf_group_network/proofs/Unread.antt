-- The reads whose answers can be taken out stay listed.
use Rattle.std.proofs.Common.{◌≡◌, ◌≢◌, ℕ, zero, suc, ◌+◌, ◌≤◌, inl, inr, true, false, List, [], ◌∷◌, ◌++◌, length, Option, Some, None, is_some, slice_get, slice_set, sum_by, arith, refl, sym, ap, subst, ◌∙◌}
use Rattle.std.proofs.lemmas.Bool.{true≢false}
use Rattle.std.proofs.lemmas.List.Sums.{sum_by-cons, sum_by_push}
use Rattle.std.proofs.lemmas.Option.{none-some, same_Some}
use Rattle.pf_entry.specs.Ops.{Sector}
use Rattle.pf_entry.proofs.Lists.{set_cases}
use Rattle.pf_group_network.specs.declared.kept.Reading.{Reading}
use Rattle.pf_group_network.specs.declared.kept.Reading.TheVariants.{Waiting, Answered, Taken}
use Rattle.pf_group_network.specs.Keeping.{with_answer_in}
use Rattle.pf_group_network.specs.Readings.{answer_in, is_reading_waiting}
use Rattle.pf_group_network.specs.Unread.{AreListed, IsNumberAmong, StaysAmong, reading_answer, waits, without_answer_in}
use Rattle.pf_group_network.proofs.Lists.{at_end, at_front, end_cases, set_same}

-- a sum over a list in which one thing was put in another's place
sum_set : {X : Type 0} → (f : X → ℕ) (xs : List X) (i : ℕ) (was x : X) → slice_get xs i ≡ Some was → sum_by f (slice_set xs i x) + f was ≡ sum_by f xs + f x
sum_set f [] i was x at = absurd (grind (arith, at))
sum_set f (y ∷ ys) zero was x at = omega (arith, ap f (same_Some y was at), sum_by-cons f y ys, sum_by-cons f x ys)
sum_set f (y ∷ ys) (suc i) was x at = omega (arith, sum_set f ys i was x at, sum_by-cons f y ys, sum_by-cons f y (slice_set ys i x))

waits_once : (r : Reading) → waits r ≤ 1
waits_once Waiting = omega arith
waits_once (Answered bytes) = omega arith
waits_once Taken = omega arith

pub few_wait : (readings : List Reading) → sum_by waits readings ≤ length readings
few_wait [] = omega arith
few_wait (r ∷ rest) = omega (arith, few_wait rest, waits_once r, sum_by-cons waits r rest)

pub one_waits : (readings : List Reading) (number : ℕ) → slice_get readings number ≡ Some Waiting → 1 ≤ sum_by waits readings
one_waits readings number at = let e = sum_set waits readings number Waiting Taken at in omega (arith, e)

pub among_more : (numbers : List ℕ) (last number : ℕ) → IsNumberAmong numbers number → IsNumberAmong (numbers ++ last ∷ []) number
among_more numbers last number is = (is.0, at_front numbers (last ∷ []) is.0 number is.1)

pub among_last : (numbers : List ℕ) (last : ℕ) → IsNumberAmong (numbers ++ last ∷ []) last
among_last numbers last = (length numbers, at_end numbers last)

-- of no number but the last
pub among_fewer : (numbers : List ℕ) (last number : ℕ) → last ≢ number → IsNumberAmong (numbers ++ last ∷ []) number → IsNumberAmong numbers number
among_fewer numbers last number apart is = elim (end_cases numbers last is.0 number is.1) [ inl there ↦ (is.0, there) | inr here ↦ absurd (apart here.1) ]

pub waiting_is : (r : Reading) → is_reading_waiting r ≡ true → r ≡ Waiting
waiting_is Waiting is = refl
waiting_is (Answered bytes) is = absurd (true≢false (sym is))
waiting_is Taken is = absurd (true≢false (sym is))

-- one that was answered keeps its answer
pub keeps_answer : (readings : List Reading) (number : ℕ) (bytes : List Sector) (was : Reading) → slice_get readings number ≡ Some was → is_reading_waiting was ≡ false → readings ≡ with_answer_in readings number bytes (slice_get readings number)
keeps_answer readings number bytes Waiting at is = absurd (true≢false is)
keeps_answer readings number bytes (Answered first) at is = sym (ap (with_answer_in readings number bytes) at ∙ set_same readings number (Answered first) at)
keeps_answer readings number bytes Taken at is = sym (ap (with_answer_in readings number bytes) at ∙ set_same readings number Taken at)

answer_is : (r : Reading) → is_some (answer_in r) ≡ true → (bytes : List Sector) × (r ≡ Answered bytes)
answer_is Waiting is = absurd (true≢false (sym is))
answer_is (Answered bytes) is = (bytes, refl)
answer_is Taken is = absurd (true≢false (sym is))

-- where there is no answer nothing is taken out
keeps_reading : (readings : List Reading) (number : ℕ) (was : Reading) → slice_get readings number ≡ Some was → is_some (answer_in was) ≡ false → readings ≡ without_answer_in readings number (slice_get readings number)
keeps_reading readings number Waiting at is = sym (ap (without_answer_in readings number) at ∙ set_same readings number Waiting at)
keeps_reading readings number (Answered bytes) at is = absurd (true≢false is)
keeps_reading readings number Taken at is = sym (ap (without_answer_in readings number) at ∙ set_same readings number Taken at)

pub keeps_all : (readings : List Reading) (number : ℕ) → is_some (reading_answer (slice_get readings number)) ≡ false → readings ≡ without_answer_in readings number (slice_get readings number)
keeps_all readings number lacks = by (slice_get readings number) refl lacks
  where
    by : (there : Option Reading) → slice_get readings number ≡ there → is_some (reading_answer there) ≡ false → readings ≡ without_answer_in readings number (slice_get readings number)
    by None at is = sym (ap (without_answer_in readings number) at)
    by (Some was) at is = keeps_reading readings number was at is

pub nothing_is : {X : Type 0} → (o : Option X) → is_some o ≡ false → None ≡ o
nothing_is None is = refl
nothing_is (Some x) is = absurd (true≢false is)

-- the answer that is there
pub answer_there : (readings : List Reading) (number : ℕ) → is_some (reading_answer (slice_get readings number)) ≡ true → (bytes : List Sector) × (slice_get readings number ≡ Some (Answered bytes))
answer_there readings number is = by (slice_get readings number) refl is
  where
    by : (there : Option Reading) → slice_get readings number ≡ there → is_some (reading_answer there) ≡ true → (bytes : List Sector) × (slice_get readings number ≡ Some (Answered bytes))
    by None at is = absurd (true≢false (sym is))
    by (Some was) at is = let its = answer_is was is in (its.0, at ∙ ap Some its.1)

-- a read without an answer is none that has one
pub is_other : (readings : List Reading) (number n : ℕ) (bytes : List Sector) → is_some (reading_answer (slice_get readings number)) ≡ false → slice_get readings n ≡ Some (Answered bytes) → number ≢ n
is_other readings number n bytes lacks at same = true≢false (sym (ap (λ k. is_some (reading_answer (slice_get readings k))) same ∙ ap (λ o. is_some (reading_answer o)) at) ∙ lacks)

module _ (readings : List Reading) (unread : List ℕ) (len capacity : ℕ) (are : AreListed readings unread len capacity) where
  -- one more waits
  pub waits_more : (more : ℕ) → len + sum_by waits readings + 1 ≤ more → AreListed (readings ++ Waiting ∷ []) unread len more
  waits_more more room = record {
    listed = λ number bytes at. elim (end_cases readings Waiting number (Answered bytes) at) [ inl there ↦ are.listed number bytes there | inr here ↦ absurd (no_answer bytes here.1) ];
    room = omega (arith, room, sum_by_push waits readings Waiting);
  }
    where
      no_answer : (bytes : List Sector) → Waiting ≡ Answered bytes → ⊥
      no_answer bytes is = none-some bytes (ap answer_in is)

  -- one that waits is answered
  pub answers_one : (number : ℕ) (bytes : List Sector) → slice_get readings number ≡ Some Waiting → (more : ℕ) → capacity ≤ more → AreListed (slice_set readings number (Answered bytes)) (unread ++ number ∷ []) (len + 1) more
  answers_one number bytes was more grown = record {
    listed = λ n other at. elim (set_cases readings number (Answered bytes) n (Answered other) at) [
      | inl here ↦ subst (IsNumberAmong (unread ++ number ∷ [])) (sym here.0) (among_last unread number)
      | inr apart ↦ among_more unread number n (are.listed n other apart.1)
    ];
    room = (let e = sum_set waits readings number Waiting (Answered bytes) was in omega (arith, e, are.room, grown));
  }

  -- an answer is taken out, and some numbers are forgotten
  pub takes_one : (number : ℕ) (bytes : List Sector) → slice_get readings number ≡ Some (Answered bytes) → (fewer : List ℕ) (less more : ℕ)
      → ((n : ℕ) (other : List Sector) → slice_get (slice_set readings number Taken) n ≡ Some (Answered other) → StaysAmong unread fewer n) → less ≤ len → capacity ≤ more
      → AreListed (slice_set readings number Taken) fewer less more
  takes_one number bytes was fewer less more stays low grown = record {
    listed = λ n other at. stays n other at (elim (set_cases readings number Taken n (Answered other) at) [
      | inl here ↦ absurd (none-some other (ap answer_in here.1))
      | inr apart ↦ are.listed n other apart.1
    ]);
    room = (let e = sum_set waits readings number (Answered bytes) Taken was in omega (arith, e, are.room, low, grown));
  }
