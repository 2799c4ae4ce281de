-- A register goes on where it is moved.
use Rattle.std.proofs.Common.{◌≡◌, ℕ, ◌+◌, ◌-◌, ◌<◌, ◌≤◌, inl, inr, List, ◌++◌, length, take, drop, arith, sym, ap, ◌∙◌, length-drop}
use Rattle.std.proofs.lemmas.Bool.{cases_lt}
use Rattle.std.proofs.lemmas.List.{length-append, length-take-le}
use Rattle.pf_entry.specs.Ops.{Sector, zero_sector}
use Rattle.pf_law_registers.specs.Registers.{left_by_writes, IsRegister}
use Rattle.pf_law_registers.specs.Joined.{EitherRead, Before, After, joined_values, joined_place, joined_shown, GiveJoined, AreAnsweredJoined, ArePlacedJoined}
use Rattle.pf_law_registers.proofs.Lists.{left_in_first, left_in_second, left_in_taken, left_after}

pub joined_length : (old new : List Sector) (moved made : ℕ) → moved ≤ length old → length (joined_values moved made old new) ≡ moved + (length new - made)
joined_length old new moved made fits = length-append (take moved old) (drop made new) ∙ ap (λ n. n + length (drop made new)) (length-take-le moved old fits) ∙ ap (λ n. moved + n) (length-drop made new)

-- the writes that were moved, and those that were made since
module _ (old new : List Sector) (moved made : ℕ) (fits : moved ≤ length old) (fits_too : made ≤ length new) (same : left_by_writes zero_sector new made ≡ left_by_writes zero_sector old moved) where
  taken : length (take moved old) ≡ moved
  taken = length-take-le moved old fits

  pub left_before : (n : ℕ) → n ≤ moved → left_by_writes zero_sector old n ≡ left_by_writes zero_sector (joined_values moved made old new) n
  left_before n le =
      sym (left_in_taken zero_sector old moved n le)
      ∙ sym (left_in_first zero_sector (take moved old) (drop made new) n (omega (arith, le, length-take-le moved old fits)))

  pub left_since : (n : ℕ) → made ≤ n → left_by_writes zero_sector new n ≡ left_by_writes zero_sector (joined_values moved made old new) (joined_place moved made n)
  left_since n le =
      let e : made + (n - made) ≡ n = omega (arith, le) in
      sym (ap (left_by_writes zero_sector new) e)
      ∙ sym (left_after zero_sector new made (n - made) fits_too)
      ∙ ap (λ s. left_by_writes s (drop made new) (n - made)) (same ∙ sym (left_in_taken zero_sector old moved moved (omega arith)) ∙ ap (left_by_writes zero_sector (take moved old)) (sym (length-take-le moved old fits)))
      ∙ sym (left_in_second zero_sector (take moved old) (drop made new) (n - made))
      ∙ ap (λ k. left_by_writes zero_sector (take moved old ++ drop made new) (k + (n - made))) (length-take-le moved old fits)

-- fewer reads, or reads that tell more
pub restricted : {R Q : Type 0} → (values : List Sector) (shown : R → ℕ) (Gives : R → Sector → Type 0) (AnsweredBefore : R → R → Type 0) (AckedBefore AskedBefore : ℕ → R → Type 0) (f : Q → R) → IsRegister values shown Gives AnsweredBefore AckedBefore AskedBefore → IsRegister values (λ q. shown (f q)) (λ q. Gives (f q)) (λ q p. AnsweredBefore (f q) (f p)) (λ place q. AckedBefore place (f q)) (λ place q. AskedBefore place (f q))
restricted values shown Gives AnsweredBefore AckedBefore AskedBefore f is = record {
  within = λ q. is.within (f q);
  gives = λ q. is.gives (f q);
  acked = λ q. is.acked (f q);
  grows = λ q p. is.grows (f q) (f p);
  asked = λ q. is.asked (f q);
}

-- Where the first writes of the new list, which the move made, leave what the moved ones of the old one leave, where no read before the
-- move shows more than was moved, and each read after it shows all that the move made, the two registers are one
module _ {A B : Type 0} (old new : List Sector) (shown_a : A → ℕ) (shown_b : B → ℕ) (Gives_a : A → Sector → Type 0) (Gives_b : B → Sector → Type 0) (Answered_a : A → A → Type 0) (Answered_b : B → B → Type 0) (Acked_a Asked_a : ℕ → A → Type 0) (Acked_b Asked_b : ℕ → B → Type 0) where
  pub joined : IsRegister old shown_a Gives_a Answered_a Acked_a Asked_a → IsRegister new shown_b Gives_b Answered_b Acked_b Asked_b → (moved made : ℕ) → moved ≤ length old → made ≤ length new → left_by_writes zero_sector new made ≡ left_by_writes zero_sector old moved → ((a : A) → shown_a a ≤ moved) → ((b : B) → made ≤ shown_b b) → IsRegister (joined_values moved made old new) (joined_shown moved made shown_a shown_b) (GiveJoined Gives_a Gives_b) (AreAnsweredJoined Answered_a Answered_b) (ArePlacedJoined moved made Acked_a Acked_b) (ArePlacedJoined moved made Asked_a Asked_b)
  joined a b moved made fits fits_too same low high = record { within = within; gives = gives; acked = acked; grows = grows; asked = asked }
    where
      within : (r : EitherRead A B) → joined_shown moved made shown_a shown_b r ≤ length (joined_values moved made old new)
      within (Before r) = omega (arith, low r, joined_length old new moved made fits)
      within (After r) = omega (arith, high r, b.within r, joined_length old new moved made fits)

      gives : (r : EitherRead A B) (bytes : Sector) → GiveJoined Gives_a Gives_b r bytes → bytes ≡ left_by_writes zero_sector (joined_values moved made old new) (joined_shown moved made shown_a shown_b r)
      gives (Before r) bytes g = a.gives r bytes g ∙ left_before old new moved made fits fits_too same (shown_a r) (low r)
      gives (After r) bytes g = b.gives r bytes g ∙ left_since old new moved made fits fits_too same (shown_b r) (high r)

      acked : (r : EitherRead A B) (place : ℕ) → ArePlacedJoined moved made Acked_a Acked_b place r → place < joined_shown moved made shown_a shown_b r
      acked (Before r) place k = a.acked r place k
      acked (After r) place (inl was_moved) = omega (arith, was_moved)
      acked (After r) place (inr k) = omega (arith, k.1, k.2, b.acked r k.0 k.3)

      grows : (r s : EitherRead A B) → AreAnsweredJoined Answered_a Answered_b r s → joined_shown moved made shown_a shown_b r ≤ joined_shown moved made shown_a shown_b s
      grows (Before r) (Before s) first = a.grows r s first
      grows (Before r) (After s) first = omega (arith, low r)
      grows (After r) (Before s) first = absurd first
      grows (After r) (After s) first = omega (arith, b.grows r s first, high r, high s)

      asked : (r : EitherRead A B) (place : ℕ) → place < joined_shown moved made shown_a shown_b r → ArePlacedJoined moved made Asked_a Asked_b place r
      asked (Before r) place lt = a.asked r place lt
      asked (After r) place lt = elim (cases_lt place moved) [
        | inl was_moved ↦ inl was_moved
        | inr since ↦ inr (made + (place - moved), omega arith, omega (arith, since), b.asked r (made + (place - moved)) (omega (arith, lt, since, high r)))
      ]
