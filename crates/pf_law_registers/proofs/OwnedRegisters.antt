-- A register that one alone writes.
use Rattle.std.proofs.Common.{◌≡◌, ℕ, zero, suc, ◌<◌, ◌≤◌, List, length, Option, Some, None, slice_get, arith, refl, sym, ap, subst, ◌∙◌}
use Rattle.std.proofs.lemmas.Option.{same_Some, none-some}
use Rattle.pf_entry.specs.Ops.{Sector, zero_sector}
use Rattle.pf_law_registers.specs.Registers.{left_by_writes, IsRegister, AreOf, IsAtLeast, IsNotBelow, IsOwnRegister}
use Rattle.pf_law_registers.proofs.Lists.{something_there, left_there}

-- the write of the last of so many first places
abbrev pub last_of : (ℕ → ℕ) → ℕ → Option ℕ
last_of write_at zero = None
last_of write_at (suc place) = Some (write_at place)

module _ {R : Type 0} (values : List Sector) (shown : R → ℕ) (Gives : R → Sector → Type 0) (IsAnsweredBefore : R → R → Type 0) (IsAckedBefore IsAskedBefore : ℕ → R → Type 0) (write_at : ℕ → ℕ) (HasBytes : ℕ → Sector → Type 0) (IsWriteAcked IsAsked : ℕ → R → Type 0) where
  -- each place from this one on has a write of this one, in the order of their numbers
  pub record IsByOne (from : ℕ) : Type 0 where
    pub rises : (j k : ℕ) → from ≤ j → j ≤ k → k < length values → write_at j ≤ write_at k
    pub has : (place : ℕ) (bytes : Sector) → from ≤ place → slice_get values place ≡ Some bytes → HasBytes (write_at place) bytes
    pub acked : (read : R) (write : ℕ) → IsWriteAcked write read → (place : ℕ) × (from ≤ place) × (write ≤ write_at place) × IsAckedBefore place read
    pub asked : (read : R) (place : ℕ) → from ≤ place → place < shown read → IsAskedBefore place read → IsAsked (write_at place) read

  module _ (is : IsRegister values shown Gives IsAnsweredBefore IsAckedBefore IsAskedBefore) (one : IsByOne 0) where
    bytes_of : (n : ℕ) (bytes : Sector) → n ≤ length values → bytes ≡ left_by_writes zero_sector values n → AreOf HasBytes (last_of write_at n) bytes
    bytes_of zero bytes le left = left
    bytes_of (suc place) bytes le left =
        let found = something_there values place (omega (arith, le)) in
        one.has place bytes (omega arith) (found.1 ∙ ap Some (sym (left ∙ left_there values place found.0 zero_sector found.1)))

    reaches : (n place write : ℕ) → n ≤ length values → place < n → write ≤ write_at place → IsAtLeast (last_of write_at n) write
    reaches zero place write le lt low = absurd (omega (arith, lt))
    reaches (suc last) place write le lt low = omega (arith, low, one.rises place last (omega arith) (omega (arith, lt)) (omega (arith, le)))

    not_below : (n m : ℕ) → n ≤ m → m ≤ length values → IsNotBelow (last_of write_at m) (last_of write_at n)
    not_below zero m le within = tt
    not_below (suc place) m le within = reaches m place (write_at place) within (omega (arith, le)) (omega arith)

    last_asked : (read : R) (write n : ℕ) → n ≡ shown read → last_of write_at n ≡ Some write → IsAsked write read
    last_asked read write zero same last = absurd (none-some write last)
    last_asked read write (suc place) same last =
        subst (λ w. IsAsked w read) (same_Some (write_at place) write last) (one.asked read place (omega arith) (omega (arith, same)) (is.asked read place (omega (arith, same))))

    pub own_from : IsOwnRegister HasBytes (λ read. last_of write_at (shown read)) Gives IsAnsweredBefore IsWriteAcked IsAsked
    own_from = record {
      gives = λ read bytes gives. bytes_of (shown read) bytes (is.within read) (is.gives read bytes gives);
      acked = λ read write acked.
          let p = one.acked read write acked in
          reaches (shown read) p.0 write (is.within read) (is.acked read p.0 p.3) p.2;
      grows = λ read later before. not_below (shown read) (shown later) (is.grows read later before) (is.within later);
      asked = λ read write last. last_asked read write (shown read) refl last;
    }

-- fewer reads, or reads that tell more
pub fewer_reads : {R Q : Type 0} → (values : List Sector) (shown : R → ℕ) (Gives : R → Sector → Type 0) (IsAnsweredBefore : R → R → Type 0) (IsAckedBefore IsAskedBefore : ℕ → R → Type 0) (write_at : ℕ → ℕ) (HasBytes : ℕ → Sector → Type 0) (IsWriteAcked IsAsked : ℕ → R → Type 0) (from : ℕ) (f : Q → R) → IsByOne values shown Gives IsAnsweredBefore IsAckedBefore IsAskedBefore write_at HasBytes IsWriteAcked IsAsked from → IsByOne values (λ q. shown (f q)) (λ q. Gives (f q)) (λ q p. IsAnsweredBefore (f q) (f p)) (λ place q. IsAckedBefore place (f q)) (λ place q. IsAskedBefore place (f q)) write_at HasBytes (λ write q. IsWriteAcked write (f q)) (λ write q. IsAsked write (f q)) from
fewer_reads values shown Gives IsAnsweredBefore IsAckedBefore IsAskedBefore write_at HasBytes IsWriteAcked IsAsked from f one = record {
  rises = one.rises;
  has = one.has;
  acked = λ q. one.acked (f q);
  asked = λ q. one.asked (f q);
}
