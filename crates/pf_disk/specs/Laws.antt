-- The moments of a disk that records its calls.
use Rattle.std.proofs.Common.{ℕ, ◌≤◌, List, length, sym, subst, arith}
use Rattle.std.proofs.lemmas.List.{take_all}
use Rattle.pf_disk.specs.declared.tape.TapeRecord.{TapeRecord}
use Rattle.pf_disk.specs.Recorded.{IsCrashImage, LeftSince, replayed, settled}

-- this moment, and no other since
pub now : (base : List ℕ) (records : List TapeRecord) (written : List ℕ) (t : ℕ) (c : List ℕ) → t ≤ length records
    → IsCrashImage (replayed (settled base) records written) c → LeftSince base records written t c
now base records written t c le image = (
  length records,
  le,
  omega arith,
  subst (λ (rs : List TapeRecord). IsCrashImage (replayed (settled base) rs written) c)
      (sym (take_all (length records) records (omega arith))) image,
)

pub no_other : (base : List ℕ) (records : List TapeRecord) (written : List ℕ) (c : List ℕ) → LeftSince base records written (length records) c
    → IsCrashImage (replayed (settled base) records written) c
no_other base records written c (k, from, to, image) =
    subst (λ (rs : List TapeRecord). IsCrashImage (replayed (settled base) rs written) c) (take_all k records (omega (arith, from))) image
