-- Time goes on by one recorded call, or by none.
use Rattle.std.proofs.Common.{◌≡◌, ◌⊎◌, inl, inr, ℕ, ◌+◌, ◌≤◌, List, [], ◌∷◌, ◌++◌, length, take, sym, ◌∙◌, ap, subst, arith}
use Rattle.std.proofs.lemmas.Bool.Decides.{leb_tells}
use Rattle.std.proofs.lemmas.List.{length_push, take-append-le, take_all}
use Rattle.pf_disk.specs.declared.tape.TapeRecord.{TapeRecord}
use Rattle.pf_disk.specs.declared.tape.Tape.{Tape}
use Rattle.pf_disk.specs.Crashes.{Elapses}
use Rattle.pf_disk.specs.Recorded.{State, IsCrashImage, LeftSince, replayed, settled, count_written}
use Rattle.pf_disk.specs.Tapes.{state_of_tape, Adds}
use Rattle.pf_disk.proofs.Replays.{replayed_front, count_front}

pub none : (base : List ℕ) (records : List TapeRecord) (written : List ℕ) (now : List ℕ → Type 0) → Elapses (length records) (length records) (LeftSince base records written) (LeftSince base records written) now
none base records written now = record { later = omega arith; nothing_else = λ t c le left. inl left; keeps = λ t c le left. left }

front : (base : List ℕ) (records : List TapeRecord) (written : List ℕ) (last : TapeRecord) (bytes : List ℕ) (k : ℕ) → count_written records ≡ length written → k ≤ length records
    → replayed (settled base) (take k (records ++ last ∷ [])) (written ++ bytes) ≡ replayed (settled base) (take k records) written
front base records written last bytes k counts le =
    ap (λ (rs : List TapeRecord). replayed (settled base) rs (written ++ bytes)) (take-append-le k records (last ∷ []) le)
    ∙ replayed_front (settled base) (take k records) written bytes (omega (arith, count_front k records, counts))

one : (base : List ℕ) (records : List TapeRecord) (written : List ℕ) (last : TapeRecord) (bytes : List ℕ) → count_written records ≡ length written
    → Elapses (length records) (length (records ++ last ∷ [])) (LeftSince base records written) (LeftSince base (records ++ last ∷ []) (written ++ bytes)) (IsCrashImage (replayed (settled base) (records ++ last ∷ []) (written ++ bytes)))
one base records written last bytes counts = record { later = omega (arith, more); nothing_else = else_; keeps = keep }
  where
    more : length (records ++ last ∷ []) ≡ length records + 1
    more = length_push records last

    else_ : (t : ℕ) (c : List ℕ) → t ≤ length records → LeftSince base (records ++ last ∷ []) (written ++ bytes) t c → LeftSince base records written t c ⊎ IsCrashImage (replayed (settled base) (records ++ last ∷ []) (written ++ bytes)) c
    else_ t c le (k, from, to, image) = elim (leb_tells k (length records)) [
      | inl early ↦ inl (k, from, early.1, subst (λ (s : State). IsCrashImage s c) (front base records written last bytes k counts early.1) image)
      | inr late ↦ inr (subst (λ (rs : List TapeRecord). IsCrashImage (replayed (settled base) rs (written ++ bytes)) c) (take_all k (records ++ last ∷ []) (omega (arith, late, more))) image)
    ]

    keep : (t : ℕ) (c : List ℕ) → t ≤ length records → LeftSince base records written t c → LeftSince base (records ++ last ∷ []) (written ++ bytes) t c
    keep t c le (k, from, to, image) = (k, from, omega (arith, to, more), subst (λ (s : State). IsCrashImage s c) (sym (front base records written last bytes k counts to)) image)

-- one record more
pub goes_on : (old new : Tape) (last : TapeRecord) (bytes : List ℕ) → Adds old new last bytes
    → Elapses (length old.records.items) (length new.records.items) (LeftSince old.base.items old.records.items old.written.items) (LeftSince new.base.items new.records.items new.written.items) (IsCrashImage (state_of_tape new))
goes_on old new last bytes adds =
    let counts : count_written old.records.items ≡ length old.written.items = omega (arith, old.counts, old.written.ok) in
    let Goes : List ℕ → List TapeRecord → List ℕ → Type 0 = λ base records written.
    Elapses (length old.records.items) (length records) (LeftSince old.base.items old.records.items old.written.items) (LeftSince base records written) (IsCrashImage (replayed (settled base) records written)) in
    let start : Goes old.base.items (old.records.items ++ last ∷ []) (old.written.items ++ bytes) = one old.base.items old.records.items old.written.items last bytes counts in
    let with_base : Goes new.base.items (old.records.items ++ last ∷ []) (old.written.items ++ bytes) =
    subst (λ (b : List ℕ). Goes b (old.records.items ++ last ∷ []) (old.written.items ++ bytes)) (sym adds.base) start in
    let with_records : Goes new.base.items new.records.items (old.written.items ++ bytes) = subst (λ (rs : List TapeRecord). Goes new.base.items rs (old.written.items ++ bytes)) (sym adds.records) with_base in
    subst (λ (w : List ℕ). Goes new.base.items new.records.items w) (sym adds.written) with_records
