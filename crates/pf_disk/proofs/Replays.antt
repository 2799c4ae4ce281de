-- What one recorded call more makes of a replay.
use Rattle.std.proofs.Common.{◌≡◌, ℕ, zero, suc, ◌+◌, ◌≤◌, List, [], ◌∷◌, ◌++◌, length, take, drop, refl, ◌∙◌, ap, arith, length-drop}
use Rattle.std.proofs.lemmas.List.{take-append-le, drop-append-le}
use Rattle.pf_disk.specs.declared.tape.TapeRecord.{TapeRecord}
use Rattle.pf_disk.specs.declared.tape.TapeRecord.TheVariants.{Write, Cut, Sync, FailedWrite, FailedCut}
use Rattle.pf_disk.specs.Recorded.{State, settled, after_write, after_cut, after_failed_write, after_failed_cut, replayed, count_written}

-- only the bytes of its writes are read
pub replayed_front : (state : State) (records : List TapeRecord) (written more : List ℕ) → count_written records ≤ length written → replayed state records (written ++ more) ≡ replayed state records written
replayed_front state [] written more le = refl
replayed_front state (Write at count ∷ records) written more le =
    let front : take count (written ++ more) ≡ take count written = take-append-le count written more (omega arith) in
    let back : drop count (written ++ more) ≡ drop count written ++ more = drop-append-le count written more (omega arith) in
    (λ i. replayed (after_write state at (front i)) records (back i)) ∙ replayed_front (after_write state at (take count written)) records (drop count written) more (omega (arith, length-drop count written))
replayed_front state (Cut len ∷ records) written more le = replayed_front (after_cut state len) records written more le
replayed_front state (Sync ∷ records) written more le = replayed_front (settled state.file) records written more le
replayed_front state (FailedWrite at count ∷ records) written more le = replayed_front (after_failed_write state at count) records written more le
replayed_front state (FailedCut len ∷ records) written more le = replayed_front (after_failed_cut state len) records written more le

nothing_written : (written : List ℕ) → 0 ≡ length written → written ≡ []
nothing_written [] is = refl
nothing_written (b ∷ written) is = absurd (omega arith)

-- one call more, with the bytes that it wrote
pub replayed_more : (state : State) (records : List TapeRecord) (written : List ℕ) (last : TapeRecord) (bytes : List ℕ) → count_written records ≡ length written
    → replayed state (records ++ last ∷ []) (written ++ bytes) ≡ replayed (replayed state records written) (last ∷ []) bytes
replayed_more state [] written last bytes is = ap (λ (w : List ℕ). replayed state (last ∷ []) (w ++ bytes)) (nothing_written written is)
replayed_more state (Write at count ∷ records) written last bytes is =
    let front : take count (written ++ bytes) ≡ take count written = take-append-le count written bytes (omega arith) in
    let back : drop count (written ++ bytes) ≡ drop count written ++ bytes = drop-append-le count written bytes (omega arith) in
    (λ i. replayed (after_write state at (front i)) (records ++ last ∷ []) (back i))
    ∙ replayed_more (after_write state at (take count written)) records (drop count written) last bytes (omega (arith, length-drop count written))
replayed_more state (Cut len ∷ records) written last bytes is = replayed_more (after_cut state len) records written last bytes is
replayed_more state (Sync ∷ records) written last bytes is = replayed_more (settled state.file) records written last bytes is
replayed_more state (FailedWrite at count ∷ records) written last bytes is = replayed_more (after_failed_write state at count) records written last bytes is
replayed_more state (FailedCut len ∷ records) written last bytes is = replayed_more (after_failed_cut state len) records written last bytes is

pub count_more : (records : List TapeRecord) (last : TapeRecord) → count_written (records ++ last ∷ []) ≡ count_written records + count_written (last ∷ [])
count_more [] last = omega arith
count_more (Write at count ∷ records) last = omega (arith, count_more records last)
count_more (Cut len ∷ records) last = count_more records last
count_more (Sync ∷ records) last = count_more records last
count_more (FailedWrite at count ∷ records) last = count_more records last
count_more (FailedCut len ∷ records) last = count_more records last

pub count_front : (k : ℕ) (records : List TapeRecord) → count_written (take k records) ≤ count_written records
count_front zero records = omega arith
count_front (suc k) [] = omega arith
count_front (suc k) (Write at count ∷ records) = omega (arith, count_front k records)
count_front (suc k) (Cut len ∷ records) = count_front k records
count_front (suc k) (Sync ∷ records) = count_front k records
count_front (suc k) (FailedWrite at count ∷ records) = count_front k records
count_front (suc k) (FailedCut len ∷ records) = count_front k records

-- the same, by what the lists are then
pub added : (base : List ℕ) (records records' : List TapeRecord) (written written' : List ℕ) (last : TapeRecord) (bytes : List ℕ)
    → count_written records ≡ length written → records' ≡ records ++ last ∷ [] → written' ≡ written ++ bytes
    → replayed (settled base) records' written' ≡ replayed (replayed (settled base) records written) (last ∷ []) bytes
added base records records' written written' last bytes counts is-records is-written =
    (λ i. replayed (settled base) (is-records i) (is-written i)) ∙ replayed_more (settled base) records written last bytes counts
