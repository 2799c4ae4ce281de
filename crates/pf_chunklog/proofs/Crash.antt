-- What a crash leaves in each of the two steps of an append, and what the file is after each.
use Rattle.std.proofs.Common.{◌≡◌, inl, inr, ℕ, ◌+◌, ◌-◌, ◌<◌, ◌≤◌, min, List, [], ◌∷◌, ◌++◌, length, take, drop, get_or, sym, ◌∙◌, ap, arith, append_assoc, length-append, length-take, length-drop, take-append-drop}
use Rattle.std.proofs.lemmas.List.{append-nil, take_at, drop_at, drop_more, take-append-le, get_or-take, get_or-drop, ext_get_or}
use Rattle.std.proofs.lemmas.Bool.{cases_eq}
use Rattle.std.proofs.Math.ListN.{replicate}
use Rattle.pf_disk.specs.Crashes.{Torn}
use Rattle.pf_disk.specs.Files.{file_grown, bytes_replaced, overwritten, end_of_write}
use Rattle.std.specs.List.{All}
use Rattle.std.proofs.lemmas.List.Elements.{All-push}
use Rattle.pf_chunklog.specs.Records.{Raw, HalfHolds, RecordIsSized, blocks, record_spelled, body_of}
use Rattle.pf_chunklog.specs.Logs.{BeforeOrAfter}

pub blocks-push : (records : List Raw) (raw : Raw) (rest : List ℕ) → blocks (records ++ raw ∷ []) ++ rest ≡ blocks records ++ 1 ∷ (record_spelled raw ++ rest)
blocks-push [] raw rest = ap (λ (l : List ℕ). 1 ∷ (l ++ rest)) (append-nil (record_spelled raw))
blocks-push (r ∷ records) raw rest =
    ap (λ (l : List ℕ). 1 ∷ l) (append_assoc (record_spelled r) (blocks (records ++ raw ∷ [])) rest ∙ ap (λ (l : List ℕ). record_spelled r ++ l) (blocks-push records raw rest)
    ∙ sym (append_assoc (record_spelled r) (blocks records) (1 ∷ (record_spelled raw ++ rest))))

-- the front of a file, before the closed gate
abbrev front : List ℕ → List Raw → List ℕ
front head records = head ++ blocks records

-- a file of which the front stands holds the records, or one more, by its gate
pub by_gate : (head : List ℕ) (records : List Raw) (raw : Raw) (gate : ℕ) (rest : List ℕ) (file : List ℕ) → All RecordIsSized records → RecordIsSized raw → file ≡ front head records ++ gate ∷ (record_spelled raw ++ 0 ∷ rest) → BeforeOrAfter head records raw file
by_gate head records raw gate rest file sized raw_sized is = elim (cases_eq gate 1) [
  | inl is_open ↦ inr (record {
    gate = 0;
    rest = rest;
    closed = λ e. absurd (cc e);
    sized = All-push RecordIsSized records raw sized raw_sized;
    split = is ∙ ap (λ (g : ℕ). front head records ++ g ∷ (record_spelled raw ++ 0 ∷ rest)) is_open ∙ append_assoc head (blocks records) (1 ∷ (record_spelled raw ++ 0 ∷ rest))
        ∙ ap (λ (l : List ℕ). head ++ l) (sym (blocks-push records raw (0 ∷ rest))) ∙ sym (append_assoc head (blocks (records ++ raw ∷ [])) (0 ∷ rest));
  })
  | inr shut ↦ inl (record { gate = gate; rest = record_spelled raw ++ 0 ∷ rest; closed = shut; sized = sized; split = is })
]

-- a list of which the first bytes stand
same_front : (xs ys : List ℕ) (n : ℕ) → n ≤ length xs → n ≤ length ys → ((k : ℕ) → k < n → get_or ys k 0 ≡ get_or xs k 0) → take n ys ≡ take n xs
same_front xs ys n in_xs in_ys same =
    ext_get_or 0 (take n ys) (take n xs) (omega (arith, length-take n xs, length-take n ys))
    (λ k lt. let below : k < n = omega (arith, lt, length-take n ys) in get_or-take n ys k 0 below ∙ same k below ∙ sym (get_or-take n xs k 0 below))

-- and one of which the last bytes stand
same_back : (xs ys : List ℕ) (n : ℕ) → length xs ≡ length ys → ((k : ℕ) → n ≤ k → k < length xs → get_or ys k 0 ≡ get_or xs k 0) → drop n ys ≡ drop n xs
same_back xs ys n size same =
    ext_get_or 0 (drop n ys) (drop n xs) (omega (arith, size, length-drop n xs, length-drop n ys))
    (λ k lt. get_or-drop n ys k 0 ∙ same (n + k) (omega arith) (omega (arith, lt, size, length-drop n ys)) ∙ sym (get_or-drop n xs k 0))

module _ (head : List ℕ) (records : List Raw) (raw : Raw) (file : List ℕ) (used : ℕ) (held : HalfHolds head records file) (size : used ≡ length head + length (blocks records) + 1) where
  long : length (front head records) + 1 ≡ used
  long = omega (arith, size, length-append head (blocks records))

  file_is : file ≡ (front head records ++ held.gate ∷ []) ++ held.rest
  file_is = held.split ∙ sym (append_assoc (front head records) (held.gate ∷ []) held.rest)

  gate_end : length (front head records ++ held.gate ∷ []) ≡ used
  gate_end = omega (arith, long, length-append (front head records) (held.gate ∷ []))

  pub in_file : used ≤ length file
  in_file = omega (arith, gate_end, ap length file_is, length-append (front head records ++ held.gate ∷ []) held.rest)

  -- the closed gate stands in each outcome of the first write
  pub behind : (n : ℕ) (c : List ℕ) → Torn (min (length file) used) n file c → HalfHolds head records c
  behind n c torn =
      let same : take used c ≡ take used file =
      same_front file c used in_file (omega (arith, in_file, torn.no_shorter)) (λ k lt. torn.same k (omega (arith, lt, in_file)) (inl (omega (arith, lt, in_file)))) in
      let front_is : take used c ≡ front head records ++ held.gate ∷ [] =
      same ∙ ap (λ (l : List ℕ). take used l) file_is ∙ take_at (front head records ++ held.gate ∷ []) held.rest used gate_end in
      record {
        gate = held.gate;
        rest = drop used c;
        closed = held.closed;
        sized = held.sized;
        split = sym (take-append-drop used c) ∙ ap (λ (l : List ℕ). l ++ drop used c) front_is ∙ append_assoc (front head records) (held.gate ∷ []) (drop used c);
      }

  -- what stands behind the body after the first write
  pub after_body : List ℕ
  after_body = drop (used + length (body_of raw)) (file_grown file (end_of_write used (length (body_of raw))))

  pub written : overwritten file used (body_of raw) ≡ front head records ++ held.gate ∷ (record_spelled raw ++ 0 ∷ after_body)
  unfolding after_body
  written =
      let end = end_of_write used (length (body_of raw)) in
      let rest = drop (used + length (body_of raw)) (file_grown file end) in
      let front_is : take used (file_grown file end) ≡ front head records ++ held.gate ∷ [] =
      take-append-le used file (replicate (end - length file) 0) in_file ∙ ap (λ (l : List ℕ). take used l) file_is ∙ take_at (front head records ++ held.gate ∷ []) held.rest used gate_end in
      ap (λ (l : List ℕ). l ++ body_of raw ++ rest) front_is
      ∙ append_assoc (front head records ++ held.gate ∷ []) (body_of raw) rest
      ∙ ap (λ (l : List ℕ). (front head records ++ held.gate ∷ []) ++ l) (append_assoc (record_spelled raw) (0 ∷ []) rest)
      ∙ append_assoc (front head records) (held.gate ∷ []) (record_spelled raw ++ 0 ∷ rest)

  place : used - 1 ≡ length (front head records)
  place = omega (arith, long)

  long_staged : length (front head records ++ held.gate ∷ (record_spelled raw ++ 0 ∷ after_body)) ≡ used + length (record_spelled raw ++ 0 ∷ after_body)
  long_staged = omega (arith, long, length-append (front head records) (held.gate ∷ (record_spelled raw ++ 0 ∷ after_body)))

  back : drop (used - 1 + 1) (front head records ++ held.gate ∷ (record_spelled raw ++ 0 ∷ after_body)) ≡ record_spelled raw ++ 0 ∷ after_body
  back =
      ap (λ (l : List ℕ). drop (used - 1 + 1) l) (sym (append_assoc (front head records) (held.gate ∷ []) (record_spelled raw ++ 0 ∷ after_body)))
      ∙ drop_at (front head records ++ held.gate ∷ []) (record_spelled raw ++ 0 ∷ after_body) (used - 1 + 1) (omega (arith, gate_end, long))

  -- the body stands whole in each outcome of the second write
  pub gate_torn : RecordIsSized raw → (c : List ℕ) → Torn (min (length (front head records ++ held.gate ∷ (record_spelled raw ++ 0 ∷ after_body))) (used - 1)) (used - 1 + 1) (front head records ++ held.gate ∷ (record_spelled raw ++ 0 ∷ after_body)) c → BeforeOrAfter head records raw c
  gate_torn raw_sized c torn =
      let old = front head records ++ held.gate ∷ (record_spelled raw ++ 0 ∷ after_body) in
      let size_of : length c ≡ length old = omega (arith, torn.no_shorter, torn.no_longer, long_staged, long) in
      let before : take (used - 1) c ≡ front head records =
      same_front old c (used - 1) (omega (arith, long_staged)) (omega (arith, long_staged, size_of)) (λ k lt. torn.same k (omega (arith, lt, long_staged)) (inl (omega (arith, lt, long_staged))))
      ∙ take_at (front head records) (held.gate ∷ (record_spelled raw ++ 0 ∷ after_body)) (used - 1) (omega (arith, place)) in
      let after : drop (used - 1 + 1) c ≡ record_spelled raw ++ 0 ∷ after_body = same_back old c (used - 1 + 1) (omega (arith, size_of)) (λ k le lt. torn.same k lt (inr le)) ∙ back in
      let gate = get_or c (used - 1) 0 in
      by_gate head records raw gate after_body c held.sized raw_sized
      (sym (take-append-drop (used - 1) c) ∙ ap (λ (l : List ℕ). l ++ drop (used - 1) c) before
      ∙ ap (λ (l : List ℕ). front head records ++ l) (drop_more c (used - 1) 0 (omega (arith, size_of, long_staged, long)))
      ∙ ap (λ (l : List ℕ). front head records ++ gate ∷ l) after)

  pub gate_written : overwritten (front head records ++ held.gate ∷ (record_spelled raw ++ 0 ∷ after_body)) (used - 1) (1 ∷ []) ≡ front head records ++ 1 ∷ (record_spelled raw ++ 0 ∷ after_body)
  gate_written =
      let old = front head records ++ held.gate ∷ (record_spelled raw ++ 0 ∷ after_body) in
      let none : used - 1 + 1 - length old ≡ 0 = omega (arith, long_staged, long) in
      let same : file_grown old (used - 1 + 1) ≡ old = ap (λ (n : ℕ). old ++ replicate n 0) none ∙ append-nil old in
      ap (λ (l : List ℕ). bytes_replaced l (used - 1) (1 ∷ [])) same
      ∙ ap (λ (l : List ℕ). l ++ 1 ∷ [] ++ drop (used - 1 + 1) old) (take_at (front head records) (held.gate ∷ (record_spelled raw ++ 0 ∷ after_body)) (used - 1) (omega (arith, place)))
      ∙ ap (λ (l : List ℕ). front head records ++ 1 ∷ [] ++ l) back
      ∙ append_assoc (front head records) (1 ∷ []) (record_spelled raw ++ 0 ∷ after_body)

  -- the file holds one record more
  pub appended : RecordIsSized raw → HalfHolds head (records ++ raw ∷ []) (front head records ++ 1 ∷ (record_spelled raw ++ 0 ∷ after_body))
  appended raw_sized = record {
    gate = 0;
    rest = after_body;
    closed = λ e. absurd (cc e);
    sized = All-push RecordIsSized records raw held.sized raw_sized;
    split = append_assoc head (blocks records) (1 ∷ (record_spelled raw ++ 0 ∷ after_body)) ∙ ap (λ (l : List ℕ). head ++ l) (sym (blocks-push records raw (0 ∷ after_body)))
        ∙ sym (append_assoc head (blocks (records ++ raw ∷ [])) (0 ∷ after_body));
  }

  pub grows : used + length (body_of raw) ≡ length head + length (blocks (records ++ raw ∷ [])) + 1
  grows = omega (arith, size, length-append (record_spelled raw) (0 ∷ []), ap length (blocks-push records raw []), length-append (blocks records) (1 ∷ (record_spelled raw ++ [])), length-append (record_spelled raw) [], length-append (blocks (records ++ raw ∷ [])) [])
