-- Runs of equal bytes, from the front.
use Rattle.std.proofs.Common.{◌≡◌, ◌≢◌, ℕ, suc, ◌+◌, ◌-◌, ◌<◌, nat_lt, ◌≤◌, Bool, true, false, cond, eqb, List, [], ◌∷◌, ◌++◌, length, drop, take, replicate, get_or, refl, ap, sym, ◌∙◌, ◌⊎◌, inl, inr, arith, append_assoc, drop-cons}
use Rattle.std.specs.List.{prefix_len}
use Rattle.std.proofs.lemmas.Bool.{cases_Bool, cases_eq, cond-true, cond-false, eq-eqb, ne_eqb}
use Rattle.std.proofs.lemmas.Bool.Decides.{nat_tests}
use Rattle.std.proofs.lemmas.List.{length-drop, get_or-drop, append-nil, drop-drop, drop_all}
use Rattle.std.proofs.lemmas.List.Sums.{prefix_len-le-length, prefix_len_is}
use Rattle.std.proofs.lemmas.Simd.{get_or-chunk, get_or-replicate}
use Rattle.pf_text.specs.Runs.{Stretch, joined, runs_of, stretch_text, joined_text}

-- n bytes more of one kind in front of runs
abbrev pub many : ℕ → ℕ → List Stretch → List Stretch
many byte n [] = record { byte = byte; count = n } ∷ []
many byte n (s ∷ rest) = cond (eqb byte s.byte) (record { byte = byte; count = s.count + n } ∷ rest) (record { byte = byte; count = n } ∷ s ∷ rest)

cases_bool : (b : Bool) → (b ≡ true) ⊎ (b ≡ false)
cases_bool true = inl refl
cases_bool false = inr refl

-- a run ends before another byte
many_end : (byte other n : ℕ) (runs : List Stretch) → other ≢ byte → many byte n (joined other runs) ≡ record { byte = byte; count = n } ∷ joined other runs
many_end byte other n [] ne = ap (λ b. cond b (record { byte = byte; count = 1 + n } ∷ []) (record { byte = byte; count = n } ∷ record { byte = other; count = 1 } ∷ [])) (ne_eqb byte other (λ e. ne (sym e)))
many_end byte other n (s ∷ rest) ne =
    elim (cases_bool (eqb other s.byte)) [
      | inl same ↦
          ap (λ b. many byte n (cond b (record { byte = other; count = s.count + 1 } ∷ rest) (record { byte = other; count = 1 } ∷ s ∷ rest))) same
          ∙ ap (λ b. cond b (record { byte = byte; count = (s.count + 1) + n } ∷ rest) (record { byte = byte; count = n } ∷ record { byte = other; count = s.count + 1 } ∷ rest)) (ne_eqb byte other (λ e. ne (sym e)))
          ∙ sym (ap (λ b. record { byte = byte; count = n } ∷ cond b (record { byte = other; count = s.count + 1 } ∷ rest) (record { byte = other; count = 1 } ∷ s ∷ rest)) same)
      | inr differs ↦
          ap (λ b. many byte n (cond b (record { byte = other; count = s.count + 1 } ∷ rest) (record { byte = other; count = 1 } ∷ s ∷ rest))) differs
          ∙ ap (λ b. cond b (record { byte = byte; count = 1 + n } ∷ s ∷ rest) (record { byte = byte; count = n } ∷ record { byte = other; count = 1 } ∷ s ∷ rest)) (ne_eqb byte other (λ e. ne (sym e)))
          ∙ sym (ap (λ b. record { byte = byte; count = n } ∷ cond b (record { byte = other; count = s.count + 1 } ∷ rest) (record { byte = other; count = 1 } ∷ s ∷ rest)) differs)
    ]

one_is : (byte : ℕ) (runs : List Stretch) → joined byte runs ≡ many byte 1 runs
one_is byte [] = refl
one_is byte (s ∷ rest) = refl

two_cond : (b : Bool) (s x y t : Stretch) (rest : List Stretch) → joined_text (s ∷ cond b (x ∷ rest) (y ∷ t ∷ rest)) ≡ stretch_text s ++ (32 ∷ joined_text (cond b (x ∷ rest) (y ∷ t ∷ rest)))
two_cond true s x y t rest = refl
two_cond false s x y t rest = refl

pub two : (s : Stretch) (byte : ℕ) (runs : List Stretch) → joined_text (s ∷ joined byte runs) ≡ stretch_text s ++ (32 ∷ joined_text (joined byte runs))
two s byte [] = refl
two s byte (t ∷ rest) = two_cond (eqb byte t.byte) s (record { byte = byte; count = t.count + 1 }) (record { byte = byte; count = 1 }) t rest

abbrev pub is_byte : ℕ → ℕ → Bool
is_byte byte b = eqb byte b

-- the first run, and the runs of what is left
module _ (byte : ℕ) where
  abbrev alike : List ℕ → ℕ
  alike ys = prefix_len (is_byte byte) ys

  abbrev begun : ℕ → List Stretch → List Stretch
  begun n runs = record { byte = byte; count = n } ∷ runs

  once_more : (y : ℕ) (ys : List ℕ) → byte ≡ y → alike (y ∷ ys) ≡ suc (alike ys)
  once_more y ys same = cond-true (eqb byte y) (1 + alike ys) 0 (eq-eqb byte y same) ∙ omega arith

  no_more : (y : ℕ) (ys : List ℕ) → byte ≢ y → alike (y ∷ ys) ≡ 0
  no_more y ys apart = cond-false (eqb byte y) (1 + alike ys) 0 (ne_eqb byte y apart)

  runs_front : (ys : List ℕ) → runs_of (byte ∷ ys) ≡ begun (suc (alike ys)) (runs_of (drop (alike ys) ys))
  runs_front [] = refl
  runs_front (y ∷ ys) =
      elim (cases_eq byte y) [
        | inl same ↦
            let rest = runs_of (drop (alike ys) ys) in
            ap (λ b. joined byte (runs_of (b ∷ ys))) (sym same)
            ∙ ap (joined byte) (runs_front ys)
            ∙ ap (λ b. cond b (begun (suc (alike ys) + 1) rest) (begun 1 (begun (suc (alike ys)) rest))) (eq-eqb byte byte refl)
            ∙ ap (λ n. begun n rest) (omega arith)
            ∙ sym (ap (λ n. begun (suc n) (runs_of (drop n (y ∷ ys)))) (once_more y ys same))
        | inr apart ↦
            one_is byte (runs_of (y ∷ ys))
            ∙ many_end byte y 1 (runs_of ys) (λ e. apart (sym e))
            ∙ sym (ap (λ n. begun (suc n) (runs_of (drop n (y ∷ ys)))) (no_more y ys apart))
      ]

  runs_first : (ys : List ℕ) → runs_of (byte ∷ ys) ≡ begun (alike (byte ∷ ys)) (runs_of (drop (alike (byte ∷ ys)) (byte ∷ ys)))
  runs_first ys = runs_front ys ∙ sym (ap (λ n. begun n (runs_of (drop n (byte ∷ ys)))) (once_more byte ys refl))

first_of : (xs : List ℕ) (at : ℕ) → at < length xs → drop at xs ≡ get_or xs at 0 ∷ drop (suc at) xs
first_of xs at h = drop-cons xs at 0 h

pub runs_at : (xs : List ℕ) (at count : ℕ) → at < length xs → count ≡ prefix_len (is_byte (get_or xs at 0)) (drop at xs)
    → runs_of (drop at xs) ≡ record { byte = get_or xs at 0; count = count } ∷ runs_of (drop (at + count) xs)
runs_at xs at count h is =
    let byte = get_or xs at 0 in
    let apart = first_of xs at h in
    ap runs_of apart
    ∙ runs_first byte (drop (suc at) xs)
    ∙ ap (λ (ys : List ℕ). record { byte = byte; count = prefix_len (is_byte byte) ys } ∷ runs_of (drop (prefix_len (is_byte byte) ys) ys)) (sym apart)
    ∙ ap (λ (n : ℕ). record { byte = byte; count = n } ∷ runs_of (drop n (drop at xs))) (sym is)
    ∙ ap (λ (ys : List ℕ). record { byte = byte; count = count } ∷ runs_of ys) (drop-drop count at xs)

module _ (xs out mid now whole : List ℕ) (at byte count : ℕ) (h : at < length xs) (is : byte ≡ get_or xs at 0) (counted : count ≡ prefix_len (is_byte byte) (drop at xs)) (put : mid ≡ out ++ stretch_text (record { byte = byte; count = count })) (text : out ++ joined_text (runs_of (drop at xs)) ≡ whole) where
  counted_there : count ≡ prefix_len (is_byte (get_or xs at 0)) (drop at xs)
  counted_there = counted ∙ ap (λ b. prefix_len (is_byte b) (drop at xs)) is

  abbrev run : Stretch
  run = record { byte = byte; count = count }

  module _ (next : ℕ) (next_is : next ≡ at + count) where
    split : runs_of (drop at xs) ≡ run ∷ runs_of (drop next xs)
    split = runs_at xs at count h counted_there ∙ (λ i. record { byte = sym is i; count = count } ∷ runs_of (drop (sym next_is i) xs))

    -- after a run with which the bytes end
    pub at_end : length xs ≤ next → now ≡ mid → now ++ joined_text (runs_of (drop next xs)) ≡ whole
    at_end past now_is =
        let none = drop_all next xs past in
        ap (λ (ys : List ℕ). now ++ joined_text (runs_of ys)) none
        ∙ append-nil now ∙ now_is ∙ put
        ∙ sym (ap (λ (rs : List Stretch). out ++ joined_text rs) (split ∙ ap (λ (ys : List ℕ). run ∷ runs_of ys) none))
        ∙ text

    -- and after another
    pub more_left : next < length xs → now ≡ mid ++ 32 ∷ [] → now ++ joined_text (runs_of (drop next xs)) ≡ whole
    more_left low now_is =
        let rest = joined_text (runs_of (drop next xs)) in
        let apart = first_of xs next low in
        let joins : joined_text (run ∷ runs_of (drop next xs)) ≡ stretch_text run ++ (32 ∷ rest) =
        ap (λ (ys : List ℕ). joined_text (run ∷ runs_of ys)) apart ∙ two run (get_or xs next 0) (runs_of (drop (suc next) xs))
        ∙ sym (ap (λ (ys : List ℕ). stretch_text run ++ (32 ∷ joined_text (runs_of ys))) apart) in
        ap (λ (l : List ℕ). l ++ rest) (now_is ∙ ap (λ (m : List ℕ). m ++ 32 ∷ []) put)
        ∙ append_assoc (out ++ stretch_text run) (32 ∷ []) rest
        ∙ append_assoc out (stretch_text run) (32 ∷ rest)
        ∙ ap (λ (l : List ℕ). out ++ l) (sym joins)
        ∙ sym (ap (λ (rs : List Stretch). out ++ joined_text rs) split)
        ∙ text

-- a block of equal bytes
pub in_block : (n : ℕ) (xs : List ℕ) (at byte : ℕ) → take n (drop at xs) ≡ replicate n byte → (k : ℕ) → k < n → get_or xs (at + k) 0 ≡ byte
in_block n xs at byte same k low = sym (get_or-chunk at n xs k 0 low) ∙ ap (λ (ys : List ℕ). get_or ys k 0) same ∙ get_or-replicate n k byte 0 low

pub in_next : (n : ℕ) (xs : List ℕ) (at end : ℕ) → ((k : ℕ) → at ≤ k → k < end → get_or xs k 0 ≡ get_or xs at 0) → ((k : ℕ) → k < n → get_or xs (end + k) 0 ≡ get_or xs at 0) → (k : ℕ) → at ≤ k → k < end + n → get_or xs k 0 ≡ get_or xs at 0
in_next n xs at end before block k low high =
    elim (cases_Bool (nat_lt k end)) [
      | inl is ↦ before k low (grind (arith, nat_tests))
      | inr is ↦
          let past : end ≤ k = grind (arith, nat_tests) in
          let there : end + (k - end) ≡ k = omega (arith, past) in
          ap (λ j. get_or xs j 0) (sym there) ∙ block (k - end) (omega (arith, past, high))
    ]

-- where a run ends
pub run_is : (xs : List ℕ) (at end : ℕ) → at ≤ end → end ≤ length xs → ((k : ℕ) → at ≤ k → k < end → get_or xs k 0 ≡ get_or xs at 0) → (end < length xs → get_or xs end 0 ≢ get_or xs at 0)
    → end ≡ at + prefix_len (is_byte (get_or xs at 0)) (drop at xs)
run_is xs at end above within each apart =
    let byte = get_or xs at 0 in
    let n = end - at in
    let long = length-drop at xs in
    let there : at + n ≡ end = omega (arith, above) in
    let counted : prefix_len (is_byte byte) (drop at xs) ≡ n =
    prefix_len_is (is_byte byte) (drop at xs) n 0 (omega (arith, long, within))
    (λ k low. eq-eqb byte _ (sym (get_or-drop at xs k 0 ∙ each (at + k) (omega arith) (omega (arith, low, above)))))
    (λ low. ne_eqb byte _ (λ e. apart (omega (arith, low, long, above)) (ap (λ j. get_or xs j 0) (sym there) ∙ sym (get_or-drop at xs n 0) ∙ sym e))) in
    omega (arith, counted, above)

-- a run does not go past the end
pub run_within : (xs : List ℕ) (at count byte : ℕ) → at < length xs → count ≡ prefix_len (is_byte byte) (drop at xs) → at + count ≤ length xs
run_within xs at count byte h is = omega (arith, is, h, prefix_len-le-length (is_byte byte) (drop at xs), length-drop at xs)
