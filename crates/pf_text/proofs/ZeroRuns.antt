-- The runs of bytes and of zeros behind them.
use Rattle.std.proofs.Common.{◌≡◌, ◌≢◌, ℕ, zero, suc, ◌+◌, ◌-◌, ◌<◌, ◌≤◌, Bool, true, false, cond, eqb, List, [], ◌∷◌, ◌++◌, length, drop, take, replicate, get_or, refl, ap, sym, ◌∙◌, arith, append_assoc, drop-cons}
use Rattle.std.proofs.lemmas.Bool.{ne_eqb}
use Rattle.std.proofs.lemmas.List.{length-append, take-append-drop, drop_all, replicate-append-replicate}
use Rattle.pf_text.specs.Runs.{Stretch, joined, runs_of, runs_text, stretch_text, joined_text}
use Rattle.pf_text.specs.Zeros.{EndsApart, IsBeforeZeros}

abbrev pub zeros_run : ℕ → Stretch
zeros_run n = record { byte = 0; count = n }

runs_of_zeros : (n : ℕ) → runs_of (replicate (suc n) 0) ≡ zeros_run (suc n) ∷ []
runs_of_zeros zero = refl
runs_of_zeros (suc n) =
    let more : suc n + 1 ≡ suc (suc n) = omega arith in
    ap (joined 0) (runs_of_zeros n) ∙ ap (λ k. zeros_run k ∷ []) more

cond_append : (b : Bool) (xs ys zs : List Stretch) → cond b (xs ++ zs) (ys ++ zs) ≡ cond b xs ys ++ zs
cond_append true xs ys zs = refl
cond_append false xs ys zs = refl

-- runs that are some
abbrev Begins : List Stretch → Type 0
Begins runs = (s : Stretch) × (rest : List Stretch) × (runs ≡ s ∷ rest)

begins_cond : (b : Bool) (x y : Stretch) (xs ys : List Stretch) → Begins (cond b (x ∷ xs) (y ∷ ys))
begins_cond true x y xs ys = (x, xs, refl)
begins_cond false x y xs ys = (y, ys, refl)

begins_joined : (byte : ℕ) (runs : List Stretch) → Begins (joined byte runs)
begins_joined byte [] = (record { byte = byte; count = 1 }, [], refl)
begins_joined byte (s ∷ rest) = begins_cond (eqb byte s.byte) (record { byte = byte; count = s.count + 1 }) (record { byte = byte; count = 1 }) rest (s ∷ rest)

joined_front : (byte : ℕ) (runs more : List Stretch) → Begins runs → joined byte (runs ++ more) ≡ joined byte runs ++ more
joined_front byte runs more (s, rest, is) =
    ap (λ (rs : List Stretch). joined byte (rs ++ more)) is
    ∙ cond_append (eqb byte s.byte) (record { byte = byte; count = s.count + 1 } ∷ rest) (record { byte = byte; count = 1 } ∷ s ∷ rest) more
    ∙ sym (ap (λ (rs : List Stretch). joined byte rs ++ more) is)

-- bytes of which the last is no zero, and zeros
module _ (last : ℕ) (apart : last ≢ 0) (n : ℕ) where
  begins_front : (front : List ℕ) → Begins (runs_of (front ++ last ∷ []))
  begins_front [] = begins_joined last []
  begins_front (byte ∷ front) = begins_joined byte (runs_of (front ++ last ∷ []))

  runs_are : (front : List ℕ) → runs_of ((front ++ last ∷ []) ++ replicate (suc n) 0) ≡ runs_of (front ++ last ∷ []) ++ zeros_run (suc n) ∷ []
  runs_are [] =
      ap (joined last) (runs_of_zeros n)
      ∙ ap (λ b. cond b (record { byte = last; count = suc n + 1 } ∷ []) (record { byte = last; count = 1 } ∷ zeros_run (suc n) ∷ [])) (ne_eqb last 0 apart)
  runs_are (byte ∷ front) =
      ap (joined byte) (runs_are front)
      ∙ joined_front byte (runs_of (front ++ last ∷ [])) (zeros_run (suc n) ∷ []) (begins_front front)

text_behind : (s : Stretch) (runs : List Stretch) (z : Stretch) → joined_text (s ∷ (runs ++ z ∷ [])) ≡ joined_text (s ∷ runs) ++ (32 ∷ stretch_text z)
text_behind s [] z = refl
text_behind s (t ∷ runs) z =
    ap (λ (text : List ℕ). stretch_text s ++ (32 ∷ text)) (text_behind t runs z)
    ∙ sym (append_assoc (stretch_text s) (32 ∷ joined_text (t ∷ runs)) (32 ∷ stretch_text z))

some_text : (bytes : List ℕ) → 0 < length bytes → runs_text bytes ≡ joined_text (runs_of bytes)
some_text [] h = absurd (omega (arith, h))
some_text (byte ∷ bytes) h = refl

some_bytes : (front : List ℕ) (last : ℕ) (more : List ℕ) → 0 < length ((front ++ last ∷ []) ++ more)
some_bytes front last more = let long = length-append (front ++ last ∷ []) more in let one = length-append front (last ∷ []) in omega (arith, long, one)

text_is : (last : ℕ) → last ≢ 0 → (n : ℕ) (front : List ℕ) → runs_text (front ++ last ∷ []) ++ (32 ∷ stretch_text (zeros_run (suc n))) ≡ runs_text ((front ++ last ∷ []) ++ replicate (suc n) 0)
text_is last apart n front =
    let begins = begins_front last apart n front in
    let z = zeros_run (suc n) in
    ap (λ (text : List ℕ). text ++ (32 ∷ stretch_text z)) (some_text (front ++ last ∷ []) (let one = length-append front (last ∷ []) in omega (arith, one)) ∙ ap joined_text begins.2)
    ∙ sym (text_behind begins.0 begins.1 z)
    ∙ sym (ap (λ (rs : List Stretch). joined_text (rs ++ z ∷ [])) begins.2)
    ∙ sym (ap joined_text (runs_are last apart n front))
    ∙ sym (some_text ((front ++ last ∷ []) ++ replicate (suc n) 0) (some_bytes front last (replicate (suc n) 0)))

-- the last byte stands apart
last_apart : (bytes : List ℕ) → 0 < length bytes → bytes ≡ take (length bytes - 1) bytes ++ get_or bytes (length bytes - 1) 0 ∷ []
last_apart bytes h =
    let at = length bytes - 1 in
    sym (take-append-drop at bytes)
    ∙ ap (λ (ys : List ℕ). take at bytes ++ ys) (drop-cons bytes at 0 (omega (arith, h)) ∙ ap (λ (ys : List ℕ). get_or bytes at 0 ∷ ys) (drop_all (suc at) bytes (omega (arith, h))))

pub both_text : (bytes : List ℕ) (zeros : ℕ) → 0 < zeros → EndsApart bytes → 0 < length bytes → runs_text bytes ++ (32 ∷ stretch_text (zeros_run zeros)) ≡ runs_text (bytes ++ replicate zeros 0)
both_text bytes zero h apart some = absurd (omega (arith, h))
both_text bytes (suc n) h apart some =
    let is = last_apart bytes some in
    ap (λ (bs : List ℕ). runs_text bs ++ (32 ∷ stretch_text (zeros_run (suc n)))) is
    ∙ text_is (get_or bytes (length bytes - 1) 0) (apart some) n (take (length bytes - 1) bytes)
    ∙ ap (λ (bs : List ℕ). runs_text (bs ++ replicate (suc n) 0)) (sym is)

pub zeros_text : (bytes : List ℕ) (zeros : ℕ) → 0 < zeros → bytes ≡ [] → stretch_text (zeros_run zeros) ≡ runs_text (bytes ++ replicate zeros 0)
zeros_text bytes zero h none = absurd (omega (arith, h))
zeros_text bytes (suc n) h none = sym (ap (λ (bs : List ℕ). runs_text (bs ++ replicate (suc n) 0)) none ∙ ap joined_text (runs_of_zeros n))

-- one byte more is a zero
pub one_more : (bytes : List ℕ) (end : ℕ) → end ≤ length bytes → 0 < end → get_or bytes (end - 1) 0 ≡ 0 → drop end bytes ≡ replicate (length bytes - end) 0
    → drop (end - 1) bytes ≡ replicate (length bytes - (end - 1)) 0
one_more bytes end within some is zeros =
    let next : suc (end - 1) ≡ end = omega (arith, some) in
    let more : suc (length bytes - end) ≡ length bytes - (end - 1) = omega (arith, within, some) in
    drop-cons bytes (end - 1) 0 (omega (arith, within, some))
    ∙ (λ i. is i ∷ drop (next i) bytes)
    ∙ ap (λ (zs : List ℕ). 0 ∷ zs) zeros
    ∙ ap (λ n. replicate n 0) more

pub no_bytes : (bytes : List ℕ) → length bytes ≡ 0 → bytes ≡ []
no_bytes [] is = refl
no_bytes (byte ∷ bytes) is = absurd (omega (arith, is))

pub all_bytes : (bytes : List ℕ) (end zeros : ℕ) → IsBeforeZeros bytes end → take end bytes ++ replicate (zeros + (length bytes - end)) 0 ≡ bytes ++ replicate zeros 0
all_bytes bytes end zeros is =
    let more : zeros + (length bytes - end) ≡ (length bytes - end) + zeros = omega arith in
    ap (λ n. take end bytes ++ replicate n 0) more
    ∙ ap (λ (zs : List ℕ). take end bytes ++ zs) (sym (replicate-append-replicate (length bytes - end) zeros 0) ∙ ap (λ (zs : List ℕ). zs ++ replicate zeros 0) (sym is.zeros))
    ∙ sym (append_assoc (take end bytes) (drop end bytes) (replicate zeros 0))
    ∙ ap (λ (bs : List ℕ). bs ++ replicate zeros 0) (take-append-drop end bytes)
