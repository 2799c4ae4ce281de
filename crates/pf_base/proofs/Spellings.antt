-- Numbers as bytes, both ways.
use Rattle.std.proofs.Common.{◌≡◌, ℕ, ◌+◌, ◌-◌, ◌<◌, ◌≤◌, ◌^◌, List, ◌++◌, length, take, drop, get_or, Some, ap, sym, ◌∙◌, arith, length-append, length-drop, length-take, length-take-le, inl, inr, lit<}
use Rattle.std.proofs.Math.Seq.{drop-append_seam, take-append_seam}
use Rattle.std.proofs.lemmas.Bool.{le-leb, leb-true, cases_lt}
use Rattle.std.proofs.lemmas.List.{get_or-take, get_or-drop, get_or_past}
use Rattle.std.proofs.lemmas.Nat.{be_bytes_2, be_bytes_4, be_bytes_8, from_be_bytes-to_be_bytes_2, from_be_bytes-to_be_bytes_4, from_be_bytes-to_be_bytes_8}
use Rattle.std.proofs.lemmas.Option.{cond_some}
use Rattle.std.specs.Int.{Width, w16, w32, w64, byte_len, from_be_bytes, to_be_bytes}
use Rattle.std.specs.List.{slice_range}
use Rattle.pf_base.specs.Numbers.{number_at}

-- the bytes between a front and a rest
between : (k : ℕ) (front digits rest : List ℕ) → length digits ≡ k → slice_range (front ++ (digits ++ rest)) (length front) (length front + k) ≡ digits
between k front digits rest e =
    let count : length front + k - length front ≡ length digits = omega (arith, e) in
    ap (λ (n : ℕ). take n (drop (length front) (front ++ (digits ++ rest)))) count
    ∙ ap (take (length digits)) (drop-append_seam front (digits ++ rest)) ∙ take-append_seam digits rest

-- the number that bytes between others spell
pub number_at-append : (w : Width) (front digits rest : List ℕ) → length digits ≡ byte_len w → number_at w (front ++ (digits ++ rest)) (length front) ≡ Some (from_be_bytes w digits)
number_at-append w front digits rest e =
    let room : length front + byte_len w ≤ length (front ++ (digits ++ rest)) = omega (arith, e, length-append front (digits ++ rest), length-append digits rest) in
    rw (le-leb (length front + byte_len w) (length (front ++ (digits ++ rest))) room) (ap (λ (bytes : List ℕ). Some (from_be_bytes w bytes)) (between (byte_len w) front digits rest e))

pub reads_u16 : (front rest : List ℕ) (n : ℕ) → n < 2 ^ 16 → number_at w16 (front ++ (to_be_bytes w16 n ++ rest)) (length front) ≡ Some n
reads_u16 front rest n h = number_at-append w16 front (to_be_bytes w16 n) rest (omega arith) ∙ ap Some (from_be_bytes-to_be_bytes_2 n h)

pub reads_u32 : (front rest : List ℕ) (n : ℕ) → n < 2 ^ 32 → number_at w32 (front ++ (to_be_bytes w32 n ++ rest)) (length front) ≡ Some n
reads_u32 front rest n h = number_at-append w32 front (to_be_bytes w32 n) rest (omega arith) ∙ ap Some (from_be_bytes-to_be_bytes_4 n h)

pub reads_u64 : (front rest : List ℕ) (n : ℕ) → n < 2 ^ 64 → number_at w64 (front ++ (to_be_bytes w64 n ++ rest)) (length front) ≡ Some n
reads_u64 front rest n h = number_at-append w64 front (to_be_bytes w64 n) rest (omega arith) ∙ ap Some (from_be_bytes-to_be_bytes_8 n h)

-- where a number is read, its spelling stands
spelled : (k : ℕ) (bytes : List ℕ) (at : ℕ) → at + k ≤ length bytes → length (slice_range bytes at (at + k)) ≡ k
spelled k bytes at room =
    let left : length (drop at bytes) ≡ length bytes - at = length-drop at bytes in
    let count : at + k - at ≡ k = omega arith in
    length-take-le (at + k - at) (drop at bytes) (omega (arith, left, room)) ∙ count

-- a part of bytes is bytes
small : (a b i : ℕ) (bytes : List ℕ) → ((j : ℕ) → get_or bytes j 0 < 256) → get_or (slice_range bytes a b) i 0 < 256
small a b i bytes h =
    elim (cases_lt i (b - a)) [
      | inl low ↦ rw (get_or-take (b - a) (drop a bytes) i 0 low, get_or-drop a bytes i 0) (h (a + i))
      | inr past ↦ rw (get_or_past (take (b - a) (drop a bytes)) i 0 (omega (arith, length-take (b - a) (drop a bytes), past))) (lit< tt)
    ]

pub spells_u16 : (bytes : List ℕ) (at n : ℕ) → ((j : ℕ) → get_or bytes j 0 < 256) → number_at w16 bytes at ≡ Some n → to_be_bytes w16 n ≡ slice_range bytes at (at + 2)
spells_u16 bytes at n h read =
    let found = cond_some _ _ _ read in
    be_bytes_2 (slice_range bytes at (at + 2)) n (spelled 2 bytes at (leb-true _ _ found.0)) (λ i. small at (at + 2) i bytes h) (sym found.1)

pub spells_u32 : (bytes : List ℕ) (at n : ℕ) → ((j : ℕ) → get_or bytes j 0 < 256) → number_at w32 bytes at ≡ Some n → to_be_bytes w32 n ≡ slice_range bytes at (at + 4)
spells_u32 bytes at n h read =
    let found = cond_some _ _ _ read in
    be_bytes_4 (slice_range bytes at (at + 4)) n (spelled 4 bytes at (leb-true _ _ found.0)) (λ i. small at (at + 4) i bytes h) (sym found.1)

pub spells_u64 : (bytes : List ℕ) (at n : ℕ) → ((j : ℕ) → get_or bytes j 0 < 256) → number_at w64 bytes at ≡ Some n → to_be_bytes w64 n ≡ slice_range bytes at (at + 8)
spells_u64 bytes at n h read =
    let found = cond_some _ _ _ read in
    be_bytes_8 (slice_range bytes at (at + 8)) n (spelled 8 bytes at (leb-true _ _ found.0)) (λ i. small at (at + 8) i bytes h) (sym found.1)
