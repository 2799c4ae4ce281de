-- Writes and cuts in steps.
use Rattle.std.proofs.Common.{◌≡◌, ◌⊎◌, inl, inr, ℕ, zero, suc, ◌+◌, ◌-◌, ◌<◌, ◌≤◌, min, max, List, [], ◌∷◌, ◌++◌, length, take, drop, get_or, Result, Ok, Err, IsOk, is_ok, refl, sym, ◌∙◌, ap, arith, append_assoc, length-append, length-drop, length-take, take-append-drop}
use Rattle.std.specs.Prelude.{if◌then◌else◌}
use Rattle.std.proofs.lemmas.List.{append-nil, take-append-le, get_or_append_left, get_or-append_right, get_or-take, get_or-drop, take_at, take_all, drop_all, drop-drop, length-replicate, replicate-append-replicate, replicate_more}
use Rattle.std.proofs.Math.ListN.{replicate}
use Rattle.std.proofs.lemmas.Bool.Decides.{nat_tests, leb_tells}
use borrow.Rule.Slice.PartMut.{put_mid}
use Rattle.pf_disk.specs.Crashes.{Torn, ImagesFollow}
use Rattle.pf_disk.specs.Files.{file_grown, bytes_replaced, overwritten, file_resized, end_of_write}

-- what a call that succeeds leaves
pub if_ok : {T E X : Type 0} (r : Result T E) (a b new : X) → IsOk r → new ≡ (if is_ok r then a else b) → new ≡ a
if_ok (Ok x) a b new ok is = is
if_ok (Err e) a b new ok is = absurd (cc ok)

-- one zero more
pub grown_more : (xs : List ℕ) (i : ℕ) → length xs ≤ i → (xs ++ replicate (i - length xs) 0) ++ 0 ∷ [] ≡ xs ++ replicate (i + 1 - length xs) 0
grown_more xs i le =
    let e : i - length xs + 1 ≡ i + 1 - length xs = omega arith in
    append_assoc xs (replicate (i - length xs) 0) (0 ∷ []) ∙ ap (λ (l : List ℕ). xs ++ l) (replicate_more (i - length xs) 0 ∙ ap (λ (n : ℕ). replicate n 0) e)

pub length-grown : (xs : List ℕ) (n : ℕ) → length (file_grown xs n) ≡ length xs + (n - length xs)
length-grown xs n = length-append xs (replicate (n - length xs) 0) ∙ ap (λ (k : ℕ). length xs + k) (length-replicate (n - length xs) 0)

-- growing in two steps
grown_on : (xs : List ℕ) (m n : ℕ) → m ≤ n → file_grown xs n ≡ file_grown xs m ++ replicate (n - length (file_grown xs m)) 0
grown_on xs m n le =
    let e : (m - length xs) + (n - length (file_grown xs m)) ≡ n - length xs = omega (arith, length-grown xs m) in
    sym (append_assoc xs (replicate (m - length xs) 0) (replicate (n - length (file_grown xs m)) 0)
    ∙ ap (λ (l : List ℕ). xs ++ l) (replicate-append-replicate (m - length xs) (n - length (file_grown xs m)) 0 ∙ ap (λ (k : ℕ). replicate k 0) e))

-- a write that ends in the file
inside : (whole bytes : List ℕ) (at over : ℕ) → over ≡ length bytes → put_mid at over whole (take over bytes) ++ drop over bytes ≡ bytes_replaced whole at bytes
inside whole bytes at over is =
    let front : take over bytes ≡ bytes = take_all over bytes (omega arith) in
    let none : drop over bytes ≡ [] = drop_all over bytes (omega arith) in
    let end : at + over ≡ at + length bytes = omega arith in
    ap (λ (l : List ℕ). (take at whole ++ (l ++ drop over (drop at whole))) ++ drop over bytes) front
    ∙ ap (λ (l : List ℕ). (take at whole ++ (bytes ++ drop over (drop at whole))) ++ l) none
    ∙ append-nil (take at whole ++ (bytes ++ drop over (drop at whole)))
    ∙ ap (λ (l : List ℕ). take at whole ++ (bytes ++ l)) (drop-drop over at whole)
    ∙ ap (λ (k : ℕ). take at whole ++ (bytes ++ drop k whole)) end
    ∙ sym (append_assoc (take at whole) bytes (drop (at + length bytes) whole))

-- a write that ends past it
past : (whole bytes : List ℕ) (at over : ℕ) → over ≡ length whole - at → put_mid at over whole (take over bytes) ++ drop over bytes ≡ take at whole ++ bytes
past whole bytes at over is =
    let none : drop over (drop at whole) ≡ [] = drop_all over (drop at whole) (omega (arith, length-drop at whole)) in
    ap (λ (l : List ℕ). (take at whole ++ (take over bytes ++ l)) ++ drop over bytes) none
    ∙ ap (λ (l : List ℕ). (take at whole ++ l) ++ drop over bytes) (append-nil (take over bytes))
    ∙ append_assoc (take at whole) (take over bytes) (drop over bytes)
    ∙ ap (λ (l : List ℕ). take at whole ++ l) (take-append-drop over bytes)

-- a write over what is there, and then past its end
pub overwritten_is : (file whole bytes : List ℕ) (at over : ℕ) → 0 < length bytes → whole ≡ file_grown file at → over ≡ min (length bytes) (length whole - at)
    → put_mid at over whole (take over bytes) ++ drop over bytes ≡ overwritten file at bytes
overwritten_is file whole bytes at over some is so = elim (leb_tells (at + length bytes) (length whole)) [ inl fits ↦ here fits.1 | inr beyond ↦ there beyond.1 ]
  where
    reaches : end_of_write at (length bytes) ≡ at + length bytes
    reaches = grind (arith, nat_tests)

    size : length whole ≡ length file + (at - length file)
    size = ap length is ∙ length-grown file at

    on : whole ++ replicate (at + length bytes - length whole) 0 ≡ file_grown file (end_of_write at (length bytes))
    on = ap (λ (l : List ℕ). l ++ replicate (at + length bytes - length l) 0) is ∙ sym (grown_on file at (at + length bytes) (omega arith)) ∙ ap (λ (k : ℕ). file_grown file k) (sym reaches)

    here : at + length bytes ≤ length whole → put_mid at over whole (take over bytes) ++ drop over bytes ≡ overwritten file at bytes
    here fits =
        let no_more : at + length bytes - length whole ≡ 0 = omega arith in
        let same : whole ≡ file_grown file (end_of_write at (length bytes)) = sym (append-nil whole) ∙ ap (λ (k : ℕ). whole ++ replicate k 0) (sym no_more) ∙ on in
        inside whole bytes at over (omega arith) ∙ ap (λ (l : List ℕ). bytes_replaced l at bytes) same

    there : length whole < at + length bytes → put_mid at over whole (take over bytes) ++ drop over bytes ≡ overwritten file at bytes
    there beyond =
        let zeros = replicate (at + length bytes - length whole) 0 in
        let front : take at (whole ++ zeros) ≡ take at whole = take-append-le at whole zeros (omega (arith, size)) in
        let none : drop (at + length bytes) (whole ++ zeros) ≡ [] =
        drop_all (at + length bytes) (whole ++ zeros) (omega (arith, length-append whole zeros, length-replicate {A = ℕ} (at + length bytes - length whole) 0)) in
        past whole bytes at over (omega arith)
        ∙ sym (append-nil (take at whole ++ bytes))
        ∙ ap (λ (l : List ℕ). l ++ bytes ++ []) (sym front)
        ∙ ap (λ (l : List ℕ). take at (whole ++ zeros) ++ bytes ++ l) (sym none)
        ∙ ap (λ (l : List ℕ). bytes_replaced l at bytes) on

pub kept_by_growth : (file : List ℕ) (len k : ℕ) → k < length file → get_or (file_grown file len) k 0 ≡ get_or file k 0
kept_by_growth file len k in_file = get_or_append_left file (replicate (len - length file) 0) 0 k in_file

kept_by_replace : (file : List ℕ) (at : ℕ) (bytes : List ℕ) (k : ℕ) → k < length file → (k < at) ⊎ (at + length bytes ≤ k) → get_or (bytes_replaced file at bytes) k 0 ≡ get_or file k 0
kept_by_replace file at bytes k in_file (inl before) =
    let size = length-take at file in
    get_or_append_left (take at file ++ bytes) (drop (at + length bytes) file) 0 k (omega (arith, size, length-append (take at file) bytes))
    ∙ get_or_append_left (take at file) bytes 0 k (omega (arith, size)) ∙ get_or-take at file k 0 before
kept_by_replace file at bytes k in_file (inr after) =
    let size : length (take at file ++ bytes) ≡ at + length bytes = omega (arith, length-take at file, length-append (take at file) bytes) in
    let back : at + length bytes + (k - (at + length bytes)) ≡ k = omega arith in
    get_or-append_right (take at file ++ bytes) (drop (at + length bytes) file) (at + length bytes) k 0 size after
    ∙ get_or-drop (at + length bytes) file (k - (at + length bytes)) 0 ∙ ap (λ (n : ℕ). get_or file n 0) back

pub kept_by_cut : (file : List ℕ) (len k : ℕ) → k < length file → k < len → get_or (file_resized file len) k 0 ≡ get_or file k 0
kept_by_cut file len k in_file below = get_or-take len (file_grown file len) k 0 below ∙ kept_by_growth file len k in_file

pub reach_told : (at count : ℕ) → ((count ≡ 0) × (end_of_write at count ≡ 0)) ⊎ ((0 < count) × (end_of_write at count ≡ at + count))
reach_told at zero = inl (refl, refl)
reach_told at (suc count) = inr (omega arith, grind (arith, nat_tests))

-- how long the file is then
pub length-resized : (file : List ℕ) (len : ℕ) → length (file_resized file len) ≡ len
length-resized file len = omega (arith, length-take len (file_grown file len), length-grown file len)

pub length-overwritten : (file : List ℕ) (at : ℕ) (bytes : List ℕ) → length (overwritten file at bytes) ≡ max (length file) (end_of_write at (length bytes))
length-overwritten file at bytes = elim (reach_told at (length bytes)) [ inl none ↦ omega (arith, sizes, none) | inr some ↦ omega (arith, sizes, some) ]
  where
    sizes : (length (overwritten file at bytes) ≡ min at (length file + (end_of_write at (length bytes) - length file)) + length bytes + (length file + (end_of_write at (length bytes) - length file) - (at + length bytes)))
    sizes = omega (
      arith,
      length-append (take at (file_grown file (end_of_write at (length bytes))) ++ bytes) (drop (at + length bytes) (file_grown file (end_of_write at (length bytes)))),
      length-append (take at (file_grown file (end_of_write at (length bytes)))) bytes,
      length-take at (file_grown file (end_of_write at (length bytes))),
      length-drop (at + length bytes) (file_grown file (end_of_write at (length bytes))),
      length-grown file (end_of_write at (length bytes)),
    )

-- what a write and a cut leave alone
pub kept_by_write : (file : List ℕ) (at : ℕ) (bytes : List ℕ) (k : ℕ) → k < length file → (k < at) ⊎ (end_of_write at (length bytes) ≤ k) → get_or (overwritten file at bytes) k 0 ≡ get_or file k 0
kept_by_write file at bytes k in_file where_ =
    kept_by_replace (file_grown file (end_of_write at (length bytes))) at bytes k (omega (arith, length-grown file (end_of_write at (length bytes)))) (over where_) ∙ kept_by_growth file (end_of_write at (length bytes)) k in_file
  where
    over : (k < at) ⊎ (end_of_write at (length bytes) ≤ k) → (k < at) ⊎ (at + length bytes ≤ k)
    over (inl before) = inl before
    over (inr after) = elim (reach_told at (length bytes)) [
      | inl none ↦ elim (leb_tells at k) [ inl le ↦ inr (omega (arith, none, le)) | inr lt ↦ inl lt.1 ]
      | inr some ↦ inr (omega (arith, some, after))
    ]

-- what a disk that does each call at once leaves is an image from before
pub write_at_once : (file : List ℕ) (at : ℕ) (bytes : List ℕ) → ImagesFollow (Torn (min (length file) at) (end_of_write at (length bytes))) (λ c. c ≡ file) (λ c. c ≡ overwritten file at bytes)
write_at_once file at bytes c is =
    let size : length c ≡ max (length file) (end_of_write at (length bytes)) = ap length is ∙ length-overwritten file at bytes in (
      file,
      refl,
      record {
        no_shorter = omega (arith, size);
        no_longer = omega (arith, size);
        same = λ k lt out. ap (λ (l : List ℕ). get_or l k 0) is ∙ kept_by_write file at bytes k lt (elim out [ inl before ↦ inl (omega (arith, before)) | inr after ↦ inr after ]);
      },
    )

-- a part of a buffer that was written in place
pub written_back : (items now copied front : List ℕ) (at k over len : ℕ) → now ≡ items → k ≡ over → copied ≡ front → length items ≡ len → at + over ≤ len → length front ≡ over
    → take len (put_mid at k now copied ++ drop (length (put_mid at k now copied)) items) ≡ put_mid at over items front
written_back items now copied front at k over len is-now is-k is-copied size fits is-front =
    let same : put_mid at k now copied ≡ put_mid at over items front = λ i. put_mid at (is-k i) (is-now i) (is-copied i) in
    let all : length (put_mid at over items front) ≡ len =
    omega (arith, length-append (take at items) (front ++ drop over (drop at items)), length-append front (drop over (drop at items)), length-take at items, length-drop over (drop at items), length-drop at items) in
    ap (λ (l : List ℕ). take len (l ++ drop (length l) items)) same ∙ take_at (put_mid at over items front) (drop (length (put_mid at over items front)) items) len all

-- a cut in two steps
pub resized_is : (file : List ℕ) (len : ℕ) → file_grown (take len file) len ≡ file_resized file len
resized_is file len = elim (leb_tells len (length file)) [
  | inl fits ↦
      let none : len - length (take len file) ≡ 0 = omega (arith, length-take len file) in
      ap (λ (k : ℕ). take len file ++ replicate k 0) none ∙ append-nil (take len file) ∙ sym (take-append-le len file (replicate (len - length file) 0) fits.1)
  | inr beyond ↦
      let whole : take len file ≡ file = take_all len file (omega arith) in
      ap (λ (l : List ℕ). file_grown l len) whole ∙ sym (take_all len (file_grown file len) (omega (arith, length-grown file len)))
]
