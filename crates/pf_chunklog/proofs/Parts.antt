-- What a reader finds in bytes.
use Rattle.std.proofs.Common.{◌≡◌, ◌⊎◌, inl, inr, ℕ, ◌+◌, ◌<◌, ◌≤◌, min, Option, Some, List, [], ◌∷◌, ◌++◌, length, take, drop, get_or, Contains, refl, sym, ◌∙◌, ap, subst, arith, append_assoc, length-append, length-drop, length-take, take-append-drop}
use Rattle.std.proofs.Math.Seq.{take-append-add}
use Rattle.std.specs.Int.{from_be_bytes, w64}
use Rattle.std.specs.Option.{unwrap_or}
use Rattle.pf_base.proofs.Spellings.{number_at-append}
use Rattle.pf_base.specs.Numbers.{number_at}
use Rattle.pf_disk.specs.Files.{FileIsRead}
use Rattle.std.specs.List.{All}
use Rattle.std.proofs.lemmas.Bool.{cases_lt}
use Rattle.std.proofs.lemmas.List.{get_or-take, get_or_default, take_all}
use Rattle.pf_chunklog.specs.Records.{Raw, HalfHolds, RecordIsSized, blocks, first_number}
use Rattle.pf_chunklog.proofs.Crash.{blocks-push}
use Rattle.pf_chunklog.proofs.Unique.{goes_on, none_left, blocks_are, same_parts}

-- one element more
pub contains_more : (xs : List (List ℕ)) (i : ℕ) (x : List ℕ) → i < length xs → Contains (take (i + 1) xs) x → Contains (take i xs) x ⊎ (x ≡ get_or xs i [])
contains_more xs i x within (k, below, is) =
    let more : length (take (i + 1) xs) ≡ i + 1 = omega (arith, within, length-take (i + 1) xs) in
    let at : k < i + 1 = omega (arith, below, more) in
    elim (cases_lt k i) [
      | inl before ↦ inl (k, omega (arith, before, within, length-take i xs), get_or-take i xs k x before ∙ sym (get_or-take (i + 1) xs k x at) ∙ is)
      | inr not_before ↦
          let same : k ≡ i = omega (arith, not_before, at) in
          inr (sym is ∙ get_or-take (i + 1) xs k x at ∙ ap (λ (n : ℕ). get_or xs n x) same ∙ get_or_default xs i x [] within)
    ]

pub contains_all : (xs : List (List ℕ)) (i : ℕ) (x : List ℕ) → length xs ≤ i → Contains xs x → Contains (take i xs) x
contains_all xs i x past has = subst (λ (l : List (List ℕ)). Contains l x) (sym (take_all i xs past)) has

-- one record more
pub split_more : (bytes : List ℕ) (records : List Raw) (rest : List ℕ) (raw : Raw) (after : List ℕ) → bytes ≡ blocks records ++ rest → rest ≡ blocks (raw ∷ []) ++ after → bytes ≡ blocks (records ++ raw ∷ []) ++ after
split_more bytes records rest raw after is so =
    is ∙ ap (λ (l : List ℕ). blocks records ++ l) (so ∙ blocks_are raw [] after) ∙ sym (blocks-push records raw after)

-- no closed gate ends the records
pub no_end : (bytes rest : List ℕ) (records : List Raw) → bytes ≡ blocks records ++ rest → All RecordIsSized records
    → ((raw : Raw) (after : List ℕ) → RecordIsSized raw → rest ≡ blocks (raw ∷ []) ++ after → ⊥)
    → ((gate : ℕ) (tail : List ℕ) → rest ≡ gate ∷ tail → gate ≡ 1) → (all : List Raw) → HalfHolds [] all bytes → ⊥
no_end bytes rest records is sized no_block no_gate all held =
    let on = goes_on records rest all held.gate held.rest sized held.sized held.closed (sym is ∙ held.split) in
    none_left rest on.more held.gate held.rest no_block no_gate on.sized held.closed on.behind

-- each head has eight bytes
pub long_head : (heads : List (List ℕ)) (head : List ℕ) → ((i : ℕ) → i < length heads → length (get_or heads i []) ≡ 8) → Contains heads head → length head ≡ 8
long_head heads head long (k, below, is) = ap length (sym is ∙ get_or_default heads k head [] below) ∙ long k below

-- records behind a head
pub behind : (head other rest file : List ℕ) (records : List Raw) → length head ≡ length other → file ≡ head ++ rest → HalfHolds other records file → HalfHolds [] records rest
behind head other rest file records size is held =
    let parts = same_parts head other rest (blocks records ++ held.gate ∷ held.rest) size (sym is ∙ held.split ∙ append_assoc other (blocks records) (held.gate ∷ held.rest)) in
    record { gate = held.gate; rest = held.rest; closed = held.closed; sized = held.sized; split = parts.1 }

pub in_front : (head rest file : List ℕ) (records : List Raw) → file ≡ head ++ rest → HalfHolds [] records rest → HalfHolds head records file
in_front head rest file records is held = record {
  gate = held.gate;
  rest = held.rest;
  closed = held.closed;
  sized = held.sized;
  split = is ∙ ap (λ (l : List ℕ). head ++ l) held.split ∙ sym (append_assoc head (blocks records) (held.gate ∷ held.rest));
}

-- a list of one head
pub the_only_head : (head other : List ℕ) → Contains (head ∷ []) other → other ≡ head
the_only_head head other (k, below, is) =
    let first : k ≡ 0 = omega (arith, below) in
    sym is ∙ ap (λ (n : ℕ). get_or (head ∷ []) n other) first

pub has_head : (head : List ℕ) → Contains (head ∷ []) head
has_head head = (0, omega arith, refl)

-- one piece more of the front of a file
pub front_more : (file front buf : List ℕ) (at count : ℕ) → at ≡ length front → front ≡ take (length front) file → length front ≤ length file → FileIsRead file at (length buf) count buf
    → (front ++ take count buf ≡ take (length (front ++ take count buf)) file) × (length (front ++ take count buf) ≤ length file)
front_more file front buf at count place is within read =
    let size : length (take count buf) ≡ count = omega (arith, length-take count buf, read.fits) in
    let whole : length (front ++ take count buf) ≡ length front + count = omega (arith, size, length-append front (take count buf)) in
    let back : List ℕ = drop (length front) file in
    let file_is : front ++ back ≡ file = ap (λ (l : List ℕ). l ++ back) is ∙ take-append-drop (length front) file in
    let more : take count buf ≡ take count back = read.bytes ∙ ap (λ (n : ℕ). take count (drop n file)) place in
    let long : take (length front + count) file ≡ front ++ take count back = ap (λ (l : List ℕ). take (length front + count) l) (sym file_is) ∙ take-append-add front back count in (
      ap (λ (l : List ℕ). front ++ l) more ∙ sym long ∙ ap (λ (n : ℕ). take n file) (sym whole),
      omega (arith, whole, within, place, read.within),
    )

-- the number in a front that has its bytes
same_number : (file front : List ℕ) → front ≡ take (length front) file → 22 ≤ length front → number_at w64 front 14 ≡ number_at w64 file 14
same_number file front is enough =
    let a : List ℕ = take 14 front in
    let b : List ℕ = drop 14 front in
    let d : List ℕ = take 8 b in
    let r : List ℕ = drop 8 b in
    let z : List ℕ = drop (length front) file in
    let long : length a ≡ 14 = omega (arith, length-take 14 front, enough) in
    let eight : length d ≡ 8 = omega (arith, length-take 8 b, length-drop 14 front, enough) in
    let parts : front ≡ a ++ (d ++ r) = sym (take-append-drop 14 front) ∙ ap (λ (l : List ℕ). a ++ l) (sym (take-append-drop 8 b)) in
    let whole : file ≡ a ++ (d ++ (r ++ z)) =
    sym (take-append-drop (length front) file) ∙ ap (λ (l : List ℕ). l ++ z) (sym is ∙ parts) ∙ append_assoc a (d ++ r) z ∙ ap (λ (l : List ℕ). a ++ l) (append_assoc d r z) in
    let here : (l rest : List ℕ) → l ≡ a ++ (d ++ rest) → number_at w64 l 14 ≡ Some (from_be_bytes w64 d) = λ l rest so.
    ap (λ (x : List ℕ). number_at w64 x 14) so ∙ ap (λ (n : ℕ). number_at w64 (a ++ (d ++ rest)) n) (sym long) ∙ number_at-append w64 a d rest eight in
    here front r parts ∙ sym (here file (r ++ z) whole)

pub same_first : (file front : List ℕ) → front ≡ take (length front) file → min 22 (length file) ≤ length front → first_number front ≡ first_number file
same_first file front is enough = elim (cases_lt (length front) (length file)) [
  | inl before ↦ ap (λ (o : Option ℕ). unwrap_or o 0) (same_number file front is (omega (arith, before, enough)))
  | inr past ↦ ap (λ (l : List ℕ). first_number l) (is ∙ take_all (length front) file (omega (arith, past)))
]
