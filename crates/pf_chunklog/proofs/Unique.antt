-- Bytes begin with one list of records only.
use Rattle.std.proofs.Common.{◌≡◌, ◌≢◌, ℕ, ◌<◌, ◌^◌, List, [], ◌∷◌, ◌++◌, length, take, drop, refl, sym, ◌∙◌, ap, append_assoc}
use Rattle.std.specs.List.{All}
use Rattle.std.specs.Int.{w32, to_be_bytes, from_be_bytes}
use Rattle.std.proofs.lemmas.List.{append-nil, take_at, drop_at, append_cancel_left}
use Rattle.std.proofs.lemmas.List.Elements.{All-head, All-tail}
use Rattle.std.proofs.lemmas.Nat.{from_be_bytes-to_be_bytes_4}
use Rattle.pf_chunklog.specs.Records.{Raw, HalfHolds, RecordIsSized, blocks, record_spelled}

-- two fronts of one length
pub same_parts : (xs ys s t : List ℕ) → length xs ≡ length ys → xs ++ s ≡ ys ++ t → (xs ≡ ys) × (s ≡ t)
same_parts xs ys s t size is = (
  sym (take_at xs s (length xs) refl) ∙ ap (λ (l : List ℕ). take (length xs) l) is ∙ take_at ys t (length xs) (sym size),
  sym (drop_at xs s (length xs) refl) ∙ ap (λ (l : List ℕ). drop (length xs) l) is ∙ drop_at ys t (length xs) (sym size),
)

four : (n : ℕ) → length (to_be_bytes w32 n) ≡ 4
four n = refl

same_number : (m n : ℕ) → m < 2 ^ 32 → n < 2 ^ 32 → to_be_bytes w32 m ≡ to_be_bytes w32 n → m ≡ n
same_number m n in_m in_n is = sym (from_be_bytes-to_be_bytes_4 m in_m) ∙ ap (λ (l : List ℕ). from_be_bytes w32 l) is ∙ from_be_bytes-to_be_bytes_4 n in_n

-- one record
pub same_record : (a b : Raw) (s t : List ℕ) → RecordIsSized a → RecordIsSized b → record_spelled a ++ s ≡ record_spelled b ++ t → (a ≡ b) × (s ≡ t)
same_record a b s t sized_a sized_b is =
    let kinds : (a.0 ∷ [] ≡ b.0 ∷ []) × ((to_be_bytes w32 (length a.1) ++ a.1) ++ s ≡ (to_be_bytes w32 (length b.1) ++ b.1) ++ t) = same_parts (a.0 ∷ []) (b.0 ∷ []) _ _ refl is in
    let kind : a.0 ≡ b.0 = cc (kinds.0) in
    let behind = same_parts (to_be_bytes w32 (length a.1)) (to_be_bytes w32 (length b.1)) (a.1 ++ s) (b.1 ++ t) refl
    (sym (append_assoc (to_be_bytes w32 (length a.1)) a.1 s) ∙ kinds.1 ∙ append_assoc (to_be_bytes w32 (length b.1)) b.1 t) in
    let sizes : length a.1 ≡ length b.1 = same_number (length a.1) (length b.1) sized_a sized_b behind.0 in
    let payloads = same_parts a.1 b.1 s t sizes behind.1 in
    (ap (λ (k : ℕ). (k, a.1)) kind ∙ ap (λ (p : List ℕ). (b.0, p)) payloads.0, payloads.1)

-- All records go on from these.
pub record GoesOn (records : List Raw) (rest : List ℕ) (all : List Raw) (end : List ℕ) : Type 0 where
  pub more : List Raw
  pub is : all ≡ records ++ more
  pub sized : All RecordIsSized more
  pub behind : rest ≡ blocks more ++ end

pub blocks_are : (raw : Raw) (records : List Raw) (rest : List ℕ) → blocks (raw ∷ records) ++ rest ≡ 1 ∷ (record_spelled raw ++ (blocks records ++ rest))
blocks_are raw records rest = ap (λ (l : List ℕ). 1 ∷ l) (append_assoc (record_spelled raw) (blocks records) rest)

same_tail : (a b : ℕ) (s t : List ℕ) → a ∷ s ≡ b ∷ t → s ≡ t
same_tail a b s t is = cc is

pub goes_on : (records : List Raw) (rest : List ℕ) (all : List Raw) (gate : ℕ) (tail : List ℕ) → All RecordIsSized records → All RecordIsSized all → gate ≢ 1
    → blocks records ++ rest ≡ blocks all ++ gate ∷ tail → GoesOn records rest all (gate ∷ tail)
goes_on [] rest all gate tail sized all_sized shut is = record { more = all; is = refl; sized = all_sized; behind = is }
goes_on (raw ∷ records) rest [] gate tail sized all_sized shut is =
    let one : 1 ≡ gate = cc (sym (blocks_are raw records rest) ∙ is) in
    absurd (shut (sym one))
goes_on (raw ∷ records) rest (other ∷ all) gate tail sized all_sized shut is =
    let both = same_record raw other (blocks records ++ rest) (blocks all ++ gate ∷ tail) (All-head RecordIsSized raw records sized) (All-head RecordIsSized other all all_sized)
    (same_tail 1 1 _ _ (sym (blocks_are raw records rest) ∙ is ∙ blocks_are other all (gate ∷ tail))) in
    let next = goes_on records rest all gate tail (All-tail RecordIsSized raw records sized) (All-tail RecordIsSized other all all_sized) shut both.1 in
    record {
      more = next.more;
      is = ap (λ (r : Raw). r ∷ all) (sym both.0) ∙ ap (λ (l : List Raw). raw ∷ l) next.is;
      sized = next.sized;
      behind = next.behind;
    }

-- behind the records of one list there is nothing of another
none_more : (records more : List Raw) (gate gate' : ℕ) (rest rest' : List ℕ) → gate ≢ 1 → gate ∷ rest ≡ blocks more ++ gate' ∷ rest' → records ++ more ≡ records
none_more records [] gate gate' rest rest' shut is = append-nil records
none_more records (raw ∷ more) gate gate' rest rest' shut is = let one : gate ≡ 1 = cc is in absurd (shut one)

pub one_list : (head : List ℕ) (records others : List Raw) (file : List ℕ) → HalfHolds head records file → HalfHolds head others file → others ≡ records
one_list head records others file a b =
    let behind : blocks records ++ a.gate ∷ a.rest ≡ blocks others ++ b.gate ∷ b.rest = append_cancel_left head (blocks records ++ a.gate ∷ a.rest) (blocks others ++ b.gate ∷ b.rest) (sym (append_assoc head (blocks records) (a.gate ∷ a.rest)) ∙ sym a.split ∙ b.split ∙ append_assoc head (blocks others) (b.gate ∷ b.rest)) in
    let on = goes_on records (a.gate ∷ a.rest) others b.gate b.rest a.sized b.sized b.closed behind in
    on.is ∙ none_more records on.more a.gate b.gate a.rest b.rest a.closed on.behind

-- no block stands at the front, and no closed gate
pub none_left : (bytes : List ℕ) (records : List Raw) (gate : ℕ) (tail : List ℕ)
    → ((raw : Raw) (rest : List ℕ) → RecordIsSized raw → bytes ≡ blocks (raw ∷ []) ++ rest → ⊥)
    → ((gate : ℕ) (rest : List ℕ) → bytes ≡ gate ∷ rest → gate ≡ 1) → All RecordIsSized records → gate ≢ 1 → bytes ≡ blocks records ++ gate ∷ tail → ⊥
none_left bytes [] gate tail no_block no_gate sized shut is = shut (no_gate gate tail is)
none_left bytes (raw ∷ records) gate tail no_block no_gate sized shut is =
    no_block raw (blocks records ++ gate ∷ tail) (All-head RecordIsSized raw records sized)
    (is ∙ blocks_are raw records (gate ∷ tail) ∙ sym (blocks_are raw [] (blocks records ++ gate ∷ tail)))
