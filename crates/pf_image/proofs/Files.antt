-- What the files of two halves hold.
use Rattle.std.proofs.Common.{◌≡◌, ◌⊎◌, inl, inr, ℕ, ◌+◌, ◌<◌, ◌≤◌, zero, suc, List, [], ◌∷◌, ◌++◌, length, Contains, slice_index, Result, Err, refl, sym, ◌∙◌, ap, subst, arith, append_assoc, length-append}
use Rattle.std.specs.Result.{IsErrOf}
use Rattle.std.proofs.lemmas.List.Elements.{All-nil, All-push}
use Rattle.pf_chunklog.specs.Records.{Raw, HalfHolds, blocks}
use Rattle.pf_chunklog.proofs.Unique.{one_list, same_parts}
use Rattle.pf_disk.specs.Crashes.{Images}
use Rattle.pf_image.specs.Halves.{half_head, of_half, other}
use Rattle.pf_image.specs.Recovery.{AreRecoverable, Content, Finds, FindsIn, IsChange, IsFormat, IsHead, IsImageKind, IsLaterImage, IsOlder, IsRecoverable, RestartTakes, generation, generation_in}
use Rattle.pf_image.specs.Current.{IsBegun}
use Rattle.pf_image.specs.declared.halves.Half.{Half}
use Rattle.pf_image.specs.declared.halves.Half.TheVariants.{Zero, One}

-- a file begins with one head of eight bytes, and holds one list of records behind it
same_head : (head other file : List ℕ) (records others : List Raw) → length head ≡ length other → HalfHolds head records file → HalfHolds other others file → other ≡ head
same_head head other file records others size a b =
    let parts = same_parts head other (blocks records ++ a.gate ∷ a.rest) (blocks others ++ b.gate ∷ b.rest) size
    (sym (append_assoc head (blocks records) (a.gate ∷ a.rest)) ∙ sym a.split ∙ b.split ∙ append_assoc other (blocks others) (b.gate ∷ b.rest)) in
    sym parts.0

pub one_holds : (head other file : List ℕ) (records others : List Raw) → length head ≡ length other → HalfHolds head records file → HalfHolds other others file → others ≡ records
one_holds head other file records others size a b =
    one_list head records others file a (subst (λ (h : List ℕ). HalfHolds h others file) (same_head head other file records others size a b) b)

pub one_recoverable : (head : List ℕ) (half : Half) (file : List ℕ) (records others : List Raw) → IsRecoverable head half file records → IsRecoverable head half file others → others ≡ records
one_recoverable head half file records others a b = one_holds (half_head head a.format half) (half_head head b.format half) file records others refl a.held b.held

-- a restart finds one list of records
pub one_found : (head zero one : List ℕ) (records others : List Raw) → Finds head zero one records → Finds head zero one others → others ≡ records
one_found head first second records others (Zero, a) (Zero, b) = one_recoverable head Zero first records others a.recoverable b.recoverable
one_found head first second records others (One, a) (One, b) = one_recoverable head One second records others a.recoverable b.recoverable
one_found head first second records others (Zero, a) (One, b) = absurd (omega (arith, a.older others b.recoverable, b.older records a.recoverable))
one_found head first second records others (One, a) (Zero, b) = absurd (omega (arith, a.older others b.recoverable, b.older records a.recoverable))

-- a front of an older file
pub front_older : (head : List ℕ) (half : Half) (whole file rest : List ℕ) (current : ℕ) → whole ≡ file ++ rest → IsOlder head half whole current → IsOlder head half file current
front_older head half whole file rest current is older = λ records found. older records (record {
  format = found.format;
  known = found.known;
  held = record {
    gate = found.held.gate;
    rest = found.held.rest ++ rest;
    closed = found.held.closed;
    sized = found.held.sized;
    split = is ∙ ap (λ (l : List ℕ). l ++ rest) found.held.split ∙ append_assoc (half_head head found.format half ++ blocks records) (found.held.gate ∷ found.held.rest) rest;
  };
  recoverable = found.recoverable;
})

-- a file without a record
long_file : (head : List ℕ) (image : Raw) (changes : List Raw) (file : List ℕ) → length head ≡ 8 → HalfHolds head (image ∷ changes) file → 9 < length file
long_file head image changes file size held =
    omega (arith, size, ap length held.split, length-append (head ++ blocks (image ∷ changes)) (held.gate ∷ held.rest), length-append head (blocks (image ∷ changes)))

pub short_older : (head : List ℕ) (half : Half) (file : List ℕ) (current : ℕ) → length file ≤ 9 → IsOlder head half file current
short_older head half file current short [] found = absurd found.recoverable
short_older head half file current short (image ∷ changes) found =
    absurd (omega (arith, short, long_file (half_head head found.format half) image changes file refl found.held))

pub no_record_older : (head : List ℕ) (half : Half) (file : List ℕ) (format current : ℕ) → HalfHolds (half_head head format half) [] file → IsOlder head half file current
no_record_older head half file format current held [] found = absurd found.recoverable
no_record_older head half file format current held (image ∷ changes) found =
    let none : image ∷ changes ≡ [] = one_holds (half_head head format half) (half_head head found.format half) file [] (image ∷ changes) refl held found.held in
    absurd (cc none)

-- what a crash leaves of a half that is begun with an image
pub begun_older : (head : List ℕ) (half : Half) (old : Images) (raw : Raw) (current : ℕ) (file : List ℕ) → ((c : List ℕ) → old c → IsOlder head half c current)
    → IsBegun old (half_head head 2 half) raw file → IsOlder head half file current ⊎ HalfHolds (half_head head 2 half) (raw ∷ []) file
begun_older head half old raw current file older (inl (inl (whole, rest, left, is))) = inl (front_older head half whole file rest current is (older whole left))
begun_older head half old raw current file older (inl (inr short)) = inl (short_older head half file current short)
begun_older head half old raw current file older (inr (inl held)) = inl (no_record_older head half file 2 current held)
begun_older head half old raw current file older (inr (inr held)) = inr held

-- the file of the current half, once an image of the next generation is saved
pub then_older : (head : List ℕ) (half : Half) (file : List ℕ) (records : List Raw) (raw : Raw) → IsRecoverable head half file records → IsLaterImage records raw → IsOlder head half file (generation (raw ∷ []))
then_older head Zero file records raw found next others other =
    let same : generation others ≡ generation records = ap generation (one_recoverable head Zero file records others found other) in
    let after : generation_in raw ≡ generation records + 1 = next.next in
    omega (arith, same, after)
then_older head One file records raw found next others other =
    let same : generation others ≡ generation records = ap generation (one_recoverable head One file records others found other) in
    let after : generation_in raw ≡ generation records + 1 = next.next in
    omega (arith, same, after)

-- the image alone
abbrev pub image_alone : (head : List ℕ) (half : Half) (file : List ℕ) (raw : Raw) (format : ℕ) → IsFormat format → IsImageKind format raw → HalfHolds (half_head head format half) (raw ∷ []) file → IsRecoverable head half file (raw ∷ [])
image_alone head half file raw format known image held = record { format = format; known = known; held = held; recoverable = (image, All-nil (IsChange format)) }

-- one change more
pub recoverable_more : (format : ℕ) (records : List Raw) (raw : Raw) → AreRecoverable format records → IsChange format raw → AreRecoverable format (records ++ raw ∷ [])
recoverable_more format [] raw found change = absurd found
recoverable_more format (image ∷ changes) raw found change = (found.0, All-push (IsChange format) changes raw found.1 change)

pub generation_more : (format : ℕ) (records : List Raw) (raw : Raw) → AreRecoverable format records → generation (records ++ raw ∷ []) ≡ generation records
generation_more format [] raw found = absurd found
generation_more format (image ∷ changes) raw found = refl

-- the heads of a half in the two formats
pub is_listed : (head first second : List ℕ) (half : Half) (format : ℕ) → first ≡ half_head head 1 half → second ≡ half_head head 2 half → IsFormat format → Contains (first ∷ second ∷ []) (half_head head format half)
is_listed head first second half format is_first is_second (inl one) = (0, omega arith, is_first ∙ ap (λ (f : ℕ). half_head head f half) (sym one))
is_listed head first second half format is_first is_second (inr two) = (1, omega arith, is_second ∙ ap (λ (f : ℕ). half_head head f half) (sym two))

at_format : (head whole : List ℕ) (half : Half) (format : ℕ) → whole ≡ half_head head format half → IsFormat format → IsHead head whole half
at_format head whole half format is known =
    let fifth : slice_index whole 4 ≡ format = ap (λ (l : List ℕ). slice_index l 4) is in
    record { known = subst IsFormat (sym fifth) known; is = is ∙ ap (λ (f : ℕ). half_head head f half) (sym fifth) }

pub head_listed : (head first second whole : List ℕ) (half : Half) → first ≡ half_head head 1 half → second ≡ half_head head 2 half → Contains (first ∷ second ∷ []) whole → IsHead head whole half
head_listed head first second whole half is_first is_second (zero, below, is) = at_format head whole half 1 (sym is ∙ is_first) (inl refl)
head_listed head first second whole half is_first is_second (suc zero, below, is) = at_format head whole half 2 (sym is ∙ is_second) (inr refl)
head_listed head first second whole half is_first is_second (suc (suc k), below, is) = absurd (omega (arith, below))

pub long_head : (head whole : List ℕ) (half : Half) → IsHead head whole half → length whole ≡ 8
long_head head whole half is = ap length (is.is)

-- a recoverable half and what was read of it
pub same_records : (head whole file : List ℕ) (half : Half) (records others : List Raw) → IsHead head whole half → HalfHolds whole records file → IsRecoverable head half file others → others ≡ records
same_records head whole file half records others is held found = one_holds whole (half_head head found.format half) file records others (long_head head whole half is) held found.held

same_format : (head whole file : List ℕ) (half : Half) (records others : List Raw) → IsHead head whole half → HalfHolds whole records file → (found : IsRecoverable head half file others) → found.format ≡ slice_index whole 4
same_format head whole file half records others is held found =
    ap (λ (l : List ℕ). slice_index l 4) (same_head whole (half_head head found.format half) file records others (long_head head whole half is) held found.held)

pub was_recoverable : (head whole file : List ℕ) (half : Half) (records others : List Raw) → IsHead head whole half → HalfHolds whole records file → IsRecoverable head half file others → AreRecoverable (slice_index whole 4) records
was_recoverable head whole file half records others is held found =
    subst (λ (f : ℕ). AreRecoverable f records) (same_format head whole file half records others is held found) (subst (λ (l : List Raw). AreRecoverable found.format l) (same_records head whole file half records others is held found) found.recoverable)

-- the head that was read has the format that a restart finds
format_found : (head first second : List ℕ) (half : Half) (whole : List ℕ) (records others : List Raw) → IsHead head whole half → HalfHolds whole records (of_half half first second)
    → RestartTakes head half (of_half half first second) (of_half (other half) first second) records → (found : Finds head first second others) → found.1.recoverable.format ≡ slice_index whole 4
format_found head first second Zero whole records others is held mine (Zero, b) = same_format head whole first Zero records others is held b.recoverable
format_found head first second One whole records others is held mine (One, b) = same_format head whole second One records others is held b.recoverable
format_found head first second Zero whole records others is held mine (One, b) = absurd (omega (arith, mine.older others b.recoverable, b.older records mine.recoverable))
format_found head first second One whole records others is held mine (Zero, b) = absurd (omega (arith, mine.older others b.recoverable, b.older records mine.recoverable))

pub one_content : (head first second : List ℕ) (half : Half) (whole : List ℕ) (records : List Raw) (content : Content) → IsHead head whole half → HalfHolds whole records (of_half half first second)
    → RestartTakes head half (of_half half first second) (of_half (other half) first second) records → FindsIn head first second content → (records ≡ content.1) × (slice_index whole 4 ≡ content.0)
one_content head first second half whole records content is held mine found = (
  one_found head first second content.1 records found.found (half, mine),
  sym (format_found head first second half whole records content.1 is held mine found.found) ∙ found.format_is,
)

pub err_of : {T E : Type 0} (a b : E) → a ≡ b → IsErrOf {T = T} {E = E} (Err a) b
err_of {T = T} {E = E} a b is =
    let make : E → Result T E = λ e. Err e in
    ap make is
