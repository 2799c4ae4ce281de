-- What is made of a half that was found.
use Rattle.std.proofs.Common.{◌≡◌, ℕ, ◌+◌, length, Option, Some, None, IfSome, IsNone, Result, Ok, Err, OnErr, ◌^◌, ◌<◌, List, [], ◌∷◌, ◌++◌, is_some, slice_index, refl, sym, ◌∙◌, ap, subst, arith, append_assoc, length-append}
use Rattle.std.specs.Int.{w32, w64, to_be_bytes}
use Rattle.std.specs.Option.{unwrap_or}
use Rattle.pf_base.specs.Numbers.{number_at}
use Rattle.pf_base.proofs.Spellings.{reads_u64}
use Rattle.pf_entry.specs.declared.records.Record.{Record}
use Rattle.pf_entry.specs.declared.records.Record.TheVariants.{Image, Term, Entry, Merged}
use Rattle.pf_codec.specs.Spelling.{log_bytes, number, payload_bytes, sectors_bytes, slots_bytes, starts_bytes}
use Rattle.pf_disk.specs.Crashes.{Images, Only}
use Rattle.pf_chunklog.specs.Records.{HalfHolds, Raw, blocks, first_number}
use Rattle.pf_chunklog.specs.Logs.{LogIsAtRest, IsOnlyRead}
use Rattle.pf_chunklog.specs.declared.log.ChunkLog.{ChunkLog}
use Rattle.pf_chunklog.specs.declared.records.Opened.{Opened}
use Rattle.pf_chunklog.proofs.Steps.{if_some, told, was_told}
use Rattle.pf_chunklog.proofs.Unique.{blocks_are}
use Rattle.pf_image.specs.Halves.{half_head, of_half, other}
use Rattle.pf_image.specs.Recovery.{AreRecoverable, HalfIsBehind, IsFormat, IsHead, IsOlder, IsRecoverable, SpellsRecord, generation, generation_in}
use Rattle.pf_image.specs.Found.{FoundIsSound, HalfIsFound, IsUsable}
use Rattle.pf_image.specs.Current.{IsCurrent, LogIsReady}
use Rattle.pf_image.specs.Pairs.{PairIsWhole, PairStandsStill, current_of, format_of, spare_of}
use Rattle.pf_image.specs.declared.halves.Half.{Half}
use Rattle.pf_image.specs.declared.halves.Half.TheVariants.{Zero, One}
use Rattle.pf_image.specs.declared.pair.Pair.{Pair}
use Rattle.pf_image.specs.declared.recovery.FoundRecords.{FoundRecords}
use Rattle.pf_image.proofs.Files.{was_recoverable}
use Rattle.pf_image.proofs.Logs as logs

-- what was read of a half, where its records spell what those of a recoverable half do
pub found_of : {D : Type 0} (seen : D → Option (List ℕ)) (may_leave : D → Images) (head : List ℕ) (half : Half) (was now : D) (read : Option Opened) (found : FoundRecords) → read ≡ Some found.opened → FoundIsSound found
    → IfSome (seen was) (λ file. IfSome read (λ (o : Opened). LogIsAtRest o.head o.used (may_leave now) o.records file)) → IfSome read (λ (o : Opened). IsHead head o.head half)
    → IfSome read (λ (o : Opened). (o.used ≡ 9 + length (blocks o.records)) × (o.used < 2 ^ 64)) → HalfIsFound seen may_leave head half was now found
found_of seen may_leave head half was now read found is sound rest listed size = record {
  listed = told read found.opened (λ (o : Opened). IsHead head o.head half) is listed;
  size = (told read found.opened (λ (o : Opened). (o.used ≡ 9 + length (blocks o.records)) × (o.used < 2 ^ 64)) is size).0;
  word = (told read found.opened (λ (o : Opened). (o.used ≡ 9 + length (blocks o.records)) × (o.used < 2 ^ 64)) is size).1;
  sound = sound;
  rest = if_some (seen was) (LogIsAtRest found.opened.head found.opened.used (may_leave now) found.opened.records) (λ file seen_file.
      told read found.opened (λ (o : Opened). LogIsAtRest o.head o.used (may_leave now) o.records file) is (told (seen was) file (λ (f : List ℕ). IfSome read (λ (o : Opened). LogIsAtRest o.head o.used (may_leave now) o.records f)) seen_file rest));
}

-- and where they do not
pub none_found : (head : List ℕ) (half : Half) (file : List ℕ) (images : Images) (read : Option Opened) → IfSome read (λ (o : Opened). LogIsAtRest o.head o.used images o.records file) → IfSome read (λ (o : Opened). IsHead head o.head half)
    → (IsNone read → (records : List Raw) → IsRecoverable head half file records → ⊥) → IfSome read (λ (o : Opened). IsUsable o → ⊥) → (records : List Raw) → IsRecoverable head half file records → ⊥
none_found head half file images None rest listed none unusable records is = none refl records is
none_found head half file images (Some o) rest listed none unusable records is = unusable (was_recoverable head o.head file half o.records records listed rest.held is)

-- the payload of an image begins with its generation
image_begins : (format : ℕ) (raw : Raw) (r : Record) (before rest : List ℕ) → length before ≡ 14 → raw.0 ≡ 1 → SpellsRecord format raw r → unwrap_or (number_at w64 (before ++ (raw.1 ++ rest)) 14) 0 ≡ generation_in raw
unfolding payload_bytes number
image_begins format raw (Image its term vote applied sectors) before rest long kind spells =
    let more : List ℕ = number w64 term ++ (number w64 vote.base ++ (starts_bytes vote.starts ++ (slots_bytes applied ++ (log_bytes vote.log ++ sectors_bytes sectors)))) in
    let is : raw.1 ≡ to_be_bytes w64 its ++ more = sym spells.payload in
    let here : generation_in raw ≡ its = ap (λ (l : List ℕ). unwrap_or (number_at w64 l 0) 0) is ∙ ap (λ (o : Option ℕ). unwrap_or o 0) (reads_u64 [] more its spells.fits.0) in
    let there : number_at w64 (before ++ (raw.1 ++ rest)) 14 ≡ Some its =
    ap (λ (l : List ℕ). number_at w64 (before ++ l) 14) (ap (λ (l : List ℕ). l ++ rest) is ∙ append_assoc (to_be_bytes w64 its) more rest)
    ∙ ap (λ (n : ℕ). number_at w64 (before ++ (to_be_bytes w64 its ++ (more ++ rest))) n) (sym long) ∙ reads_u64 before (more ++ rest) its spells.fits.0 in
    ap (λ (o : Option ℕ). unwrap_or o 0) there ∙ sym here
image_begins format raw (Term term) before rest long kind spells = let two : 2 ≡ 1 = spells.kind ∙ kind in absurd (cc two)
image_begins format raw (Entry e) before rest long kind spells = let three : 3 ≡ 1 = spells.kind ∙ kind in absurd (cc three)
image_begins format raw (Merged term first es) before rest long kind spells = let four : 4 ≡ 1 = spells.kind ∙ kind in absurd (cc four)

-- the number in the front of a recoverable half
first_is : (head : List ℕ) (half : Half) (file : List ℕ) (records : List Raw) → IsRecoverable head half file records → first_number file ≡ generation records
first_is head half file [] found = absurd found.recoverable
first_is head half file (image ∷ changes) found =
    let front : List ℕ = half_head head found.format half in
    let size : List ℕ = to_be_bytes w32 (length image.1) in
    let end : List ℕ = found.held.gate ∷ found.held.rest in
    let before : List ℕ = front ++ 1 ∷ image.0 ∷ size in
    let behind : List ℕ = blocks changes ++ end in
    let long : length before ≡ 14 = omega (arith, length-append front (1 ∷ image.0 ∷ size)) in
    let is : file ≡ before ++ (image.1 ++ behind) =
    found.held.split ∙ append_assoc front (blocks (image ∷ changes)) end ∙ ap (λ (l : List ℕ). front ++ l) (blocks_are image changes end)
    ∙ ap (λ (l : List ℕ). front ++ 1 ∷ image.0 ∷ l) (append_assoc size image.1 behind) ∙ sym (append_assoc front (1 ∷ image.0 ∷ size) (image.1 ++ behind)) in
    ap (λ (l : List ℕ). first_number l) is ∙ image_begins found.format image found.recoverable.0.1.0 before behind long found.recoverable.0.0 found.recoverable.0.1.1

behind_as : (half : Half) (a b m n : ℕ) → a ≡ m → b ≡ n → HalfIsBehind half a b → HalfIsBehind half m n
behind_as half a b m n is so behind = subst (λ (k : ℕ). HalfIsBehind half m k) so (subst (λ (k : ℕ). HalfIsBehind half k b) is behind)

-- what is recoverable in a half whose number is behind that of a recoverable one is older
pub is_older : (head : List ℕ) (half : Half) (file spare_file : List ℕ) (records : List Raw) → IsRecoverable head half file records → HalfIsBehind (other half) (first_number spare_file) (first_number file)
    → IsOlder head (other half) spare_file (generation records)
is_older head half file spare_file records mine behind others theirs =
    behind_as (other half) (first_number spare_file) (first_number file) (generation others) (generation records) (first_is head (other half) spare_file others theirs) (first_is head half file records mine) behind

-- what was found is recoverable
pub recoverable : {D : Type 0} (seen : D → Option (List ℕ)) (may_leave : D → Images) (head : List ℕ) (half : Half) (was now : D) (found : FoundRecords) (file : List ℕ) → HalfIsFound seen may_leave head half was now found → seen was ≡ Some file
    → IsRecoverable head half file found.opened.records
recoverable seen may_leave head half was now found file is seen_file = record {
  format = slice_index found.opened.head 4;
  known = is.listed.known;
  held = subst (λ (h : List ℕ). HalfHolds h found.opened.records file) is.listed.is (told (seen was) file (LogIsAtRest found.opened.head found.opened.used (may_leave now) found.opened.records) seen_file is.rest).held;
  recoverable = is.sound.usable;
}

-- a disk that was seen to hold the same before, and one that is the same now
pub found_since : {D : Type 0} (seen : D → Option (List ℕ)) (may_leave : D → Images) (head : List ℕ) (half : Half) (was mid now : D) (found : FoundRecords) → seen mid ≡ seen was → HalfIsFound seen may_leave head half mid now found
    → HalfIsFound seen may_leave head half was now found
found_since seen may_leave head half was mid now found same is = record {
  listed = is.listed;
  size = is.size;
  word = is.word;
  sound = is.sound;
  rest = subst (λ (o : Option (List ℕ)). IfSome o (LogIsAtRest found.opened.head found.opened.used (may_leave now) found.opened.records)) same is.rest;
}

pub seen_half : {D : Type 0} (seen : D → Option (List ℕ)) (half : Half) (a b : ChunkLog D) (zero one : List ℕ) → seen a.disk ≡ Some zero → seen b.disk ≡ Some one → seen (of_half half a b).disk ≡ Some (of_half half zero one)
seen_half seen Zero a b zero one is so = is
seen_half seen One a b zero one is so = so

pub same_half : {D X : Type 0} (f : ChunkLog D → X) (half : Half) (a b c d : ChunkLog D) → f a ≡ f c → f b ≡ f d → f (of_half half a b) ≡ f (of_half half c d)
same_half f Zero a b c d is so = is
same_half f One a b c d is so = so

-- the other half is older than what was found in the one that comes first
pub first_found : {D : Type 0} (seen : D → Option (List ℕ)) (may_leave : D → Images) (head : List ℕ) (half : Half) (a b : ChunkLog D) (now : D) (found : FoundRecords) (zero one : List ℕ) → seen a.disk ≡ Some zero → seen b.disk ≡ Some one
    → HalfIsFound seen may_leave head half (of_half half a b).disk now found → HalfIsBehind (other half) (first_number (of_half (other half) zero one)) (first_number (of_half half zero one))
    → IsOlder head (other half) (of_half (other half) zero one) (generation found.opened.records)
first_found seen may_leave head half a b now found zero one is_zero is_one is behind =
    is_older head half (of_half half zero one) (of_half (other half) zero one) found.opened.records
    (recoverable seen may_leave head half (of_half half a b).disk now found (of_half half zero one) is (seen_half seen half a b zero one is_zero is_one)) behind

-- nothing is recoverable in a half
abbrev pub IsLost : List ℕ → (zero one : List ℕ) → Half → Type 0
IsLost head zero one half = (records : List Raw) → IsRecoverable head half (of_half half zero one) records → ⊥

pub is_lost : {D X : Type 0} (seen : D → Option (List ℕ)) (head whole : List ℕ) (half : Half) (a b : ChunkLog D) (zero one : List ℕ) (read : Option X) → whole ≡ head → seen a.disk ≡ Some zero → seen b.disk ≡ Some one → IsNone read
    → IfSome (seen (of_half half a b).disk) (λ file. IsNone read → (records : List Raw) → IsRecoverable whole half file records → ⊥) → IsLost head zero one half
is_lost seen head whole half a b zero one read same is_zero is_one none lost records found =
    told (seen (of_half half a b).disk) (of_half half zero one) (λ (file : List ℕ). IsNone read → (others : List Raw) → IsRecoverable whole half file others → ⊥) (seen_half seen half a b zero one is_zero is_one) lost none records
    (subst (λ (h : List ℕ). IsRecoverable h half (of_half half zero one) records) (sym same) found)

other_twice : (half : Half) → other (other half) ≡ half
other_twice Zero = refl
other_twice One = refl

pub lost_older : (head zero one : List ℕ) (half spare : Half) (n : ℕ) → spare ≡ other half → IsLost head zero one half → IsOlder head (other spare) (of_half (other spare) zero one) n
lost_older head zero one half spare n is lost =
    subst (λ (k : Half). IsOlder head k (of_half k zero one) n) (sym (ap other is ∙ other_twice half)) (λ records found. absurd (lost records found))

both_halves : (P : Half → Type 0) (half : Half) → P half → P (other half) → (k : Half) → P k
both_halves P Zero mine theirs Zero = mine
both_halves P Zero mine theirs One = theirs
both_halves P One mine theirs Zero = theirs
both_halves P One mine theirs One = mine

pub both_lost : (head zero one : List ℕ) (half spare : Half) → spare ≡ other half → IsLost head zero one half → IsLost head zero one spare → (k : Half) → IsLost head zero one k
both_lost head zero one half spare is mine theirs = both_halves (IsLost head zero one) half mine (subst (IsLost head zero one) is theirs)

-- its log is current, where the other half is older
pub loaded : {D : Type 0} (seen : D → Option (List ℕ)) (may_leave : D → Images) (head : List ℕ) (half : Half) (was : D) (found : FoundRecords) (file spare_file : List ℕ) (log spare_log : ChunkLog D)
    → HalfIsFound seen may_leave head half was log.disk found → seen was ≡ Some file → seen log.disk ≡ Some file → seen spare_log.disk ≡ Some spare_file → Only spare_file (may_leave spare_log.disk)
    → IsOlder head (other half) spare_file (generation found.opened.records) → log.head ≡ found.opened.head → log.used ≡ found.opened.used → IsCurrent seen may_leave head half log spare_log found.opened.records
loaded seen may_leave head half was found file spare_file log spare_log is seen_was seen_file seen_spare only older head_is used_is =
    let rest = told (seen was) file (LogIsAtRest found.opened.head found.opened.used (may_leave log.disk) found.opened.records) seen_was is.rest in
    record {
      file = file;
      is_seen = seen_file;
      rest = subst (λ (h : List ℕ). LogIsAtRest h log.used (may_leave log.disk) found.opened.records file) (sym head_is) (subst (λ (n : ℕ). LogIsAtRest found.opened.head n (may_leave log.disk) found.opened.records file) (sym used_is) rest);
      head_is = head_is ∙ is.listed.is ∙ ap (λ (h : List ℕ). half_head head (slice_index h 4) half) (sym head_is);
      known = subst (λ (h : List ℕ). IsFormat (slice_index h 4)) (sym head_is) is.listed.known;
      recoverable = subst (λ (h : List ℕ). AreRecoverable (slice_index h 4) found.opened.records) (sym head_is) is.sound.usable;
      told = ap (λ (o : Option (List ℕ)). is_some o) seen_spare;
      older = λ c left. subst (λ (x : List ℕ). IsOlder head (other half) x (generation found.opened.records)) (sym (only c left)) older;
    }

module _ {D : Type 0} (seen : D → Option (List ℕ)) (may_leave : D → Images) (head : List ℕ) (found : FoundRecords) (old new : Pair D) (zero one : List ℕ) (zero_was : seen old.zero.disk ≡ Some zero) (one_was : seen old.one.disk ≡ Some one)
    (zero_is : seen new.zero.disk ≡ Some zero) (one_is : seen new.one.disk ≡ Some one) (zero_only : Only zero (may_leave new.zero.disk)) (one_only : Only one (may_leave new.one.disk)) where
  pub pair_loaded : (half : Half) → HalfIsFound seen may_leave head half (of_half half old.zero old.one).disk (of_half half new.zero new.one).disk found → IsOlder head (other half) (of_half (other half) zero one) (generation found.opened.records)
      → (of_half half new.zero new.one).head ≡ found.opened.head → (of_half half new.zero new.one).used ≡ found.opened.used → IsCurrent seen may_leave head half (of_half half new.zero new.one) (of_half (other half) new.zero new.one) found.opened.records
  pair_loaded Zero is older head_is used_is = loaded seen may_leave head Zero old.zero.disk found zero one new.zero new.one is zero_was zero_is one_is one_only older head_is used_is
  pair_loaded One is older head_is used_is = loaded seen may_leave head One old.one.disk found one zero new.one new.zero is one_was one_is zero_is zero_only older head_is used_is

-- the log of the half that was found goes on, also where the other disk does not tell its content
pub then_ready : {D : Type 0} (seen : D → Option (List ℕ)) (may_leave : D → Images) (head : List ℕ) (half : Half) (was : D) (found : FoundRecords) (log : ChunkLog D) → HalfIsFound seen may_leave head half was log.disk found → seen log.disk ≡ seen was
    → log.head ≡ found.opened.head → log.used ≡ found.opened.used → LogIsReady seen may_leave log
then_ready seen may_leave head half was found log is same head_is used_is =
    if_some (seen log.disk) (λ (file : List ℕ). (records : List Raw) × LogIsAtRest log.head log.used (may_leave log.disk) records file) (λ file is_seen.
    let rest = told (seen was) file (LogIsAtRest found.opened.head found.opened.used (may_leave log.disk) found.opened.records) (sym same ∙ is_seen) is.rest in (
      found.opened.records,
      subst (λ (h : List ℕ). LogIsAtRest h log.used (may_leave log.disk) found.opened.records file) (sym head_is) (subst (λ (n : ℕ). LogIsAtRest found.opened.head n (may_leave log.disk) found.opened.records file) (sym used_is) rest),
    ))

-- after calls that wrote nothing
pub still_ready : {D : Type 0} (seen : D → Option (List ℕ)) (may_leave : D → Images) (old new : ChunkLog D) → new.head ≡ old.head → new.used ≡ old.used → IsOnlyRead seen may_leave old.disk new.disk
    → LogIsReady seen may_leave old → LogIsReady seen may_leave new
still_ready seen may_leave old new head_same used_same only ready =
    if_some (seen new.disk) (λ (file : List ℕ). (records : List Raw) × LogIsAtRest new.head new.used (may_leave new.disk) records file) (λ file is_seen.
    let was = told (seen old.disk) file _ (sym only.same ∙ is_seen) ready in (
      was.0,
      record {
        held = subst (λ (h : List ℕ). HalfHolds h was.0 file) (sym head_same) was.1.held;
        size = used_same ∙ was.1.size ∙ ap (λ (h : List ℕ). length h + length (blocks was.0) + 1) (sym head_same);
        durable = λ c left. was.1.durable c (only.keeps c left);
      },
    ))

-- a pair whose disks were only read has what it had
module _ {D : Type 0} (seen : D → Option (List ℕ)) (may_leave : D → Images) (old new : Pair D) (still : PairStandsStill old new) where
  pub same_stand : ((current_of new).used ≡ (current_of old).used) × (format_of new ≡ format_of old)
  same_stand = (
    ap (λ (h : Half). (of_half h new.zero new.one).used) still.current ∙ same_half (λ (l : ChunkLog D). l.used) old.current new.zero new.one old.zero old.one still.zero_used still.one_used,
    ap (λ (h : Half). slice_index (of_half h new.zero new.one).head 4) still.current
        ∙ same_half (λ (l : ChunkLog D). slice_index l.head 4) old.current new.zero new.one old.zero old.one (ap (λ (l : List ℕ). slice_index l 4) still.zero_head) (ap (λ (l : List ℕ). slice_index l 4) still.one_head),
  )

  module _ (zero : IsOnlyRead seen may_leave old.zero.disk new.zero.disk) (one : IsOnlyRead seen may_leave old.one.disk new.one.disk) where
    still_current : (records : List Raw) (half : Half) → IsCurrent seen may_leave old.head half (of_half half old.zero old.one) (of_half (other half) old.zero old.one) records
        → IsCurrent seen may_leave old.head half (of_half half new.zero new.one) (of_half (other half) new.zero new.one) records
    still_current records Zero whole = logs.only_read seen may_leave old.head Zero old.zero old.one records whole new.zero new.one still.zero_head still.zero_used zero.same zero.keeps one.same one.keeps
    still_current records One whole = logs.only_read seen may_leave old.head One old.one old.zero records whole new.one new.zero still.one_head still.one_used one.same one.keeps zero.same zero.keeps

    pub still_whole : (records : List Raw) → PairIsWhole seen may_leave old records → PairIsWhole seen may_leave new records
    still_whole records whole =
        subst (λ (h : List ℕ). IsCurrent seen may_leave h new.current (current_of new) (spare_of new) records) (sym still.head)
        (subst (λ (k : Half). IsCurrent seen may_leave old.head k (of_half k new.zero new.one) (of_half (other k) new.zero new.one) records) (sym still.current) (still_current records old.current whole))

    ready_half : (half : Half) → LogIsReady seen may_leave (of_half half old.zero old.one) → LogIsReady seen may_leave (of_half half new.zero new.one)
    ready_half Zero ready = still_ready seen may_leave old.zero new.zero still.zero_head still.zero_used zero ready
    ready_half One ready = still_ready seen may_leave old.one new.one still.one_head still.one_used one ready

    pub pair_ready : LogIsReady seen may_leave (current_of old) → LogIsReady seen may_leave (current_of new)
    pair_ready ready = subst (λ (k : Half). LogIsReady seen may_leave (of_half k new.zero new.one)) (sym still.current) (ready_half old.current ready)

-- a log that was begun with a record
pub begun_ready : {D : Type 0} (seen : D → Option (List ℕ)) (may_leave : D → Images) (was : D) (new : ChunkLog D) (head : List ℕ) (raw : Raw) → is_some (seen new.disk) ≡ is_some (seen was) → new.head ≡ head
    → IfSome (seen was) (λ _. IfSome (seen new.disk) (LogIsAtRest head new.used (may_leave new.disk) (raw ∷ []))) → LogIsReady seen may_leave new
begun_ready seen may_leave was new head raw told_same head_is begun =
    if_some (seen new.disk) (λ (file : List ℕ). (records : List Raw) × LogIsAtRest new.head new.used (may_leave new.disk) records file) (λ file is_seen.
    let before = was_told (seen was) (seen new.disk) file told_same is_seen in (
      raw ∷ [],
      subst (λ (h : List ℕ). LogIsAtRest h new.used (may_leave new.disk) (raw ∷ []) file) (sym head_is) (told (seen new.disk) file _ is_seen (told (seen was) before.0 _ before.1 begun)),
    ))

pub if_err : {T E P : Type 0} (r : Result T E) → P → OnErr r P
if_err (Ok x) p = tt
if_err (Err e) p = p
