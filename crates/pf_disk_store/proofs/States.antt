-- States that records stand for, and how they are spelled.
use Rattle.std.proofs.Common.{◌≡◌, ◌≢◌, ℕ, ◌+◌, ◌≤◌, ◌==◌, Option, cond, false, true, List, [], ◌∷◌, ◌++◌, length, refl, sym, ap, ◌∙◌, subst, arith, suc, length-append, append_assoc, unwrap_or}
use Rattle.std.specs.Int.{w32, w64, to_be_bytes}
use Rattle.std.specs.List.{All, AllZip}
use Rattle.std.proofs.lemmas.Option.{same_Some}
use Rattle.std.proofs.lemmas.Bool.{false≢true}
use Rattle.std.proofs.lemmas.List.Elements.{All-head, All-nil, All-tail}
use Rattle.std.proofs.lemmas.Slice.Zip.{all_zipped_more}
use Rattle.pf_base.specs.Numbers.{number_at}
use Rattle.pf_base.proofs.Spellings.{reads_u64}
use Rattle.pf_chunklog.specs.Records.{Raw, blocks, body_of, record_spelled}
use Rattle.pf_entry.specs.Canonical.{IsCanonicalRecord, first_format, second_format}
use Rattle.pf_entry.specs.Records.{Durable, recovered, stored}
use Rattle.pf_entry.specs.Sizes.{body_size, payload_size}
use Rattle.pf_entry.specs.declared.records.Record.{Record}
use Rattle.pf_entry.specs.declared.records.Record.TheVariants.{Image, Term, Entry, Merged}
use Rattle.pf_codec.specs.Fitting.{RecordFits}
use Rattle.pf_codec.specs.Spelling.{body_bytes, record_kind, log_bytes, number, payload_bytes, sectors_bytes, slots_bytes, starts_bytes}
use Rattle.pf_codec.proofs.BodyLaws.{canonical_is_read, window_of_format}
use Rattle.pf_codec.proofs.SizeLaws.{payload_len}
use Rattle.pf_entry.specs.Lists.{Every}
use Rattle.pf_server_store.specs.Stores.{BeginsWithImage, IsImageOf, IsNextImage, IsSpelledAs, RecordsStandFor, blank, is_image, state_of_records}
use Rattle.pf_server_store.specs.declared.found.Found.{Found}
use Rattle.pf_image.specs.Recovery.{AreRecoverable, IsChange, IsFormat, IsImageKind, IsLaterImage, SpellsRecord, generation, generation_in}
use Rattle.pf_image.proofs.Files.{recoverable_more}
use Rattle.pf_disk_store.specs.Kept.{IsFirstImage, IsStateIn}

-- what is written of a record
abbrev pub raw_of : Record → Raw
raw_of r = (record_kind r, payload_bytes r)

pub payload_length : (format : ℕ) (r : Record) → IsCanonicalRecord format r → length (payload_bytes r) ≡ payload_size r
payload_length format r canonical = payload_len (cond (format == 1) first_format second_format) (window_of_format format) r canonical.fields

pub body_is : (format : ℕ) (r : Record) → IsCanonicalRecord format r → body_bytes r ≡ body_of (raw_of r)
unfolding body_bytes number
body_is format r canonical =
    ap (λ (n : ℕ). record_kind r ∷ (to_be_bytes w32 n ++ (payload_bytes r ++ 0 ∷ []))) (sym (payload_length format r canonical))
    ∙ ap (λ (l : List ℕ). record_kind r ∷ l) (sym (append_assoc (to_be_bytes w32 (length (payload_bytes r))) (payload_bytes r) (0 ∷ [])))

not_one : (r : Record) → is_image r ≡ false → record_kind r ≢ 1
not_one (Image generation term vote applied sectors) is = absurd (false≢true (sym is))
not_one (Term term) is = λ e. absurd (omega (arith, e))
not_one (Entry e) is = λ one. absurd (omega (arith, one))
not_one (Merged term first es) is = λ e. absurd (omega (arith, e))

-- a record that is added to a half
pub change_spells : (format : ℕ) (r : Record) (body : List ℕ) → IsSpelledAs format r body → SpellsRecord format (raw_of r) r
change_spells format r body is = record { fits = is.fits; canonical = is.canonical; kind = refl; payload = refl }

pub is_change : (format : ℕ) (r : Record) (body : List ℕ) → IsSpelledAs format r body → IsChange format (raw_of r)
is_change format r body is = (not_one r is.added, (r, change_spells format r body is))

pub change_body : (format : ℕ) (r : Record) (body : List ℕ) → IsSpelledAs format r body → body ≡ body_of (raw_of r)
change_body format r body is = is.is ∙ body_is format r is.canonical

pub image_spells : (d : Durable) (r : Record) (body : List ℕ) → IsImageOf d r body → SpellsRecord 2 (raw_of r) r
image_spells d r body is = record { fits = is.fits; canonical = is.canonical; kind = refl; payload = refl }

pub image_body : (d : Durable) (r : Record) (body : List ℕ) → IsImageOf d r body → body ≡ body_of (raw_of r)
image_body d r body is = is.is ∙ body_is 2 r is.canonical

-- ---- one list of records is spelled so

one_spelled : (format : ℕ) (raw : Raw) (r s : Record) → SpellsRecord format raw r → SpellsRecord format raw s → r ≡ s
one_spelled format raw r s a b =
    same_Some r s (sym (canonical_is_read format raw.0 raw.1 r a.fits a.canonical a.kind a.payload) ∙ canonical_is_read format raw.0 raw.1 s b.fits b.canonical b.kind b.payload)

all_spelled_one : (format : ℕ) (raws : List Raw) (rs ss : List Record) → AllZip (SpellsRecord format) raws rs → AllZip (SpellsRecord format) raws ss → rs ≡ ss
all_spelled_one format [] [] [] a b = refl
all_spelled_one format (raw ∷ raws) (r ∷ rs) (s ∷ ss) a b =
    let here = one_spelled format raw r s a.0 b.0 in
    let rest = all_spelled_one format raws rs ss a.1 b.1 in
    cc
all_spelled_one format [] [] (s ∷ ss) a b = absurd b
all_spelled_one format [] (r ∷ rs) ss a b = absurd a
all_spelled_one format (raw ∷ raws) [] ss a b = absurd a
all_spelled_one format (raw ∷ raws) (r ∷ rs) [] a b = absurd b

pub one_state : (format : ℕ) (raws : List Raw) (d e : Durable) → IsStateIn (format, raws) d → IsStateIn (format, raws) e → d ≡ e
one_state format raws d e a b = sym a.state ∙ ap (state_of_records format) (all_spelled_one format raws a.records b.records a.spelled b.spelled) ∙ b.state

-- ---- one record more

recovered_more : (d : Durable) (rs : List Record) (r : Record) → recovered d (rs ++ r ∷ []) ≡ stored (recovered d rs) r
recovered_more d [] r = refl
recovered_more d (s ∷ rs) r = recovered_more (stored d s) rs r

state_more : (format : ℕ) (raws : List Raw) (raw : Raw) (r : Record) (d : Durable) → IsStateIn (format, raws) d → IsChange format raw → SpellsRecord format raw r → AreRecoverable format (raws ++ raw ∷ [])
    → IsStateIn (format, raws ++ raw ∷ []) (stored d r)
state_more format [] raw r d was change last are = absurd was.recoverable
state_more format (image ∷ changes) raw r d was change last are = elim was.records as (λ rs. AllZip (SpellsRecord format) (image ∷ changes) rs → state_of_records format rs ≡ d → IsStateIn (format, image ∷ (changes ++ raw ∷ [])) (stored d r)) [
  | [] ↦ λ all is. absurd all
  | s ∷ rs ↦ λ all is. record {
    recoverable = are;
    records = s ∷ (rs ++ r ∷ []);
    spelled = (all.0, all_zipped_more (SpellsRecord format) changes rs raw r all.1 last);
    state = recovered_more (record (stored blank s) { format = format }) rs r ∙ ap (λ (x : Durable). stored x r) is;
  }
] was.spelled was.state

pub one_more : (format : ℕ) (raws : List Raw) (d : Durable) (r : Record) (body : List ℕ) → IsStateIn (format, raws) d → IsSpelledAs format r body → IsStateIn (format, raws ++ raw_of r ∷ []) (stored d r)
one_more format raws d r body was is =
    let change = is_change format r body is in
    state_more format raws (raw_of r) r d was change (change_spells format r body is) (recoverable_more format raws (raw_of r) was.recoverable change)

-- ---- used bytes and generations

no_image : (format : ℕ) (raw : Raw) (r : Record) → IsChange format raw → SpellsRecord format raw r → is_image r ≡ false
no_image format raw (Image generation term vote applied sectors) change spells = absurd (change.0 (sym spells.kind))
no_image format raw (Term term) change spells = refl
no_image format raw (Entry e) change spells = refl
no_image format raw (Merged term first es) change spells = refl

an_image : (format : ℕ) (raw : Raw) (r : Record) → IsImageKind format raw → SpellsRecord format raw r → is_image r ≡ true
an_image format raw (Image generation term vote applied sectors) image spells = refl
an_image format raw (Term term) image spells = absurd (omega (arith, spells.kind, image.0))
an_image format raw (Entry e) image spells = absurd (omega (arith, spells.kind, image.0))
an_image format raw (Merged term first es) image spells = absurd (omega (arith, spells.kind, image.0))

used_more : (d : Durable) (r : Record) → is_image r ≡ false → (stored d r).used ≡ d.used + body_size r
unfolding stored
used_more d (Image generation term vote applied sectors) is = absurd (false≢true (sym is))
used_more d (Term term) is = refl
used_more d (Entry e) is = refl
used_more d (Merged term first es) is = refl

used_by_image : (d : Durable) (r : Record) → is_image r ≡ true → (stored d r).used ≡ 9 + body_size r
unfolding stored
used_by_image d (Image generation term vote applied sectors) is = refl
used_by_image d (Term term) is = absurd (false≢true is)
used_by_image d (Entry e) is = absurd (false≢true is)
used_by_image d (Merged term first es) is = absurd (false≢true is)

same_generation : (d : Durable) (r : Record) → is_image r ≡ false → (stored d r).generation ≡ d.generation
unfolding stored
same_generation d (Image generation term vote applied sectors) is = absurd (false≢true (sym is))
same_generation d (Term term) is = refl
same_generation d (Entry e) is = refl
same_generation d (Merged term first es) is = refl

block_length : (format : ℕ) (raw : Raw) (r : Record) (raws : List Raw) → SpellsRecord format raw r → length (blocks (raw ∷ raws)) ≡ body_size r + length (blocks raws)
unfolding body_size
block_length format raw r raws spells =
    let payload : length raw.1 ≡ payload_size r = ap length (sym spells.payload) ∙ payload_length format r spells.canonical in
    omega (arith, payload, length-append (record_spelled raw) (blocks raws), length-append (to_be_bytes w32 (length raw.1)) raw.1)

body_length : (r : Record) → 6 ≤ body_size r
unfolding body_size
body_length r = omega arith

used_by_changes : (format : ℕ) (raws : List Raw) (rs : List Record) (d : Durable) → All (IsChange format) raws → AllZip (SpellsRecord format) raws rs → (recovered d rs).used ≡ d.used + length (blocks raws)
used_by_changes format [] [] d changes all = omega arith
used_by_changes format [] (r ∷ rs) d changes all = absurd all
used_by_changes format (raw ∷ raws) [] d changes all = absurd all
used_by_changes format (raw ∷ raws) (r ∷ rs) d changes all =
    let change = All-head (IsChange format) raw raws changes in
    let here = used_more d r (no_image format raw r change all.0) in
    omega (arith, used_by_changes format raws rs (stored d r) (All-tail (IsChange format) raw raws changes) all.1, here, block_length format raw r raws all.0)

generation_after : (format : ℕ) (raws : List Raw) (rs : List Record) (d : Durable) → All (IsChange format) raws → AllZip (SpellsRecord format) raws rs → (recovered d rs).generation ≡ d.generation
generation_after format [] [] d changes all = refl
generation_after format [] (r ∷ rs) d changes all = absurd all
generation_after format (raw ∷ raws) [] d changes all = absurd all
generation_after format (raw ∷ raws) (r ∷ rs) d changes all =
    let change = All-head (IsChange format) raw raws changes in
    generation_after format raws rs (stored d r) (All-tail (IsChange format) raw raws changes) all.1 ∙ same_generation d r (no_image format raw r change all.0)

same_format : (d : Durable) (r : Record) → is_image r ≡ false → (stored d r).format ≡ d.format
unfolding stored
same_format d (Image generation term vote applied sectors) is = absurd (false≢true (sym is))
same_format d (Term term) is = refl
same_format d (Entry e) is = refl
same_format d (Merged term first es) is = refl

format_after : (format : ℕ) (raws : List Raw) (rs : List Record) (d : Durable) → All (IsChange format) raws → AllZip (SpellsRecord format) raws rs → (recovered d rs).format ≡ d.format
format_after format [] [] d changes all = refl
format_after format [] (r ∷ rs) d changes all = absurd all
format_after format (raw ∷ raws) [] d changes all = absurd all
format_after format (raw ∷ raws) (r ∷ rs) d changes all =
    let change = All-head (IsChange format) raw raws changes in
    format_after format raws rs (stored d r) (All-tail (IsChange format) raw raws changes) all.1 ∙ same_format d r (no_image format raw r change all.0)

spelled_generation : (format : ℕ) (raw : Raw) (r : Record) (d : Durable) → is_image r ≡ true → SpellsRecord format raw r → generation_in raw ≡ (stored d r).generation
unfolding stored payload_bytes number
spelled_generation format raw (Image its term vote applied sectors) d image spells =
    let rest : List ℕ = number w64 term ++ (number w64 vote.base ++ (starts_bytes vote.starts ++ (slots_bytes applied ++ (log_bytes vote.log ++ sectors_bytes sectors)))) in
    ap (λ (l : List ℕ). unwrap_or (number_at w64 l 0) 0) (sym spells.payload) ∙ ap (λ (o : Option ℕ). unwrap_or o 0) (reads_u64 [] rest its spells.fits.0)
spelled_generation format raw (Term term) d image spells = absurd (false≢true image)
spelled_generation format raw (Entry e) d image spells = absurd (false≢true image)
spelled_generation format raw (Merged term first es) d image spells = absurd (false≢true image)

-- what is known of a state by the records that stand for it
pub record IsTold (format : ℕ) (raws : List Raw) (rs : List Record) (d : Durable) : Type 0 where
  pub begins : BeginsWithImage rs
  pub used : d.used ≡ 9 + length (blocks raws)
  pub half : d.format ≡ format
  pub its : generation raws ≡ d.generation

-- none of the changes is an image
no_images : (format : ℕ) (raws : List Raw) (rs : List Record) → All (IsChange format) raws → AllZip (SpellsRecord format) raws rs → Every (λ r. is_image r ≡ false) rs
no_images format [] [] changes all = tt
no_images format [] (r ∷ rs) changes all = absurd all
no_images format (raw ∷ raws) [] changes all = absurd all
no_images format (raw ∷ raws) (r ∷ rs) changes all =
    (no_image format raw r (All-head (IsChange format) raw raws changes) all.0, no_images format raws rs (All-tail (IsChange format) raw raws changes) all.1)

told_by : (format : ℕ) (raws : List Raw) (rs : List Record) → AreRecoverable format raws → AllZip (SpellsRecord format) raws rs → IsTold format raws rs (state_of_records format rs)
told_by format [] rs are all = absurd are
told_by format (raw ∷ raws) [] are all = absurd all
told_by format (raw ∷ raws) (r ∷ rs) are all =
    let image = an_image format raw r are.0 all.0 in
    let first : Durable = record (stored blank r) { format = format } in
    record {
      begins = (image, no_images format raws rs are.1 all.1);
      used = omega (arith, used_by_changes format raws rs first are.1 all.1, used_by_image blank r image, block_length format raw r raws all.0);
      half = format_after format raws rs first are.1 all.1;
      its = spelled_generation format raw r blank image all.0 ∙ sym (generation_after format raws rs first are.1 all.1);
    }

pub told_of : (format : ℕ) (raws : List Raw) (d : Durable) (state : IsStateIn (format, raws) d) → IsTold format raws state.records d
told_of format raws d state = subst (λ (x : Durable). IsTold format raws state.records x) state.state (told_by format raws state.records state.recoverable state.spelled)

-- a state and the next one differ
pub change_differs : (format : ℕ) (r : Record) (body : List ℕ) (d : Durable) → IsSpelledAs format r body → d ≢ stored d r
change_differs format r body d is same = omega (arith, ap (λ (x : Durable). x.used) same, used_more d r is.added, body_length r)

image_generation : (d : Durable) (r : Record) → IsNextImage d.generation r → (stored d r).generation ≡ suc d.generation
unfolding stored
image_generation d (Image its term vote applied sectors) next = next
image_generation d (Term term) next = absurd next
image_generation d (Entry e) next = absurd next
image_generation d (Merged term first es) next = absurd next

pub image_differs : (d : Durable) (r : Record) (body : List ℕ) → IsImageOf d r body → d ≢ stored d r
image_differs d r body is same = omega (arith, ap (λ (x : Durable). x.generation) same, image_generation d r is.next)

is_next_image : (generation : ℕ) (r : Record) → IsNextImage generation r → is_image r ≡ true
is_next_image generation (Image its term vote applied sectors) next = refl
is_next_image generation (Term term) next = absurd next
is_next_image generation (Entry e) next = absurd next
is_next_image generation (Merged term first es) next = absurd next

kind_of_image : (r : Record) → is_image r ≡ true → record_kind r ≡ 1
kind_of_image (Image its term vote applied sectors) is = refl
kind_of_image (Term term) is = absurd (false≢true is)
kind_of_image (Entry e) is = absurd (false≢true is)
kind_of_image (Merged term first es) is = absurd (false≢true is)

-- the image of the next generation
pub is_next : (format : ℕ) (raws : List Raw) (d : Durable) (r : Record) (body : List ℕ) → IsStateIn (format, raws) d → IsImageOf d r body → IsLaterImage raws (raw_of r)
is_next format raws d r body state is =
    let image = is_next_image d.generation r is.next in
    let spells = image_spells d r body is in
    record {
      image = (kind_of_image r image, (r, spells));
      next = omega (arith, spelled_generation 2 (raw_of r) r d image spells, image_generation d r is.next, (told_of format raws d state).its);
    }

-- one image alone
stored_alone : (d : Durable) (r : Record) → is_image r ≡ true → record (stored blank r) { format = 2 } ≡ stored d r
unfolding stored
stored_alone d (Image its term vote applied sectors) is = refl
stored_alone d (Term term) is = absurd (false≢true is)
stored_alone d (Entry e) is = absurd (false≢true is)
stored_alone d (Merged term first es) is = absurd (false≢true is)

image_state : (format : ℕ) (r : Record) → IsCanonicalRecord format r → RecordFits r → is_image r ≡ true → IsStateIn (format, raw_of r ∷ []) (state_of_records format (r ∷ []))
image_state format r canonical fits image =
    let spells : SpellsRecord format (raw_of r) r = record { fits = fits; canonical = canonical; kind = refl; payload = refl } in
    record {
      recoverable = ((kind_of_image r image, (r, spells)), All-nil (IsChange format));
      records = r ∷ [];
      spelled = (spells, tt);
      state = refl;
    }

pub saved_state : (d : Durable) (r : Record) (body : List ℕ) → IsImageOf d r body → IsStateIn (2, raw_of r ∷ []) (stored d r)
saved_state d r body is =
    let image = is_next_image d.generation r is.next in
    subst (λ (x : Durable). IsStateIn (2, raw_of r ∷ []) x) (stored_alone d r image) (image_state 2 r is.canonical is.fits image)

-- each record of a recoverable half is spelled
-- what was read of a half
pub read_state : (format : ℕ) (raws : List Raw) (rs : List Record) → AreRecoverable format raws → AllZip (SpellsRecord format) raws rs → IsStateIn (format, raws) (state_of_records format rs)
read_state format raws rs are all = record { recoverable = are; records = rs; spelled = all; state = refl }

pub stands_for : (found : Found) (format : ℕ) (raws : List Raw) (d : Durable) → IsFormat format → found.format ≡ format → found.used ≡ 9 + length (blocks raws) → AllZip (SpellsRecord format) raws found.records.items → IsStateIn (format, raws) d
    → RecordsStandFor found d
stands_for found format raws d known format_is used_is all state = record {
  format = subst IsFormat (sym format_is) known;
  image = (told_by format raws found.records.items state.recoverable all).begins;
  state = ap (λ (f : ℕ). state_of_records f found.records.items) format_is ∙ one_state format raws (state_of_records format found.records.items) d (read_state format raws found.records.items state.recoverable all) state;
  used = used_is ∙ sym (told_of format raws d state).used;
}

pub first_body : (format : ℕ) (r : Record) (body : List ℕ) → IsFirstImage format r body → body ≡ body_of (raw_of r)
first_body format r body is = is.is ∙ body_is format r is.canonical

pub first_state : (format : ℕ) (r : Record) (body : List ℕ) → IsFirstImage format r body → IsStateIn (format, raw_of r ∷ []) (state_of_records format (r ∷ []))
first_state format r body is = image_state format r is.canonical is.fits is.image
