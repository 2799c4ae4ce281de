-- What two files tell, and how it is listed.
use Rattle.std.proofs.Common.{◌≡◌, inl, inr, ℕ, List, [], ◌∷◌, ◌++◌, refl, sym, ◌∙◌, ap, subst, append_assoc, append-nil}
use Rattle.std.specs.List.{AllZip}
use Rattle.std.proofs.lemmas.Option.{same_Some}
use Rattle.pf_entry.specs.declared.records.Record.{Record}
use Rattle.pf_chunklog.specs.Records.{Raw}
use Rattle.pf_codec.proofs.BodyLaws.{canonical_is_read}
use Rattle.pf_image.specs.Halves.{half_head}
use Rattle.pf_image.specs.Recovery.{Content, FindsIn, SpellsRecord}
use Rattle.pf_image.proofs.Files.{one_content}
use Rattle.pf_report.specs.Records.{record_line}
use Rattle.pf_run_listing.specs.Listing.{AreRecords, HasNone, IsListing, TellsRecords, records_text}

one_spelled : (format : ℕ) (raw : Raw) (r s : Record) → SpellsRecord format raw r → SpellsRecord format raw s → r ≡ s
one_spelled format raw r s a b =
    same_Some r s (sym (canonical_is_read format raw.0 raw.1 r a.fits a.canonical a.kind a.payload) ∙ canonical_is_read format raw.0 raw.1 s b.fits b.canonical b.kind b.payload)

all_spelled_one : (format : ℕ) (raws : List Raw) (rs ss : List Record) → AllZip (SpellsRecord format) raws rs → AllZip (SpellsRecord format) raws ss → rs ≡ ss
all_spelled_one format [] [] [] a b = refl
all_spelled_one format (raw ∷ raws) (r ∷ rs) (s ∷ ss) a b =
    let here = one_spelled format raw r s a.0 b.0 in
    let rest = all_spelled_one format raws rs ss a.1 b.1 in
    cc
all_spelled_one format [] [] (s ∷ ss) a b = absurd b
all_spelled_one format [] (r ∷ rs) ss a b = absurd a
all_spelled_one format (raw ∷ raws) [] ss a b = absurd a
all_spelled_one format (raw ∷ raws) (r ∷ rs) [] a b = absurd b

-- the records of a half have one text
one_text : (content : Content) (text other : List ℕ) → TellsRecords content text → TellsRecords content other → other ≡ text
one_text content text other a b = b.text_is ∙ ap records_text (all_spelled_one content.0 content.1 b.records a.records b.spelled a.spelled) ∙ sym a.text_is

-- two files tell one text of records
one_told : (head zero one text other : List ℕ) → AreRecords (FindsIn head zero one) text → AreRecords (FindsIn head zero one) other → other ≡ text
one_told head zero one text other a b =
    let taken = a.found.found.1 in
    let same = one_content head zero one a.found.found.0 (half_head head taken.recoverable.format a.found.found.0) a.content.1 b.content (record { known = taken.recoverable.known; is = refl }) taken.recoverable.held taken b.found in
    one_text a.content text other a.told
    (subst (λ (f : ℕ). TellsRecords (f, a.content.1) other) (sym same.1 ∙ a.found.format_is) (subst (λ (l : List Raw). TellsRecords (b.content.0, l) other) (sym same.0) b.told))

no_records : (head zero one text : List ℕ) → AreRecords (FindsIn head zero one) text → HasNone head zero one → ⊥
no_records head zero one text a none = none a.found.found.0 a.content.1 a.found.found.1.recoverable

pub one_listing : (head zero one text other : List ℕ) → IsListing (FindsIn head zero one) (HasNone head zero one) ⊥ text → IsListing (FindsIn head zero one) (HasNone head zero one) ⊥ other → other ≡ text
one_listing head zero one text other (inl a) (inl b) = one_told head zero one text other a b
one_listing head zero one text other (inr (inl a)) (inr (inl b)) = b.1 ∙ sym a.1
one_listing head zero one text other (inl a) (inr (inl b)) = absurd (no_records head zero one text a b.0)
one_listing head zero one text other (inr (inl a)) (inl b) = absurd (no_records head zero one other b a.0)
one_listing head zero one text other (inr (inr a)) b = absurd a.0
one_listing head zero one text other (inl a) (inr (inr b)) = absurd b.0
one_listing head zero one text other (inr (inl a)) (inr (inr b)) = absurd b.0

-- one line more
pub text_more : (records : List Record) (r : Record) → records_text (records ++ r ∷ []) ≡ records_text records ++ record_line r
text_more [] r = append-nil (record_line r)
text_more (s ∷ records) r = ap (λ (l : List ℕ). record_line s ++ l) (text_more records r) ∙ sym (append_assoc (record_line s) (records_text records) (record_line r))
