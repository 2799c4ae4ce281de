-- A body tells its record.
use Rattle.std.proofs.Common.{◌≡◌, ℕ, ◌<◌, ◌≤◌, ◌^◌, List, [], ◌∷◌, ◌++◌, take, drop, get_or, length, Some, refl, sym, ap, ◌∙◌, arith, append_assoc, lit<, lit≤, le_trans, cond, ◌==◌}
use Rattle.std.specs.Int.{w32}
use Rattle.std.specs.List.{sum_by}
use Rattle.std.proofs.lemmas.List.{take_at, drop_at}
use Rattle.std.proofs.lemmas.List.Sums.{sum_by-cons}
use Rattle.std.proofs.lemmas.Bool.{cond_both}
use Rattle.std.proofs.lemmas.Option.{same_Some}
use Rattle.pf_entry.proofs.Lists.{every_more}
use Rattle.pf_entry.specs.Sizes.{entry_size, payload_size}
use Rattle.pf_entry.specs.Canonical.{Bounds, IsCanonicalOp, IsCanonicalName, IsCanonicalEntry, IsCanonicalIn, IsCanonicalFor, IsCanonicalRecord, first_format, second_format}
use Rattle.pf_entry.specs.declared.ops.Op.{Op}
use Rattle.pf_entry.specs.declared.ops.Op.TheVariants.{Write, Noop, Mark}
use Rattle.pf_entry.specs.declared.entries.Named.{Named}
use Rattle.pf_entry.specs.declared.entries.Entry.{Entry}
use Rattle.pf_entry.specs.declared.records.Record.{Record}
use Rattle.pf_entry.specs.declared.records.Record.TheVariants.{Image as ImageRecord, Term as TermRecord, Entry as EntryRecord, Merged as MergedRecord}
use Rattle.pf_codec.specs.Spelling.{number, byte, record_kind, payload_bytes, body_bytes}
use Rattle.pf_codec.specs.Parsers.{AreBytes}
use Rattle.pf_codec.specs.Reading.{record_in}
use Rattle.pf_codec.specs.Fitting.{RecordFits, IsRecord}
use Rattle.pf_codec.proofs.Exact.{u32_exact, same_spelled}
use Rattle.pf_codec.proofs.RecordLaws.{entries_in, IsKnown, record_found, record_again}
use Rattle.pf_codec.proofs.SizeLaws.{payload_len}

pub window_of_first : first_format.window < 2 ^ 32
unfolding first_format
window_of_first = lit< tt

pub window_of_second : second_format.window < 2 ^ 32
unfolding second_format
window_of_second = lit< tt

-- entries take bytes, so a short payload has few
few_entries : (es : List Entry) → length es ≤ sum_by entry_size es
few_entries [] = omega arith
few_entries (e ∷ es) = let rest = few_entries es in omega (arith, rest, sum_by-cons entry_size e es)

pub few_of_short : (r : Record) → payload_size r < 2 ^ 32 → length (entries_in r) < 2 ^ 32
few_of_short (ImageRecord generation term vote applied sectors) short = lit< tt
few_of_short (TermRecord term) short = lit< tt
few_of_short (EntryRecord e) short = lit< tt
few_of_short (MergedRecord term first es) short = let few = few_entries es in omega (arith, few, short)

module _ (bounds : Bounds) (window : bounds.window < 2 ^ 32) where
  pub again_of : (r : Record) → IsRecord bounds r → payload_size r < 2 ^ 32 → (kind : ℕ) → record_kind r ≡ kind → IsKnown bounds window kind r
  again_of r is short kind of_kind = ((is, of_kind), few_of_short r short)

  pub record HasBody (r : Record) : Type 0 where
    pub is : IsRecord bounds r
    pub short : payload_size r < 2 ^ 32

  body_parts : (r : Record) (x : List ℕ) → body_bytes r ++ x ≡ record_kind r ∷ (number w32 (payload_size r) ++ (payload_bytes r ++ (0 ∷ x)))
  unfolding body_bytes
  body_parts r x =
      ap (λ b. record_kind r ∷ b)
      (append_assoc (number w32 (payload_size r)) (payload_bytes r ++ byte 0) x
      ∙ ap (λ b. number w32 (payload_size r) ++ b) (append_assoc (payload_bytes r) (byte 0) x))

  pub bodies_tell : (r s : Record) (x y : List ℕ) → HasBody r → HasBody s → body_bytes r ++ x ≡ body_bytes s ++ y → (r ≡ s) × (x ≡ y)
  bodies_tell r s x y a b e =
      let parts = sym (body_parts r x) ∙ e ∙ body_parts s y in
      let kinds : record_kind r ≡ record_kind s = ap (λ l. get_or l 0 0) parts in
      let sizes = same_spelled u32_exact (payload_size r) (payload_size s) (payload_bytes r ++ (0 ∷ x)) (payload_bytes s ++ (0 ∷ y)) a.short b.short (ap (drop 1) parts) in
      let lengths : length (payload_bytes r) ≡ length (payload_bytes s) = payload_len bounds window r a.is.1 ∙ sizes.0 ∙ sym (payload_len bounds window s b.is.1) in
      let payloads : payload_bytes r ≡ payload_bytes s =
      sym (take_at (payload_bytes r) (0 ∷ x) (length (payload_bytes s)) lengths) ∙ ap (take (length (payload_bytes s))) sizes.1 ∙ take_at (payload_bytes s) (0 ∷ y) (length (payload_bytes s)) refl in
      let rests : (0 ∷ x) ≡ (0 ∷ y) =
      sym (drop_at (payload_bytes r) (0 ∷ x) (length (payload_bytes s)) lengths) ∙ ap (drop (length (payload_bytes s))) sizes.1 ∙ drop_at (payload_bytes s) (0 ∷ y) (length (payload_bytes s)) refl in (
        same_Some r s (sym (record_again bounds window (record_kind s) r (again_of r a.is a.short (record_kind s) kinds)) ∙ ap (record_in bounds (record_kind s)) payloads ∙ record_again bounds window (record_kind s) s (again_of s b.is b.short (record_kind s) refl)),
        ap (drop 1) rests,
      )

-- ---- the first format in the second

no_first_mark : first_format.marks ≡ 1 → ⊥
unfolding first_format
no_first_mark e = omega (arith, e)

names_more : first_format.names ≤ second_format.names
unfolding first_format second_format
names_more = lit≤ tt

window_more : first_format.window ≤ second_format.window
unfolding first_format second_format
window_more = lit≤ tt

op_more : (op : Op) → IsCanonicalOp first_format op → IsCanonicalOp second_format op
op_more (Write range payload) c = c
op_more Noop c = c
op_more Mark c = absurd (no_first_mark c)

name_more : (slot : ℕ) (n : Named) → IsCanonicalName first_format slot n → IsCanonicalName second_format slot n
name_more slot n c = record { below = c.below; range = c.range; marks = λ w. absurd (no_first_mark (c.marks w)) }

entry_more : (e : Entry) → IsCanonicalEntry first_format e → IsCanonicalEntry second_format e
entry_more e c = record {
  slot = c.slot;
  term = c.term;
  first = c.first;
  few = le_trans c.few names_more;
  ascending = c.ascending;
  named = every_more (IsCanonicalName first_format e.slot) (IsCanonicalName second_format e.slot) (name_more e.slot) e.look c.named;
  merged = c.merged;
  op = op_more e.op c.op;
}

in_more : (base slot : ℕ) (e : Entry) → IsCanonicalIn first_format base slot e → IsCanonicalIn second_format base slot e
in_more base slot e c =
    let within = c.within in
    let more = window_more in
    record { canonical = entry_more e c.canonical; in_slot = c.in_slot; is_above = c.is_above; within = omega (arith, within, more) }

for_more : (r : Record) → IsCanonicalFor first_format r → IsCanonicalFor second_format r
for_more (ImageRecord generation term vote applied sectors) c =
    (record { starts = c.0.starts; entries = λ slot e at. in_more vote.base slot e (c.0.entries slot e at) }, c.1)
for_more (TermRecord term) c = c
for_more (EntryRecord e) c = entry_more e c
for_more (MergedRecord term first es) c = every_more (IsCanonicalEntry first_format) (IsCanonicalEntry second_format) entry_more es c

pub format_more : (r : Record) → IsCanonicalRecord 1 r → IsCanonicalRecord 2 r
format_more r c = record { fields = for_more r c.fields; short = c.short }

-- ---- what a format's number stands for

pub window_of_format : (format : ℕ) → (cond (format == 1) first_format second_format).window < 2 ^ 32
window_of_format format = cond_both (format == 1) first_format second_format (λ (b : Bounds). b.window < 2 ^ 32) (λ e. window_of_first) (λ e. window_of_second)

abbrev format_of : ℕ → Bounds
format_of format = cond (format == 1) first_format second_format

-- what is read of a payload that is not too long is a canonical record
pub read_is_canonical : (format kind : ℕ) (payload : List ℕ) (r : Record) → AreBytes payload → length payload < 2 ^ 32 → record_in (format_of format) kind payload ≡ Some r
    → IsCanonicalRecord format r × (record_kind r ≡ kind) × (payload_bytes r ≡ payload) × RecordFits r
read_is_canonical format kind payload r ok short e =
    let found = record_found (format_of format) (window_of_format format) kind payload r ok e in
    let size = payload_len (format_of format) (window_of_format format) r found.0.0.0.1 in
    let spelled : length payload ≡ length (payload_bytes r) = ap length found.1 in
    (record { fields = found.0.0.0.1; short = omega (arith, size, spelled, short) }, found.0.0.1, sym found.1, found.0.0.0.0)

pub canonical_is_read : (format kind : ℕ) (payload : List ℕ) (r : Record) → RecordFits r → IsCanonicalRecord format r → record_kind r ≡ kind → payload_bytes r ≡ payload → record_in (format_of format) kind payload ≡ Some r
canonical_is_read format kind payload r fits c of_kind spelled =
    ap (record_in (format_of format) kind) (sym spelled)
    ∙ record_again (format_of format) (window_of_format format) kind r (again_of (format_of format) (window_of_format format) r (fits, c.fields) c.short kind of_kind)

-- a canonical record has no payload that is too long
pub canonical_is_short : (format : ℕ) (r : Record) → IsCanonicalRecord format r → length (payload_bytes r) < 2 ^ 32
canonical_is_short format r c = let size = payload_len (format_of format) (window_of_format format) r c.fields in let short = c.short in omega (arith, size, short)
