-- Ranges, names, ops and entries are read exactly.
use Rattle.std.proofs.Common.{◌≡◌, ℕ, zero, suc, ◌<◌, ◌≤◌, ◌^◌, Bool, true, false, not, ◌&&◌, ◌||◌, ◌==◌, nat_lt, nat_le, List, [], ◌∷◌, ◌++◌, length, None, refl, sym, ap, subst, ◌∙◌, arith, inl, inr}
use Rattle.std.specs.List.{flat_map, list_all}
use Rattle.std.proofs.lemmas.Bool.Decides.{nat_tests}
use Rattle.std.proofs.lemmas.Bool.{and_parts, and_from, or_cases, or_left, or_right, ltb-true, leb-true, eqb-true, lt-ltb, le-leb, eq-eqb, cases_lt, false≢true}
use Rattle.std.proofs.lemmas.List.{nil_from_length}
use Rattle.pf_base.specs.Span.{Span, IsWritable, is_span, is_whole, empty_span}
use Rattle.pf_entry.specs.Lists.{Every}
use Rattle.pf_entry.proofs.Lists.{every_more}
use Rattle.pf_entry.specs.Canonical.{Bounds, IsCanonicalOp, IsCanonicalName, IsCanonicalEntry}
use Rattle.pf_entry.specs.declared.ops.Op.{Op}
use Rattle.pf_entry.specs.declared.ops.Op.TheVariants.{Write, Noop, Mark}
use Rattle.pf_entry.specs.declared.entries.Named.{Named}
use Rattle.pf_entry.specs.declared.entries.Entry.{Entry}
use Rattle.pf_codec.specs.Parsers.{IsExact}
use Rattle.pf_codec.specs.Spelling.{byte, range_bytes, name_bytes, sectors_in_row, op_bytes, entry_bytes, entries_bytes}
use Rattle.pf_codec.specs.Reading.{range_at, name_at, sectors_of, write_at, op_tagged, op_at, allows, may_name, are_names, is_entry, entry_at, entries_at}
use Rattle.pf_codec.specs.Fitting.{IsWord, EntryFitsWords, IsEntry}
use Rattle.pf_codec.proofs.Exact.{then_exact, last_exact, checked_exact, nothing_exact, chosen_exact, respelled, renamed, row_exact, byte_exact, sector_exact, u32_exact, u64_exact}

-- ---- ranges and names

first_fits : (s : Span) → is_span s ≡ true → s.first < 2 ^ 32
first_fits s is = grind (arith, nat_tests)

pub range_exact : IsExact (λ s. is_span s ≡ true) range_bytes range_at
unfolding range_bytes range_at
range_exact =
    then_exact u32_exact (λ (s : Span). is_span s ≡ true) (λ s. s.first) (λ s. byte s.count) _ first_fits
    (λ first low. last_exact byte_exact (λ (s : Span). (is_span s ≡ true) × (s.first ≡ first)) (λ s. s.count) _ (λ s is. tt)
    (λ count any. checked_exact (λ (s : Span). ((is_span s ≡ true) × (s.first ≡ first)) × (s.count ≡ count)) is_span (record { first = first; count = count })
    (λ s is i. record { first = sym is.0.1 i; count = sym is.1 i }) (λ s is. is.0.0) (λ passes. ((passes, refl), refl))))

abbrev NameFits : Named → Type 0
NameFits n = (n.slot < 2 ^ 64) × (is_span n.range ≡ true)

pub name_exact : IsExact NameFits name_bytes name_at
unfolding name_bytes name_at
name_exact =
    then_exact u64_exact NameFits (λ n. n.slot) (λ n. range_bytes n.range) _ (λ n fits. fits.0)
    (λ slot low. last_exact range_exact (λ (n : Named). NameFits n × (n.slot ≡ slot)) (λ n. n.range) _ (λ n is. is.0.1)
    (λ range is_range. checked_exact (λ (n : Named). (NameFits n × (n.slot ≡ slot)) × (n.range ≡ range)) (λ n. true) (record { slot = slot; range = range })
    (λ n is i. record { slot = sym is.0.1 i; range = sym is.1 i }) (λ n is. refl) (λ passes. (((low, is_range), refl), refl))))

-- ---- ops

abbrev OpFits : Op → Type 0
OpFits (Write range payload) = (is_span range ≡ true) × (1 ≤ range.count) × (range.count ≤ 8) × (length payload ≡ range.count) × Every (λ sector. length sector ≡ 512) payload
OpFits Noop = Unit {0}
OpFits Mark = Unit {0}

abbrev tag_of : Op → ℕ
tag_of (Write range payload) = 1
tag_of Noop = 0
tag_of Mark = 2

abbrev span_in : Op → Span
span_in (Write range payload) = range
span_in Noop = empty_span
span_in Mark = empty_span

abbrev payload_in : Op → List (List ℕ)
payload_in (Write range payload) = payload
payload_in Noop = []
payload_in Mark = []

abbrev op_tail : Op → List ℕ
op_tail (Write range payload) = range_bytes range ++ sectors_in_row payload
op_tail Noop = []
op_tail Mark = []

abbrev WriteFits : Op → Type 0
WriteFits op = OpFits op × (tag_of op ≡ 1)

write_span : (op : Op) → WriteFits op → is_span (span_in op) ≡ true
write_span (Write range payload) fits = fits.0.0
write_span Noop fits = absurd (grind (arith, fits))
write_span Mark fits = absurd (grind (arith, fits))

write_payload : (op : Op) → WriteFits op → (length (payload_in op) ≡ (span_in op).count) × Every (λ sector. length sector ≡ 512) (payload_in op)
write_payload (Write range payload) fits = (fits.0.3, fits.0.4)
write_payload Noop fits = absurd (grind (arith, fits))
write_payload Mark fits = absurd (grind (arith, fits))

write_few : (op : Op) → WriteFits op → (nat_lt 0 (span_in op).count && nat_le (span_in op).count 8) ≡ true
write_few (Write range payload) fits = and_from _ _ (lt-ltb 0 range.count fits.0.1) (le-leb range.count 8 fits.0.2)
write_few Noop fits = absurd (grind (arith, fits))
write_few Mark fits = absurd (grind (arith, fits))

write_is : (op : Op) → WriteFits op → Write (span_in op) (payload_in op) ≡ op
write_is (Write range payload) fits = refl
write_is Noop fits = absurd (grind (arith, fits))
write_is Mark fits = absurd (grind (arith, fits))

write_tail : (op : Op) → WriteFits op → range_bytes (span_in op) ++ sectors_in_row (payload_in op) ≡ op_tail op
write_tail (Write range payload) fits = refl
write_tail Noop fits = absurd (grind (arith, fits))
write_tail Mark fits = absurd (grind (arith, fits))

sectors_of_exact : (range : Span) → is_span range ≡ true → (nat_lt 0 range.count && nat_le range.count 8) ≡ true → IsExact (λ op. WriteFits op × (span_in op ≡ range)) (λ op. sectors_in_row (payload_in op)) (sectors_of range)
unfolding sectors_of
sectors_of_exact range is few =
    let parts = and_parts _ _ few in
    last_exact (row_exact sector_exact range.count) (λ op. WriteFits op × (span_in op ≡ range)) payload_in _ (λ op is. let w = write_payload op is.0 in (w.0 ∙ ap (λ s. s.count) is.1, w.1))
    (λ payload fits. checked_exact (λ op. (WriteFits op × (span_in op ≡ range)) × (payload_in op ≡ payload)) (λ op. true) (Write range payload)
    (λ op is. (λ i. Write (sym is.0.1 i) (sym is.1 i)) ∙ write_is op is.0.0) (λ op is. refl)
    (λ passes. ((((is, ltb-true _ _ parts.0, leb-true _ _ parts.1, fits.0, fits.1), refl), refl), refl)))

write_exact : IsExact WriteFits op_tail write_at
unfolding write_at
write_exact =
    respelled
    (then_exact range_exact WriteFits span_in (λ op. sectors_in_row (payload_in op)) _ write_span
    (λ range is. chosen_exact (λ op. WriteFits op × (span_in op ≡ range)) (λ op. sectors_in_row (payload_in op)) (nat_lt 0 range.count && nat_le range.count 8) (sectors_of range) (λ bytes. None)
    (λ few. sectors_of_exact range is few)
    (λ many. nothing_exact _ _ (λ op w. false≢true (sym many ∙ ap (λ s. nat_lt 0 s.count && nat_le s.count 8) (sym w.1) ∙ write_few op w.0)))))
    op_tail write_tail

noop_is : (op : Op) → OpFits op × (tag_of op ≡ 0) → Noop ≡ op
noop_is (Write range payload) fits = absurd (grind (arith, fits))
noop_is Noop fits = refl
noop_is Mark fits = absurd (grind (arith, fits))

noop_tail : (op : Op) → OpFits op × (tag_of op ≡ 0) → [] ≡ op_tail op
noop_tail op fits = ap op_tail (noop_is op fits)

mark_is : (op : Op) → OpFits op × (tag_of op ≡ 2) → Mark ≡ op
mark_is (Write range payload) fits = absurd (grind (arith, fits))
mark_is Noop fits = absurd (grind (arith, fits))
mark_is Mark fits = refl

mark_tail : (op : Op) → OpFits op × (tag_of op ≡ 2) → [] ≡ op_tail op
mark_tail op fits = ap op_tail (mark_is op fits)

no_tag : (op : Op) (n : ℕ) → tag_of op ≡ suc (suc (suc n)) → ⊥
no_tag (Write range payload) n e = omega (arith, e)
no_tag Noop n e = omega (arith, e)
no_tag Mark n e = omega (arith, e)

tagged_exact : (tag : ℕ) → IsExact (λ op. OpFits op × (tag_of op ≡ tag)) op_tail (op_tagged tag)
unfolding op_tagged
tagged_exact zero = respelled (checked_exact (λ op. OpFits op × (tag_of op ≡ 0)) (λ op. true) Noop noop_is (λ op is. refl) (λ passes. (tt, refl))) op_tail noop_tail
tagged_exact (suc zero) = write_exact
tagged_exact (suc (suc zero)) = respelled (checked_exact (λ op. OpFits op × (tag_of op ≡ 2)) (λ op. true) Mark mark_is (λ op is. refl) (λ passes. (tt, refl))) op_tail mark_tail
tagged_exact (suc (suc (suc n))) = nothing_exact _ _ (λ op is. no_tag op n is.1)

spelled_op : (op : Op) → byte (tag_of op) ++ op_tail op ≡ op_bytes op
unfolding op_bytes
spelled_op (Write range payload) = refl
spelled_op Noop = refl
spelled_op Mark = refl

pub op_exact : IsExact OpFits op_bytes op_at
unfolding op_at
op_exact = respelled (then_exact byte_exact OpFits tag_of op_tail op_tagged (λ op fits. tt) (λ tag any. tagged_exact tag)) op_bytes (λ op fits. spelled_op op)

-- ---- entries

module _ {X : Type 0} where
  pub every_both : (P Q : X → Type 0) (xs : List X) → Every P xs → Every Q xs → Every (λ x. P x × Q x) xs
  every_both P Q [] a b = tt
  every_both P Q (x ∷ xs) a b = ((a.0, b.0), every_both P Q xs a.1 b.1)

  pub every_of_list_all : (P : X → Type 0) (t : X → Bool) → ((x : X) → t x ≡ true → P x) → (xs : List X) → list_all t xs ≡ true → Every P xs
  every_of_list_all P t is [] h = tt
  every_of_list_all P t is (x ∷ xs) h = let both = and_parts _ _ h in (is x both.0, every_of_list_all P t is xs both.1)

  pub list_all_of_every : (P : X → Type 0) (t : X → Bool) → ((x : X) → P x → t x ≡ true) → (xs : List X) → Every P xs → list_all t xs ≡ true
  list_all_of_every P t is [] h = refl
  list_all_of_every P t is (x ∷ xs) h = and_from _ _ (is x h.0) (list_all_of_every P t is xs h.1)

writable_span : (s : Span) → IsWritable s.first s.count → is_span s ≡ true
writable_span s w = let some = w.some in let few = w.few in let low = w.low in grind (arith, nat_tests)

span_writable : (s : Span) → is_span s ≡ true → 1 ≤ s.count → s.count ≤ 8 → IsWritable s.first s.count
span_writable s is some few = record { some = some; few = few; low = grind (arith, nat_tests) }

module _ (bounds : Bounds) where
  op_fits : (op : Op) → IsCanonicalOp bounds op → OpFits op
  op_fits (Write range payload) c = (writable_span range c.0, c.0.some, c.0.few, c.1, c.2)
  op_fits Noop c = tt
  op_fits Mark c = tt

  op_allowed : (op : Op) → IsCanonicalOp bounds op → allows bounds op ≡ true
  op_allowed (Write range payload) c = refl
  op_allowed Noop c = refl
  op_allowed Mark c = eq-eqb bounds.marks 1 c

  op_canonical : (op : Op) → OpFits op → allows bounds op ≡ true → IsCanonicalOp bounds op
  op_canonical (Write range payload) fits t = (span_writable range fits.0 fits.1 fits.2, fits.3, fits.4)
  op_canonical Noop fits t = tt
  op_canonical Mark fits t = eqb-true bounds.marks 1 t

  name_passes : (slot : ℕ) (n : Named) → IsCanonicalName bounds slot n → may_name (bounds.marks == 1) slot n ≡ true
  name_passes slot n c = and_from _ _ (lt-ltb n.slot slot c.below) (whole_or (is_whole n.range) (λ is. eq-eqb bounds.marks 1 (c.marks is)))
    where
      whole_or : (w : Bool) → (w ≡ true → (bounds.marks == 1) ≡ true) → (not w || bounds.marks == 1) ≡ true
      whole_or true h = h refl
      whole_or false h = refl

  name_canonical : (slot : ℕ) (n : Named) → is_span n.range ≡ true → may_name (bounds.marks == 1) slot n ≡ true → IsCanonicalName bounds slot n
  name_canonical slot n is t =
      let both = and_parts _ _ t in
      record { below = ltb-true _ _ both.0; range = is; marks = λ w. eqb-true bounds.marks 1 (whole_then (is_whole n.range) w both.1) }
    where
      whole_then : (w : Bool) → w ≡ true → (not w || bounds.marks == 1) ≡ true → (bounds.marks == 1) ≡ true
      whole_then true is h = h
      whole_then false is h = absurd (false≢true is)

  no_look : (e : Entry) → (nat_le e.first e.slot || length e.look == 0) ≡ true → e.slot < e.first → e.look ≡ []
  no_look e t merged =
      elim (or_cases (nat_le e.first e.slot) (length e.look == 0) t) [
        | inl new ↦ let le : e.first ≤ e.slot = leb-true _ _ new in absurd (omega arith)
        | inr none ↦ nil_from_length e.look (eqb-true _ _ none)
      ]

  look_passes : (e : Entry) → (e.slot < e.first → e.look ≡ []) → (nat_le e.first e.slot || length e.look == 0) ≡ true
  look_passes e merged =
      elim (cases_lt e.slot e.first) [
        | inl lt ↦ or_right _ _ (eq-eqb _ _ (ap length (merged lt)))
        | inr le ↦ or_left _ _ (le-leb _ _ le)
      ]

  entry_passes : (e : Entry) → IsCanonicalEntry bounds e → is_entry bounds e ≡ true
  unfolding is_entry are_names
  entry_passes e c =
      and_from _ _
      (and_from _ _
      (and_from _ _
      (and_from _ _
      (and_from _ _ (and_from _ _ (le-leb 1 e.slot c.slot) (le-leb 1 e.term c.term)) (le-leb 1 e.first c.first))
      (le-leb (length e.look) bounds.names c.few))
      (look_passes e c.merged))
      (op_allowed e.op c.op))
      (and_from _ _ c.ascending (list_all_of_every (IsCanonicalName bounds e.slot) (may_name (bounds.marks == 1) e.slot) (λ n. name_passes e.slot n) e.look c.named))

  names_canonical : (slot : ℕ) (look : List Named) → Every NameFits look → list_all (may_name (bounds.marks == 1) slot) look ≡ true → Every (IsCanonicalName bounds slot) look
  names_canonical slot [] fits t = tt
  names_canonical slot (n ∷ look) fits t = let both = and_parts _ _ t in (name_canonical slot n fits.0.1 both.0, names_canonical slot look fits.1 both.1)

  entry_canonical : (e : Entry) → Every NameFits e.look → OpFits e.op → is_entry bounds e ≡ true → IsCanonicalEntry bounds e
  unfolding is_entry are_names
  entry_canonical e names op t =
      let g = and_parts _ _ t in
      let f = and_parts _ _ g.0 in
      let m = and_parts _ _ f.0 in
      let d = and_parts _ _ m.0 in
      let b = and_parts _ _ d.0 in
      let a = and_parts _ _ b.0 in
      let n = and_parts _ _ g.1 in
      record {
        slot = leb-true _ _ a.0;
        term = leb-true _ _ a.1;
        first = leb-true _ _ b.1;
        few = leb-true _ _ d.1;
        ascending = n.0;
        named = names_canonical e.slot e.look names n.1;
        merged = no_look e m.1;
        op = op_canonical e.op op f.1;
      }

  names_fit : (e : Entry) → IsEntry bounds e → Every NameFits e.look
  names_fit e is = every_more (λ n. IsWord n.slot × IsCanonicalName bounds e.slot n) NameFits (λ n both. (both.0, both.1.range)) e.look (every_both _ _ e.look is.0.look is.1.named)

  pub entry_exact : IsExact (IsEntry bounds) entry_bytes (entry_at bounds)
  unfolding entry_bytes entry_at
  entry_exact =
      then_exact u64_exact (IsEntry bounds) (λ e. e.slot) _ _ (λ e is. is.0.slot) (λ slot slot_low.
      then_exact u64_exact (λ e. IsEntry bounds e × (e.slot ≡ slot)) (λ e. e.term) _ _ (λ e is. is.0.0.term) (λ term term_low.
      then_exact u64_exact (λ e. (IsEntry bounds e × (e.slot ≡ slot)) × (e.term ≡ term)) (λ e. e.first) _ _ (λ e is. is.0.0.0.first) (λ first first_low.
      then_exact byte_exact (λ e. ((IsEntry bounds e × (e.slot ≡ slot)) × (e.term ≡ term)) × (e.first ≡ first)) (λ e. length e.look) _ _ (λ e is. tt) (λ count any.
      then_exact (row_exact name_exact count) (λ e. (((IsEntry bounds e × (e.slot ≡ slot)) × (e.term ≡ term)) × (e.first ≡ first)) × (length e.look ≡ count)) (λ e. e.look) _ _ (λ e is. (is.1, names_fit e is.0.0.0.0)) (λ look names.
      last_exact op_exact (λ e. ((((IsEntry bounds e × (e.slot ≡ slot)) × (e.term ≡ term)) × (e.first ≡ first)) × (length e.look ≡ count)) × (e.look ≡ look)) (λ e. e.op) _ (λ e is. op_fits e.op is.0.0.0.0.0.1.op) (λ op op_is.
      checked_exact (λ e. (((((IsEntry bounds e × (e.slot ≡ slot)) × (e.term ≡ term)) × (e.first ≡ first)) × (length e.look ≡ count)) × (e.look ≡ look)) × (e.op ≡ op))
      (is_entry bounds) (record { slot = slot; term = term; first = first; look = look; op = op })
      (λ e is i. record { slot = sym is.0.0.0.0.0.1 i; term = sym is.0.0.0.0.1 i; first = sym is.0.0.0.1 i; look = sym is.0.1 i; op = sym is.1 i })
      (λ e is. entry_passes e is.0.0.0.0.0.0.1)
      (λ passes. (((((((entry_fits slot term first look op slot_low term_low first_low names.1, entry_canonical (record { slot = slot; term = term; first = first; look = look; op = op }) names.1 op_is passes), refl), refl), refl), names.0), refl), refl))))))))
    where
      entry_fits : (slot term first : ℕ) (look : List Named) (op : Op) → slot < 2 ^ 64 → term < 2 ^ 64 → first < 2 ^ 64 → Every NameFits look → EntryFitsWords (record { slot = slot; term = term; first = first; look = look; op = op })
      entry_fits slot term first look op a b c names = record { slot = a; term = b; first = c; look = every_more NameFits (λ n. IsWord n.slot) (λ n fits. fits.0) look names }

  pub entries_exact : IsExact (λ es. (length es < 2 ^ 32) × Every (IsEntry bounds) es) entries_bytes (entries_at bounds)
  unfolding entries_bytes entries_at
  entries_exact =
      then_exact u32_exact (λ es. (length es < 2 ^ 32) × Every (IsEntry bounds) es) length (flat_map entry_bytes) _ (λ es is. is.0)
      (λ count low. renamed (row_exact entry_exact count) (λ es. ((length es < 2 ^ 32) × Every (IsEntry bounds) es) × (length es ≡ count))
      (λ es is. ((subst (λ n. n < 2 ^ 32) (sym is.0) low, is.1), is.0)) (λ es is. (is.1, is.0.1)))
