-- Records are read exactly.
use Rattle.std.proofs.Common.{◌≡◌, ℕ, ◌<◌, ◌^◌, true, false, cond, ◌==◌, List, [], ◌++◌, length, Some, None, refl, sym, ap, subst, ◌∙◌, arith, lit<}
use Rattle.std.specs.Int.{w64}
use Rattle.std.specs.FinMap
use Rattle.std.proofs.lemmas.Bool.{eqb-true, eqb-false}
use Rattle.std.proofs.lemmas.List.{append-nil, nil_from_length}
use Rattle.std.proofs.lemmas.Option.{cond_some}
use Rattle.pf_entry.specs.Maps.{Numbers}
use Rattle.pf_entry.specs.Sets
use Rattle.pf_entry.specs.Lists.{Every}
use Rattle.pf_entry.specs.Canonical.{Bounds, IsCanonicalEntry}
use Rattle.pf_entry.proofs.Lists.{every_more}
use Rattle.pf_entry.specs.declared.ops.Op.TheVariants.{Noop}
use Rattle.pf_entry.specs.declared.entries.Entry.{Entry}
use Rattle.pf_entry.specs.declared.entries.VoteLog.{VoteLog}
use Rattle.pf_entry.specs.declared.records.Record.{Record}
use Rattle.pf_entry.specs.declared.records.Record.TheVariants.{Image as ImageRecord, Term as TermRecord, Entry as EntryRecord, Merged as MergedRecord}
use Rattle.pf_codec.specs.Parsers.{Parser, and_then, AreBytes, IsExact}
use Rattle.pf_codec.specs.Spelling.{number, entry_bytes, entries_bytes, starts_bytes, slots_bytes, log_bytes, sectors_bytes, record_kind, payload_bytes}
use Rattle.pf_codec.specs.Reading.{image_at, term_at, entry_record_at, merged_at, payload_at, record_in}
use Rattle.pf_codec.specs.Fitting.{IsWord, EntryFitsWords, IsEntry, IsVote, AreApplied, IsChunk, IsRecord}
use Rattle.pf_codec.proofs.Exact.{bind_ok, then_exact, last_exact, checked_exact, nothing_exact, chosen_exact, respelled, renamed, u64_exact}
use Rattle.pf_codec.proofs.EntryLaws.{entry_exact, entries_exact, every_both}
use Rattle.pf_codec.proofs.MapLaws.{starts_exact, slots_exact, sectors_exact, log_exact}
use Rattle.pf_codec.proofs.VoteLaws.{log_in}

-- the fields of a record, and anything where it has none

abbrev generation_in : Record → ℕ
generation_in (ImageRecord generation term vote applied sectors) = generation
generation_in r = 0

abbrev term_in : Record → ℕ
term_in (ImageRecord generation term vote applied sectors) = term
term_in (TermRecord term) = term
term_in (EntryRecord e) = 0
term_in (MergedRecord term first es) = term

abbrev no_vote : VoteLog
no_vote = record { base = 0; starts = FinMap.empty; log = FinMap.empty }

abbrev vote_in : Record → VoteLog
vote_in (ImageRecord generation term vote applied sectors) = vote
vote_in r = no_vote

abbrev applied_in : Record → Numbers
applied_in (ImageRecord generation term vote applied sectors) = applied
applied_in r = Sets.empty

abbrev sectors_in : Record → List (List ℕ)
sectors_in (ImageRecord generation term vote applied sectors) = sectors
sectors_in r = []

abbrev no_entry : Entry
no_entry = record { slot = 0; term = 0; first = 0; look = []; op = Noop }

abbrev entry_in : Record → Entry
entry_in (EntryRecord e) = e
entry_in r = no_entry

abbrev first_in : Record → ℕ
first_in (MergedRecord term first es) = first
first_in r = 0

abbrev pub entries_in : Record → List Entry
entries_in (MergedRecord term first es) = es
entries_in r = []

image_is : (r : Record) → record_kind r ≡ 1 → ImageRecord (generation_in r) (term_in r) (vote_in r) (applied_in r) (sectors_in r) ≡ r
image_is (ImageRecord generation term vote applied sectors) is = refl
image_is (TermRecord term) is = absurd (omega (arith, is))
image_is (EntryRecord e) is = absurd (omega (arith, is))
image_is (MergedRecord term first es) is = absurd (omega (arith, is))

term_is : (r : Record) → record_kind r ≡ 2 → TermRecord (term_in r) ≡ r
term_is (ImageRecord generation term vote applied sectors) is = absurd (omega (arith, is))
term_is (TermRecord term) is = refl
term_is (EntryRecord e) is = absurd (omega (arith, is))
term_is (MergedRecord term first es) is = absurd (omega (arith, is))

entry_is : (r : Record) → record_kind r ≡ 3 → EntryRecord (entry_in r) ≡ r
entry_is (ImageRecord generation term vote applied sectors) is = absurd (omega (arith, is))
entry_is (TermRecord term) is = absurd (omega (arith, is))
entry_is (EntryRecord e) is = refl
entry_is (MergedRecord term first es) is = absurd (omega (arith, is))

merged_is : (r : Record) → record_kind r ≡ 4 → MergedRecord (term_in r) (first_in r) (entries_in r) ≡ r
merged_is (ImageRecord generation term vote applied sectors) is = absurd (omega (arith, is))
merged_is (TermRecord term) is = absurd (omega (arith, is))
merged_is (EntryRecord e) is = absurd (omega (arith, is))
merged_is (MergedRecord term first es) is = refl

abbrev image_fields : Record → List ℕ
image_fields r =
    number w64 (generation_in r) ++ (number w64 (term_in r) ++ (number w64 (vote_in r).base ++ (starts_bytes (vote_in r).starts ++ (slots_bytes (applied_in r) ++ (log_bytes (vote_in r).log ++ sectors_bytes (sectors_in r))))))

image_spelled : (r : Record) → record_kind r ≡ 1 → image_fields r ≡ payload_bytes r
unfolding payload_bytes
image_spelled r is = ap payload_bytes (image_is r is)

term_spelled : (r : Record) → record_kind r ≡ 2 → number w64 (term_in r) ≡ payload_bytes r
unfolding payload_bytes
term_spelled r is = ap payload_bytes (term_is r is)

entry_spelled : (r : Record) → record_kind r ≡ 3 → entry_bytes (entry_in r) ≡ payload_bytes r
unfolding payload_bytes
entry_spelled r is = ap payload_bytes (entry_is r is)

abbrev merged_fields : Record → List ℕ
merged_fields r = number w64 (term_in r) ++ (number w64 (first_in r) ++ entries_bytes (entries_in r))

merged_spelled : (r : Record) → record_kind r ≡ 4 → merged_fields r ≡ payload_bytes r
unfolding payload_bytes
merged_spelled r is = ap payload_bytes (merged_is r is)

module _ (bounds : Bounds) (window : bounds.window < 2 ^ 32) where
  abbrev IsOfKind : ℕ → Record → Type 0
  IsOfKind kind r = IsRecord bounds r × (record_kind r ≡ kind)

  record ImageFacts (r : Record) : Type 0 where
    generation : IsWord (generation_in r)
    term : IsWord (term_in r)
    vote : IsVote bounds (vote_in r)
    applied : AreApplied (vote_in r).base (applied_in r)
    sectors : IsChunk (sectors_in r)

  image_facts : (r : Record) → IsOfKind 1 r → ImageFacts r
  image_facts (ImageRecord generation term vote applied sectors) is =
      let fits = is.0.0 in
      let image = is.0.1.1 in
      record {
        generation = fits.0;
        term = fits.1;
        vote = (fits.2, is.0.1.0);
        applied = record { fit = fits.3; few = image.few; above = image.above };
        sectors = record { some = image.some; fits = image.fits; eighths = image.eighths; bytes = image.bytes };
      }
  image_facts (TermRecord term) is = absurd (omega (arith, is.1))
  image_facts (EntryRecord e) is = absurd (omega (arith, is.1))
  image_facts (MergedRecord term first es) is = absurd (omega (arith, is.1))

  image_made : (generation term : ℕ) (vote : VoteLog) (applied : Numbers) (sectors : List (List ℕ)) → IsWord generation → IsWord term → IsVote bounds vote → AreApplied vote.base applied → IsChunk sectors
      → IsOfKind 1 (ImageRecord generation term vote applied sectors)
  image_made generation term vote applied sectors g t v a s =
      (((g, t, v.0, a.fit), (v.1, record { above = a.above; few = a.few; some = s.some; fits = s.fits; eighths = s.eighths; bytes = s.bytes })), refl)

  fields_exact : IsExact (IsOfKind 1) image_fields (image_at bounds)
  unfolding image_at
  fields_exact =
      then_exact u64_exact (IsOfKind 1) generation_in _ _ (λ r is. (image_facts r is).generation) (λ generation generation_low.
      then_exact u64_exact (λ r. IsOfKind 1 r × (generation_in r ≡ generation)) term_in _ _ (λ r is. (image_facts r is.0).term) (λ term term_low.
      then_exact u64_exact (λ r. (IsOfKind 1 r × (generation_in r ≡ generation)) × (term_in r ≡ term)) (λ r. (vote_in r).base) _ _ (λ r is. (image_facts r is.0.0).vote.0.base) (λ base base_low.
      then_exact starts_exact (λ r. ((IsOfKind 1 r × (generation_in r ≡ generation)) × (term_in r ≡ term)) × ((vote_in r).base ≡ base)) (λ r. (vote_in r).starts) _ _
      (λ r is. let v = (image_facts r is.0.0.0).vote in (v.0.starts, v.1.starts)) (λ starts are_starts.
      then_exact (slots_exact base) (λ r. (((IsOfKind 1 r × (generation_in r ≡ generation)) × (term_in r ≡ term)) × ((vote_in r).base ≡ base)) × ((vote_in r).starts ≡ starts)) applied_in _ _
      (λ r is. subst (λ b. AreApplied b (applied_in r)) is.0.1 (image_facts r is.0.0.0.0).applied) (λ applied are_applied.
      then_exact (log_exact bounds window base) (λ r. ((((IsOfKind 1 r × (generation_in r ≡ generation)) × (term_in r ≡ term)) × ((vote_in r).base ≡ base)) × ((vote_in r).starts ≡ starts)) × (applied_in r ≡ applied)) (λ r. (vote_in r).log) _ _
      (λ r is. log_in bounds window (vote_in r) base (image_facts r is.0.0.0.0.0).vote is.0.0.1) (λ log is_log.
      last_exact sectors_exact (λ r. (((((IsOfKind 1 r × (generation_in r ≡ generation)) × (term_in r ≡ term)) × ((vote_in r).base ≡ base)) × ((vote_in r).starts ≡ starts)) × (applied_in r ≡ applied)) × ((vote_in r).log ≡ log)) sectors_in _
      (λ r is. (image_facts r is.0.0.0.0.0.0).sectors) (λ sectors is_chunk.
      checked_exact (λ r. ((((((IsOfKind 1 r × (generation_in r ≡ generation)) × (term_in r ≡ term)) × ((vote_in r).base ≡ base)) × ((vote_in r).starts ≡ starts)) × (applied_in r ≡ applied)) × ((vote_in r).log ≡ log)) × (sectors_in r ≡ sectors))
      (λ r. true) (ImageRecord generation term (record { base = base; starts = starts; log = log }) applied sectors)
      (λ r is. (λ i. ImageRecord (sym is.0.0.0.0.0.0.1 i) (sym is.0.0.0.0.0.1 i) (record { base = sym is.0.0.0.0.1 i; starts = sym is.0.0.0.1 i; log = sym is.0.1 i }) (sym is.0.0.1 i) (sym is.1 i)) ∙ image_is r is.0.0.0.0.0.0.0.1)
      (λ r is. refl)
      (λ passes.
      let vote : VoteLog = record { base = base; starts = starts; log = log } in
      let is_vote : IsVote bounds vote = (record { base = base_low; starts = are_starts.0; log = is_log.fit }, record { starts = are_starts.1; entries = is_log.stand }) in
      (((((((image_made generation term vote applied sectors generation_low term_low is_vote are_applied is_chunk, refl), refl), refl), refl), refl), refl), refl)))))))))

  image_exact : IsExact (IsOfKind 1) payload_bytes (image_at bounds)
  image_exact = respelled fields_exact payload_bytes (λ r is. image_spelled r is.1)

  term_low : (r : Record) → IsOfKind 2 r → IsWord (term_in r)
  term_low r is = low r is.0 is.1
    where
      low : (r : Record) → IsRecord bounds r → record_kind r ≡ 2 → IsWord (term_in r)
      low (ImageRecord generation term vote applied sectors) fits is = absurd (omega (arith, is))
      low (TermRecord term) fits is = fits.0
      low (EntryRecord e) fits is = absurd (omega (arith, is))
      low (MergedRecord term first es) fits is = absurd (omega (arith, is))

  term_exact : IsExact (IsOfKind 2) payload_bytes term_at
  unfolding term_at
  term_exact =
      respelled
      (last_exact u64_exact (IsOfKind 2) term_in _ term_low (λ term low.
      checked_exact (λ r. IsOfKind 2 r × (term_in r ≡ term)) (λ r. true) (TermRecord term) (λ r is. ap TermRecord (sym is.1) ∙ term_is r is.0.1) (λ r is. refl) (λ passes. (((low, tt), refl), refl))))
      payload_bytes (λ r is. term_spelled r is.1)

  entry_fits : (r : Record) → IsOfKind 3 r → IsEntry bounds (entry_in r)
  entry_fits r is = fits r is.0 is.1
    where
      fits : (r : Record) → IsRecord bounds r → record_kind r ≡ 3 → IsEntry bounds (entry_in r)
      fits (ImageRecord generation term vote applied sectors) both is = absurd (omega (arith, is))
      fits (TermRecord term) both is = absurd (omega (arith, is))
      fits (EntryRecord e) both is = both
      fits (MergedRecord term first es) both is = absurd (omega (arith, is))

  entry_record_exact : IsExact (IsOfKind 3) payload_bytes (entry_record_at bounds)
  unfolding entry_record_at
  entry_record_exact =
      respelled
      (last_exact (entry_exact bounds) (IsOfKind 3) entry_in _ entry_fits (λ e is_entry.
      checked_exact (λ r. IsOfKind 3 r × (entry_in r ≡ e)) (λ r. true) (EntryRecord e) (λ r is. ap EntryRecord (sym is.1) ∙ entry_is r is.0.1) (λ r is. refl) (λ passes. ((is_entry, refl), refl))))
      payload_bytes (λ r is. entry_spelled r is.1)

  -- as few entries as a payload has room for
  abbrev pub IsKnown : ℕ → Record → Type 0
  IsKnown kind r = IsOfKind kind r × (length (entries_in r) < 2 ^ 32)

  record MergedFacts (r : Record) : Type 0 where
    term : IsWord (term_in r)
    first : IsWord (first_in r)
    few : length (entries_in r) < 2 ^ 32
    entries : Every (IsEntry bounds) (entries_in r)

  merged_facts : (r : Record) → IsKnown 4 r → MergedFacts r
  merged_facts (ImageRecord generation term vote applied sectors) is = absurd (omega (arith, is.0.1))
  merged_facts (TermRecord term) is = absurd (omega (arith, is.0.1))
  merged_facts (EntryRecord e) is = absurd (omega (arith, is.0.1))
  merged_facts (MergedRecord term first es) is = record { term = is.0.0.0.0; first = is.0.0.0.1; few = is.1; entries = every_both EntryFitsWords (IsCanonicalEntry bounds) es is.0.0.0.2 is.0.0.1 }

  merged_made : (term first : ℕ) (es : List Entry) → IsWord term → IsWord first → length es < 2 ^ 32 → Every (IsEntry bounds) es → IsKnown 4 (MergedRecord term first es)
  merged_made term first es t f few each =
      ((((t, f, every_more (IsEntry bounds) EntryFitsWords (λ e is. is.0) es each), every_more (IsEntry bounds) (IsCanonicalEntry bounds) (λ e is. is.1) es each), refl), few)

  merged_fields_exact : IsExact (IsKnown 4) merged_fields (merged_at bounds)
  unfolding merged_at
  merged_fields_exact =
      then_exact u64_exact (IsKnown 4) term_in _ _ (λ r is. (merged_facts r is).term) (λ term low.
      then_exact u64_exact (λ r. IsKnown 4 r × (term_in r ≡ term)) first_in _ _ (λ r is. (merged_facts r is.0).first) (λ first first_low.
      last_exact (entries_exact bounds) (λ r. (IsKnown 4 r × (term_in r ≡ term)) × (first_in r ≡ first)) entries_in _ (λ r is. let facts = merged_facts r is.0.0 in (facts.few, facts.entries)) (λ es are_entries.
      checked_exact (λ r. ((IsKnown 4 r × (term_in r ≡ term)) × (first_in r ≡ first)) × (entries_in r ≡ es)) (λ r. true) (MergedRecord term first es)
      (λ r is. (λ i. MergedRecord (sym is.0.0.1 i) (sym is.0.1 i) (sym is.1 i)) ∙ merged_is r is.0.0.0.0.1) (λ r is. refl)
      (λ passes. (((merged_made term first es low first_low are_entries.0 are_entries.1, refl), refl), refl)))))

  merged_exact : IsExact (IsKnown 4) payload_bytes (merged_at bounds)
  merged_exact = respelled merged_fields_exact payload_bytes (λ r is. merged_spelled r is.0.1)

  few_unless_merged : (r : Record) (kind : ℕ) → kind < 4 → record_kind r ≡ kind → length (entries_in r) < 2 ^ 32
  few_unless_merged (ImageRecord generation term vote applied sectors) kind low is = lit< tt
  few_unless_merged (TermRecord term) kind low is = lit< tt
  few_unless_merged (EntryRecord e) kind low is = lit< tt
  few_unless_merged (MergedRecord term first es) kind low is = absurd (omega (arith, low, is))

  known : (kind : ℕ) (p : Parser Record) → kind < 4 → IsExact (IsOfKind kind) payload_bytes p → IsExact (IsKnown kind) payload_bytes p
  known kind p low exact = renamed exact (IsKnown kind) (λ r is. (is, few_unless_merged r kind low is.1)) (λ r is. is.0)

  no_kind : (r : Record) (kind : ℕ) → record_kind r ≡ kind → (kind == 1) ≡ false → (kind == 2) ≡ false → (kind == 3) ≡ false → (kind == 4) ≡ false → ⊥
  no_kind (ImageRecord generation term vote applied sectors) kind is one two three four = eqb-false kind 1 one (sym is)
  no_kind (TermRecord term) kind is one two three four = eqb-false kind 2 two (sym is)
  no_kind (EntryRecord e) kind is one two three four = eqb-false kind 3 three (sym is)
  no_kind (MergedRecord term first es) kind is one two three four = eqb-false kind 4 four (sym is)

  of_kind : (n kind : ℕ) (p : Parser Record) → (kind == n) ≡ true → IsExact (IsKnown n) payload_bytes p → IsExact (IsKnown kind) payload_bytes p
  of_kind n kind p is exact = subst (λ k. IsExact (IsKnown k) payload_bytes p) (sym (eqb-true kind n is)) exact

  payload_exact : (kind : ℕ) → IsExact (IsKnown kind) payload_bytes (payload_at bounds kind)
  unfolding payload_at
  payload_exact kind =
      chosen_exact (IsKnown kind) payload_bytes (kind == 1) _ _ (λ is. of_kind 1 kind (image_at bounds) is (known 1 (image_at bounds) (lit< tt) image_exact)) (λ one.
      chosen_exact (IsKnown kind) payload_bytes (kind == 2) _ _ (λ is. of_kind 2 kind term_at is (known 2 term_at (lit< tt) term_exact)) (λ two.
      chosen_exact (IsKnown kind) payload_bytes (kind == 3) _ _ (λ is. of_kind 3 kind (entry_record_at bounds) is (known 3 (entry_record_at bounds) (lit< tt) entry_record_exact)) (λ three.
      chosen_exact (IsKnown kind) payload_bytes (kind == 4) _ _ (λ is. of_kind 4 kind (merged_at bounds) is merged_exact) (λ four.
      nothing_exact (IsKnown kind) payload_bytes (λ r is. no_kind r kind is.0.1 one two three four)))))

  pub record_found : (kind : ℕ) (payload : List ℕ) (r : Record) → AreBytes payload → record_in bounds kind payload ≡ Some r → IsKnown kind r × (payload ≡ payload_bytes r)
  unfolding record_in
  record_found kind payload r ok e =
      let a = bind_ok (payload_at bounds kind payload) (λ r. cond (length r.1 == 0) (Some r.0) None) r e in
      let ended = cond_some (length a.0.1 == 0) a.0.0 r a.2 in
      let f = (payload_exact kind).found payload a.0.0 a.0.1 ok a.1 in
      let none : a.0.1 ≡ [] = nil_from_length a.0.1 (eqb-true _ _ ended.0) in
      subst (λ x. IsKnown kind x × (payload ≡ payload_bytes x)) ended.1 (f.0, f.1 ∙ ap (λ rest. payload_bytes a.0.0 ++ rest) none ∙ append-nil (payload_bytes a.0.0))

  pub record_again : (kind : ℕ) (r : Record) → IsKnown kind r → record_in bounds kind (payload_bytes r) ≡ Some r
  unfolding record_in
  record_again kind r is =
      ap (λ p. and_then p (λ x. cond (length x.1 == 0) (Some x.0) None)) (ap (payload_at bounds kind) (sym (append-nil (payload_bytes r))) ∙ (payload_exact kind).again r [] is)
