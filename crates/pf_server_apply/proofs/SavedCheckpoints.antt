-- The image of a checkpoint, and memory over it.
use Rattle.std.proofs.Common.{◌≡◌, ◌≢◌, inl, inr, ℕ, zero, suc, ◌+◌, ◌<◌, ◌≤◌, ◌^◌, ◌==◌, Bool, true, false, ◌&&◌, ◌||◌, List, nat_lt, nat_le, arith, refl, sym, ap, subst, ◌∙◌}
use Rattle.std.proofs.lemmas.Bool.{cases_eq, cond-true, cond-false, eq-eqb, false≢true, ne_eqb}
use Rattle.std.proofs.lemmas.Bool.Decides.{nat_tests}
use Rattle.std.specs.FinMap
use Rattle.pf_entry.specs.Maps.{Numbers}
use Rattle.pf_entry.specs.Sets
use Rattle.pf_entry.proofs.Sets.{same_set}
use Rattle.pf_entry.specs.declared.records.Record.TheVariants.{Image as ImageRecord}
use Rattle.pf_entry.specs.Canonical.{IsCanonicalRecord}
use Rattle.pf_entry.specs.Records.{Durable, above, image_of, stored}
use Rattle.pf_codec.specs.Fitting.{RecordFits}
use Rattle.pf_codec.specs.Spelling.{body_bytes}
use Rattle.pf_server_store.specs.Stores.{IsImageOf}
use Rattle.pf_protocol.specs.Fitting.{SlotsFit, SectorsFit}
use Rattle.pf_protocol.specs.Servers.{Server, climb, upto}
use Rattle.pf_protocol.specs.Outcomes.{only_answers}
use Rattle.pf_protocol.specs.Saving.{is_short_of, on_checkpoint, trimmed}
use Rattle.pf_protocol.specs.declared.answers.Answer.TheVariants.{Base as BaseIs}
use Rattle.pf_server_memory.specs.Bounds.{far}
use Rattle.pf_server_memory.specs.declared.running.Running.{Running}
use Rattle.pf_server_memory.specs.Standing.{state_in_memory, server_of, setup_of, IsBounded, IsCached}
use Rattle.pf_server_memory.proofs.AppliedSlots.{in_above}
use Rattle.pf_server_memory.proofs.StepEnds.{IsFollowed, IsSaved}
use Rattle.pf_server_memory.proofs.Images.{image_canonical, image_fits}
use Rattle.pf_server_apply.specs.Saving.{state_saved_at}

over : (a b : ℕ) → nat_lt a b ≡ true → a < b
over a b is = grind (arith, nat_tests)

both : (a b : Bool) → (a && b) ≡ true → (a ≡ true) × (b ≡ true)
both true b is = (refl, is)
both false b is = absurd (false≢true is)

-- what is applied above a checkpoint
abbrev pub above_base : Running → (base : ℕ) → Numbers
above_base me base = Sets.retain me.applied.slots (nat_lt base)

module _ (me : Running) (bounded : IsBounded me) (base : ℕ) (reached : me.log.base ≤ base) where
  slots_fit : SlotsFit (setup_of me) bounded.n base (above_base me base)
  unfolding server_of setup_of
  slots_fit slot at =
      let c = both (Sets.contains me.applied.slots slot) (nat_lt base slot) (sym (in_above me.applied.slots base slot) ∙ at) in
      let high = over base slot c.1 in
      let old = bounded.fits.applied slot (in_above me.applied.slots me.log.base slot ∙ (λ i. c.0 i && is_over me.log.base slot (omega (arith, high, reached)) i)) in
      (high, omega (arith, old.1, reached), old.2)
    where
      is_over : (a b : ℕ) → a < b → nat_lt a b ≡ true
      is_over a b lt = grind (arith, nat_tests)

  sized : SectorsFit (setup_of me) me.sectors
  unfolding server_of
  sized = bounded.fits.sectors

  pub state_canonical : IsCanonicalRecord 2 (image_of (state_saved_at me base))
  state_canonical = image_canonical me bounded base reached bounded.n me.term (above_base me base) me.sectors slots_fit sized

  term_word : me.term < 2 ^ 64
  unfolding server_of
  term_word = omega (arith, bounded.fits.durable.term_low, bounded.t_low)

  state_fits : base < far → RecordFits (image_of (state_saved_at me base))
  state_fits small = image_fits me bounded base reached bounded.n me.term (above_base me base) me.sectors slots_fit sized bounded.low term_word (omega (arith, small))

-- how far all is applied
low_by : (k : ℕ) (slots : Numbers) (n : ℕ) (b : Bool) → Sets.contains slots (suc n) ≡ b → suc n ≤ climb k slots (suc n) → n ≤ climb (suc k) slots n
low_by k slots n true is more = subst (λ m. n ≤ m) (sym (cond-true (Sets.contains slots (suc n)) (climb k slots (suc n)) n is)) (omega (arith, more))
low_by k slots n false is more = subst (λ m. n ≤ m) (sym (cond-false (Sets.contains slots (suc n)) (climb k slots (suc n)) n is)) (omega arith)

climb_low : (k : ℕ) (slots : Numbers) (n : ℕ) → n ≤ climb k slots n
climb_low zero slots n = omega arith
climb_low (suc k) slots n = low_by k slots n (Sets.contains slots (suc n)) refl (climb_low k slots (suc n))

has_by : (k : ℕ) (slots : Numbers) (n q : ℕ) → n < q → q ≤ climb (suc k) slots n → (suc n < q → q ≤ climb k slots (suc n) → Sets.contains slots q ≡ true) → (b : Bool) → Sets.contains slots (suc n) ≡ b → Sets.contains slots q ≡ true
has_by k slots n q low high rest true is =
    let more : q ≤ climb k slots (suc n) = subst (λ m. q ≤ m) (cond-true (Sets.contains slots (suc n)) (climb k slots (suc n)) n is) high in
    elim (cases_eq q (suc n)) [
      | inl same ↦ ap (Sets.contains slots) same ∙ is
      | inr apart ↦ rest (omega (arith, low, apart)) more
    ]
has_by k slots n q low high rest false is = let less : q ≤ n = subst (λ m. q ≤ m) (cond-false (Sets.contains slots (suc n)) (climb k slots (suc n)) n is) high in absurd (omega (arith, low, less))

climb_has : (k : ℕ) (slots : Numbers) (n q : ℕ) → n < q → q ≤ climb k slots n → Sets.contains slots q ≡ true
climb_has zero slots n q low high = absurd (omega (arith, low, high))
climb_has (suc k) slots n q low high = has_by k slots n q low high (λ a b. climb_has k slots (suc n) q a b) (Sets.contains slots (suc n)) refl

le_of : (a b : ℕ) → nat_le a b ≡ true → a ≤ b
le_of a b is = grind (arith, nat_tests)

lt_of : (a b : ℕ) → nat_le a b ≡ false → b < a
lt_of a b is = grind (arith, nat_tests)

top_by : (k : ℕ) (slots : Numbers) (n most : ℕ) → n ≤ most → (Sets.contains slots (suc n) ≡ true → climb k slots (suc n) ≤ most) → (b : Bool) → Sets.contains slots (suc n) ≡ b → climb (suc k) slots n ≤ most
top_by k slots n most le rest true is = subst (λ m. m ≤ most) (sym (cond-true (Sets.contains slots (suc n)) (climb k slots (suc n)) n is)) (rest is)
top_by k slots n most le rest false is = subst (λ m. m ≤ most) (sym (cond-false (Sets.contains slots (suc n)) (climb k slots (suc n)) n is)) le

climb_high : (k : ℕ) (slots : Numbers) (n most : ℕ) → n ≤ most → ((slot : ℕ) → Sets.contains slots slot ≡ true → slot ≤ most) → climb k slots n ≤ most
climb_high zero slots n most le bound = le
climb_high (suc k) slots n most le bound = top_by k slots n most le (λ has. climb_high k slots (suc n) most (bound (suc n) has) bound) (Sets.contains slots (suc n)) refl

most_upto : (s : Server) (most : ℕ) → s.durable.base ≤ most → ((slot : ℕ) → Sets.contains s.applied slot ≡ true → slot ≤ most) → upto s ≤ most
unfolding upto
most_upto s most le bound = climb_high (Sets.len s.applied) s.applied s.durable.base most le bound

pub upto_low : (d : Durable) (me : Running) → IsCached d me → me.log.base ≤ upto (server_of d me)
unfolding upto server_of
upto_low d me cached = omega (arith, cached.base, climb_low (Sets.len (Sets.retain me.applied.slots (nat_lt me.log.base))) (Sets.retain me.applied.slots (nat_lt me.log.base)) d.base)

pub upto_small : (d : Durable) (me : Running) → IsCached d me → IsBounded me → upto (server_of d me) < far
unfolding upto server_of
upto_small d me cached bounded =
    let same : upto (server_of d me) ≡ upto (server_of (state_in_memory me) me) = ap (climb (Sets.len (Sets.retain me.applied.slots (nat_lt me.log.base))) (Sets.retain me.applied.slots (nat_lt me.log.base))) (sym cached.base) in
    omega (arith, same, most_upto (server_of (state_in_memory me) me) bounded.n bounded.fits.durable.vote.base (λ slot at. (bounded.fits.applied slot at).2), bounded.low)

reach : (d : Durable) (me : Running) (cached : IsCached d me) (q : ℕ) → 0 < q → q ≤ upto (server_of d me) → (b : Bool) → nat_le q me.log.base ≡ b → Sets.contains me.applied.slots q ≡ true
unfolding upto server_of
reach d me cached q some low true is = cached.prefix q some (le_of q me.log.base is)
reach d me cached q some low false is =
    let slots = Sets.retain me.applied.slots (nat_lt me.log.base) in
    let high : me.log.base < q = lt_of q me.log.base is in
    (both (Sets.contains me.applied.slots q) (nat_lt me.log.base q) (sym (in_above me.applied.slots me.log.base q) ∙ climb_has (Sets.len slots) slots d.base q (omega (arith, high, cached.base)) low)).0

cut_twice : (low base q : ℕ) (b : Bool) → low ≤ base → ((b && nat_lt low q) && nat_lt base q) ≡ (b && nat_lt base q)
cut_twice low base q true le = grind (arith, nat_tests)
cut_twice low base q false le = refl

twice_above : (slots : Numbers) (low base : ℕ) → low ≤ base → Sets.retain (Sets.retain slots (nat_lt low)) (nat_lt base) ≡ Sets.retain slots (nat_lt base)
twice_above slots low base le = same_set _ _ (λ q.
    in_above (Sets.retain slots (nat_lt low)) base q ∙ ap (λ b. b && nat_lt base q) (in_above slots low q) ∙ cut_twice low base q (Sets.contains slots q) le ∙ sym (in_above slots base q))

-- memory after a checkpoint
abbrev pub passed : Running → (base : ℕ) → Running
passed me base = record me { generation = me.generation + 1; log = record { base = base; entries = FinMap.retain_keys me.log.entries (nat_lt base); committed = Sets.retain me.log.committed (nat_lt base) } }

module _ (d : Durable) (me : Running) (base : ℕ) (cached : IsCached d me) (is : base ≡ upto (server_of d me)) where
  abbrev pub saved : Server
  saved = record (server_of d me) {
    durable = stored d (image_of (state_saved_at me base));
    committed = Sets.retain me.log.committed (nat_lt base);
    applied = Sets.retain me.applied.slots (nat_lt base);
  }

  low : me.log.base ≤ base
  low = omega (arith, is, upto_low d me cached)

  pub trimmed_is : trimmed (server_of d me) ≡ saved
  unfolding trimmed server_of
  trimmed_is = λ i.
      let slots = twice_above me.applied.slots me.log.base base low in
      let cut = λ (b : ℕ). Sets.retain (Sets.retain me.applied.slots (nat_lt me.log.base)) (nat_lt b) in
      record (server_of d me) {
        durable = stored d (ImageRecord (suc (sym cached.generation i)) (sym cached.term i) (record { base = sym is i; starts = sym cached.starts i; log = above (sym is i) (sym cached.log i) }) ((ap cut (sym is) ∙ slots) i) me.sectors);
        committed = Sets.retain me.log.committed (nat_lt (sym is i));
        applied = (ap cut (sym is) ∙ slots) i;
      }

  passed_cached : IsCached saved.durable (passed me base)
  unfolding stored above
  passed_cached =
      let next : me.generation + 1 ≡ suc me.generation = omega arith in
      record {
        number = cached.number;
        term = refl;
        generation = next;
        base = refl;
        starts = refl;
        log = refl;
        format = inl refl;
        prefix = λ q some le. reach d me cached q some (subst (λ n. q ≤ n) is le) (nat_le q me.log.base) refl;
        role = cached.role;
        jobs = cached.jobs;
        places = cached.places;
        rooms = cached.rooms;
        near = cached.near;
        replies = cached.replies;
      }

  passed_here : IsFollowed me (passed me base) saved
  unfolding server_of setup_of
  passed_here = record { server_is = refl; setup_same = refl; cached = passed_cached }

  pub passed_followed : (new : Running) → new ≡ passed me base → IsFollowed me new saved
  passed_followed new same = subst (λ m. IsFollowed me m saved) (sym same) passed_here

  pub saved_is : IsSaved d (image_of (state_saved_at me base)) saved.durable
  unfolding stored
  saved_is = record { is = refl; used = refl; format = refl }

  pub is_image_of : IsBounded me → base < far → (body : List ℕ) → body ≡ body_bytes (image_of (state_saved_at me base)) → IsImageOf d (image_of (state_saved_at me base)) body
  is_image_of bounded small body same = record { canonical = state_canonical me bounded base low; fits = state_fits me bounded base low small; next = ap suc cached.generation; is = same }

-- whether there is a checkpoint to take
or_first : (a b : Bool) → a ≡ true → (a || b) ≡ true
or_first a b is = ap (λ x. x || b) is

or_second : (a b : Bool) → b ≡ true → (a || b) ≡ true
or_second true b is = refl
or_second false b is = is

or_neither : (a b : Bool) → a ≡ false → b ≡ false → (a || b) ≡ false
or_neither a b is is2 = ap (λ x. x || b) is ∙ is2

module _ (s : Server) where
  pub at_checkpoint : upto s ≡ s.durable.base → on_checkpoint s ≡ only_answers s (BaseIs s.durable.base)
  unfolding on_checkpoint
  at_checkpoint is = cond-true _ _ _ (or_first (upto s == s.durable.base) (is_short_of s.role (upto s)) (eq-eqb (upto s) s.durable.base is))

  pub still_short : is_short_of s.role (upto s) ≡ true → on_checkpoint s ≡ only_answers s (BaseIs s.durable.base)
  unfolding on_checkpoint
  still_short is = cond-true _ _ _ (or_second (upto s == s.durable.base) (is_short_of s.role (upto s)) is)

  pub is_taken : upto s ≢ s.durable.base → is_short_of s.role (upto s) ≡ false → on_checkpoint s ≡ only_answers (trimmed s) (BaseIs (upto s))
  unfolding on_checkpoint
  is_taken apart is = cond-false _ _ _ (or_neither (upto s == s.durable.base) (is_short_of s.role (upto s)) (ne_eqb (upto s) s.durable.base apart) is)
