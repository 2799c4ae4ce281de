-- What a record adds to a disk is a growth.
use Rattle.std.proofs.Common.{◌≡◌, ℕ, zero, suc, ◌+◌, ◌-◌, ◌<◌, ◌≤◌, ◌⊎◌, inl, inr, map, Option, Some, None, nat_lt, arith, refl, sym, ap, subst, ◌∙◌, le_trans, le_refl, lt_of_lt_of_le, le_of_eq, le_of_lt}
use Rattle.std.specs.List.{range_with_len}
use Rattle.std.specs.FinMap
use Rattle.std.proofs.lemmas.Bool.{cases_eq, cond-true, cond-false, cases_Bool, lt-ltb}
use Rattle.pf_entry.specs.Maps.{Map}
use Rattle.pf_entry.specs.declared.entries.Entry.{Entry}
use Rattle.pf_entry.specs.Records.{Durable, stored, put_entry, put_entries, add_start, add_merged_start, above}
use Rattle.pf_entry.specs.declared.records.Record.TheVariants.{Term as TermRecord, Entry as EntryRecord, Merged as MergedRecord}
use Rattle.pf_entry.specs.Merging.{merged_entry, merged_entries}
use Rattle.pf_entry.proofs.Maps.{get_inserted, get_apart, insert_cases, get_above}
use Rattle.pf_protocol.proofs.Ballots.{Ballot, first_of, HasFrom, IsStart}
use Rattle.pf_protocol.proofs.Changes.{IsNews, Grows}
use Rattle.pf_entry.proofs.Ranges.{range_cases, range_has}

-- every entry's term is at most the disk's
abbrev pub WithinTerm : Durable → Type 0
WithinTerm d = (s : ℕ) (e : Entry) → FinMap.get d.log s ≡ Some e → e.term ≤ d.term

-- a start for a term stays some start
start_there : (starts : Map ℕ) (term first t f : ℕ) → FinMap.get starts t ≡ Some f → (other : ℕ) × (FinMap.get (FinMap.insert starts term first) t ≡ Some other)
start_there starts term first t f is =
    elim (cases_eq t term) [
      | inl same ↦ (first, ap (FinMap.get (FinMap.insert starts term first)) same ∙ get_inserted starts term first)
      | inr apart ↦ (f, get_apart starts term first t apart ∙ is)
    ]

module _ (proposal : ℕ → ℕ → Option Entry) (ballot : ℕ → Option Ballot) (d : Durable) (within : WithinTerm d) where
  -- the same log, starts and checkpoint
  pub same_grows : (after : Durable) → d.term ≤ after.term → after.base ≡ d.base → after.log ≡ d.log → after.starts ≡ d.starts → Grows proposal ballot d after
  same_grows after le base log starts = record {
    term = le;
    base = le_of_eq (sym base);
    news = λ s e is. inl (ap (λ l. FinMap.get l s) (sym log) ∙ is);
    keeps = λ s e is low. record { entry = e; held = ap (λ l. FinMap.get l s) log ∙ is; no_lower = le_refl _ };
    starts = λ t first is. (first, ap (λ l. FinMap.get l t) starts ∙ is);
    true_starts = λ t first is. inl (ap (λ l. FinMap.get l t) (sym starts) ∙ is);
  }

  pub unchanged_grows : Grows proposal ballot d d
  unchanged_grows = same_grows d (le_refl _) refl refl refl

  pub term_grows : (t : ℕ) → d.term ≤ t → Grows proposal ballot d (stored d (TermRecord t))
  unfolding stored
  term_grows t le = same_grows (stored d (TermRecord t)) le refl refl refl

  -- a proposal of a term that is not lower
  pub entry_grows : (e : Entry) → d.term ≤ e.term → proposal e.slot e.term ≡ Some e → IsStart ballot e.term e.first → Grows proposal ballot d (stored d (EntryRecord e))
  unfolding stored put_entry add_start
  entry_grows e le is starts = record {
    term = le;
    base = le_refl _;
    news = λ s x held. elim (insert_cases d.log e.slot e s x held) [
      | inl here ↦ inr (subst (λ y. IsNews proposal d (stored d (EntryRecord e)) s y) here.1 (record {
        not_old = le;
        not_above = le_refl _;
        is = ap (λ k. proposal k e.term) here.0 ∙ is;
        started = get_inserted d.starts e.term e.first;
      }))
      | inr there ↦ inl there.1
    ];
    keeps = λ s x held low. elim (cases_eq s e.slot) [
      | inl same ↦ record { entry = e; held = ap (FinMap.get (FinMap.insert d.log e.slot e)) same ∙ get_inserted d.log e.slot e; no_lower = le_trans (within s x held) le }
      | inr apart ↦ record { entry = x; held = get_apart d.log e.slot e s apart ∙ held; no_lower = le_refl _ }
    ];
    starts = λ t first has. start_there d.starts e.term e.first t first has;
    true_starts = λ t first has. elim (insert_cases d.starts e.term e.first t first has) [
      | inl here ↦ inr (le_of_eq here.0, subst (λ k. IsStart ballot t k) here.1 (subst (λ k. IsStart ballot k e.first) (sym here.0) starts))
      | inr there ↦ inl there.1
    ];
  }

  -- a later checkpoint
  pub trim_grows : (after : Durable) → d.term ≤ after.term → d.base < after.base → after.log ≡ above after.base d.log → after.starts ≡ d.starts → Grows proposal ballot d after
  unfolding above
  trim_grows after le base log starts = record {
    term = le;
    base = le_of_lt base;
    news = λ s e is. elim (cases_Bool (nat_lt after.base s)) [
      | inl over ↦ inl (sym (cond-true _ _ None over) ∙ sym (get_above d.log after.base s) ∙ ap (λ l. FinMap.get l s) (sym log) ∙ is)
      | inr under ↦ absurd (grind (arith, sym (cond-false _ (FinMap.get d.log s) None under) ∙ sym (get_above d.log after.base s) ∙ ap (λ l. FinMap.get l s) (sym log) ∙ is))
    ];
    keeps = λ s e is low. record {
      entry = e;
      held = ap (λ l. FinMap.get l s) log ∙ get_above d.log after.base s ∙ cond-true _ _ None (lt-ltb after.base s (over s low)) ∙ is;
      no_lower = le_refl _;
    };
    starts = λ t first is. (first, ap (λ l. FinMap.get l t) starts ∙ is);
    true_starts = λ t first is. inl (ap (λ l. FinMap.get l t) (sym starts) ∙ is);
  }
    where
      over : (s : ℕ) → (after.base < s) ⊎ (after.base ≡ d.base) → after.base < s
      over s low = elim low [ inl above_it ↦ above_it | inr same ↦ absurd (omega arith) ]

-- the entries of a range of slots, put into a log
module _ (f : ℕ → Entry) (in_slot : (s : ℕ) → (f s).slot ≡ s) where
  pub range_keeps : (n a : ℕ) (log : Map Entry) (s term : ℕ) → ((k : ℕ) → term ≤ (f k).term) → HasFrom log s term → HasFrom (put_entries log (map f (range_with_len a n))) s term
  unfolding put_entries put_entry
  range_keeps zero a log s term high has = has
  range_keeps (suc n) a log s term high has = range_keeps n (a + 1) (FinMap.insert log (f a).slot (f a)) s term high (elim (cases_eq s (f a).slot) [
    | inl same ↦ record { entry = f a; held = ap (FinMap.get (FinMap.insert log (f a).slot (f a))) same ∙ get_inserted log (f a).slot (f a); no_lower = high a }
    | inr apart ↦ record { entry = has.entry; held = get_apart log (f a).slot (f a) s apart ∙ has.held; no_lower = has.no_lower }
  ])

-- a merge's record
module _ (proposal : ℕ → ℕ → Option Entry) (ballot : ℕ → Option Ballot) (d : Durable) (within : WithinTerm d) (m : Ballot) (leads : ballot d.term ≡ Some m) (proposes : (s : ℕ) → m.base < s → s < first_of m → proposal s d.term ≡ Some (merged_entry d.term m.base m.own m.theirs s)) where
  merge_of : ℕ → Durable
  merge_of n = stored d (MergedRecord d.term (first_of m) (map (merged_entry d.term m.base m.own m.theirs) (range_with_len (suc m.base) n)))

  in_its_slot : (s : ℕ) → (merged_entry d.term m.base m.own m.theirs s).slot ≡ s
  unfolding merged_entry
  in_its_slot s = refl

  in_its_term : (s : ℕ) → (merged_entry d.term m.base m.own m.theirs s).term ≡ d.term
  unfolding merged_entry
  in_its_term s = refl

  its_first : (s : ℕ) → (merged_entry d.term m.base m.own m.theirs s).first ≡ first_of m
  unfolding merged_entry
  its_first s = refl

  start_of_merge : IsStart ballot d.term (first_of m)
  start_of_merge = record { merge = m; is = leads; first_slot = refl }

  merge_starts : (n t first : ℕ) → FinMap.get d.starts t ≡ Some first → (other : ℕ) × (FinMap.get (merge_of n).starts t ≡ Some other)
  unfolding merge_of stored add_merged_start add_start
  merge_starts zero t first is = (first, is)
  merge_starts (suc n) t first is = start_there d.starts d.term (first_of m) t first is

  merge_true_starts : (n t first : ℕ) → FinMap.get (merge_of n).starts t ≡ Some first → (FinMap.get d.starts t ≡ Some first) ⊎ ((t ≤ d.term) × IsStart ballot t first)
  unfolding merge_of stored add_merged_start add_start
  merge_true_starts zero t first is = inl is
  merge_true_starts (suc n) t first is =
      elim (insert_cases d.starts d.term (first_of m) t first is) [
        | inl here ↦ inr (le_of_eq here.0, subst (λ k. IsStart ballot t k) here.1 (subst (λ k. IsStart ballot k (first_of m)) (sym here.0) start_of_merge))
        | inr there ↦ inl there.1
      ]

  merge_started : (n s : ℕ) → suc m.base ≤ s → s < suc m.base + n → FinMap.get (merge_of n).starts d.term ≡ Some (first_of m)
  unfolding merge_of stored add_merged_start add_start
  merge_started zero s low high = absurd (omega arith)
  merge_started (suc n) s low high = get_inserted d.starts d.term (first_of m)

  merge_news : (n : ℕ) → suc m.base + n ≤ first_of m → (s : ℕ) (x : Entry) → FinMap.get (merge_of n).log s ≡ Some x → (FinMap.get d.log s ≡ Some x) ⊎ IsNews proposal d (merge_of n) s x
  unfolding merge_of stored
  merge_news n fits s x is =
      elim (range_cases (merged_entry d.term m.base m.own m.theirs) in_its_slot n (suc m.base) d.log s x is) [
        | inl old ↦ inl old
        | inr new ↦ inr (subst (λ y. IsNews proposal d (merge_of n) s y) new.2 (record {
          not_old = le_of_eq (sym (in_its_term s));
          not_above = le_of_eq (in_its_term s);
          is = ap (proposal s) (in_its_term s) ∙ proposes s new.0 (lt_of_lt_of_le new.1 fits);
          started = ap (FinMap.get (merge_of n).starts) (in_its_term s) ∙ merge_started n s new.0 new.1 ∙ ap Some (sym (its_first s));
        }))
      ]

  merge_grows_by : (n : ℕ) → suc m.base + n ≤ first_of m → Grows proposal ballot d (merge_of n)
  unfolding merge_of stored
  merge_grows_by n fits = record {
    term = le_refl _;
    base = le_refl _;
    news = merge_news n fits;
    keeps = λ s e is low. range_keeps (merged_entry d.term m.base m.own m.theirs) in_its_slot n (suc m.base) d.log s e.term (λ k. le_trans (within s e is) (le_of_eq (sym (in_its_term k)))) (record { entry = e; held = is; no_lower = le_refl _ });
    starts = merge_starts n;
    true_starts = merge_true_starts n;
  }

  merge_holds_by : (n s : ℕ) → suc m.base ≤ s → s < suc m.base + n → FinMap.get (merge_of n).log s ≡ Some (merged_entry d.term m.base m.own m.theirs s)
  unfolding merge_of stored
  merge_holds_by n s low high = range_has (merged_entry d.term m.base m.own m.theirs) in_its_slot n (suc m.base) d.log s low high

  -- after a merge the log has its entries
  pub merge_holds : (s : ℕ) → m.base < s → s < first_of m → FinMap.get (stored d (MergedRecord d.term (first_of m) (merged_entries d.term m.base m.own m.theirs))).log s ≡ Some (merged_entry d.term m.base m.own m.theirs s)
  unfolding merge_of merged_entries
  merge_holds s low high = merge_holds_by (first_of m - suc m.base) s low (omega (arith, low, high))

  pub merge_grows : m.base < first_of m → Grows proposal ballot d (stored d (MergedRecord d.term (first_of m) (merged_entries d.term m.base m.own m.theirs)))
  unfolding merge_of merged_entries
  merge_grows low = merge_grows_by (first_of m - suc m.base) (omega (arith, low))
