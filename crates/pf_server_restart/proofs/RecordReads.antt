-- Records that are read one after another.
use Rattle.std.proofs.Common.{◌≡◌, inl, inr, ℕ, zero, suc, ◌<◌, ◌≤◌, Bool, true, false, cond, List, [], ◌∷◌, ◌++◌, length, get_or, Option, Some, None, ◌==◌, nat_lt, is_some, IsTrue, arith, refl, sym, ap, subst, ◌∙◌}
use Rattle.std.proofs.lemmas.Bool.{cases_eq, false≢true, and_parts, ltb-true}
use Rattle.std.specs.Ordering.{nat_cmp}
use Rattle.std.specs.Cmp.{nat_cmp_total}
use Rattle.std.specs.FinMap
use Rattle.std.specs.FinMap.{get-empty, same_map, same_entries_map, nat_cmp-IsAntisymmetric}
use Rattle.pf_entry.specs.Lists.{Every}
use Rattle.pf_entry.specs.Sets
use Rattle.pf_entry.proofs.Lists.{every_more}
use Rattle.pf_entry.specs.Maps.{Map}
use Rattle.pf_entry.proofs.Maps.{get_inserted, get_apart, get_above}
use Rattle.pf_entry.specs.Tables.{ascends, ascends_from}
use Rattle.pf_entry.specs.EntryMaps.{slots_in, entry_rows, log_of}
use Rattle.pf_entry.proofs.MapLists.{log_rows}
use Rattle.pf_entry.specs.Records.{Durable, add_start, add_merged_start, put_entry, put_entries, recovered, stored}
use Rattle.pf_entry.specs.declared.entries.Entry.{Entry}
use Rattle.pf_entry.specs.declared.records.Record.{Record}
use Rattle.pf_entry.specs.declared.records.Record.TheVariants.{Image as ImageRecord, Term as TermRecord, Entry as EntryRecord, Merged as MergedRecord}
use Rattle.pf_holes.specs.HoleLogs.{Holes}
use Rattle.pf_holes.specs.Windows.{SlotsAreWithin}
use Rattle.pf_holes.proofs.HoleLogs.{key_stays}
use Rattle.pf_entry.specs.Maps.{Numbers}
use Rattle.pf_entry.specs.Ops.{Sector}
use Rattle.pf_entry.specs.declared.entries.VoteLog.{VoteLog}
use Rattle.pf_server_tables.specs.StartTables.{StartRoom}
use Rattle.pf_server_store.specs.Stores.{BeginsWithImage, RecordsStandFor, blank, is_image, state_of_records}
use Rattle.pf_server_store.specs.declared.found.Found.{Found}
use Rattle.pf_server_restart.specs.declared.recovery.Recovered.{Recovered}
use Rattle.pf_server_restart.specs.Recovering.{HasWindow, IsFollowed, SlotIsPlaced, IsRecovered, no_holes, state_in}

-- the starts after a merge
pub some_start : (starts : Map ℕ) (term first : ℕ) (es : List Entry) → (length es == 0) ≡ false → add_start starts term first ≡ add_merged_start starts term first es
unfolding add_merged_start
some_start starts term first [] some = absurd (false≢true (sym some))
some_start starts term first (e ∷ es) some = refl

pub no_start : (starts : Map ℕ) (term first : ℕ) (es : List Entry) → (length es == 0) ≡ true → starts ≡ add_merged_start starts term first es
unfolding add_merged_start
no_start starts term first [] none = refl
no_start starts term first (e ∷ es) none = absurd (grind (arith, none))

-- a log after each entry
abbrev pub with_entries : Holes → List Entry → Holes
with_entries log es = record log { entries = put_entries log.entries es }

more_put : (log : Map Entry) (es : List Entry) (e : Entry) → put_entries log (es ++ e ∷ []) ≡ FinMap.insert (put_entries log es) e.slot e
unfolding put_entries put_entry
more_put log [] e = refl
more_put log (x ∷ xs) e = more_put (put_entry log x) xs e

pub none_put : (log : Holes) → log ≡ with_entries log []
unfolding put_entries
none_put log = refl

pub one_put : (log mid new : Holes) (es : List Entry) (e : Entry) → mid ≡ with_entries log es → new ≡ record mid { entries = FinMap.insert mid.entries e.slot e } → new ≡ with_entries log (es ++ e ∷ [])
one_put log mid new es e before put = put ∙ (λ i. record (before i) { entries = FinMap.insert (before i).entries e.slot e }) ∙ (λ i. record log { entries = sym (more_put log.entries es e) i })

every_or : (P : Entry → Type 0) (es : List Entry) (k : ℕ) (e : Entry) → Every P es → k < length es → e ≡ get_or es k e → P e
every_or P [] k e each lt at = absurd (omega (arith, lt))
every_or P (x ∷ xs) zero e each lt at = subst P (sym at) each.0
every_or P (x ∷ xs) (suc k) e each lt at = every_or P xs k e each.1 (omega (arith, lt)) at

pub next_placed : (log mid : Holes) (es all : List Entry) (e : Entry) → mid ≡ with_entries log es → Every (λ x. SlotIsPlaced log.base x.slot) all → (length es < length all) × (e ≡ get_or all (length es) e) → SlotIsPlaced mid.base e.slot
next_placed log mid es all e before placed turn =
    subst (λ base. SlotIsPlaced base e.slot) (sym (ap (λ (l : Holes). l.base) before)) (every_or (λ x. SlotIsPlaced log.base x.slot) all (length es) e placed turn.0 turn.1)

-- keys stay
put_keeps : (es : List Entry) (log : Map Entry) (q : ℕ) → FinMap.contains_key log q ≡ true → FinMap.contains_key (put_entries log es) q ≡ true
unfolding put_entries put_entry
put_keeps [] log q has = has
put_keeps (e ∷ es) log q has = put_keeps es (put_entry log e) q (key_stays log e.slot e q has)

put_has : (es : List Entry) (log : Map Entry) → Every (λ e. FinMap.contains_key (put_entries log es) e.slot ≡ true) es
unfolding put_entries put_entry
put_has [] log = tt
put_has (e ∷ es) log = (put_keeps es (put_entry log e) e.slot (ap is_some (get_inserted log e.slot e)), put_has es (put_entry log e))

all_placed : (base : ℕ) (es : List Entry) (log : Map Entry) → SlotsAreWithin base (put_entries log es) → Every (λ e. SlotIsPlaced base e.slot) es
all_placed base es log within = every_more (λ e. FinMap.contains_key (put_entries log es) e.slot ≡ true) (λ e. SlotIsPlaced base e.slot) (λ e has. within e.slot has) es (put_has es log)

-- a list that ascends, put entry by entry
abbrev or_else : Option Entry → Option Entry → Option Entry
or_else None o = o
or_else (Some e) o = Some e

or_none : (o p : Option Entry) → p ≡ None → or_else o p ≡ o
or_none None p none = none
or_none (Some e) p none = refl

none_or : (o p : Option Entry) → o ≡ None → or_else o p ≡ p
none_or None p none = refl
none_or (Some e) p none = absurd (grind arith)

log_cons : (e : Entry) (es : List Entry) → log_of (e ∷ es) ≡ FinMap.insert (log_of es) e.slot e
unfolding log_of
log_cons e es = refl

log_none : log_of [] ≡ FinMap.empty
unfolding log_of
log_none = refl

none_low : (es : List Entry) (n q : ℕ) → ascends_from n (slots_in es) ≡ true → q ≤ n → FinMap.get (log_of es) q ≡ None
none_low [] n q is le = ap (λ m. FinMap.get m q) log_none ∙ get-empty nat_cmp q
none_low (e ∷ es) n q is le =
    let h = and_parts (nat_lt n e.slot) (ascends_from e.slot (slots_in es)) is in
    let lt = ltb-true n e.slot h.0 in
    ap (λ m. FinMap.get m q) (log_cons e es) ∙ get_apart (log_of es) e.slot e q (λ same. omega (arith, same, lt, le)) ∙ none_low es e.slot q h.1 (omega (arith, lt, le))

ascends_rest : (n : ℕ) (ns : List ℕ) → ascends_from n ns ≡ true → ascends ns ≡ true
ascends_rest n [] is = refl
ascends_rest n (m ∷ ms) is = (and_parts (nat_lt n m) (ascends_from m ms) is).1

put_get : (es : List Entry) (log : Map Entry) (q : ℕ) → ascends (slots_in es) ≡ true → FinMap.get (put_entries log es) q ≡ or_else (FinMap.get (log_of es) q) (FinMap.get log q)
unfolding put_entries put_entry
put_get [] log q is = sym (none_or (FinMap.get (log_of []) q) (FinMap.get log q) (ap (λ m. FinMap.get m q) log_none ∙ get-empty nat_cmp q))
put_get (e ∷ es) log q is =
    let rest = put_get es (put_entry log e) q (ascends_rest e.slot (slots_in es) is) in
    elim (cases_eq q e.slot) [
      | inl same ↦
          rest ∙ none_or _ _ (none_low es e.slot q is (omega (arith, same))) ∙ ap (FinMap.get (put_entry log e)) same ∙ get_inserted log e.slot e
          ∙ sym (ap (λ o. or_else o (FinMap.get log q)) (ap (λ m. FinMap.get m q) (log_cons e es) ∙ ap (FinMap.get (FinMap.insert (log_of es) e.slot e)) same ∙ get_inserted (log_of es) e.slot e))
      | inr apart ↦
          rest ∙ ap (or_else (FinMap.get (log_of es) q)) (get_apart log e.slot e q apart)
          ∙ sym (ap (λ o. or_else o (FinMap.get log q)) (ap (λ m. FinMap.get m q) (log_cons e es) ∙ get_apart (log_of es) e.slot e q apart))
    ]

put_rows : (es : List Entry) → ascends (slots_in es) ≡ true → put_entries FinMap.empty es ≡ log_of es
put_rows es is = same_map nat_cmp_total nat_cmp-IsAntisymmetric _ _ (λ q. put_get es FinMap.empty q is ∙ or_none (FinMap.get (log_of es) q) (FinMap.get FinMap.empty q) (get-empty nat_cmp q))

-- the rows of a map, put entry by entry
pub put_map : (log : Map Entry) (es : List Entry) → ascends (slots_in es) ≡ true → FinMap.entries log ≡ entry_rows es → put_entries FinMap.empty es ≡ log
put_map log es is rows = put_rows es is ∙ same_entries_map _ log (log_rows es is ∙ sym rows)

pub rows_placed : (base : ℕ) (log : Map Entry) (es : List Entry) → ascends (slots_in es) ≡ true → FinMap.entries log ≡ entry_rows es → SlotsAreWithin base log → Every (λ e. SlotIsPlaced base e.slot) es
rows_placed base log es is rows within = all_placed base es FinMap.empty (subst (SlotsAreWithin base) (sym (put_map log es is rows)) within)

nothing_cut : {X : Type 0} → (o : Option X) (b : Bool) → o ≡ None → cond b o None ≡ None
nothing_cut o true none = none
nothing_cut o false none = refl

none_kept : {X : Type 0} → (m : Map X) (base : ℕ) → m ≡ FinMap.empty → FinMap.retain_keys m (nat_lt base) ≡ FinMap.empty
none_kept m base none = same_map nat_cmp_total nat_cmp-IsAntisymmetric _ _ (λ q. get_above m base q ∙ nothing_cut (FinMap.get m q) (nat_lt base q) (ap (λ n. FinMap.get n q) none ∙ get-empty nat_cmp q) ∙ sym (get-empty nat_cmp q))

pub none_trimmed : (log new : Holes) (base : ℕ) → log ≡ no_holes 0 → new ≡ record { base = base; entries = FinMap.retain_keys log.entries (nat_lt base); committed = Sets.retain log.committed (nat_lt base) } → new ≡ no_holes base
none_trimmed log new base none is = is ∙ (λ i. record { base = base; entries = none_kept log.entries base (ap (λ (l : Holes). l.entries) none) i; committed = none_kept log.committed base (ap (λ (l : Holes). l.committed) none) i })

-- a record keeps the window
pub entry_placed : (d : Durable) (e : Entry) → HasWindow (stored d (EntryRecord e)) → SlotIsPlaced d.base e.slot
unfolding stored put_entry
entry_placed d e window = window e.slot (ap is_some (get_inserted d.log e.slot e))

pub merged_placed : (d : Durable) (term first : ℕ) (es : List Entry) → HasWindow (stored d (MergedRecord term first es)) → Every (λ e. SlotIsPlaced d.base e.slot) es
unfolding stored
merged_placed d term first es window = all_placed d.base es d.log window

step_window : (r : Record) (d : Durable) → is_image r ≡ false → HasWindow (stored d r) → HasWindow d
unfolding stored put_entry
step_window (ImageRecord generation term vote applied sectors) d is window = absurd (false≢true (sym is))
step_window (TermRecord term) d is window = window
step_window (EntryRecord e) d is window = λ q has. window q (key_stays d.log e.slot e q has)
step_window (MergedRecord term first es) d is window = λ q has. window q (put_keeps es d.log q has)

pub window_before : (rs : List Record) (d : Durable) → Every (λ r. is_image r ≡ false) rs → HasWindow (recovered d rs) → HasWindow d
window_before [] d each window = window
window_before (r ∷ rs) d each window = step_window r d each.0 (window_before rs (stored d r) each.1 window)

-- the used bytes tell nothing else
abbrev pub but_used : Durable → Durable
but_used d = record d { used = 0 }

pub stored_but_used : (r : Record) (d e : Durable) → but_used d ≡ but_used e → but_used (stored d r) ≡ but_used (stored e r)
unfolding stored
stored_but_used (ImageRecord generation term vote applied sectors) d e same = refl
stored_but_used (TermRecord term) d e same = ap (λ (x : Durable). record x { term = term }) same
stored_but_used (EntryRecord e) d x same = ap (λ (y : Durable). record y { term = e.term; starts = add_start y.starts e.term e.first; log = put_entry y.log e }) same
stored_but_used (MergedRecord term first es) d e same = ap (λ (y : Durable). record y { term = term; starts = add_merged_start y.starts term first es; log = put_entries y.log es }) same

pub recovered_but_used : (rs : List Record) (d e : Durable) → but_used d ≡ but_used e → but_used (recovered d rs) ≡ but_used (recovered e rs)
recovered_but_used [] d e same = same
recovered_but_used (r ∷ rs) d e same = recovered_but_used rs (stored d r) (stored e r) (stored_but_used r d e same)

pub same_state : (d e : Durable) → but_used d ≡ but_used e → d.used ≡ e.used → d ≡ e
same_state d e same used i = record (same i) { used = used i }

-- what is read
pub unplaced : {P : Type 0} → (b : Bool) → b ≡ false → (P → IsTrue b) → P → ⊥
unplaced b fails holds_so p = false≢true (sym fails ∙ holds_so p)

pub term_followed : (old : Recovered) (term : ℕ) → IsFollowed old (TermRecord term) (record old { term = term })
unfolding stored
term_followed old term = record { state = refl; unmarked = refl }

pub entry_followed : (old : Recovered) (e : Entry) (starts : StartRoom) (log : Holes) → starts.starts ≡ add_start old.starts.starts e.term e.first
    → log ≡ record old.log { entries = FinMap.insert old.log.entries e.slot e } → IsFollowed old (EntryRecord e) (record old { term = e.term; starts = starts; log = log })
unfolding stored put_entry
entry_followed old e starts log started put = record {
  state = λ i. record (state_in old) { term = e.term; starts = started i; base = (put i).base; log = (put i).entries };
  unmarked = ap (λ (l : Holes). l.committed) put;
}

pub merged_followed : (old : Recovered) (term first : ℕ) (es : List Entry) (starts : StartRoom) (log : Holes) → starts.starts ≡ add_merged_start old.starts.starts term first es
    → log ≡ with_entries old.log es → IsFollowed old (MergedRecord term first es) (record old { term = term; starts = starts; log = log })
unfolding stored
merged_followed old term first es starts log started put = record {
  state = λ i. record (state_in old) { term = term; starts = started i; base = (put i).base; log = (put i).entries };
  unmarked = ap (λ (l : Holes). l.committed) put;
}

pub image_window : (generation term : ℕ) (vote : VoteLog) (applied : Numbers) (sectors : List Sector) (image : Record) → image ≡ ImageRecord generation term vote applied sectors → HasWindow (stored blank image) → SlotsAreWithin vote.base vote.log
unfolding stored
image_window generation term vote applied sectors image is window = subst (λ r. HasWindow (stored blank r)) is window

pub image_read : (format used generation term : ℕ) (vote : VoteLog) (applied : Numbers) (sectors : List Sector) (image : Record) → image ≡ ImageRecord generation term vote applied sectors
    → (es : List Entry) → ascends (slots_in es) ≡ true → FinMap.entries vote.log ≡ entry_rows es
    → (starts : StartRoom) (empty log : Holes) → starts.starts ≡ vote.starts → empty ≡ no_holes vote.base → log ≡ with_entries empty es
    → IsRecovered (record (stored blank image) { format = format; used = used }) (record { format = format; used = used; generation = generation; term = term; starts = starts; log = log; applied = applied; sectors = sectors })
unfolding stored
image_read format used generation term vote applied sectors image is es ascending rows starts empty log started none put =
    let put_there = put ∙ (λ i. with_entries (none i) es) in
    subst (λ r. IsRecovered (record (stored blank r) { format = format; used = used }) (record { format = format; used = used; generation = generation; term = term; starts = starts; log = log; applied = applied; sectors = sectors }))
    (sym is)
    (record {
      state = (λ i. record { format = format; used = used; generation = generation; term = term; base = (put_there i).base; starts = started i; log = (put_there i).entries; saved = applied; sectors = sectors })
          ∙ (λ i. record { format = format; used = used; generation = generation; term = term; base = vote.base; starts = vote.starts; log = put_map vote.log es ascending rows i; saved = applied; sectors = sectors });
      unmarked = ap (λ (l : Holes). l.committed) put_there;
    })

-- a half, whose first record is its image
first_of_half : (format : ℕ) (rs : List Record) (image : Record) (rest : List Record) → rs ≡ image ∷ rest → state_of_records format rs ≡ recovered (record (stored blank image) { format = format }) rest
first_of_half format rs image rest is = ap (state_of_records format) is

pub begins_with : (rs : List Record) (image : Record) (rest : List Record) → rs ≡ image ∷ rest → BeginsWithImage rs → (is_image image ≡ true) × Every (λ r. is_image r ≡ false) rest
begins_with rs image rest is begins = subst BeginsWithImage is begins

-- no entry of the image's checkpoint has a place
pub image_unplaced : (found : Found) (d : Durable) (image : Record) (rest : List Record) → found.records.items ≡ image ∷ rest → RecordsStandFor found d → (HasWindow (stored blank image) → ⊥) → HasWindow d → ⊥
image_unplaced found d image rest is stands none window =
    let each = (begins_with found.records.items image rest is stands.image).1 in
    none (window_before rest (record (stored blank image) { format = found.format }) each (subst HasWindow (sym stands.state ∙ first_of_half found.format found.records.items image rest is) window))

module _ (found : Found) (image : Record) (rest : List Record) (is : found.records.items ≡ image ∷ rest) (first : Recovered) (begun : IsRecovered (record (stored blank image) { format = found.format; used = found.used }) first) where
  whole : (d : Durable) → RecordsStandFor found d → but_used d ≡ but_used (recovered (state_in first) rest)
  whole d stands =
      ap but_used (sym stands.state ∙ first_of_half found.format found.records.items image rest is)
      ∙ recovered_but_used rest (record (stored blank image) { format = found.format }) (state_in first) (ap but_used (sym begun.state))

  -- an entry of a later record has no place
  pub next_unplaced : (now : Recovered) (r : Record) (later : List Record) → Every (λ x. is_image x ≡ false) later → but_used (recovered (state_in now) (r ∷ later)) ≡ but_used (recovered (state_in first) rest) → (HasWindow (stored (state_in now) r) → ⊥)
      → (d : Durable) → RecordsStandFor found d → HasWindow d → ⊥
  next_unplaced now r later each same none d stands window = none (window_before later (stored (state_in now) r) each (subst (λ (x : Durable). SlotsAreWithin x.base x.log) (whole d stands ∙ sym same) window))

  pub all_read : (now : Recovered) (none : List Record) → none ≡ [] → but_used (recovered (state_in now) none) ≡ but_used (recovered (state_in first) rest) → now.used ≡ first.used → now.log.committed ≡ first.log.committed → (d : Durable) → RecordsStandFor found d → IsRecovered d now
  all_read now none empty same used marks d stands = record {
    state = same_state (state_in now) d (ap (λ rs. but_used (recovered (state_in now) rs)) (sym empty) ∙ same ∙ sym (whole d stands)) (used ∙ ap (λ (x : Durable). x.used) begun.state ∙ stands.used);
    unmarked = marks ∙ begun.unmarked;
  }

pub state_goes_on : (old new : Recovered) (r : Record) (rest : List Record) (x : Durable) → but_used (recovered (state_in old) (r ∷ rest)) ≡ x → IsFollowed old r new → but_used (recovered (state_in new) rest) ≡ x
state_goes_on old new r rest x is followed_so = recovered_but_used rest (state_in new) (stored (state_in old) r) (ap but_used followed_so.state) ∙ is

pub later_images : (rs : List Record) (r : Record) (later : List Record) → rs ≡ r ∷ later → Every (λ x. is_image x ≡ false) rs → (is_image r ≡ false) × Every (λ x. is_image x ≡ false) later
later_images rs r later is each = subst (Every (λ x. is_image x ≡ false)) is each

pub used_same : (old : Recovered) (r : Record) (new : Recovered) → IsFollowed old r new → new.used ≡ old.used
used_same old r new followed_so = ap (λ (x : Durable). x.used) followed_so.state

pub moved_places : (base there : ℕ) (es fs : List Entry) → base ≡ there → es ≡ fs → Every (λ e. SlotIsPlaced base e.slot) es → Every (λ e. SlotIsPlaced there e.slot) fs
moved_places base there es fs same alike each = subst (λ xs. Every (λ e. SlotIsPlaced there e.slot) xs) alike (subst (λ b. Every (λ e. SlotIsPlaced b e.slot) es) same each)
