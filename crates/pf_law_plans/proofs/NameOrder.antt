-- The names of each directory stand in the order of their bytes, whatever is changed.
use Rattle.std.proofs.Common.{◌≡◌, ℕ, zero, suc, ◌+◌, ◌<◌, inl, inr, true, false, cond, not, nat_lt, List, [], ◌∷◌, length, replicate, set, get_or, arith, refl, sym, ap, subst, ◌∙◌}
use Rattle.std.specs.Cmp.Lexicographic.{slice_cmp}
use Rattle.std.specs.List.{insert, position_or_len}
use Rattle.std.specs.Ordering.{is_eq, is_lt, nat_cmp, ordering_reverse}
use Rattle.std.specs.Str.{bytes_eq}
use Rattle.std.specs.declared.cmp.Ordering.{Ordering}
use Rattle.std.specs.declared.cmp.Ordering.TheVariants.{Less, Equal, Greater}
use Rattle.std.proofs.lemmas.Bool.{cases_Bool, cases_eq, cases_lt, cond-false, cond-true, false≢true, true≢false}
use Rattle.std.proofs.lemmas.Cmp.{nat_list_cmp_total}
use Rattle.std.proofs.lemmas.List.{get_or-replicate, get_or-set_other, get_or-set_same, get_or_past, length-replicate, set_past}
use Rattle.std.proofs.lemmas.Map.Text.{is_eq-slice_cmp}
use Rattle.pf_entry.proofs.Cases.{by_test}
use Rattle.pf_entry.specs.Lists.{Every}
use Rattle.pf_tree_tables.specs.declared.changes.Change.{Change}
use Rattle.pf_tree_tables.specs.declared.changes.Change.TheVariants.{SetInode, AddEntry, DeleteEntry, SetTag}
use Rattle.pf_tree_tables.specs.declared.tables.DirectoryEntry.{DirectoryEntry}
use Rattle.pf_tree_tables.specs.Names.{Name, is_name_before}
use Rattle.pf_tree_tables.specs.Tables.{Entries, IsAscending, Tables, after_change, applied, named, names_in, new_entries, other_entries, put_entry}
use Rattle.pf_tree_tables.proofs.Entries.{dropped, kept}

-- Names

abbrev Comes : DirectoryEntry → DirectoryEntry → Type 0
Comes row later = is_name_before row.name later.name ≡ true

-- each comes before all later ones
abbrev pub Rises : List DirectoryEntry → Type 0
Rises [] = Unit {0}
Rises (row ∷ rows) = Every (Comes row) rows × Rises rows

less : (o : Ordering) → is_lt o ≡ true → o ≡ Less
less Less e = refl
less Equal e = absurd (false≢true e)
less Greater e = absurd (false≢true e)

comes_on : (a b c : DirectoryEntry) → Comes a b → Comes b c → Comes a c
comes_on a b c first second =
    ap is_lt (nat_list_cmp_total.trans a.name b.name c.name (less (slice_cmp nat_cmp a.name b.name) first) (less (slice_cmp nat_cmp b.name c.name) second))

comes_by : (a b : DirectoryEntry) (o : Ordering) → slice_cmp nat_cmp a.name b.name ≡ o → is_name_before b.name a.name ≡ false → bytes_eq a.name b.name ≡ false → Comes a b
comes_by a b Less same not_back apart = ap is_lt same
comes_by a b Equal same not_back apart = absurd (true≢false (sym (ap is_eq same) ∙ is_eq-slice_cmp a.name b.name ∙ apart))
comes_by a b Greater same not_back apart =
    let back : slice_cmp nat_cmp b.name a.name ≡ Less = nat_list_cmp_total.antisymm b.name a.name ∙ ap ordering_reverse same in
    absurd (true≢false (sym (ap is_lt back) ∙ not_back))

all_come : (a b : DirectoryEntry) (rows : List DirectoryEntry) → Comes a b → Every (Comes b) rows → Every (Comes a) rows
all_come a b [] first all = tt
all_come a b (row ∷ rows) first all = (comes_on a b row first all.0, all_come a b rows first all.1)

-- without a name

others_every : (P : DirectoryEntry → Type 0) (rows : List DirectoryEntry) (n : Name) → Every P rows → Every P (other_entries rows n)
others_every P [] n all = tt
others_every P (row ∷ rows) n all =
    elim (cases_Bool (bytes_eq row.name n)) [
      | inl is ↦ subst (Every P) (sym (dropped n row rows is)) (others_every P rows n all.1)
      | inr isnt ↦ subst (Every P) (sym (kept n row rows isnt)) (all.0, others_every P rows n all.1)
    ]

others_rise : (rows : List DirectoryEntry) (n : Name) → Rises rows → Rises (other_entries rows n)
others_rise [] n rises = tt
others_rise (row ∷ rows) n rises =
    elim (cases_Bool (bytes_eq row.name n)) [
      | inl is ↦ subst Rises (sym (dropped n row rows is)) (others_rise rows n rises.1)
      | inr isnt ↦ subst Rises (sym (kept n row rows isnt)) (others_every (Comes row) rows n rises.0, others_rise rows n rises.1)
    ]

-- none has this name
abbrev AreApart : Name → List DirectoryEntry → Type 0
AreApart n rows = Every (λ (other : DirectoryEntry). bytes_eq other.name n ≡ false) rows

others_apart : (rows : List DirectoryEntry) (n : Name) → AreApart n (other_entries rows n)
others_apart [] n = tt
others_apart (row ∷ rows) n =
    elim (cases_Bool (bytes_eq row.name n)) [
      | inl is ↦ subst (AreApart n) (sym (dropped n row rows is)) (others_apart rows n)
      | inr isnt ↦ subst (AreApart n) (sym (kept n row rows isnt)) (isnt, others_apart rows n)
    ]

-- with one more

put_first : (row other : DirectoryEntry) (rows : List DirectoryEntry) → is_name_before row.name other.name ≡ true → put_entry (other ∷ rows) row ≡ row ∷ other ∷ rows
put_first row other rows e =
    ap (λ (n : ℕ). insert (other ∷ rows) n row) (cond-false (not (is_name_before row.name other.name)) (1 + position_or_len (λ (y : DirectoryEntry). is_name_before row.name y.name) rows) 0 (ap not e))

put_later : (row other : DirectoryEntry) (rows : List DirectoryEntry) → is_name_before row.name other.name ≡ false → put_entry (other ∷ rows) row ≡ other ∷ put_entry rows row
put_later row other rows e =
    let place = position_or_len (λ (y : DirectoryEntry). is_name_before row.name y.name) rows in
    let next : 1 + place ≡ suc place = omega arith in
    ap (λ (n : ℕ). insert (other ∷ rows) n row) (cond-true (not (is_name_before row.name other.name)) (1 + place) 0 (ap not e) ∙ next)

put_every : (P : DirectoryEntry → Type 0) (rows : List DirectoryEntry) (row : DirectoryEntry) → P row → Every P rows → Every P (put_entry rows row)
put_every P [] row is all = (is, tt)
put_every P (other ∷ rows) row is all =
    elim (cases_Bool (is_name_before row.name other.name)) [
      | inl first ↦ subst (Every P) (sym (put_first row other rows first)) (is, all)
      | inr later ↦ subst (Every P) (sym (put_later row other rows later)) (all.0, put_every P rows row is all.1)
    ]

put_rises : (rows : List DirectoryEntry) (row : DirectoryEntry) → AreApart row.name rows → Rises rows → Rises (put_entry rows row)
put_rises [] row apart rises = (tt, tt)
put_rises (other ∷ rows) row apart rises =
    elim (cases_Bool (is_name_before row.name other.name)) [
      | inl first ↦ subst Rises (sym (put_first row other rows first)) ((first, all_come row other rows first rises.0), rises)
      | inr later ↦
          let comes = comes_by other row (slice_cmp nat_cmp other.name row.name) refl later apart.0 in
          subst Rises (sym (put_later row other rows later)) (put_every (Comes other) rows row comes rises.0, put_rises rows row apart.1 rises.1)
    ]

-- Tables

abbrev pub AllRise : Entries → Type 0
AllRise es = (k : ℕ) → Rises (names_in es k)

set_rises : (es : Entries) (d : ℕ) (rows : List DirectoryEntry) → Rises rows → AllRise es → AllRise (set es d rows)
set_rises es d rows rises all k =
    elim (cases_eq k d) [
      | inl same ↦
          elim (cases_lt d (length es)) [
            | inl low ↦ subst Rises (sym (ap (names_in (set es d rows)) same ∙ get_or-set_same es d rows [] low)) rises
            | inr far ↦ subst (λ (other : Entries). Rises (names_in other k)) (sym (set_past es d rows far)) (all k)
          ]
      | inr apart ↦ subst Rises (sym (get_or-set_other es d k rows [] apart)) (all k)
    ]

change_rises : (t : Tables) (c : Change) → AllRise t.entries → AllRise (after_change t c).entries
change_rises t (SetInode i kind size) all = all
change_rises t (SetTag b i k) all = all
change_rises t (DeleteEntry d n) all = set_rises t.entries d (other_entries (names_in t.entries d) n) (others_rise (names_in t.entries d) n (all d)) all
change_rises t (AddEntry d i n) all =
    let row : DirectoryEntry = record { inode = i; name = n } in
    let left : List DirectoryEntry = other_entries (names_in t.entries d) n in
    by_test (nat_lt i (length t.inodes)) (λ b. AllRise (cond b (named t.entries d i n) t.entries))
    (λ _. set_rises t.entries d (put_entry left row) (put_rises left row (others_apart (names_in t.entries d) n) (others_rise (names_in t.entries d) n (all d))) all)
    (λ _. all)

pub applied_rises : (t : Tables) (cs : List Change) → AllRise t.entries → AllRise (applied t cs).entries
applied_rises t [] all = all
applied_rises t (c ∷ cs) all = applied_rises (after_change t c) cs (change_rises t c all)

abbrev no_names : List DirectoryEntry
no_names = []

none_there : (n k : ℕ) → get_or (replicate n no_names) k no_names ≡ no_names
none_there n k =
    elim (cases_lt k n) [
      | inl low ↦ get_or-replicate n k no_names no_names low
      | inr past ↦ get_or_past (replicate n no_names) k no_names (let count = length-replicate n no_names in omega (arith, count, past))
    ]

pub new_rise : AllRise new_entries
unfolding new_entries
new_rise k = subst Rises (sym (none_there 1024 k)) tt

-- so each comes before each later one

every_at : (P : DirectoryEntry → Type 0) (rows : List DirectoryEntry) → Every P rows → (k : ℕ) (d : DirectoryEntry) → k < length rows → P (get_or rows k d)
every_at P [] all k d low = absurd (omega (arith, low))
every_at P (row ∷ rows) all zero d low = all.0
every_at P (row ∷ rows) all (suc k) d low = every_at P rows all.1 k d (omega (arith, low))

pub ascending : (rows : List DirectoryEntry) → Rises rows → IsAscending rows
ascending [] rises i j d before low = absurd (omega (arith, low))
ascending (row ∷ rows) rises zero zero d before low = absurd (omega (arith, before))
ascending (row ∷ rows) rises zero (suc j) d before low = every_at (Comes row) rows rises.0 j d (omega (arith, low))
ascending (row ∷ rows) rises (suc i) zero d before low = absurd (omega (arith, before))
ascending (row ∷ rows) rises (suc i) (suc j) d before low = ascending rows rises.1 i j d (omega (arith, before)) (omega (arith, low))
