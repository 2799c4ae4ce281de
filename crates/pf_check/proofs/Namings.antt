-- How often an inode is named, and by which entries.
use Rattle.std.proofs.Common.{◌≡◌, ◌≢◌, ℕ, zero, suc, ◌+◌, ◌<◌, ◌≤◌, inl, inr, cond, ◌==◌, min, List, [], ◌∷◌, ◌++◌, length, take, set, get_or, Some, refl, sym, ap, ◌∙◌, arith}
use Rattle.std.specs.Str.{bytes_eq}
use Rattle.std.proofs.lemmas.Bool.{cases_Bool, cases_eq, cases_lt, cond-true, cond-false, eq-eqb, ne_eqb, false_from_ne_true}
use Rattle.std.proofs.lemmas.Option.{none-some, same_Some}
use Rattle.std.proofs.lemmas.List.{get_or-set_same, get_or-set_other, length-set, take_more}
use Rattle.pf_tree_tables.specs.declared.tables.DirectoryEntry.{DirectoryEntry}
use Rattle.pf_tree_tables.specs.Names.{Name}
use Rattle.pf_tree_tables.specs.Tables.{Entries, names_in, entry_found, entry_at}
use Rattle.pf_tree_tables.proofs.Entries.{same_name, is_name, here, past}
use Rattle.pf_check.specs.Raw.{AreDistinct}
use Rattle.pf_check.specs.Walks.{times_in, times_named, count_more, counted, all_counted}

hit : (row : DirectoryEntry) (rows : List DirectoryEntry) (i : ℕ) → row.inode ≡ i → times_in (row ∷ rows) i ≡ 1 + times_in rows i
hit row rows i e = ap (λ k. k + times_in rows i) (cond-true (row.inode == i) 1 0 (eq-eqb row.inode i e))

miss : (row : DirectoryEntry) (rows : List DirectoryEntry) (i : ℕ) → row.inode ≢ i → times_in (row ∷ rows) i ≡ 0 + times_in rows i
miss row rows i e = ap (λ k. k + times_in rows i) (cond-false (row.inode == i) 1 0 (ne_eqb row.inode i e))

-- an entry of the rest
later : (row : DirectoryEntry) (rows : List DirectoryEntry) (n : Name) (i : ℕ) → AreDistinct (row ∷ rows) → entry_found rows n ≡ Some i → entry_found (row ∷ rows) n ≡ Some i
later row rows n i d e = past n row rows (false_from_ne_true _ (λ h. none-some i (sym d.0 ∙ ap (entry_found rows) (is_name row n h) ∙ e))) ∙ e

-- the entry of each row stands
pub row_stands : (rows : List DirectoryEntry) (k : ℕ) (x : DirectoryEntry) → AreDistinct rows → k < length rows → entry_found rows (get_or rows k x).name ≡ Some (get_or rows k x).inode
row_stands [] k x d low = absurd (omega (arith, low))
row_stands (row ∷ rows) zero x d low = here row.name row rows (same_name row row.name refl)
row_stands (row ∷ rows) (suc k) x d low = later row rows (get_or rows k x).name (get_or rows k x).inode d (row_stands rows k x d.1 (omega (arith, low)))

-- the row of an entry
pub record RowOf (rows : List DirectoryEntry) (n : Name) (i : ℕ) : Type 0 where
  pub place : ℕ
  pub within : place < length rows
  pub name : (x : DirectoryEntry) → (get_or rows place x).name ≡ n
  pub inode : (x : DirectoryEntry) → (get_or rows place x).inode ≡ i

pub row_of : (rows : List DirectoryEntry) (n : Name) (i : ℕ) → entry_found rows n ≡ Some i → RowOf rows n i
row_of [] n i e = absurd (none-some i e)
row_of (row ∷ rows) n i e =
    elim (cases_Bool (bytes_eq row.name n)) [
      | inl is ↦ record { place = 0; within = omega arith; name = λ x. is_name row n is; inode = λ x. same_Some row.inode i (sym (here n row rows is) ∙ e) }
      | inr isnt ↦
          let r = row_of rows n i (sym (past n row rows isnt) ∙ e) in
          record { place = suc r.place; within = let w = r.within in omega (arith, w); name = r.name; inode = r.inode }
    ]

some_times : (rows : List DirectoryEntry) (n : Name) (i : ℕ) → entry_found rows n ≡ Some i → 1 ≤ times_in rows i
some_times [] n i e = absurd (none-some i e)
some_times (row ∷ rows) n i e =
    elim (cases_Bool (bytes_eq row.name n)) [
      | inl is ↦ let h = hit row rows i (same_Some row.inode i (sym (here n row rows is) ∙ e)) in omega (arith, h)
      | inr isnt ↦ let rest = some_times rows n i (sym (past n row rows isnt) ∙ e) in omega (arith, rest)
    ]

once_in : (rows : List DirectoryEntry) (n m : Name) (i : ℕ) → times_in rows i ≤ 1 → entry_found rows n ≡ Some i → entry_found rows m ≡ Some i → n ≡ m
once_in [] n m i few e f = absurd (none-some i e)
once_in (row ∷ rows) n m i few e f =
    elim (cases_Bool (bytes_eq row.name n)) [
      | inl is ↦
          elim (cases_Bool (bytes_eq row.name m)) [
            | inl is2 ↦ sym (is_name row n is) ∙ is_name row m is2
            | inr isnt2 ↦
                let h = hit row rows i (same_Some row.inode i (sym (here n row rows is) ∙ e)) in
                let s = some_times rows m i (sym (past m row rows isnt2) ∙ f) in
                absurd (omega (arith, h, s, few))
          ]
      | inr isnt ↦
          elim (cases_Bool (bytes_eq row.name m)) [
            | inl is2 ↦
                let h = hit row rows i (same_Some row.inode i (sym (here m row rows is2) ∙ f)) in
                let s = some_times rows n i (sym (past n row rows isnt) ∙ e) in
                absurd (omega (arith, h, s, few))
            | inr isnt2 ↦ once_in rows n m i (omega (arith, few)) (sym (past n row rows isnt) ∙ e) (sym (past m row rows isnt2) ∙ f)
          ]
    ]

found_of_times : (rows : List DirectoryEntry) (i : ℕ) → AreDistinct rows → 1 ≤ times_in rows i → (n : Name) × (entry_found rows n ≡ Some i)
found_of_times [] i d some = absurd (omega (arith, some))
found_of_times (row ∷ rows) i d some =
    elim (cases_eq row.inode i) [
      | inl same ↦ (row.name, here row.name row rows (same_name row row.name refl) ∙ ap Some same)
      | inr apart ↦
          let m = miss row rows i apart in
          let r = found_of_times rows i d.1 (omega (arith, some, m)) in
          (r.0, later row rows r.0 i d r.1)
    ]

record TwoIn (rows : List DirectoryEntry) (i : ℕ) : Type 0 where
  pub one : Name
  pub other : Name
  pub first : entry_found rows one ≡ Some i
  pub second : entry_found rows other ≡ Some i
  pub apart : one ≢ other

two_of_times : (rows : List DirectoryEntry) (i : ℕ) → AreDistinct rows → 2 ≤ times_in rows i → TwoIn rows i
two_of_times [] i d two = absurd (omega (arith, two))
two_of_times (row ∷ rows) i d two =
    elim (cases_eq row.inode i) [
      | inl same ↦
          let h = hit row rows i same in
          let r = found_of_times rows i d.1 (omega (arith, two, h)) in
          record {
            one = row.name;
            other = r.0;
            first = here row.name row rows (same_name row row.name refl) ∙ ap Some same;
            second = later row rows r.0 i d r.1;
            apart = λ e. none-some i (sym d.0 ∙ ap (entry_found rows) e ∙ r.1);
          }
      | inr apart ↦
          let m = miss row rows i apart in
          let r = two_of_times rows i d.1 (omega (arith, two, m)) in
          record { one = r.one; other = r.other; first = later row rows r.one i d r.first; second = later row rows r.other i d r.second; apart = r.apart }
    ]

pub named_times : (es : Entries) (d : ℕ) (n : Name) (i : ℕ) → entry_at es d n ≡ Some i → 1 ≤ times_named es i
named_times [] d n i e = absurd (none-some i e)
named_times (rows ∷ es) zero n i e = let s = some_times rows n i e in omega (arith, s)
named_times (rows ∷ es) (suc d) n i e = let s = named_times es d n i e in omega (arith, s)

pub once_named : (es : Entries) (d e : ℕ) (n m : Name) (i : ℕ) → times_named es i ≤ 1 → entry_at es d n ≡ Some i → entry_at es e m ≡ Some i → (d ≡ e) × (n ≡ m)
once_named [] d e n m i few f g = absurd (none-some i f)
once_named (rows ∷ es) zero zero n m i few f g = (refl, once_in rows n m i (omega (arith, few)) f g)
once_named (rows ∷ es) zero (suc e) n m i few f g =
    let s = some_times rows n i f in let t = named_times es e m i g in absurd (omega (arith, s, t, few))
once_named (rows ∷ es) (suc d) zero n m i few f g =
    let s = some_times rows m i g in let t = named_times es d n i f in absurd (omega (arith, s, t, few))
once_named (rows ∷ es) (suc d) (suc e) n m i few f g = let r = once_named es d e n m i (omega (arith, few)) f g in (ap suc r.0, r.1)

pub times_some : (es : Entries) (i : ℕ) → ((d : ℕ) → AreDistinct (names_in es d)) → 1 ≤ times_named es i → (d : ℕ) × (n : Name) × (entry_at es d n ≡ Some i)
times_some [] i h some = absurd (omega (arith, some))
times_some (rows ∷ es) i h some =
    elim (cases_lt 0 (times_in rows i)) [
      | inl here_some ↦ let r = found_of_times rows i (h 0) (omega (arith, here_some)) in (0, r.0, r.1)
      | inr none ↦ let r = times_some es i (λ d. h (suc d)) (omega (arith, some, none)) in (suc r.0, r.1, r.2)
    ]

pub record TwoNamed (es : Entries) (i : ℕ) : Type 0 where
  pub d : ℕ
  pub e : ℕ
  pub one : Name
  pub other : Name
  pub first : entry_at es d one ≡ Some i
  pub second : entry_at es e other ≡ Some i
  pub apart : d ≡ e → one ≡ other → ⊥

pub times_two : (es : Entries) (i : ℕ) → ((d : ℕ) → AreDistinct (names_in es d)) → 2 ≤ times_named es i → TwoNamed es i
times_two [] i h two = absurd (omega (arith, two))
times_two (rows ∷ es) i h two =
    elim (cases_lt 1 (times_in rows i)) [
      | inl both ↦
          let r = two_of_times rows i (h 0) (omega (arith, both)) in
          record { d = 0; e = 0; one = r.one; other = r.other; first = r.first; second = r.second; apart = λ _ same. r.apart same }
      | inr few ↦
          elim (cases_lt 0 (times_in rows i)) [
            | inl here_some ↦
                let r = found_of_times rows i (h 0) (omega (arith, here_some)) in
                let s = times_some es i (λ d. h (suc d)) (omega (arith, two, few)) in
                record { d = 0; e = suc s.0; one = r.0; other = s.1; first = r.1; second = s.2; apart = λ same _. omega (arith, same) }
            | inr none ↦
                let r = times_two es i (λ d. h (suc d)) (omega (arith, two, none)) in
                record { d = suc r.d; e = suc r.e; one = r.one; other = r.other; first = r.first; second = r.second; apart = λ same same2. r.apart (omega (arith, same)) same2 }
          ]
    ]

-- the counts
more_is : (counts : List ℕ) (j i a : ℕ) → i < length counts → get_or counts i 0 ≡ min 2 a → get_or (count_more counts j) i 0 ≡ min 2 (a + cond (j == i) 1 0)
more_is counts j i a low e =
    elim (cases_eq i j) [
      | inl same ↦
          let v = min 2 (get_or counts j 0 + 1) in
          let f : get_or (set counts j v) i 0 ≡ v = ap (λ (k : ℕ). get_or (set counts j v) k 0) same ∙ get_or-set_same counts j v 0 (omega (arith, low, same)) in
          let c = cond-true {A = ℕ} (j == i) 1 0 (eq-eqb j i (sym same)) in
          let g : get_or counts j 0 ≡ min 2 a = ap (λ (k : ℕ). get_or counts k 0) (sym same) ∙ e in
          omega (arith, f, c, g)
      | inr apart ↦
          let f = get_or-set_other counts j i (min 2 (get_or counts j 0 + 1)) 0 apart in
          let c = cond-false {A = ℕ} (j == i) 1 0 (ne_eqb j i (λ h. apart (sym h))) in
          omega (arith, f, c, e)
    ]

length_more : (counts : List ℕ) (j : ℕ) → length (count_more counts j) ≡ length counts
length_more counts j = length-set counts j (min 2 (get_or counts j 0 + 1))

counted_is : (rows : List DirectoryEntry) (counts : List ℕ) (i a : ℕ) → i < length counts → get_or counts i 0 ≡ min 2 a → get_or (counted counts rows) i 0 ≡ min 2 (a + times_in rows i)
counted_is [] counts i a low e = e ∙ ap (min 2) (omega arith)
counted_is (row ∷ rows) counts i a low e =
    let l = length_more counts row.inode in
    counted_is rows (count_more counts row.inode) i (a + cond (row.inode == i) 1 0) (omega (arith, l, low)) (more_is counts row.inode i a low e)
    ∙ ap (min 2) (omega arith)

pub length_counted : (rows : List DirectoryEntry) (counts : List ℕ) → length (counted counts rows) ≡ length counts
length_counted [] counts = refl
length_counted (row ∷ rows) counts = length_counted rows (count_more counts row.inode) ∙ length_more counts row.inode

pub all_counted_is : (es : Entries) (counts : List ℕ) (i a : ℕ) → i < length counts → get_or counts i 0 ≡ min 2 a → get_or (all_counted counts es) i 0 ≡ min 2 (a + times_named es i)
all_counted_is [] counts i a low e = e ∙ ap (min 2) (omega arith)
all_counted_is (rows ∷ es) counts i a low e =
    let l = length_counted rows counts in
    all_counted_is es (counted counts rows) i (a + times_in rows i) (omega (arith, l, low)) (counted_is rows counts i a low e)
    ∙ ap (min 2) (omega arith)

counted_append : (rows more : List DirectoryEntry) (counts : List ℕ) → counted counts (rows ++ more) ≡ counted (counted counts rows) more
counted_append [] more counts = refl
counted_append (row ∷ rows) more counts = counted_append rows more (count_more counts row.inode)

pub counted_more : (counts : List ℕ) (rows : List DirectoryEntry) (k : ℕ) (x : DirectoryEntry) → k < length rows → counted counts (take (k + 1) rows) ≡ count_more (counted counts (take k rows)) (get_or rows k x).inode
counted_more counts rows k x low = ap (counted counts) (take_more rows k x low) ∙ counted_append (take k rows) (get_or rows k x ∷ []) counts

all_counted_append : (es more : Entries) (counts : List ℕ) → all_counted counts (es ++ more) ≡ all_counted (all_counted counts es) more
all_counted_append [] more counts = refl
all_counted_append (rows ∷ es) more counts = all_counted_append es more (counted counts rows)

pub all_counted_more : (counts : List ℕ) (es : Entries) (k : ℕ) → k < length es → all_counted counts (take (k + 1) es) ≡ counted (all_counted counts (take k es)) (names_in es k)
all_counted_more counts es k low = ap (all_counted counts) (take_more es k [] low) ∙ all_counted_append (take k es) (get_or es k [] ∷ []) counts
