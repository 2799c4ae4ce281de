-- Look-ups among entries after a change.
use Rattle.std.proofs.Common.{◌≡◌, ◌≢◌, ℕ, zero, suc, ◌<◌, inl, inr, true, false, not, List, [], ◌∷◌, length, set, Some, None, refl, sym, ap, ◌∙◌}
use Rattle.std.specs.List.{insert}
use Rattle.std.specs.Str.{bytes_eq}
use Rattle.std.proofs.lemmas.Bool.{cases_Bool, cond-true, cond-false, false≢true, true≢false, false_from_ne_true, not_from_true, not_from_false, cases_eq, cases_lt}
use Rattle.std.proofs.lemmas.Slice.Eq.{bytes_eq-Decides}
use Rattle.std.proofs.lemmas.Option.{none-some}
use Rattle.std.proofs.lemmas.List.{get_or_past, get_or-set_same, get_or-set_other, set_past, length-set}
use Rattle.pf_tree_tables.specs.declared.tables.DirectoryEntry.{DirectoryEntry}
use Rattle.pf_tree_tables.specs.Names.{Name}
use Rattle.pf_tree_tables.specs.Tables.{Entries, names_in, entry_found, entry_at, other_entries, put_entry, unnamed, named, is_nil, has_names}

-- another directory or another name
abbrev pub AreApart : (d : ℕ) (n : Name) (e : ℕ) (m : Name) → Type 0
AreApart d n e m = e ≡ d → m ≡ n → ⊥

pub same_name : (row : DirectoryEntry) (n : Name) → row.name ≡ n → bytes_eq row.name n ≡ true
same_name row n e = (bytes_eq-Decides row.name n).1 e

pub is_name : (row : DirectoryEntry) (n : Name) → bytes_eq row.name n ≡ true → row.name ≡ n
is_name row n e = (bytes_eq-Decides row.name n).0 e

pub here : (n : Name) (row : DirectoryEntry) (rows : List DirectoryEntry) → bytes_eq row.name n ≡ true → entry_found (row ∷ rows) n ≡ Some row.inode
here n row rows e = cond-true _ _ _ e

pub past : (n : Name) (row : DirectoryEntry) (rows : List DirectoryEntry) → bytes_eq row.name n ≡ false → entry_found (row ∷ rows) n ≡ entry_found rows n
past n row rows e = cond-false _ _ _ e

pub kept : (n : Name) (row : DirectoryEntry) (rows : List DirectoryEntry) → bytes_eq row.name n ≡ false → other_entries (row ∷ rows) n ≡ row ∷ other_entries rows n
kept n row rows e = cond-true _ _ _ (not_from_false _ e)

pub dropped : (n : Name) (row : DirectoryEntry) (rows : List DirectoryEntry) → bytes_eq row.name n ≡ true → other_entries (row ∷ rows) n ≡ other_entries rows n
dropped n row rows e = cond-false _ _ _ (not_from_true _ e)

pub others_same : (rows : List DirectoryEntry) (n : Name) → entry_found (other_entries rows n) n ≡ None
others_same [] n = refl
others_same (row ∷ rows) n =
    elim (cases_Bool (bytes_eq row.name n)) [
      | inl is ↦ ap (λ rs. entry_found rs n) (dropped n row rows is) ∙ others_same rows n
      | inr isnt ↦ ap (λ rs. entry_found rs n) (kept n row rows isnt) ∙ past n row (other_entries rows n) isnt ∙ others_same rows n
    ]

others_other : (rows : List DirectoryEntry) (n m : Name) → m ≢ n → entry_found (other_entries rows n) m ≡ entry_found rows m
others_other [] n m apart = refl
others_other (row ∷ rows) n m apart =
    elim (cases_Bool (bytes_eq row.name n)) [
      | inl is ↦
          let gone : bytes_eq row.name m ≡ false = false_from_ne_true _ (λ h. apart (sym (is_name row m h) ∙ is_name row n is)) in
          ap (λ rs. entry_found rs m) (dropped n row rows is) ∙ others_other rows n m apart ∙ sym (past m row rows gone)
      | inr isnt ↦
          ap (λ rs. entry_found rs m) (kept n row rows isnt)
          ∙ elim (cases_Bool (bytes_eq row.name m)) [
            | inl is ↦ here m row (other_entries rows n) is ∙ sym (here m row rows is)
            | inr gone ↦ past m row (other_entries rows n) gone ∙ others_other rows n m apart ∙ sym (past m row rows gone)
          ]
    ]

-- one entry more, wherever it stands
put_same : (rows : List DirectoryEntry) (p : ℕ) (row : DirectoryEntry) (m : Name) → entry_found rows m ≡ None → bytes_eq row.name m ≡ true → entry_found (insert rows p row) m ≡ Some row.inode
put_same [] zero row m none is = here m row [] is
put_same [] (suc p) row m none is = here m row [] is
put_same (r ∷ rows) zero row m none is = here m row (r ∷ rows) is
put_same (r ∷ rows) (suc p) row m none is =
    elim (cases_Bool (bytes_eq r.name m)) [
      | inl found ↦ absurd (none-some r.inode (sym none ∙ here m r rows found))
      | inr gone ↦ past m r (insert rows p row) gone ∙ put_same rows p row m (sym (past m r rows gone) ∙ none) is
    ]

put_other : (rows : List DirectoryEntry) (p : ℕ) (row : DirectoryEntry) (m : Name) → bytes_eq row.name m ≡ false → entry_found (insert rows p row) m ≡ entry_found rows m
put_other [] zero row m gone = past m row [] gone
put_other [] (suc p) row m gone = past m row [] gone
put_other (r ∷ rows) zero row m gone = past m row (r ∷ rows) gone
put_other (r ∷ rows) (suc p) row m gone =
    elim (cases_Bool (bytes_eq r.name m)) [
      | inl is ↦ here m r (insert rows p row) is ∙ sym (here m r rows is)
      | inr gone2 ↦ past m r (insert rows p row) gone2 ∙ put_other rows p row m gone ∙ sym (past m r rows gone2)
    ]

-- a write of one directory's names
written_other : (es : Entries) (d e : ℕ) (rows : List DirectoryEntry) → e ≢ d → names_in (set es d rows) e ≡ names_in es e
written_other es d e rows apart = get_or-set_other es d e rows [] apart

-- a change that leaves a name alone
kept_name : (es : Entries) (d : ℕ) (rows : List DirectoryEntry) (e : ℕ) (m : Name) → (e ≡ d → entry_found rows m ≡ entry_found (names_in es d) m) → entry_at (set es d rows) e m ≡ entry_at es e m
kept_name es d rows e m same =
    elim (cases_eq e d) [
      | inl is ↦
          elim (cases_lt d (length es)) [
            | inl low ↦
                ap (λ f. entry_found (names_in (set es d rows) f) m) is ∙ ap (λ rs. entry_found rs m) (get_or-set_same es d rows [] low) ∙ same is
                ∙ ap (λ f. entry_found (names_in es f) m) (sym is)
            | inr far ↦ ap (λ (es : Entries). entry_found (names_in es e) m) (set_past es d rows far)
          ]
      | inr apart ↦ ap (λ rs. entry_found rs m) (written_other es d e rows apart)
    ]

pub unnamed_same : (es : Entries) (d : ℕ) (n : Name) → entry_at (unnamed es d n) d n ≡ None
unnamed_same es d n =
    elim (cases_lt d (length es)) [
      | inl low ↦ ap (λ rs. entry_found rs n) (get_or-set_same es d (other_entries (names_in es d) n) [] low) ∙ others_same (names_in es d) n
      | inr far ↦
          ap (λ (es : Entries). entry_found (names_in es d) n) (set_past es d (other_entries (names_in es d) n) far) ∙ ap (λ rs. entry_found rs n) (get_or_past es d [] far)
    ]

pub unnamed_other : (es : Entries) (d : ℕ) (n : Name) (e : ℕ) (m : Name) → AreApart d n e m → entry_at (unnamed es d n) e m ≡ entry_at es e m
unnamed_other es d n e m apart =
    kept_name es d (other_entries (names_in es d) n) e m (λ is. others_other (names_in es d) n m (apart is))

pub named_same : (es : Entries) (d i : ℕ) (n : Name) → d < length es → entry_at (named es d i n) d n ≡ Some i
named_same es d i n low =
    let row : DirectoryEntry = record { inode = i; name = n } in
    ap (λ rs. entry_found rs n) (get_or-set_same es d (put_entry (other_entries (names_in es d) n) row) [] low)
    ∙ put_same (other_entries (names_in es d) n) _ row n (others_same (names_in es d) n) (same_name row n refl)

pub named_other : (es : Entries) (d i : ℕ) (n : Name) (e : ℕ) (m : Name) → AreApart d n e m → entry_at (named es d i n) e m ≡ entry_at es e m
named_other es d i n e m apart =
    let row : DirectoryEntry = record { inode = i; name = n } in
    kept_name es d (put_entry (other_entries (names_in es d) n) row) e m (λ is.
    put_other (other_entries (names_in es d) n) _ row m (false_from_ne_true _ (λ h. apart is (sym (is_name row m h))))
    ∙ others_other (names_in es d) n m (apart is))

pub no_names : (es : Entries) (d : ℕ) (n : Name) → has_names es d ≡ false → entry_at es d n ≡ None
no_names es d n e = none_in (names_in es d) e
  where
    none_in : (rows : List DirectoryEntry) → not (is_nil rows) ≡ false → entry_found rows n ≡ None
    none_in [] h = refl
    none_in (row ∷ rows) h = absurd (true≢false h)

pub record Named (es : Entries) (d : ℕ) : Type 0 where
  pub name : Name
  pub inode : ℕ
  pub stands : entry_at es d name ≡ Some inode

pub some_name : (es : Entries) (d : ℕ) → has_names es d ≡ true → Named es d
some_name es d e = some_in (names_in es d) refl e
  where
    some_in : (rows : List DirectoryEntry) → names_in es d ≡ rows → not (is_nil rows) ≡ true → Named es d
    some_in [] is h = absurd (false≢true h)
    some_in (row ∷ rows) is h =
        record { name = row.name; inode = row.inode; stands = ap (λ rs. entry_found rs row.name) is ∙ here row.name row rows (same_name row row.name refl) }

pub length_unnamed : (es : Entries) (d : ℕ) (n : Name) → length (unnamed es d n) ≡ length es
length_unnamed es d n = length-set es d (other_entries (names_in es d) n)

pub length_named : (es : Entries) (d i : ℕ) (n : Name) → length (named es d i n) ≡ length es
length_named es d i n = length-set es d (put_entry (other_entries (names_in es d) n) (record { inode = i; name = n }))
