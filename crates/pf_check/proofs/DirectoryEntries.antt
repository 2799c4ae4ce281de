-- The entries of a directory after a change, and where a name stands among them.
use Rattle.std.proofs.Common.{◌≡◌, ◌≢◌, ℕ, suc, ◌+◌, ◌<◌, ◌≤◌, inl, inr, true, false, List, [], ◌∷◌, ◌++◌, length, set, Some, None, refl, sym, ap, ◌∙◌, subst, arith}
use Rattle.std.specs.List.{position_or_len}
use Rattle.std.specs.Str.{bytes_eq}
use Rattle.std.proofs.lemmas.Bool.{cases_Bool, cond-true, cond-false, false≢true, false_from_ne_true, not_from_true, not_from_false}
use Rattle.std.proofs.lemmas.Option.{none-some}
use Rattle.pf_tree_tables.specs.declared.tables.DirectoryEntry.{DirectoryEntry}
use Rattle.pf_tree_tables.specs.Names.{Name}
use Rattle.pf_tree_tables.specs.Tables.{entry_found, other_entries}
use Rattle.pf_tree_tables.proofs.Entries.{same_name, is_name, here, past, kept, dropped}
use Rattle.pf_check.specs.Raw.{AreDistinct, put_name}

abbrev pub row_with : ℕ → Name → DirectoryEntry
row_with i n = record { inode = i; name = n }

abbrev pub place_in : List DirectoryEntry → Name → ℕ
place_in rows n = position_or_len (λ (row : DirectoryEntry). bytes_eq row.name n) rows

put_here : (row : DirectoryEntry) (rows : List DirectoryEntry) (n : Name) (i : ℕ) → bytes_eq row.name n ≡ true → put_name (row ∷ rows) n i ≡ row_with i n ∷ rows
put_here row rows n i e = cond-true _ _ _ e

put_past : (row : DirectoryEntry) (rows : List DirectoryEntry) (n : Name) (i : ℕ) → bytes_eq row.name n ≡ false → put_name (row ∷ rows) n i ≡ row ∷ put_name rows n i
put_past row rows n i e = cond-false _ _ _ e

place_here : (row : DirectoryEntry) (rows : List DirectoryEntry) (n : Name) → bytes_eq row.name n ≡ true → place_in (row ∷ rows) n ≡ 0
place_here row rows n e = cond-false _ _ _ (not_from_true _ e)

place_past : (row : DirectoryEntry) (rows : List DirectoryEntry) (n : Name) → bytes_eq row.name n ≡ false → place_in (row ∷ rows) n ≡ 1 + place_in rows n
place_past row rows n e = cond-true _ _ _ (not_from_false _ e)

suc_is : (k : ℕ) → 1 + k ≡ suc k
suc_is k = omega arith

pub put_there : (rows : List DirectoryEntry) (n : Name) (i : ℕ) → place_in rows n < length rows → put_name rows n i ≡ set rows (place_in rows n) (row_with i n)
put_there [] n i low = absurd (omega (arith, low))
put_there (row ∷ rows) n i low =
    elim (cases_Bool (bytes_eq row.name n)) [
      | inl is ↦ put_here row rows n i is ∙ ap (λ (k : ℕ). set (row ∷ rows) k (row_with i n)) (sym (place_here row rows n is))
      | inr isnt ↦
          let e = place_past row rows n isnt in
          put_past row rows n i isnt
          ∙ ap (λ (rs : List DirectoryEntry). row ∷ rs) (put_there rows n i (omega (arith, low, e)))
          ∙ ap (λ (k : ℕ). set (row ∷ rows) k (row_with i n)) (sym (e ∙ suc_is (place_in rows n)))
    ]

pub put_last : (rows : List DirectoryEntry) (n : Name) (i : ℕ) → length rows ≤ place_in rows n → put_name rows n i ≡ rows ++ row_with i n ∷ []
put_last [] n i far = refl
put_last (row ∷ rows) n i far =
    elim (cases_Bool (bytes_eq row.name n)) [
      | inl is ↦ let e = place_here row rows n is in absurd (omega (arith, far, e))
      | inr isnt ↦
          let e = place_past row rows n isnt in
          put_past row rows n i isnt ∙ ap (λ (rs : List DirectoryEntry). row ∷ rs) (put_last rows n i (omega (arith, far, e)))
    ]

-- the name leads to the inode
pub put_same : (rows : List DirectoryEntry) (n : Name) (i : ℕ) → entry_found (put_name rows n i) n ≡ Some i
put_same [] n i = here n (row_with i n) [] (same_name (row_with i n) n refl)
put_same (row ∷ rows) n i =
    elim (cases_Bool (bytes_eq row.name n)) [
      | inl is ↦ ap (λ rs. entry_found rs n) (put_here row rows n i is) ∙ here n (row_with i n) rows (same_name (row_with i n) n refl)
      | inr isnt ↦ ap (λ rs. entry_found rs n) (put_past row rows n i isnt) ∙ past n row (put_name rows n i) isnt ∙ put_same rows n i
    ]

-- every other name leads where it led
pub put_other : (rows : List DirectoryEntry) (n : Name) (i : ℕ) (m : Name) → m ≢ n → entry_found (put_name rows n i) m ≡ entry_found rows m
put_other [] n i m apart = past m (row_with i n) [] (false_from_ne_true _ (λ h. apart (sym (is_name (row_with i n) m h))))
put_other (row ∷ rows) n i m apart =
    let new_apart : bytes_eq n m ≡ false = false_from_ne_true _ (λ h. apart (sym (is_name (row_with i n) m h))) in
    elim (cases_Bool (bytes_eq row.name n)) [
      | inl is ↦
          let old_apart : bytes_eq row.name m ≡ false = false_from_ne_true _ (λ h. apart (sym (is_name row m h) ∙ is_name row n is)) in
          ap (λ rs. entry_found rs m) (put_here row rows n i is) ∙ past m (row_with i n) rows new_apart ∙ sym (past m row rows old_apart)
      | inr isnt ↦
          ap (λ rs. entry_found rs m) (put_past row rows n i isnt)
          ∙ elim (cases_Bool (bytes_eq row.name m)) [
            | inl is ↦ here m row (put_name rows n i) is ∙ sym (here m row rows is)
            | inr gone ↦ past m row (put_name rows n i) gone ∙ put_other rows n i m apart ∙ sym (past m row rows gone)
          ]
    ]

pub put_distinct : (rows : List DirectoryEntry) (n : Name) (i : ℕ) → AreDistinct rows → AreDistinct (put_name rows n i)
put_distinct [] n i d = (refl, tt)
put_distinct (row ∷ rows) n i d =
    elim (cases_Bool (bytes_eq row.name n)) [
      | inl is ↦ subst AreDistinct (sym (put_here row rows n i is)) (ap (entry_found rows) (sym (is_name row n is)) ∙ d.0, d.1)
      | inr isnt ↦
          subst AreDistinct (sym (put_past row rows n i isnt))
          (put_other rows n i row.name (λ e. false≢true (sym isnt ∙ same_name row n e)) ∙ d.0, put_distinct rows n i d.1)
    ]

others_none : (rows : List DirectoryEntry) (n m : Name) → entry_found rows m ≡ None → entry_found (other_entries rows n) m ≡ None
others_none [] n m e = refl
others_none (row ∷ rows) n m e =
    elim (cases_Bool (bytes_eq row.name m)) [
      | inl is ↦ absurd (none-some row.inode (sym e ∙ here m row rows is))
      | inr gone ↦
          let rest = others_none rows n m (sym (past m row rows gone) ∙ e) in
          elim (cases_Bool (bytes_eq row.name n)) [
            | inl is ↦ ap (λ rs. entry_found rs m) (dropped n row rows is) ∙ rest
            | inr isnt ↦ ap (λ rs. entry_found rs m) (kept n row rows isnt) ∙ past m row (other_entries rows n) gone ∙ rest
          ]
    ]

pub others_distinct : (rows : List DirectoryEntry) (n : Name) → AreDistinct rows → AreDistinct (other_entries rows n)
others_distinct [] n d = tt
others_distinct (row ∷ rows) n d =
    elim (cases_Bool (bytes_eq row.name n)) [
      | inl is ↦ subst AreDistinct (sym (dropped n row rows is)) (others_distinct rows n d.1)
      | inr isnt ↦ subst AreDistinct (sym (kept n row rows isnt)) (others_none rows n row.name d.0, others_distinct rows n d.1)
    ]
