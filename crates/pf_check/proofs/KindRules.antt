-- The rules of each kind: tests of them, and that a rule that is kept is not shown to be broken.
use Rattle.std.proofs.Common.{◌≡◌, ◌≢◌, ℕ, zero, suc, ◌+◌, ◌*◌, ◌≤◌, inl, inr, Bool, true, false, not, ◌==◌, nat_lt, min, List, [], length, get_or, replicate, Option, Some, None, is_some, refl, sym, ap, ◌∙◌, subst, arith}
use Rattle.std.specs.Bool.{MatchBool}
use Rattle.std.specs.Option.{MatchOption}
use Rattle.std.proofs.lemmas.Bool.{cases_eq, cases_lt, ltb-true, ltb-false, eq-eqb, false≢true}
use Rattle.std.proofs.lemmas.Option.{none-some}
use Rattle.std.proofs.lemmas.List.{get_or-replicate, get_or_past, length-replicate}
use Rattle.pf_tree_tables.specs.declared.tables.DirectoryEntry.{DirectoryEntry}
use Rattle.pf_tree_tables.specs.declared.tables.Tag.{Tag}
use Rattle.pf_tree_tables.specs.Names.{Name}
use Rattle.pf_tree_tables.specs.Tables.{entry_found, entry_at, tag_at}
use Rattle.pf_tree.specs.Trees.{block_count}
use Rattle.pf_check.specs.declared.tables.RawInode.TheVariants.{File}
use Rattle.pf_check.specs.Raw.{RawTables, IsRaw, inode_in}
use Rattle.pf_check.specs.Kinds.{IsUsed, InodeIsNamed, IsNamedOnce, InodeIsSized, TagIsUsed, KeepsRule, KindShows}
use Rattle.pf_check.specs.Walks.{AreFirst, IsFirstTagged, first_in, times_named}
use Rattle.pf_check.specs.Verdicts.{AllKeepBelow}
use Rattle.pf_check.proofs.Namings.{named_times, once_named, times_some, times_two}

match_by : (b : Bool) (P Q : Type 0) → (b ≡ true → P) → (b ≡ false → Q) → MatchBool b P Q
match_by true P Q f g = f refl
match_by false P Q f g = g refl

module _ (t : RawTables) (raw : IsRaw t) (i : ℕ) where
  not_named : times_named t.entries i ≡ 0 → InodeIsNamed t i → ⊥
  not_named none by = let s = named_times t.entries by.directory by.name i by.stands in omega (arith, s, none)

  some_named : 1 ≤ times_named t.entries i → InodeIsNamed t i
  some_named some = let r = times_some t.entries i raw.names some in record { directory = r.0; name = r.1; stands = r.2 }

  named_once : times_named t.entries i ≡ 1 → IsNamedOnce t i
  named_once one =
      let by = some_named (omega (arith, one)) in
      record { by = by; only = λ d n e. once_named t.entries d by.directory n by.name i (omega (arith, one)) e by.stands }

  named_more : 2 ≤ times_named t.entries i → IsNamedOnce t i → ⊥
  named_more more once =
      let two = times_two t.entries i raw.names more in
      let a = once.only two.d two.one two.first in
      let b = once.only two.e two.other two.second in
      two.apart (a.0 ∙ sym b.0) (a.1 ∙ sym b.1)

  not_once : (count : ℕ) → count ≡ min 2 (times_named t.entries i) → count ≢ 1 → IsNamedOnce t i → ⊥
  not_once count is apart once =
      elim (cases_lt 1 (times_named t.entries i)) [
        | inl more ↦ named_more more once
        | inr few ↦ not_named (omega (arith, few, is, apart)) once.by
      ]

  pub root_named : (count : ℕ) → count ≡ min 2 (times_named t.entries i) → i ≡ 0 → MatchBool (nat_lt 0 count) (KindShows 3 t i) (KeepsRule 3 t i)
  root_named count is root =
      match_by (nat_lt 0 count) (KindShows 3 t i) (KeepsRule 3 t i)
      (λ e. let l = ltb-true 0 count e in inl (root, subst (InodeIsNamed t) root (some_named (omega (arith, l, is)))))
      (λ e. let l = ltb-false 0 count e in (
        λ _ by. not_named (omega (arith, l, is)) (subst (InodeIsNamed t) (sym root) by),
        λ apart. absurd (apart root),
      ))

  pub often_named : (count : ℕ) (used : Bool) → count ≡ min 2 (times_named t.entries i) → i ≢ 0 → count ≢ 1 → used ≡ is_some (inode_in t i) → MatchBool used (KindShows 3 t i) (KeepsRule 3 t i)
  often_named count used is no_root apart e =
      match_by used (KindShows 3 t i) (KeepsRule 3 t i)
      (λ in_use. inr (no_root, sym e ∙ in_use, not_once count is apart))
      (λ free. (λ root. absurd (no_root root), λ _ in_use. absurd (false≢true (sym free ∙ e ∙ in_use))))

  pub right_named : (count : ℕ) → count ≡ min 2 (times_named t.entries i) → i ≢ 0 → count ≡ 1 → MatchBool (not (count == 1)) (KindShows 3 t i) (KeepsRule 3 t i)
  right_named count is no_root one =
      match_by (not (count == 1)) (KindShows 3 t i) (KeepsRule 3 t i)
      (λ e. absurd (false≢true (sym (ap not (eq-eqb count 1 one)) ∙ e)))
      (λ _. (λ root. absurd (no_root root), λ _ _. named_once (omega (arith, is, one))))

-- inodes in use are those of a volume, by the rules of the first three kinds
pub low_kept : (t : RawTables) (kind : ℕ) → 4 ≤ kind → AllKeepBelow t kind → (i : ℕ) → IsUsed t i → i ≤ 1023
low_kept t kind high below i used =
    elim (cases_eq i 0) [
      | inl root ↦ omega (arith, root)
      | inr apart ↦
          let once = (below 3 i (omega (arith, high))).1 apart used in
          (below 2 once.by.directory (omega (arith, high)) once.by.name i once.by.stands).low
    ]

pub sizes_kept : (t : RawTables) (kind : ℕ) → 6 ≤ kind → AllKeepBelow t kind → (i : ℕ) → InodeIsSized (inode_in t i)
sizes_kept t kind high below i = below 5 i (omega (arith, high))

-- nothing stands past the numbers
free_past : (t : RawTables) → IsRaw t → (n : ℕ) → 65536 ≤ n → inode_in t n ≡ None
free_past t raw n far = get_or_past t.inodes n None (let l = raw.inodes in omega (arith, l, far))

none_past : (t : RawTables) → IsRaw t → (d : ℕ) (n : Name) → 65536 ≤ d → entry_at t.entries d n ≡ None
none_past t raw d n far = ap (λ (rows : List DirectoryEntry). entry_found rows n) (get_or_past t.entries d [] (let l = raw.entries in omega (arith, l, far)))

untagged_past : (t : RawTables) → IsRaw t → (b : ℕ) → 65536 ≤ b → tag_at t.tags b ≡ None
untagged_past t raw b far = get_or_past t.tags b None (let l = raw.tags in omega (arith, l, far))

not_used : (t : RawTables) (i : ℕ) → inode_in t i ≡ None → IsUsed t i → ⊥
not_used t i free used = false≢true (sym (ap is_some free) ∙ used)

pub kept_past : (kind : ℕ) (t : RawTables) → IsRaw t → (n : ℕ) → 65536 ≤ n → KeepsRule kind t n
kept_past zero t raw n far = tt
kept_past (suc zero) t raw n far = λ root. absurd (omega (arith, root, far))
kept_past (suc (suc zero)) t raw n far = λ m i e. absurd (none-some i (sym (none_past t raw n m far) ∙ e))
kept_past (suc (suc (suc zero))) t raw n far = (λ root. absurd (omega (arith, root, far)), λ _ used. absurd (not_used t n (free_past t raw n far) used))
kept_past (suc (suc (suc (suc zero)))) t raw n far = λ used. absurd (not_used t n (free_past t raw n far) used)
kept_past (suc (suc (suc (suc (suc zero))))) t raw n far = subst InodeIsSized (sym (free_past t raw n far)) tt
kept_past (suc (suc (suc (suc (suc (suc zero)))))) t raw n far = λ tag e. absurd (none-some tag (sym (untagged_past t raw n far) ∙ e))
kept_past (suc (suc (suc (suc (suc (suc (suc k))))))) t raw n far = λ size index e. absurd (none-some (File size) (sym (free_past t raw n far) ∙ e))

-- a rule that is kept is not shown to be broken
pub kept_hides : (kind : ℕ) (t : RawTables) (n : ℕ) → KeepsRule kind t n → KindShows kind t n → ⊥
kept_hides zero t n keeps shows = shows
kept_hides (suc zero) t n keeps shows = shows.1 (keeps shows.0)
kept_hides (suc (suc zero)) t n keeps shows = shows.stray (keeps shows.name shows.inode shows.stands)
kept_hides (suc (suc (suc zero))) t n keeps shows = elim shows [ inl root ↦ keeps.0 root.0 root.1 | inr other ↦ other.2 (keeps.1 other.0 other.1) ]
kept_hides (suc (suc (suc (suc zero)))) t n keeps shows = shows.1 (keeps shows.0)
kept_hides (suc (suc (suc (suc (suc zero))))) t n keeps shows = shows keeps
kept_hides (suc (suc (suc (suc (suc (suc zero)))))) t n keeps shows = shows.stray (keeps shows.tag shows.stands)
kept_hides (suc (suc (suc (suc (suc (suc (suc k))))))) t n keeps shows = shows.gap (keeps shows.size shows.index shows.is shows.within)

-- the first blocks
pub blocks_few : (size : ℕ) → size ≤ 196608 → block_count size ≤ 48
blocks_few size low = omega (arith, low)

pub tagged_by : (t : RawTables) (tag : Tag) (below : ℕ) (P : Type 0) (o : Option ℕ) → MatchOption o P (IsFirstTagged t tag below) → is_some o ≡ true → TagIsUsed t tag
tagged_by t tag below P None m e = absurd (false≢true e)
tagged_by t tag below P (Some b) m e = (b, m.stands)

match_none : (o : Option ℕ) (P : Type 0) (Q : ℕ → Type 0) → o ≡ None → P → MatchOption o P Q
match_none o P Q e p = subst (λ (x : Option ℕ). MatchOption x P Q) (sym e) p

none_noted : (n place : ℕ) → ◌≡◌ {A = Option ℕ} (get_or (replicate n None) place None) None
none_noted n place =
    elim (cases_lt place n) [
      | inl low ↦ get_or-replicate n place None None low
      | inr far ↦ get_or_past (replicate n None) place None (let l = length-replicate {A = Option ℕ} n None in omega (arith, l, far))
    ]

pub none_first : (t : RawTables) (firsts : List (Option ℕ)) (n : ℕ) → firsts ≡ replicate n None → n ≡ 49152 → AreFirst t firsts 0
none_first t firsts n e size = record {
  places = ap length e ∙ length-replicate {A = Option ℕ} n None ∙ size;
  each = λ i k _ _. match_none (first_in firsts i k) _ _ (ap (λ (xs : List (Option ℕ)). get_or xs (i * 48 + k) None) e ∙ none_noted n (i * 48 + k)) (λ b low. absurd (omega (arith, low)));
}
