-- The laws of names are kept by what a call does to inodes and entries.
use Rattle.std.proofs.Common.{◌≡◌, ◌≢◌, ℕ, ◌<◌, ◌⊎◌, inl, inr, true, cond, ◌∷◌, ◌++◌, length, Option, Some, None, is_some, refl, sym, ap, ◌∙◌, subst}
use Rattle.std.proofs.lemmas.Bool.{cond-true, cond-false, false≢true, cases_eq}
use Rattle.std.proofs.lemmas.Option.{none-some, same_Some}
use Rattle.std.proofs.lemmas.List.{length-set}
use Rattle.pf_tree_tables.specs.declared.tables.Inode.{Inode}
use Rattle.pf_tree_tables.specs.declared.tables.Inode.TheVariants.{Directory}
use Rattle.pf_tree_tables.specs.Names.{Name, Path}
use Rattle.pf_tree.specs.Paths.{is_same, below}
use Rattle.pf_tree_tables.specs.Tables.{Entries, names_in, other_entries, entry_at, unnamed, named, walk}
use Rattle.pf_tree.specs.Standing.{InodesAreNamed}
use Rattle.pf_tree.proofs.Paths.{is_same_true, is_same_false, below_of, below_is}
use Rattle.pf_tree.proofs.RenamedTrees.{back, cases_option}
use Rattle.pf_tree_tables.proofs.Entries.{AreApart, unnamed_same, unnamed_other, named_same, named_other}
use Rattle.pf_tree.proofs.Walks.{cases_apart, walk_on, walk_off, walk_clear, leads_nowhere, walk_changed, walk_moved}

pub not_none : {X : Type 0} → (o : Option X) → o ≡ None → is_some o ≡ true → ⊥
not_none o e s = false≢true (ap is_some (sym e) ∙ s)

-- where only files' sizes change
pub names_kept : (inodes inodes2 : ℕ → Option Inode) (es : Entries) → InodesAreNamed inodes es → ((j : ℕ) → is_some (inodes2 j) ≡ is_some (inodes j)) → ((j : ℕ) → inodes j ≡ Some Directory → inodes2 j ≡ Some Directory) → InodesAreNamed inodes2 es
names_kept inodes inodes2 es names same dirs = record {
  root = dirs 0 names.root;
  from_dir = λ d n i e. dirs d (names.from_dir d n i e);
  in_use = λ d n i e. same i ∙ names.in_use d n i e;
  no_root = names.no_root;
  once = names.once;
  reached = λ i e. names.reached i (sym (same i) ∙ e);
}

module _ (inodes inodes2 : ℕ → Option Inode) (es : Entries) (names : InodesAreNamed inodes es) (i d : ℕ) (n : Name) (p : Path) (here : walk es p ≡ Some d) where
  apart_in_use : (j : ℕ) → inodes i ≡ None → is_some (inodes j) ≡ true → j ≢ i
  apart_in_use j free used e = not_none (inodes j) (ap inodes e ∙ free) used

  -- a free inode gets a name
  module _ (inside : d < length es) (free : inodes i ≡ None) (dir : inodes d ≡ Some Directory) (absent : entry_at es d n ≡ None) (new : is_some (inodes2 i) ≡ true) (others : (j : ℕ) → j ≢ i → inodes2 j ≡ inodes j) where
    pub walk_made : (q : Path) → walk (named es d i n) q ≡ cond (is_same q (n ∷ p)) (Some i) (walk es q)
    walk_made =
        walk_changed inodes es names (named es d i n) d n p (Some i) here (named_same es d i n inside) (named_other es d i n)
        (λ m. elim (cases_apart d n i m) [
          | inl same ↦ absurd (apart_in_use d free (ap is_some dir) (sym same.0))
          | inr apart ↦ named_other es d i n i m apart ∙ leads_nowhere inodes es names i m (λ e. none-some Directory (sym free ∙ e))
        ])
        (λ m. walk_off es m (n ∷ p) (walk_on es n p d here ∙ absent))

    dir_used : (j : ℕ) → inodes j ≡ Some Directory → inodes2 j ≡ Some Directory
    dir_used j e = others j (apart_in_use j free (ap is_some e)) ∙ e

    used : (j : ℕ) → is_some (inodes j) ≡ true → is_some (inodes2 j) ≡ true
    used j e = ap is_some (others j (apart_in_use j free e)) ∙ e

    -- each entry is the new one or an old one
    entry_cases : (e : ℕ) (m : Name) (j : ℕ) → entry_at (named es d i n) e m ≡ Some j → ((e ≡ d) × (m ≡ n) × (j ≡ i)) ⊎ (entry_at es e m ≡ Some j)
    entry_cases e m j is =
        elim (cases_apart d n e m) [
          | inl same ↦ inl (same.0, same.1, same_Some j i (sym is ∙ ap (λ e. entry_at (named es d i n) e m) same.0 ∙ ap (entry_at (named es d i n) d) same.1 ∙ named_same es d i n inside))
          | inr apart ↦ inr (sym (named_other es d i n e m apart) ∙ is)
        ]

    never : (e : ℕ) (m : Name) → entry_at es e m ≢ Some i
    never e m is = not_none (inodes i) free (names.in_use e m i is)

    at_root : (j : ℕ) → inodes j ≡ Some Directory → i ≢ j
    at_root j e same = none-some Directory (sym free ∙ ap inodes same ∙ e)

    pub names_made : InodesAreNamed inodes2 (named es d i n)
    names_made = record {
      root = dir_used 0 names.root;
      from_dir = λ e m j is. elim (entry_cases e m j is) [
        | inl same ↦ dir_used e (ap inodes same.0 ∙ dir)
        | inr old ↦ dir_used e (names.from_dir e m j old)
      ];
      in_use = λ e m j is. elim (entry_cases e m j is) [
        | inl same ↦ ap (λ k. is_some (inodes2 k)) same.2 ∙ new
        | inr old ↦ used j (names.in_use e m j old)
      ];
      no_root = λ e m j is. elim (entry_cases e m j is) [
        | inl same ↦ λ z. at_root 0 names.root (sym same.2 ∙ z)
        | inr old ↦ names.no_root e m j old
      ];
      once = λ e f m o j is1 is2. elim (entry_cases e m j is1) [
        | inl same ↦ elim (entry_cases f o j is2) [
          | inl same2 ↦ (same.0 ∙ sym same2.0, same.1 ∙ sym same2.1)
          | inr old2 ↦ absurd (never f o (old2 ∙ ap Some same.2))
        ]
        | inr old ↦ elim (entry_cases f o j is2) [
          | inl same2 ↦ absurd (never e m (old ∙ ap Some same2.2))
          | inr old2 ↦ names.once e f m o j old old2
        ]
      ];
      reached = λ j is. elim (cases_eq j i) [
        | inl same ↦ (n ∷ p, walk_made (n ∷ p) ∙ cond-true _ _ _ (is_same_true (n ∷ p) (n ∷ p) refl) ∙ ap Some (sym same))
        | inr apart ↦
            let r = names.reached j (ap is_some (sym (others j apart)) ∙ is) in
            (r.0, walk_made r.0 ∙ cond-false _ _ _ (is_same_false r.0 (n ∷ p) (λ e. none-some j (sym (walk_on es n p d here ∙ absent) ∙ ap (walk es) (sym e) ∙ r.1))) ∙ r.1)
      ];
    }

  -- a name under which nothing stands is removed, and its inode freed
  module _ (old : entry_at es d n ≡ Some i) (bare : (m : Name) → entry_at es i m ≡ None) (gone : inodes2 i ≡ None) (others : (j : ℕ) → j ≢ i → inodes2 j ≡ inodes j) where
    pub walk_removed : (q : Path) → walk (unnamed es d n) q ≡ cond (is_same q (n ∷ p)) None (walk es q)
    walk_removed =
        walk_changed inodes es names (unnamed es d n) d n p None here (unnamed_same es d n) (unnamed_other es d n) (λ m. refl)
        (λ m. walk_on es m (n ∷ p) i (walk_on es n p d here ∙ old) ∙ bare m)

    was : (e : ℕ) (m : Name) (j : ℕ) → entry_at (unnamed es d n) e m ≡ Some j → (entry_at es e m ≡ Some j) × AreApart d n e m
    was e m j is =
        elim (cases_apart d n e m) [
          | inl same ↦ absurd (none-some j (sym (ap (λ e. entry_at (unnamed es d n) e m) same.0 ∙ ap (entry_at (unnamed es d n) d) same.1 ∙ unnamed_same es d n) ∙ is))
          | inr apart ↦ (sym (unnamed_other es d n e m apart) ∙ is, apart)
        ]

    stays : (e : ℕ) (m : Name) (j : ℕ) → entry_at (unnamed es d n) e m ≡ Some j → inodes2 e ≡ inodes e
    stays e m j is = others e (λ same. let w = was e m j is in none-some j (sym (ap (λ e. entry_at es e m) same ∙ bare m) ∙ w.0))

    leads : (e : ℕ) (m : Name) (j : ℕ) → entry_at (unnamed es d n) e m ≡ Some j → inodes2 j ≡ inodes j
    leads e m j is = others j (λ same. let w = was e m j is in let u = names.once e d m n i (w.0 ∙ ap Some same) old in w.1 u.0 u.1)

    pub names_removed : InodesAreNamed inodes2 (unnamed es d n)
    names_removed = record {
      root = others 0 (λ same. names.no_root d n i old (sym same)) ∙ names.root;
      from_dir = λ e m j is. stays e m j is ∙ names.from_dir e m j (was e m j is).0;
      in_use = λ e m j is. ap is_some (leads e m j is) ∙ names.in_use e m j (was e m j is).0;
      no_root = λ e m j is. names.no_root e m j (was e m j is).0;
      once = λ e f m o j is1 is2. names.once e f m o j (was e m j is1).0 (was f o j is2).0;
      reached = λ j is.
          let apart : j ≢ i = λ same. not_none (inodes2 j) (ap inodes2 same ∙ gone) is in
          let r = names.reached j (ap is_some (sym (others j apart)) ∙ is) in
          (r.0, walk_removed r.0 ∙ cond-false _ _ _ (is_same_false r.0 (n ∷ p) (λ e. apart (same_Some j i (sym r.1 ∙ ap (walk es) e ∙ walk_on es n p d here ∙ old)))) ∙ r.1);
    }

  -- a name moves
  module _ (e : ℕ) (m : Name) (q : Path) (inside : e < length es) (old : entry_at es d n ≡ Some i) (there : walk es q ≡ Some e) (dir : inodes e ≡ Some Directory) (free : entry_at es e m ≡ None) (outside : below (n ∷ p) (m ∷ q) ≡ None) where
    inside2 : e < length (unnamed es d n)
    inside2 = subst (λ k. e < k) (sym (length-set es d (other_entries (names_in es d) n))) inside

    pub walk_renamed : (s : Path) → walk (named (unnamed es d n) e i m) s ≡ back (walk es) (n ∷ p) (below (m ∷ q) s) (below (n ∷ p) s) s
    walk_renamed =
        walk_moved inodes es names (named (unnamed es d n) e i m) d e n m p q i here there old free outside (named_same (unnamed es d n) e i m inside2)
        (λ apart. named_other (unnamed es d n) e i m d n apart ∙ unnamed_same es d n)
        (λ f o apart apart2. named_other (unnamed es d n) e i m f o apart2 ∙ unnamed_other es d n f o apart)

    cases_entry : (f : ℕ) (o : Name) (j : ℕ) → entry_at (named (unnamed es d n) e i m) f o ≡ Some j → ((f ≡ e) × (o ≡ m) × (j ≡ i)) ⊎ ((entry_at es f o ≡ Some j) × AreApart d n f o)
    cases_entry f o j is =
        elim (cases_apart e m f o) [
          | inl same ↦ inl (same.0, same.1, same_Some j i (sym is ∙ ap (λ f. entry_at (named (unnamed es d n) e i m) f o) same.0 ∙ ap (entry_at (named (unnamed es d n) e i m) e) same.1 ∙ named_same (unnamed es d n) e i m inside2))
          | inr apart ↦
              let is2 = sym (named_other (unnamed es d n) e i m f o apart) ∙ is in
              elim (cases_apart d n f o) [
                | inl same ↦ absurd (none-some j (sym (ap (λ f. entry_at (unnamed es d n) f o) same.0 ∙ ap (entry_at (unnamed es d n) d) same.1 ∙ unnamed_same es d n) ∙ is2))
                | inr apart2 ↦ inr (sym (unnamed_other es d n f o apart2) ∙ is2, apart2)
              ]
        ]

    not_again : (f : ℕ) (o : Name) → entry_at es f o ≡ Some i → AreApart d n f o → ⊥
    not_again f o is apart = let u = names.once f d o n i is old in apart u.0 u.1

    pub names_moved : InodesAreNamed inodes (named (unnamed es d n) e i m)
    names_moved = record {
      root = names.root;
      from_dir = λ f o j is. elim (cases_entry f o j is) [
        | inl same ↦ ap inodes same.0 ∙ dir
        | inr was ↦ names.from_dir f o j was.0
      ];
      in_use = λ f o j is. elim (cases_entry f o j is) [
        | inl same ↦ ap (λ k. is_some (inodes k)) same.2 ∙ names.in_use d n i old
        | inr was ↦ names.in_use f o j was.0
      ];
      no_root = λ f o j is. elim (cases_entry f o j is) [
        | inl same ↦ λ z. names.no_root d n i old (sym same.2 ∙ z)
        | inr was ↦ names.no_root f o j was.0
      ];
      once = λ f g o r j is1 is2. elim (cases_entry f o j is1) [
        | inl same ↦ elim (cases_entry g r j is2) [
          | inl same2 ↦ (same.0 ∙ sym same2.0, same.1 ∙ sym same2.1)
          | inr was2 ↦ absurd (not_again g r (was2.0 ∙ ap Some same.2) was2.1)
        ]
        | inr was ↦ elim (cases_entry g r j is2) [
          | inl same2 ↦ absurd (not_again f o (was.0 ∙ ap Some same2.2) was.1)
          | inr was2 ↦ names.once f g o r j was.0 was2.0
        ]
      ];
      reached = λ j is.
          let r = names.reached j is in
          elim (cases_option (below (n ∷ p) r.0)) [
            | inl (y, under) ↦ (
              y ++ m ∷ q,
              walk_renamed (y ++ m ∷ q) ∙ ap (λ z. back (walk es) (n ∷ p) z (below (n ∷ p) (y ++ m ∷ q)) (y ++ m ∷ q)) (below_of (m ∷ q) y)
                  ∙ ap (walk es) (sym (below_is (n ∷ p) r.0 y under)) ∙ r.1,
            )
            | inr none ↦
                elim (cases_option (below (m ∷ q) r.0)) [
                  | inl (y, under) ↦ absurd (none-some j (sym (walk_clear es (m ∷ q) y (walk_on es m q e there ∙ free)) ∙ ap (walk es) (sym (below_is (m ∷ q) r.0 y under)) ∙ r.1))
                  | inr none2 ↦
                      (r.0, walk_renamed r.0 ∙ ap (λ z. back (walk es) (n ∷ p) z (below (n ∷ p) r.0) r.0) none2 ∙ ap (λ z. back (walk es) (n ∷ p) None z r.0) none ∙ r.1)
                ]
          ];
    }
