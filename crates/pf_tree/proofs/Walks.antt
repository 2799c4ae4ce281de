-- Walks of names after a change of the entries.
use Rattle.std.proofs.Common.{◌≡◌, ◌≢◌, ℕ, ◌⊎◌, inl, inr, true, cond, [], ◌∷◌, ◌++◌, length, Option, Some, None, is_some, refl, sym, ap, ◌∙◌, arith}
use Rattle.std.specs.Option.{option_and_then, option_map}
use Rattle.std.proofs.lemmas.Bool.{cond-true, cond-false, cases_eq}
use Rattle.std.proofs.lemmas.Option.{none-some, same_Some}
use Rattle.std.proofs.lemmas.List.{length-append}
use Rattle.pf_tree_tables.specs.declared.tables.Inode.{Inode}
use Rattle.pf_tree_tables.specs.declared.tables.Inode.TheVariants.{Directory}
use Rattle.pf_tree_tables.specs.Names.{Name, Path}
use Rattle.pf_tree.specs.Paths.{is_same, below}
use Rattle.pf_tree_tables.specs.Tables.{Entries, entry_at, walk}
use Rattle.pf_tree.specs.Standing.{InodesAreNamed}
use Rattle.pf_tree.proofs.Paths.{cases_path, cases_name, is_same_true, is_same_false, below_itself, below_of, below_is, below_step}
use Rattle.pf_tree.proofs.RenamedTrees.{back, cases_option}
use Rattle.pf_tree_tables.proofs.Entries.{AreApart}

pub cons_parts : (n m : Name) (p q : Path) → n ∷ p ≡ m ∷ q → (n ≡ m) × (p ≡ q)
cons_parts n m p q e = (cc, cc)

pub cons_same : (n m : Name) (p q : Path) → n ≡ m → p ≡ q → n ∷ p ≡ m ∷ q
cons_same n m p q e f = cc

pub cases_apart : (d : ℕ) (n : Name) (e : ℕ) (m : Name) → ((e ≡ d) × (m ≡ n)) ⊎ AreApart d n e m
cases_apart d n e m =
    elim (cases_eq e d) [
      | inl same ↦ elim (cases_name m n) [ inl same2 ↦ inl (same, same2) | inr apart ↦ inr (λ _ h. apart h) ]
      | inr apart ↦ inr (λ h _. apart h)
    ]

pub record Step (es : Entries) (n : Name) (p : Path) (i : ℕ) : Type 0 where
  pub directory : ℕ
  pub before : walk es p ≡ Some directory
  pub last : entry_at es directory n ≡ Some i

step_of : (es : Entries) (n : Name) (p : Path) (i : ℕ) (o : Option ℕ) → walk es p ≡ o → option_and_then (λ j. entry_at es j n) o ≡ Some i → Step es n p i
step_of es n p i None w e = absurd (none-some i e)
step_of es n p i (Some d) w e = record { directory = d; before = w; last = e }

-- the last step of a walk
pub walk_parts : (es : Entries) (n : Name) (p : Path) (i : ℕ) → walk es (n ∷ p) ≡ Some i → Step es n p i
walk_parts es n p i e = step_of es n p i (walk es p) refl e

pub walk_on : (es : Entries) (n : Name) (p : Path) (d : ℕ) → walk es p ≡ Some d → walk es (n ∷ p) ≡ entry_at es d n
walk_on es n p d e = ap (option_and_then (λ j. entry_at es j n)) e

pub walk_off : (es : Entries) (n : Name) (p : Path) → walk es p ≡ None → walk es (n ∷ p) ≡ None
walk_off es n p e = ap (option_and_then (λ j. entry_at es j n)) e

pub walk_clear : (es : Entries) (p x : Path) → walk es p ≡ None → walk es (x ++ p) ≡ None
walk_clear es p [] e = e
walk_clear es p (n ∷ x) e = walk_off es n (x ++ p) (walk_clear es p x e)

module _ (inodes : ℕ → Option Inode) (es : Entries) (names : InodesAreNamed inodes es) where
  -- two walks to one inode are one
  pub walk_once : (p q : Path) (i : ℕ) → walk es p ≡ Some i → walk es q ≡ Some i → p ≡ q
  walk_once [] [] i e f = refl
  walk_once [] (m ∷ q) i e f = let s = walk_parts es m q i f in absurd (names.no_root s.directory m i s.last (sym (same_Some 0 i e)))
  walk_once (n ∷ p) [] i e f = let s = walk_parts es n p i e in absurd (names.no_root s.directory n i s.last (sym (same_Some 0 i f)))
  walk_once (n ∷ p) (m ∷ q) i e f =
      let s = walk_parts es n p i e in
      let t = walk_parts es m q i f in
      let u = names.once s.directory t.directory n m i s.last t.last in
      cons_same n m p q u.1 (walk_once p q s.directory s.before (t.before ∙ ap Some (sym u.0)))

  pub walk_in_use : (p : Path) (i : ℕ) → walk es p ≡ Some i → is_some (inodes i) ≡ true
  walk_in_use [] i e = ap (λ j. is_some (inodes j)) (sym (same_Some 0 i e)) ∙ ap is_some names.root
  walk_in_use (n ∷ p) i e = let s = walk_parts es n p i e in names.in_use s.directory n i s.last

  -- nothing goes on from what is no directory
  pub leads_nowhere : (i : ℕ) (m : Name) → inodes i ≢ Some Directory → entry_at es i m ≡ None
  leads_nowhere i m other =
      elim (cases_option (entry_at es i m)) [
        | inl (j, is) ↦ absurd (other (names.from_dir i m j is))
        | inr none ↦ none
      ]

  step_same : (es2 : Entries) (m : Name) (o : Option ℕ) → ((e : ℕ) → o ≡ Some e → entry_at es2 e m ≡ entry_at es e m) → option_and_then (λ j. entry_at es2 j m) o ≡ option_and_then (λ j. entry_at es j m) o
  step_same es2 m None same = refl
  step_same es2 m (Some e) same = same e refl

  -- one name made or removed, below which nothing stands
  module _ (es2 : Entries) (d : ℕ) (n : Name) (p : Path) (x : Option ℕ) (here : walk es p ≡ Some d) (is : entry_at es2 d n ≡ x) (others : (e : ℕ) (m : Name) → AreApart d n e m → entry_at es2 e m ≡ entry_at es e m) (new_ends : (m : Name) → option_and_then (λ j. entry_at es2 j m) x ≡ None) (old_ends : (m : Name) → walk es (m ∷ (n ∷ p)) ≡ None) where
    too_long : (q : Path) → q ≡ p → q ≢ n ∷ p
    too_long q e f = let k = ap length e in let h = ap length f in omega (arith, k, h)

    pub walk_changed : (q : Path) → walk es2 q ≡ cond (is_same q (n ∷ p)) x (walk es q)
    walk_changed [] = refl
    walk_changed (m ∷ r) =
        elim (cases_path (m ∷ r) (n ∷ p)) [
          | inl same ↦
              let parts = cons_parts m n r p same in
              let before : walk es2 r ≡ Some d =
              walk_changed r ∙ cond-false _ _ _ (is_same_false r (n ∷ p) (too_long r parts.1)) ∙ ap (walk es) parts.1 ∙ here in
              walk_on es2 m r d before ∙ ap (entry_at es2 d) parts.0 ∙ is ∙ sym (cond-true _ _ _ (is_same_true (m ∷ r) (n ∷ p) same))
          | inr apart ↦
              sym (cond-false (is_same (m ∷ r) (n ∷ p)) x (walk es (m ∷ r)) (is_same_false (m ∷ r) (n ∷ p) apart)
              ∙ elim (cases_path r (n ∷ p)) [
                | inl under ↦
                    ap (λ q. walk es (m ∷ q)) under ∙ old_ends m
                    ∙ sym (ap (option_and_then (λ j. entry_at es2 j m)) (walk_changed r ∙ cond-true _ _ _ (is_same_true r (n ∷ p) under)) ∙ new_ends m)
                | inr other ↦
                    sym (ap (option_and_then (λ j. entry_at es2 j m)) (walk_changed r ∙ cond-false _ _ _ (is_same_false r (n ∷ p) other))
                    ∙ step_same es2 m (walk es r) (λ e at_e. others e m (λ same_d same_n.
                    apart (cons_same m n r p same_n (walk_once r p d (at_e ∙ ap Some same_d) here)))))
              ])
        ]

  -- a name moved
  module _ (es2 : Entries) (d e : ℕ) (n m : Name) (p q : Path) (i : ℕ) (old_dir : walk es p ≡ Some d) (new_dir : walk es q ≡ Some e) (old : entry_at es d n ≡ Some i) (free : entry_at es e m ≡ None) (outside : below (n ∷ p) (m ∷ q) ≡ None) (is : entry_at es2 e m ≡ Some i) (gone : AreApart e m d n → entry_at es2 d n ≡ None) (others : (f : ℕ) (o : Name) → AreApart d n f o → AreApart e m f o → entry_at es2 f o ≡ entry_at es f o) where
    shorter : (x : Path) (o : Name) (s : Path) → x ++ o ∷ s ≢ s
    shorter x o s h = let k = ap length h in let j = length-append x (o ∷ s) in omega (arith, k, j)

    not_into : (x : Path) → x ++ n ∷ p ≢ q
    not_into x h = none-some (m ∷ x) (sym outside ∙ ap (λ s. below (n ∷ p) (m ∷ s)) (sym h) ∙ below_of (n ∷ p) (m ∷ x))

    none_below : (top s : Path) → ((x : Path) → x ++ top ≢ s) → below top s ≡ None
    none_below top s never =
        elim (cases_option (below top s)) [
          | inl (x, h) ↦ absurd (never x (sym (below_is top s x h)))
          | inr none ↦ none
        ]

    pub walk_moved : (s : Path) → walk es2 s ≡ back (walk es) (n ∷ p) (below (m ∷ q) s) (below (n ∷ p) s) s
    walk_moved [] = refl
    walk_moved (o ∷ r) =
        let going : (a b : Option Path) → below (m ∷ q) r ≡ a → below (n ∷ p) r ≡ b → walk es2 r ≡ back (walk es) (n ∷ p) a b r =
        λ a b e1 e2. walk_moved r ∙ ap (λ z. back (walk es) (n ∷ p) z (below (n ∷ p) r) r) e1 ∙ ap (λ z. back (walk es) (n ∷ p) a z r) e2 in
        let told : (a b : Option Path) → below (m ∷ q) (o ∷ r) ≡ a → below (n ∷ p) (o ∷ r) ≡ b → back (walk es) (n ∷ p) (below (m ∷ q) (o ∷ r)) (below (n ∷ p) (o ∷ r)) (o ∷ r) ≡ back (walk es) (n ∷ p) a b (o ∷ r) =
        λ a b e1 e2. ap (λ z. back (walk es) (n ∷ p) z (below (n ∷ p) (o ∷ r)) (o ∷ r)) e1 ∙ ap (λ z. back (walk es) (n ∷ p) a z (o ∷ r)) e2 in
        elim (cases_path (o ∷ r) (m ∷ q)) [
          | inl at_to ↦
              let parts = cons_parts o m r q at_to in
              let none1 : below (m ∷ q) r ≡ None = none_below (m ∷ q) r (λ x h. shorter x m q (h ∙ parts.1)) in
              let none2 : below (n ∷ p) r ≡ None = none_below (n ∷ p) r (λ x h. not_into x (h ∙ parts.1)) in
              walk_on es2 o r e (going None None none1 none2 ∙ ap (walk es) parts.1 ∙ new_dir)
              ∙ ap (entry_at es2 e) parts.0 ∙ is
              ∙ sym (told (Some []) (below (n ∷ p) (o ∷ r)) (ap (below (m ∷ q)) at_to ∙ below_itself (m ∷ q)) refl ∙ walk_on es n p d old_dir ∙ old)
          | inr past_to ↦
              elim (cases_option (below (m ∷ q) r)) [
                | inl (x, under) ↦
                    ap (option_and_then (λ j. entry_at es2 j o)) (going (Some x) (below (n ∷ p) r) under refl)
                    ∙ step_same es2 o (walk es (x ++ n ∷ p)) (λ f at_f. others f o
                    (λ same_d same_n. shorter x n p (walk_once (x ++ n ∷ p) p d (at_f ∙ ap Some same_d) old_dir))
                    (λ same_e same_m. not_into x (walk_once (x ++ n ∷ p) q e (at_f ∙ ap Some same_e) new_dir)))
                    ∙ sym (told (Some (o ∷ x)) (below (n ∷ p) (o ∷ r)) (below_step (m ∷ q) r o past_to ∙ ap (option_map (λ z. o ∷ z)) under) refl)
                | inr not_under ↦
                    let off_to : below (m ∷ q) (o ∷ r) ≡ None = below_step (m ∷ q) r o past_to ∙ ap (option_map (λ z. o ∷ z)) not_under in
                    elim (cases_path (o ∷ r) (n ∷ p)) [
                      | inl at_from ↦
                          let parts = cons_parts o n r p at_from in
                          let none2 : below (n ∷ p) r ≡ None = none_below (n ∷ p) r (λ x h. shorter x n p (h ∙ parts.1)) in
                          walk_on es2 o r d (going None None not_under none2 ∙ ap (walk es) parts.1 ∙ old_dir)
                          ∙ ap (entry_at es2 d) parts.0
                          ∙ gone (λ same_d same_n. past_to (at_from ∙ cons_same n m p q same_n (walk_once p q e (old_dir ∙ ap Some same_d) new_dir)))
                          ∙ sym (told None (Some []) off_to (ap (below (n ∷ p)) at_from ∙ below_itself (n ∷ p)))
                      | inr past_from ↦
                          elim (cases_option (below (n ∷ p) r)) [
                            | inl (y, under_from) ↦
                                walk_off es2 o r (going None (Some y) not_under under_from)
                                ∙ sym (told None (Some (o ∷ y)) off_to (below_step (n ∷ p) r o past_from ∙ ap (option_map (λ z. o ∷ z)) under_from))
                            | inr not_from ↦
                                ap (option_and_then (λ j. entry_at es2 j o)) (going None None not_under not_from)
                                ∙ step_same es2 o (walk es r) (λ f at_f. others f o
                                (λ same_d same_n. past_from (cons_same o n r p same_n (walk_once r p d (at_f ∙ ap Some same_d) old_dir)))
                                (λ same_e same_m. past_to (cons_same o m r q same_m (walk_once r q e (at_f ∙ ap Some same_e) new_dir))))
                                ∙ sym (told None None off_to (below_step (n ∷ p) r o past_from ∙ ap (option_map (λ z. o ∷ z)) not_from))
                          ]
                    ]
              ]
        ]
