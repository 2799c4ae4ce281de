-- A planned transaction has a spelling of at most 330 bytes.
use Rattle.std.proofs.Common.{◌≡◌, ◌≢◌, ℕ, suc, ◌+◌, ◌*◌, List, [], ◌∷◌, ◌++◌, length, refl, ◌∙◌, arith}
use Rattle.std.proofs.lemmas.List.{length-append}
use Rattle.pf_tree_tables.specs.declared.changes.Change.{Change}
use Rattle.pf_tree_tables.specs.declared.changes.Change.TheVariants.{SetInode, AddEntry, DeleteEntry, SetTag}
use Rattle.pf_txn.specs.Spelling.{two, four, spell_change, spell_changes, FitChanges}
use Rattle.pf_tree.specs.Plans.{blocks_freed, blocks_given}

-- how many bytes a change has
abbrev pub cost : Change → ℕ
cost (SetInode i kind size) = 8
cost (AddEntry d i name) = 6 + length name
cost (DeleteEntry d name) = 4 + length name
cost (SetTag b i k) = 6

abbrev pub costs : List Change → ℕ
costs [] = 0
costs (c ∷ cs) = cost c + costs cs

length_two : (n : ℕ) → length (two n) ≡ 2
length_two n = refl

length_four : (n : ℕ) → length (four n) ≡ 4
length_four n = refl

pub length_change : (c : Change) → length (spell_change c) ≡ cost c
length_change (SetInode i kind size) = simp length-append (omega (arith, length_two i, length_four size))
length_change (AddEntry d i name) = simp length-append (omega (arith, length_two d, length_two i))
length_change (DeleteEntry d name) = simp length-append (omega (arith, length_two d))
length_change (SetTag b i k) = simp length-append (omega (arith, length_two b, length_two i))

pub length_changes : (cs : List Change) → length (spell_changes cs) ≡ costs cs
length_changes [] = refl
length_changes (c ∷ cs) = length-append (spell_change c) (spell_changes cs) ∙ (let a = length_change c in let b = length_changes cs in omega (arith, a, b))

pub costs_append : (xs ys : List Change) → costs (xs ++ ys) ≡ costs xs + costs ys
costs_append [] ys = omega arith
costs_append (x ∷ xs) ys = let a = costs_append xs ys in omega (arith, a)

pub fit_append : (xs ys : List Change) → FitChanges xs → FitChanges ys → FitChanges (xs ++ ys)
fit_append [] ys f g = g
fit_append (x ∷ xs) ys f g = (f.0, fit_append xs ys f.1 g)

pub costs_freed : (bs : List ℕ) → costs (blocks_freed bs) ≡ 6 * length bs
costs_freed [] = refl
costs_freed (b ∷ bs) = let a = costs_freed bs in omega (arith, a)

pub costs_given : (i k : ℕ) (bs : List ℕ) → costs (blocks_given i k bs) ≡ 6 * length bs
costs_given i k [] = refl
costs_given i k (b ∷ bs) = let a = costs_given i (suc k) bs in omega (arith, a)

pub fit_freed : (bs : List ℕ) → FitChanges (blocks_freed bs)
fit_freed [] = tt
fit_freed (b ∷ bs) = (λ e. refl, fit_freed bs)

pub fit_given : (i k : ℕ) (bs : List ℕ) → i ≢ 65535 → FitChanges (blocks_given i k bs)
fit_given i k [] other = tt
fit_given i k (b ∷ bs) other = (λ e. absurd (other e), fit_given i (suc k) bs other)
