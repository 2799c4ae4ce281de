-- Tables stay whole, whatever a transaction changes in them.
use Rattle.std.proofs.Common.{◌≡◌, ℕ, ◌<◌, ◌≤◌, inl, inr, true, ◌||◌, ◌==◌, cond, nat_le, nat_lt, List, [], ◌∷◌, length, replicate, set, get_or, Option, Some, None, sym, ap, ◌∙◌, subst, arith}
use Rattle.std.proofs.lemmas.Bool.{cases_Bool, cond-true, cond-false, cases_eq, cases_lt, or_cases, and_parts, ltb-true, leb-true, ne_eqb}
use Rattle.std.proofs.lemmas.List.{get_or-set_same, get_or-set_other, set_past, length-set, length-replicate, get_or-replicate, get_or_past}
use Rattle.pf_tree_tables.specs.declared.changes.Change.{Change}
use Rattle.pf_tree_tables.specs.declared.changes.Change.TheVariants.{SetInode, AddEntry, DeleteEntry, SetTag}
use Rattle.pf_tree_tables.specs.declared.tables.DirectoryEntry.{DirectoryEntry}
use Rattle.pf_tree_tables.specs.declared.tables.Inode.{Inode}
use Rattle.pf_tree_tables.specs.declared.tables.Inode.TheVariants.{File as OfFile, Directory}
use Rattle.pf_tree_tables.specs.declared.tables.Tag.{Tag}
use Rattle.pf_tree_tables.specs.Tables.{Tables, TablesAreHeld, TablesAreWhole, inode_with, may_set, after_change, applied, new_inodes, new_entries, new_tables}
use Rattle.pf_tree_tables.proofs.Shelves.{tables_length}

-- what holds of each place before a write, and of what is written, holds of each place after it
at_write : (xs : List (Option Inode)) (i : ℕ) (x : Option Inode) (j : ℕ) (P : Option Inode → Type 0) → P (get_or xs j None) → (j ≡ i → P x) → P (get_or (set xs i x) j None)
at_write xs i x j P before now =
    elim (cases_eq j i) [
      | inl same ↦
          elim (cases_lt i (length xs)) [
            | inl low ↦ subst P (sym (ap (λ (k : ℕ). get_or (set xs i x) k None) same ∙ get_or-set_same xs i x None low)) (now same)
            | inr far ↦ subst P (sym (ap (λ (ys : List (Option Inode)). get_or ys j None) (set_past xs i x far))) before
          ]
      | inr apart ↦ subst P (sym (get_or-set_other xs i j x None apart)) before
    ]

directory_with : (kind size : ℕ) → 1 < kind → inode_with kind size ≡ Some Directory
directory_with kind size high =
    cond-false (kind == 0) _ _ (ne_eqb kind 0 (λ e. omega (arith, high, e)))
    ∙ cond-false (kind == 1) _ _ (ne_eqb kind 1 (λ e. omega (arith, high, e)))

size_with : (kind size z : ℕ) → inode_with kind size ≡ Some (OfFile z) → z ≡ size
size_with kind size z e =
    elim (cases_Bool (kind == 0)) [
      | inl none ↦ let a = cond-true (kind == 0) None (cond (kind == 1) (Some (OfFile size)) (Some Directory)) none in cc
      | inr some ↦
          let a = cond-false (kind == 0) None (cond (kind == 1) (Some (OfFile size)) (Some Directory)) some in
          elim (cases_Bool (kind == 1)) [
            | inl file ↦ let b = cond-true (kind == 1) (Some (OfFile size)) (Some Directory) file in cc
            | inr other ↦ let b = cond-false (kind == 1) (Some (OfFile size)) (Some Directory) other in cc
          ]
    ]

set_whole : (t : Tables) (i kind size : ℕ) → TablesAreWhole t → may_set i kind size ≡ true → TablesAreWhole (record t { inodes = set t.inodes i (inode_with kind size) })
set_whole t i kind size whole may =
    let both = and_parts (nat_le size 196608) (nat_lt 1 kind || nat_lt 0 i) may in
    let small : size ≤ 196608 = leb-true size 196608 both.0 in
    record {
      root =
          at_write t.inodes i (inode_with kind size) 0 (λ o. o ≡ Some Directory) whole.root
          (λ same. elim (or_cases (nat_lt 1 kind) (nat_lt 0 i) both.1) [
            | inl directory ↦ directory_with kind size (ltb-true 1 kind directory)
            | inr other ↦ let high = ltb-true 0 i other in absurd (omega (arith, high, same))
          ]);
      sizes =
          λ j z. at_write t.inodes i (inode_with kind size) j (λ o. o ≡ Some (OfFile z) → z ≤ 196608) (whole.sizes j z)
          (λ same e. let is = size_with kind size z e in omega (arith, is, small));
    }

change_whole : (t : Tables) (c : Change) → TablesAreWhole t → TablesAreWhole (after_change t c)
change_whole t (SetInode i kind size) whole =
    elim (cases_Bool (may_set i kind size)) [
      | inl may ↦ subst (λ (xs : List (Option Inode)). TablesAreWhole (record t { inodes = xs })) (sym (cond-true _ (set t.inodes i (inode_with kind size)) t.inodes may)) (set_whole t i kind size whole may)
      | inr may_not ↦
          subst (λ (xs : List (Option Inode)). TablesAreWhole (record t { inodes = xs })) (sym (cond-false _ (set t.inodes i (inode_with kind size)) t.inodes may_not))
          (record { root = whole.root; sizes = whole.sizes })
    ]
change_whole t (AddEntry d i n) whole = record { root = whole.root; sizes = whole.sizes }
change_whole t (DeleteEntry d n) whole = record { root = whole.root; sizes = whole.sizes }
change_whole t (SetTag b i k) whole = record { root = whole.root; sizes = whole.sizes }

change_held : (t : Tables) (c : Change) → TablesAreHeld t → TablesAreHeld (after_change t c)
change_held t c held =
    let same = tables_length t c in
    let few = held.tags in
    record {
      inodes = same.0 ∙ held.inodes;
      entries = same.1 ∙ held.entries;
      tags = omega (arith, same, few);
      whole = change_whole t c held.whole;
    }

pub applied_held : (t : Tables) (cs : List Change) → TablesAreHeld t → TablesAreHeld (applied t cs)
applied_held t [] held = held
applied_held t (c ∷ cs) held = applied_held (after_change t c) cs (change_held t c held)

nothing_at : (n j : ℕ) → ◌≡◌ {A = Option Inode} (get_or (replicate n None) j None) None
nothing_at n j =
    elim (cases_lt j n) [
      | inl low ↦ get_or-replicate n j None None low
      | inr far ↦ get_or_past (replicate n None) j None (omega (arith, far, length-replicate {A = Option Inode} n None))
    ]

pub new_held : (blocks : ℕ) → blocks ≤ 4096 → TablesAreHeld (new_tables blocks)
unfolding new_inodes new_entries
new_held blocks few = record {
  inodes = length-set (replicate 1024 None) 0 (Some Directory) ∙ length-replicate {A = Option Inode} 1024 None;
  entries = length-replicate {A = List DirectoryEntry} 1024 [];
  tags = omega (arith, few, length-replicate {A = Option Tag} blocks None);
  whole = record {
    root = get_or-set_same (replicate 1024 None) 0 (Some Directory) None (omega (arith, length-replicate {A = Option Inode} 1024 None));
    sizes = λ j z. at_write (replicate 1024 None) 0 (Some Directory) j (λ o. o ≡ Some (OfFile z) → z ≤ 196608) (λ e. let n = nothing_at 1024 j in cc) (λ same e. cc);
  };
}
