-- Each change sets or removes exactly what it names.
use Rattle.std.proofs.Common.{◌≡◌, ℕ, ◌<◌, inl, inr, List, [], ◌∷◌, length, replicate, set, get_or, Option, Some, None, refl, sym, ap, ◌∙◌, arith}
use Rattle.std.proofs.lemmas.Bool.{cases_eq}
use Rattle.std.proofs.lemmas.List.{get_or-set_same, get_or-set_other, length-replicate}
use Rattle.pf_tree_tables.specs.declared.changes.Change.{Change}
use Rattle.pf_tree_tables.specs.declared.changes.Change.TheVariants.{SetInode, AddEntry, DeleteEntry, SetTag}
use Rattle.pf_tree_tables.specs.declared.tables.DirectoryEntry.{DirectoryEntry}
use Rattle.pf_tree_tables.specs.Names.{Name}
use Rattle.pf_tree_tables.specs.Tables.{Entries, names_in, entry_found, entry_at, other_entries}
use Rattle.pf_tree_tables.proofs.Entries.{unnamed_same, unnamed_other}
use Rattle.pf_check.specs.declared.tables.RawInode.{RawInode}
use Rattle.pf_check.specs.declared.tables.RawInode.TheVariants.{Directory}
use Rattle.pf_check.specs.Raw.{RawTables, IsRaw, put_name, with_name, raw_inode, raw_tag, after_change, tables_made, empty_inodes, empty_entries, empty_tags, empty_tables}
use Rattle.pf_check.specs.Changing.{IsSet, ChangeDoes, ChangeIsPlaced, TablesAreEmpty}
use Rattle.pf_check.proofs.DirectoryEntries.{put_same, put_other, put_distinct, others_distinct}
use Rattle.pf_check.proofs.MadeTables.{all_same, set_inode_raw, set_tag_raw, set_rows_raw, new_raw}

set_exactly : {X : Type 0} → (xs : List (Option X)) (i : ℕ) (x : Option X) → i < length xs → IsSet (λ k. get_or xs k None) (λ k. get_or (set xs i x) k None) i x
set_exactly xs i x low = record { is = get_or-set_same xs i x None low; others = λ k apart. get_or-set_other xs i k x None apart }

module _ (es : Entries) (d i : ℕ) (n : Name) (low : d < length es) where
  name_is : entry_at (with_name es d i n) d n ≡ Some i
  name_is = ap (λ (rows : List DirectoryEntry). entry_found rows n) (get_or-set_same es d (put_name (names_in es d) n i) [] low) ∙ put_same (names_in es d) n i

  other_name : (e : ℕ) (m : Name) → (e ≡ d → m ≡ n → ⊥) → entry_at (with_name es d i n) e m ≡ entry_at es e m
  other_name e m apart =
      elim (cases_eq e d) [
        | inl same ↦
            ap (λ (k : ℕ). entry_at (with_name es d i n) k m) same
            ∙ ap (λ (rows : List DirectoryEntry). entry_found rows m) (get_or-set_same es d (put_name (names_in es d) n i) [] low)
            ∙ put_other (names_in es d) n i m (apart same)
            ∙ ap (λ (k : ℕ). entry_at es k m) (sym same)
        | inr other ↦ ap (λ (rows : List DirectoryEntry). entry_found rows m) (get_or-set_other es d e (put_name (names_in es d) n i) [] other)
      ]

pub does_exactly : (t : RawTables) (c : Change) → IsRaw t → ChangeIsPlaced c → ChangeDoes t c (after_change t c)
does_exactly t (SetInode i kind size) raw low = (set_exactly t.inodes i (raw_inode kind size) (let l = raw.inodes in omega (arith, l, low)), refl, refl)
does_exactly t (AddEntry d i n) raw low =
    let inside : d < length t.entries = let l = raw.entries in omega (arith, l, low) in
    (record { is = name_is t.entries d i n inside; others = other_name t.entries d i n inside }, refl, refl)
does_exactly t (DeleteEntry d n) raw low = (record { is = unnamed_same t.entries d n; others = unnamed_other t.entries d n }, refl, refl)
does_exactly t (SetTag b i k) raw low = (set_exactly t.tags b (raw_tag i k) (let l = raw.tags in omega (arith, l, low)), refl, refl)

after_raw : (t : RawTables) (c : Change) → IsRaw t → IsRaw (after_change t c)
after_raw t (SetInode i kind size) raw = set_inode_raw t i (raw_inode kind size) raw
after_raw t (AddEntry d i n) raw = set_rows_raw t d (put_name (names_in t.entries d) n i) raw (put_distinct (names_in t.entries d) n i (raw.names d))
after_raw t (DeleteEntry d n) raw = set_rows_raw t d (other_entries (names_in t.entries d) n) raw (others_distinct (names_in t.entries d) n (raw.names d))
after_raw t (SetTag b i k) raw = set_tag_raw t b (raw_tag i k) raw

made_raw : (t : RawTables) (cs : List Change) → IsRaw t → IsRaw (tables_made t cs)
made_raw t [] raw = raw
made_raw t (c ∷ cs) raw = made_raw (after_change t c) cs (after_raw t c raw)

free : Option RawInode
free = None

empty_raw : IsRaw empty_tables
unfolding empty_inodes empty_entries empty_tags
empty_raw = new_raw (replicate 65536 None) (replicate 65536 []) (replicate 65536 None) refl refl refl

pub all_made_raw : (cs : List Change) → IsRaw (tables_made empty_tables cs)
all_made_raw cs = made_raw empty_tables cs empty_raw

pub empty_is : TablesAreEmpty empty_tables
unfolding empty_inodes empty_entries empty_tags
empty_is = record {
  root = get_or-set_same (replicate 65536 None) 0 (Some (Directory 0)) None (let l = length-replicate 65536 free in omega (arith, l));
  inodes = λ i apart. get_or-set_other (replicate 65536 None) 0 i (Some (Directory 0)) None apart ∙ all_same 65536 i None;
  entries = λ d n. ap (λ (rows : List DirectoryEntry). entry_found rows n) (all_same 65536 d []);
  tags = λ b. all_same 65536 b None;
}
