-- The tables that transactions make have a place for each number, and directories without a name twice.
use Rattle.std.proofs.Common.{◌≡◌, ℕ, ◌+◌, ◌<◌, inl, inr, List, [], ◌∷◌, ◌++◌, length, take, replicate, set, get_or, Option, Some, None, refl, sym, ap, ◌∙◌, subst, arith}
use Rattle.std.proofs.lemmas.Bool.{cases_eq, cases_lt}
use Rattle.std.proofs.lemmas.List.{get_or-replicate, get_or_past, get_or-set_same, get_or-set_other, set_past, length-set, length-replicate, take_more}
use Rattle.pf_tree_tables.specs.declared.changes.Change.{Change}
use Rattle.pf_tree_tables.specs.declared.tables.DirectoryEntry.{DirectoryEntry}
use Rattle.pf_tree_tables.specs.declared.tables.Tag.{Tag}
use Rattle.pf_tree_tables.specs.Tables.{Entries, names_in}
use Rattle.pf_check.specs.declared.tables.RawInode.{RawInode}
use Rattle.pf_check.specs.declared.tables.RawInode.TheVariants.{Directory}
use Rattle.pf_check.specs.Raw.{RawTables, IsRaw, AreDistinct, after_change, tables_made, empty_inodes, empty_entries, empty_tags, empty_tables}

-- one directory written
set_distinct : (es : Entries) (d : ℕ) (rows : List DirectoryEntry) → ((e : ℕ) → AreDistinct (names_in es e)) → AreDistinct rows → (e : ℕ) → AreDistinct (names_in (set es d rows) e)
set_distinct es d rows before now e =
    elim (cases_eq e d) [
      | inl same ↦
          elim (cases_lt d (length es)) [
            | inl low ↦ subst AreDistinct (sym (ap (λ (k : ℕ). get_or (set es d rows) k []) same ∙ get_or-set_same es d rows [] low)) now
            | inr far ↦ subst AreDistinct (sym (ap (λ (xs : Entries). get_or xs e []) (set_past es d rows far))) (before e)
          ]
      | inr apart ↦ subst AreDistinct (sym (get_or-set_other es d e rows [] apart)) (before e)
    ]

pub set_inode_raw : (t : RawTables) (i : ℕ) (x : Option RawInode) → IsRaw t → IsRaw (record t { inodes = set t.inodes i x })
set_inode_raw t i x raw = record { inodes = length-set t.inodes i x ∙ raw.inodes; entries = raw.entries; tags = raw.tags; names = raw.names }

pub set_tag_raw : (t : RawTables) (b : ℕ) (x : Option Tag) → IsRaw t → IsRaw (record t { tags = set t.tags b x })
set_tag_raw t b x raw = record { inodes = raw.inodes; entries = raw.entries; tags = length-set t.tags b x ∙ raw.tags; names = raw.names }

pub set_rows_raw : (t : RawTables) (d : ℕ) (rows : List DirectoryEntry) → IsRaw t → AreDistinct rows → IsRaw (record t { entries = set t.entries d rows })
set_rows_raw t d rows raw apart = record {
  inodes = raw.inodes;
  entries = length-set t.entries d rows ∙ raw.entries;
  tags = raw.tags;
  names = set_distinct t.entries d rows raw.names apart;
}

pub made_append : (t : RawTables) (cs ds : List Change) → tables_made t (cs ++ ds) ≡ tables_made (tables_made t cs) ds
made_append t [] ds = refl
made_append t (c ∷ cs) ds = made_append (after_change t c) cs ds

-- one change more
pub made_more : (t : RawTables) (cs : List Change) (k : ℕ) (c : Change) → k < length cs → tables_made t (take (k + 1) cs) ≡ after_change (tables_made t (take k cs)) (get_or cs k c)
made_more t cs k c low = ap (tables_made t) (take_more cs k c low) ∙ made_append t (take k cs) (get_or cs k c ∷ [])

pub all_same : {X : Type 0} → (n i : ℕ) (x : X) → get_or (replicate n x) i x ≡ x
all_same n i x =
    elim (cases_lt i n) [
      | inl low ↦ get_or-replicate n i x x low
      | inr past ↦ get_or_past (replicate n x) i x (let l = length-replicate n x in omega (arith, l, past))
    ]

-- so many alike
pub all_made : {X : Type 0} → (x : X) (n m : ℕ) (v : List X) → v ≡ replicate n x → n ≡ m → v ≡ replicate m x
all_made x n m v is e = is ∙ ap (λ k. replicate k x) e

free : Option RawInode
free = None

untagged : Option Tag
untagged = None

nothing : List DirectoryEntry
nothing = []

abbrev pub raw_of_lists : List (Option RawInode) → Entries → List (Option Tag) → RawTables
raw_of_lists inodes entries tags = record { inodes = inodes; entries = entries; tags = tags }

pub new_raw : (inodes0 : List (Option RawInode)) (entries : Entries) (tags : List (Option Tag)) → inodes0 ≡ replicate 65536 None → entries ≡ replicate 65536 [] → tags ≡ replicate 65536 None → IsRaw (raw_of_lists (set inodes0 0 (Some (Directory 0))) entries tags)
unfolding free untagged nothing
new_raw inodes0 entries tags is_free is_bare is_untagged = record {
  inodes = length-set inodes0 0 (Some (Directory 0)) ∙ ap length is_free ∙ length-replicate 65536 free;
  entries = ap length is_bare ∙ length-replicate 65536 nothing;
  tags = ap length is_untagged ∙ length-replicate 65536 untagged;
  names = λ d. subst AreDistinct (sym (ap (λ (es : Entries). names_in es d) is_bare ∙ all_same 65536 d nothing)) tt;
}

pub new_empty : (inodes0 : List (Option RawInode)) (entries : Entries) (tags : List (Option Tag)) → inodes0 ≡ replicate 65536 None → entries ≡ replicate 65536 [] → tags ≡ replicate 65536 None → raw_of_lists (set inodes0 0 (Some (Directory 0))) entries tags ≡ empty_tables
unfolding empty_inodes empty_entries empty_tags
new_empty inodes0 entries tags is_free is_bare is_untagged =
    ap (λ (x : List (Option RawInode)). raw_of_lists (set x 0 (Some (Directory 0))) entries tags) is_free
    ∙ ap (λ (x : Entries). raw_of_lists empty_inodes x tags) is_bare
    ∙ ap (λ (x : List (Option Tag)). raw_of_lists empty_inodes empty_entries x) is_untagged
