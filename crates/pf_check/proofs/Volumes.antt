-- Tables that keep the rules of all kinds stand for a tree, and those that stand for one show no kind.
use Rattle.std.proofs.Common.{◌≡◌, ◌≢◌, ℕ, zero, suc, ◌<◌, ◌≤◌, inl, inr, Bool, false, cond, List, [], ◌∷◌, length, map, take, get_or, Option, Some, None, is_some, refl, sym, ap, ◌∙◌, subst, arith}
use Rattle.std.specs.List.{count_by}
use Rattle.std.specs.Option.{option_and_then, option_map}
use Rattle.std.proofs.lemmas.Bool.{cases_eq, cases_lt}
use Rattle.std.proofs.lemmas.Option.{none-some, same_Some}
use Rattle.std.proofs.lemmas.List.{get_or-map, get_or-take, get_or_past, length-map, length-take-le}
use Rattle.std.proofs.lemmas.List.Sums.{sum_by-cons}
use Rattle.pf_tree_tables.specs.declared.tables.DirectoryEntry.{DirectoryEntry}
use Rattle.pf_tree_tables.specs.declared.tables.Inode.{Inode}
use Rattle.pf_tree_tables.specs.declared.tables.Inode.TheVariants.{File as OfFile, Directory as OfDirectory}
use Rattle.pf_tree_tables.specs.declared.tables.Tag.{Tag}
use Rattle.pf_tree_tables.specs.Names.{Name, Path}
use Rattle.pf_tree_tables.specs.Tables.{Entries, Tables, inode_at, entry_at, entry_found, tag_at, walk}
use Rattle.pf_tree.specs.Standing.{InodesAreNamed, IndexesAreTagged, TablesStandFor}
use Rattle.pf_tree.specs.Trees.{Tree}
use Rattle.pf_tree.proofs.RenamedTrees.{cases_option}
use Rattle.pf_tree.proofs.Steps.{used_within}
use Rattle.pf_tree.proofs.Walks.{walk_parts}
use Rattle.pf_check.specs.declared.tables.RawInode.{RawInode}
use Rattle.pf_check.specs.declared.tables.RawInode.TheVariants.{File, Directory}
use Rattle.pf_check.specs.Raw.{RawTables, IsRaw, inode_in}
use Rattle.pf_check.specs.Kinds.{IsDirectory, IsUsed, EntryIsSound, IsNamedOnce, InodeIsSized, IsTagSound, KeepsRule, KindShows}
use Rattle.pf_check.specs.Standing.{AreSame, StandsAs, raw_of, whole_volume}
use Rattle.pf_check.specs.Verdicts.{AllKeepBelow}
use Rattle.pf_check.proofs.KindRules.{kept_hides, low_kept}
use Rattle.pf_check.proofs.Trees.{tree_upto, tree_map, tree_count, tree_nodes}

-- inodes of both kinds of tables
used_same : (o : Option Inode) → is_some (option_map raw_of o) ≡ is_some o
used_same None = refl
used_same (Some x) = refl

directory_back : (o : Option Inode) (size : ℕ) → option_map raw_of o ≡ Some (Directory size) → o ≡ Some OfDirectory
directory_back None size e = absurd (none-some (Directory size) e)
directory_back (Some OfDirectory) size e = refl
directory_back (Some (OfFile z)) size e = cc

file_back : (o : Option Inode) (size : ℕ) → option_map raw_of o ≡ Some (File size) → o ≡ Some (OfFile size)
file_back None size e = absurd (none-some (File size) e)
file_back (Some OfDirectory) size e = cc
file_back (Some (OfFile z)) size e = let s : z ≡ size = cc in ap (λ (x : ℕ). Some (OfFile x)) s

-- what stands in two tables that are the same
module _ (t : RawTables) (tables : Tables) (same : AreSame t tables) where
  used_in : (i : ℕ) → is_some (inode_in t i) ≡ is_some (inode_at tables i)
  used_in i = ap is_some (same.inodes i) ∙ used_same (inode_at tables i)

  directory_in : (i : ℕ) → IsDirectory t i → inode_at tables i ≡ Some OfDirectory
  directory_in i d = directory_back (inode_at tables i) d.0 (sym (same.inodes i) ∙ d.1)

  directory_of : (i : ℕ) → inode_at tables i ≡ Some OfDirectory → IsDirectory t i
  directory_of i e = (0, same.inodes i ∙ ap (option_map raw_of) e)

  file_in : (i size : ℕ) → inode_in t i ≡ Some (File size) → inode_at tables i ≡ Some (OfFile size)
  file_in i size e = file_back (inode_at tables i) size (sym (same.inodes i) ∙ e)

  file_of : (i size : ℕ) → inode_at tables i ≡ Some (OfFile size) → inode_in t i ≡ Some (File size)
  file_of i size e = same.inodes i ∙ ap (option_map raw_of) e

  -- a walk leads alike
  walk_same : (p : Path) → walk t.entries p ≡ walk tables.entries p
  walk_same [] = refl
  walk_same (n ∷ p) = step (walk t.entries p) (walk tables.entries p) (walk_same p)
    where
      on : Entries → Option ℕ → Option ℕ
      on es None = None
      on es (Some d) = entry_at es d n

      on_same : (o : Option ℕ) → on t.entries o ≡ on tables.entries o
      on_same None = refl
      on_same (Some d) = same.entries d n

      by : (es : Entries) (o : Option ℕ) → option_and_then (λ d. entry_at es d n) o ≡ on es o
      by es None = refl
      by es (Some d) = refl

      step : (a b : Option ℕ) → a ≡ b → option_and_then (λ d. entry_at t.entries d n) a ≡ option_and_then (λ d. entry_at tables.entries d n) b
      step a b e = ap (option_and_then (λ d. entry_at t.entries d n)) e ∙ by t.entries b ∙ on_same b ∙ sym (by tables.entries b)

  module _ (kept : AllKeepBelow t 8) where
    sound : (d : ℕ) (n : Name) (i : ℕ) → entry_at tables.entries d n ≡ Some i → EntryIsSound t d n i
    sound d n i e = kept 2 d (omega arith) n i (same.entries d n ∙ e)

    pub names_kept : InodesAreNamed (inode_at tables) tables.entries
    names_kept = record {
      root = directory_in 0 (kept 1 0 (omega arith) refl);
      from_dir = λ d n i e. directory_in d (sound d n i e).directory;
      in_use = λ d n i e. sym (used_in i) ∙ (sound d n i e).used;
      no_root = λ d n i e root. (kept 3 0 (omega arith)).0 refl (record { directory = d; name = n; stands = same.entries d n ∙ e ∙ ap Some root });
      once = λ d e n m i f g. one_name d e n m i f g;
      reached = λ i used. let r = kept 4 i (omega arith) (used_in i ∙ used) in (r.0, sym (walk_same r.0) ∙ r.1);
    }
      where
        one_name : (d e : ℕ) (n m : Name) (i : ℕ) → entry_at tables.entries d n ≡ Some i → entry_at tables.entries e m ≡ Some i → (d ≡ e) × (n ≡ m)
        one_name d e n m i f g =
            elim (cases_eq i 0) [
              | inl root ↦ absurd ((kept 3 0 (omega arith)).0 refl (record { directory = d; name = n; stands = same.entries d n ∙ f ∙ ap Some root }))
              | inr apart ↦
                  let once = (kept 3 i (omega arith)).1 apart (sound d n i f).used in
                  let a = once.only d n (same.entries d n ∙ f) in
                  let b = once.only e m (same.entries e m ∙ g) in
                  (a.0 ∙ sym b.0, a.1 ∙ sym b.1)
            ]

    tag_sound : (b : ℕ) (tag : Tag) → tag_at tables.tags b ≡ Some tag → IsTagSound t b tag
    tag_sound b tag e = kept 6 b (omega arith) tag (same.tags b ∙ e)

    pub tags_kept : IndexesAreTagged (inode_at tables) tables.tags
    tags_kept = record {
      of_file = λ b tag e. let f = (tag_sound b tag e).of_file in (f.0, file_in tag.inode f.0 f.1, f.2);
      once = λ b c tag e f. one_block b c tag e f;
      there = λ i size k e low. let r = kept 7 i (omega arith) size k (file_of i size e) low in (r.0, sym (same.tags r.0) ∙ r.1);
    }
      where
        one_block : (b c : ℕ) (tag : Tag) → tag_at tables.tags b ≡ Some tag → tag_at tables.tags c ≡ Some tag → b ≡ c
        one_block b c tag e f =
            elim (cases_lt b c) [
              | inl before ↦ absurd ((tag_sound c tag f).first b before (same.tags b ∙ e))
              | inr not_before ↦
                  elim (cases_lt c b) [
                    | inl after ↦ absurd ((tag_sound b tag e).first c after (same.tags c ∙ f))
                    | inr not_after ↦ omega (arith, not_before, not_after)
                  ]
            ]

    pub sizes_in : (i size : ℕ) → inode_at tables i ≡ Some (OfFile size) → size ≤ 196608
    sizes_in i size e = subst InodeIsSized (file_of i size e) (kept 5 i (omega arith))

    pub stands_kept : length tables.inodes ≡ 1024 → length tables.entries ≡ 1024 → length tables.tags ≡ 4096 → TablesStandFor whole_volume tables (tree_upto tables names_kept 1024)
    stands_kept places dirs blocks = record {
      places = places;
      dirs = dirs;
      blocks = blocks;
      names = names_kept;
      tags = tags_kept;
      sizes = sizes_in;
      nodes = tree_nodes tables names_kept 1024 places;
      once = tree_map tables names_kept 1024;
      count = tree_count tables names_kept 1024 places;
    }

  -- tables that stand for a tree keep all rules
  module _ (tree : Tree) (s : TablesStandFor whole_volume tables tree) where
    low_in : (i : ℕ) → IsUsed t i → i ≤ 1023
    low_in i used = let l = used_within tables.inodes i (sym (used_in i) ∙ used) in let p = s.places in omega (arith, l, p)

    once_by : (i : ℕ) → i ≢ 0 → (p : Path) → walk tables.entries p ≡ Some i → IsNamedOnce t i
    once_by i apart [] w = absurd (apart (sym (same_Some 0 i w)))
    once_by i apart (n ∷ p) w =
        let step = walk_parts tables.entries n p i w in
        let d = step.directory in
        record {
          by = record { directory = d; name = n; stands = same.entries d n ∙ step.last };
          only = λ e m f. s.names.once e d m n i (sym (same.entries e m) ∙ f) step.last;
        }

    sized_by : (i : ℕ) (o : Option Inode) → inode_at tables i ≡ o → InodeIsSized (option_map raw_of o)
    sized_by i None e = tt
    sized_by i (Some OfDirectory) e = refl
    sized_by i (Some (OfFile size)) e = s.sizes i size e

    tag_high : (b : ℕ) (tag : Tag) → tag_at t.tags b ≡ Some tag → b ≤ 4095
    tag_high b tag e =
        elim (cases_lt b (length tables.tags)) [
          | inl low ↦ let l = s.blocks in omega (arith, low, l)
          | inr far ↦ absurd (none-some tag (sym (same.tags b ∙ get_or_past tables.tags b None far) ∙ e))
        ]

    tag_kept : (b : ℕ) (tag : Tag) → tag_at t.tags b ≡ Some tag → IsTagSound t b tag
    tag_kept b tag e =
        let f = s.tags.of_file b tag (sym (same.tags b) ∙ e) in
        record {
          low = same.data_blocks b tag e;
          high = tag_high b tag e;
          of_file = (f.0, file_of tag.inode f.0 f.1, f.2);
          first = λ c before g. let one = s.tags.once b c tag (sym (same.tags b) ∙ e) (sym (same.tags c) ∙ g) in omega (arith, one, before);
        }

    sound_in : (d : ℕ) (n : Name) (i : ℕ) → entry_at t.entries d n ≡ Some i → EntryIsSound t d n i
    sound_in d n i e =
        let f = sym (same.entries d n) ∙ e in
        let used = used_in i ∙ s.names.in_use d n i f in
        record { directory = directory_of d (s.names.from_dir d n i f); used = used; low = low_in i used; name = same.names d n i e }

    pub all_kept : (kind : ℕ) (n : ℕ) → KeepsRule kind t n
    all_kept zero n = tt
    all_kept (suc zero) n = λ _. directory_of 0 s.names.root
    all_kept (suc (suc zero)) d = sound_in d
    all_kept (suc (suc (suc zero))) i = (
      λ _ by. s.names.no_root by.directory by.name 0 (sym (same.entries by.directory by.name) ∙ by.stands) refl,
      λ apart used. let r = s.names.reached i (sym (used_in i) ∙ used) in once_by i apart r.0 r.1,
    )
    all_kept (suc (suc (suc (suc zero)))) i = λ used. let r = s.names.reached i (sym (used_in i) ∙ used) in (r.0, walk_same r.0 ∙ r.1)
    all_kept (suc (suc (suc (suc (suc zero))))) i = subst InodeIsSized (sym (same.inodes i)) (sized_by i (inode_at tables i) refl)
    all_kept (suc (suc (suc (suc (suc (suc zero)))))) b = tag_kept b
    all_kept (suc (suc (suc (suc (suc (suc (suc k))))))) i = λ size index e low.
        let r = s.tags.there i size index (file_in i size e) low in
        (r.0, same.tags r.0 ∙ r.1)

-- as many inodes are in use
count_free : (xs : List (Option RawInode)) → ((i : ℕ) → is_some (get_or xs i None) ≡ false) → count_by is_some xs ≡ 0
count_free [] none = refl
count_free (x ∷ xs) none =
    let c = sum_by-cons (λ (o : Option RawInode). cond (is_some o) 1 0) x xs in
    let r = count_free xs (λ i. none (suc i)) in
    let z : ◌≡◌ {A = ℕ} (cond (is_some x) 1 0) 0 = ap (λ (b : Bool). cond b 1 0) (none 0) in
    omega (arith, c, r, z)

count_same : (xs : List (Option RawInode)) (ys : List (Option Inode)) → ((i : ℕ) → is_some (get_or xs i None) ≡ is_some (get_or ys i None)) → count_by is_some xs ≡ count_by is_some ys
count_same xs [] alike = count_free xs alike
count_same [] (y ∷ ys) alike =
    let c = sum_by-cons (λ (o : Option Inode). cond (is_some o) 1 0) y ys in
    let r = count_same [] ys (λ i. alike (suc i)) in
    let z : ◌≡◌ {A = ℕ} (cond (is_some y) 1 0) 0 = ap (λ (b : Bool). cond b 1 0) (sym (alike 0)) in
    omega (arith, c, r, z)
count_same (x ∷ xs) (y ∷ ys) alike =
    let a = sum_by-cons (λ (o : Option RawInode). cond (is_some o) 1 0) x xs in
    let b = sum_by-cons (λ (o : Option Inode). cond (is_some o) 1 0) y ys in
    let r = count_same xs ys (λ i. alike (suc i)) in
    let z : ◌≡◌ {A = ℕ} (cond (is_some x) 1 0) (cond (is_some y) 1 0) = ap (λ (b : Bool). cond b 1 0) (alike 0) in
    omega (arith, a, b, r, z)

pub paths_counted : (t : RawTables) (tree : Tree) → StandsAs t tree → count_by is_some t.inodes ≡ length tree
paths_counted t tree s = count_same t.inodes s.tables.inodes (used_in t s.tables s.same) ∙ sym s.stands.count

pub none_shown : (t : RawTables) (tree : Tree) → StandsAs t tree → (kind n : ℕ) → KindShows kind t n → ⊥
none_shown t tree s kind n = kept_hides kind t n (all_kept t s.tables s.same tree s.stands kind n)

-- the tables of a volume that tables which keep all rules are
inode_from : Option RawInode → Option Inode
inode_from None = None
inode_from (Some (Directory size)) = Some OfDirectory
inode_from (Some (File size)) = Some (OfFile size)

from_sized : (o : Option RawInode) → InodeIsSized o → o ≡ option_map raw_of (inode_from o)
unfolding inode_from
from_sized None sized = refl
from_sized (Some (Directory size)) sized = ap (λ (z : ℕ). Some (Directory z)) sized
from_sized (Some (File size)) sized = refl

module _ (t : RawTables) (raw : IsRaw t) (kept : AllKeepBelow t 8) (inodes blocks : ℕ) (is_inodes : inodes ≡ 1024) (is_blocks : blocks ≡ 4096) where
  volume : Tables
  volume = record { inodes = map inode_from (take inodes t.inodes); entries = take inodes t.entries; tags = take blocks t.tags }

  few : (i : ℕ) → IsUsed t i → i < inodes
  few i used = let l = low_kept t 8 (omega arith) kept i used in omega (arith, l, is_inodes)

  length_inodes : length (take inodes t.inodes) ≡ inodes
  length_inodes = length-take-le inodes t.inodes (let l = raw.inodes in omega (arith, l, is_inodes))

  inodes_same : (i : ℕ) → inode_in t i ≡ option_map raw_of (get_or (map inode_from (take inodes t.inodes)) i None)
  inodes_same i =
      let l = length_inodes in
      let m = length-map (take inodes t.inodes) inode_from in
      elim (cases_lt i inodes) [
        | inl low ↦
            from_sized (inode_in t i) (kept 5 i (omega arith))
            ∙ ap (λ (o : Option RawInode). option_map raw_of (inode_from o)) (sym (get_or-take inodes t.inodes i None low))
            ∙ ap (option_map raw_of) (sym (get_or-map inode_from (take inodes t.inodes) i None None (omega (arith, low, l))))
        | inr far ↦
            free_far i far
            ∙ ap (option_map raw_of) (sym (get_or_past (map inode_from (take inodes t.inodes)) i None (omega (arith, far, l, m))))
      ]
    where
      free_far : (i : ℕ) → inodes ≤ i → inode_in t i ≡ None
      free_far i far =
          elim (cases_option (inode_in t i)) [
            | inl (x, is) ↦ let l = few i (ap is_some is) in absurd (omega (arith, l, far))
            | inr none ↦ none
          ]

  entries_same : (d : ℕ) (n : Name) → entry_at t.entries d n ≡ entry_found (get_or (take inodes t.entries) d []) n
  entries_same d n =
      elim (cases_lt d inodes) [
        | inl low ↦ ap (λ (rows : List DirectoryEntry). entry_found rows n) (sym (get_or-take inodes t.entries d [] low))
        | inr far ↦
            none_far far
            ∙ ap (λ (rows : List DirectoryEntry). entry_found rows n) (sym (get_or_past (take inodes t.entries) d [] (let l = length-take-le inodes t.entries (let e = raw.entries in omega (arith, e, is_inodes)) in omega (arith, l, far))))
      ]
    where
      none_far : inodes ≤ d → entry_at t.entries d n ≡ None
      none_far far =
          elim (cases_option (entry_at t.entries d n)) [
            | inl (i, is) ↦
                let s = kept 2 d (omega arith) n i is in
                let l = few d (ap is_some s.directory.1) in
                absurd (omega (arith, l, far))
            | inr none ↦ none
          ]

  tags_same : (b : ℕ) → tag_at t.tags b ≡ get_or (take blocks t.tags) b None
  tags_same b =
      elim (cases_lt b blocks) [
        | inl low ↦ sym (get_or-take blocks t.tags b None low)
        | inr far ↦
            none_far far
            ∙ sym (get_or_past (take blocks t.tags) b None (let l = length-take-le blocks t.tags (let e = raw.tags in omega (arith, e, is_blocks)) in omega (arith, l, far)))
      ]
    where
      none_far : blocks ≤ b → tag_at t.tags b ≡ None
      none_far far =
          elim (cases_option (tag_at t.tags b)) [
            | inl (tag, is) ↦ let h = (kept 6 b (omega arith) tag is).high in absurd (omega (arith, h, far, is_blocks))
            | inr none ↦ none
          ]

  volume_same : AreSame t volume
  unfolding volume
  volume_same = record {
    inodes = inodes_same;
    entries = entries_same;
    tags = tags_same;
    data_blocks = λ b tag e. (kept 6 b (omega arith) tag e).low;
    names = λ d n i e. (kept 2 d (omega arith) n i e).name;
  }

  volume_stands : (tree : Tree) × StandsAs t tree
  unfolding volume
  volume_stands =
      let places = length-map (take inodes t.inodes) inode_from ∙ length_inodes ∙ is_inodes in
      let dirs = length-take-le inodes t.entries (let e = raw.entries in omega (arith, e, is_inodes)) ∙ is_inodes in
      let tags = length-take-le blocks t.tags (let e = raw.tags in omega (arith, e, is_blocks)) ∙ is_blocks in (
        tree_upto volume (names_kept t volume volume_same kept) 1024,
        record { tables = volume; same = volume_same; stands = stands_kept t volume volume_same kept places dirs tags },
      )

pub kept_stands : (t : RawTables) → IsRaw t → AllKeepBelow t 8 → (tree : Tree) × StandsAs t tree
kept_stands t raw kept = volume_stands t raw kept 1024 4096 refl refl
