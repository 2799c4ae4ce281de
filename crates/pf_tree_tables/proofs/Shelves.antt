-- What a write of one directory does to the lists of names, and to the room in them.
use Rattle.std.proofs.Common.{◌≡◌, ◌≢◌, ℕ, ◌+◌, ◌<◌, ◌≤◌, inl, inr, true, ◌&&◌, ◌==◌, nat_lt, List, [], ◌∷◌, ◌++◌, length, take, get_or, set, Some, None, refl, sym, ap, ◌∙◌, arith}
use Rattle.std.proofs.lemmas.Bool.{cases_Bool, cond-true, cond-false, cases_eq, or_cases}
use Rattle.std.proofs.lemmas.List.{map-set, get_or-map, length-set, get_or-set_same, get_or-set_other, set-get_or, get_or_default}
use Rattle.std.proofs.lemmas.List.Folds.{list_any_more}
use Rattle.pf_tree_tables.specs.declared.changes.Change.{Change}
use Rattle.pf_tree_tables.specs.declared.changes.Change.TheVariants.{SetInode, AddEntry, DeleteEntry, SetTag}
use Rattle.pf_tree_tables.specs.declared.tables.DirectoryEntry.{DirectoryEntry}
use Rattle.pf_tree_tables.specs.Tables.{Tables, names_in, after_change, applied, other_entries, put_entry, named, inode_with, may_set}
use Rattle.pf_tree_tables.specs.Shelves.{Shelf, no_shelf, lists_of, room_in, adds_to, ShelvesHaveRoom}

pub written : (shelves : List Shelf) (d : ℕ) (s : Shelf) (rows : List DirectoryEntry) → s.list ≡ rows → lists_of (set shelves d s) ≡ set (lists_of shelves) d rows
written shelves d s rows e = map-set (λ (s : Shelf). s.list) shelves d s ∙ ap (λ rs. set (lists_of shelves) d rs) e

pub list_at : (shelves : List Shelf) (d : ℕ) (s : Shelf) → d < length shelves → s ≡ get_or shelves d s → names_in (lists_of shelves) d ≡ s.list
list_at shelves d s low e = get_or-map (λ (s : Shelf). s.list) shelves d s [] low ∙ ap (λ (s : Shelf). s.list) (sym e)

-- one directory written as it was
pub unwritten : (shelves : List Shelf) (d : ℕ) (s t : Shelf) → d < length shelves → s ≡ get_or shelves d s → t.list ≡ s.list → lists_of (set shelves d t) ≡ lists_of shelves
unwritten shelves d s t low e same =
    written shelves d t (names_in (lists_of shelves) d) (same ∙ sym (list_at shelves d s low e))
    ∙ set-get_or (lists_of shelves) d []

pub room_here : (shelves : List Shelf) (d : ℕ) (s : Shelf) → d < length shelves → room_in (set shelves d s) d ≡ s.room
room_here shelves d s low = ap (λ (s : Shelf). s.room) (get_or-set_same shelves d s no_shelf low)

pub room_else : (shelves : List Shelf) (d e : ℕ) (s : Shelf) → e ≢ d → room_in (set shelves d s) e ≡ room_in shelves e
room_else shelves d e s apart = ap (λ (s : Shelf). s.room) (get_or-set_other shelves d e s no_shelf apart)

-- more room in one directory
pub room_grown : (shelves : List Shelf) (d : ℕ) (s t : Shelf) → d < length shelves → s ≡ get_or shelves d s → s.room ≤ t.room → (e : ℕ) → room_in shelves e ≤ room_in (set shelves d t) e
room_grown shelves d s t low at_d more e =
    elim (cases_eq e d) [
      | inl same ↦
          let a = room_here shelves d t low in
          let b : room_in shelves d ≡ s.room = ap (λ (s : Shelf). s.room) (get_or_default shelves d no_shelf s low ∙ sym at_d) in
          let c : room_in shelves e ≡ room_in shelves d = ap (room_in shelves) same in
          let f : room_in (set shelves d t) e ≡ room_in (set shelves d t) d = ap (room_in (set shelves d t)) same in
          omega (arith, a, b, c, f, more)
      | inr apart ↦ let a = room_else shelves d e t apart in omega (arith, a)
    ]

-- one change more for which there is room
pub room_more : (shelves : List Shelf) (cs : List Change) (k n : ℕ) (c : Change) → k < length cs → c ≡ get_or cs k c → ShelvesHaveRoom shelves (take k cs) n → ((d : ℕ) → d < length shelves → adds_to d c ≡ true → n ≤ room_in shelves d) → ShelvesHaveRoom shelves (take (k + 1) cs) n
room_more shelves cs k n c low e has here d inside any =
    elim (or_cases _ _ (sym (list_any_more (adds_to d) cs k c low) ∙ any)) [
      | inl before ↦ has d inside before
      | inr now ↦ here d inside (ap (adds_to d) e ∙ now)
    ]

pub tables_length : (t : Tables) (c : Change) → (length (after_change t c).inodes ≡ length t.inodes) × (length (after_change t c).entries ≡ length t.entries) × (length (after_change t c).tags ≡ length t.tags)
tables_length t (SetInode i kind size) = (
  elim (cases_Bool (may_set i kind size)) [
    | inl may ↦ ap length (cond-true (may_set i kind size) (set t.inodes i (inode_with kind size)) t.inodes may) ∙ length-set t.inodes i (inode_with kind size)
    | inr may_not ↦ ap length (cond-false (may_set i kind size) (set t.inodes i (inode_with kind size)) t.inodes may_not)
  ],
  refl,
  refl,
)
tables_length t (AddEntry d i n) = (
  refl,
  elim (cases_Bool (nat_lt i (length t.inodes))) [
    | inl low ↦ ap length (cond-true (nat_lt i (length t.inodes)) (named t.entries d i n) t.entries low) ∙ length-set t.entries d (put_entry (other_entries (names_in t.entries d) n) (record { inode = i; name = n }))
    | inr high ↦ ap length (cond-false (nat_lt i (length t.inodes)) (named t.entries d i n) t.entries high)
  ],
  refl,
)
tables_length t (DeleteEntry d n) = (refl, length-set t.entries d (other_entries (names_in t.entries d) n), refl)
tables_length t (SetTag b i k) = (
  refl,
  refl,
  elim (cases_Bool (i == 65535)) [
    | inl none ↦ ap length (cond-true (i == 65535) (set t.tags b None) _ none) ∙ length-set t.tags b None
    | inr some ↦
        ap length (cond-false (i == 65535) (set t.tags b None) _ some)
        ∙ elim (cases_Bool (nat_lt i (length t.inodes) && nat_lt k 48)) [
          | inl fits ↦ ap length (cond-true (nat_lt i (length t.inodes) && nat_lt k 48) (set t.tags b (Some (record { inode = i; index = k }))) t.tags fits) ∙ length-set t.tags b (Some (record { inode = i; index = k }))
          | inr past ↦ ap length (cond-false (nat_lt i (length t.inodes) && nat_lt k 48) (set t.tags b (Some (record { inode = i; index = k }))) t.tags past)
        ]
  ],
)

pub applied_length : (t : Tables) (cs : List Change) → (length (applied t cs).inodes ≡ length t.inodes) × (length (applied t cs).entries ≡ length t.entries) × (length (applied t cs).tags ≡ length t.tags)
applied_length t [] = (refl, refl, refl)
applied_length t (c ∷ cs) =
    let a = tables_length t c in
    let b = applied_length (after_change t c) cs in
    (b.0 ∙ a.0, b.1 ∙ a.1, b.2 ∙ a.2)

pub applied_append : (tables : Tables) (cs ds : List Change) → applied tables (cs ++ ds) ≡ applied (applied tables cs) ds
applied_append tables [] ds = refl
applied_append tables (c ∷ cs) ds = applied_append (after_change tables c) cs ds

pub applied_push : (t : Tables) (cs : List Change) (c : Change) → applied t (cs ++ c ∷ []) ≡ after_change (applied t cs) c
applied_push t cs c = applied_append t cs (c ∷ [])
