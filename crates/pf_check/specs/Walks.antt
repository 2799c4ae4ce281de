-- What one walk over tables finds: how often each inode is named, which inodes are reached from inode 0, and the first block of each tag.
use Rattle.std.specs.Prelude.{◌≡◌, ◌≢◌, ◌<◌, ◌+◌, ◌*◌, ℕ, Bool, true, false, cond, ◌==◌, min, List, [], ◌∷◌, ◌++◌, length, set, get_or, Option, Some, None}
use Rattle.std.specs.Bool.{MatchBool}
use Rattle.std.specs.Option.{MatchOption}
use Rattle.pf_tree_tables.specs.declared.tables.DirectoryEntry.{DirectoryEntry}
use Rattle.pf_tree_tables.specs.declared.tables.Tag.{Tag}
use Rattle.pf_tree_tables.specs.Tables.{Entries, tag_at}
use Rattle.pf_check.specs.Raw.{RawTables}
use Rattle.pf_check.specs.Kinds.{IsReached}

-- the times that entries name an inode
abbrev pub times_in : List DirectoryEntry → ℕ → ℕ
times_in [] i = 0
times_in (row ∷ rows) i = cond (row.inode == i) 1 0 + times_in rows i

abbrev pub times_named : Entries → ℕ → ℕ
times_named [] i = 0
times_named (rows ∷ es) i = times_in rows i + times_named es i

-- counts of entries by inode; none goes past 2
abbrev pub count_more : List ℕ → ℕ → List ℕ
count_more counts i = set counts i (min 2 (get_or counts i 0 + 1))

abbrev pub counted : List ℕ → List DirectoryEntry → List ℕ
counted counts [] = counts
counted counts (row ∷ rows) = counted (count_more counts row.inode) rows

abbrev pub all_counted : List ℕ → Entries → List ℕ
all_counted counts [] = counts
all_counted counts (rows ∷ es) = all_counted (counted counts rows) es

pub record BlocksAreCounted (t : RawTables) (counts : List ℕ) : Type 0 where
  pub places : length counts ≡ 65536
  pub each : (i : ℕ) → i < 65536 → get_or counts i 0 ≡ min 2 (times_named t.entries i)

-- the inodes that are seen, and those in the order in which they were
pub record Front : Type 0 where
  pub seen : List Bool
  pub queue : List ℕ

abbrev pub front_of : List Bool → List ℕ → Front
front_of seen queue = record { seen = seen; queue = queue }

abbrev pub is_seen : List Bool → ℕ → Bool
is_seen seen i = get_or seen i false

abbrev pub front_reaches : Front → ℕ → Front
front_reaches f i = cond (is_seen f.seen i) f (front_of (set f.seen i true) (f.queue ++ i ∷ []))

abbrev pub reach_all : Front → List DirectoryEntry → Front
reach_all f [] = f
reach_all f (row ∷ rows) = reach_all (front_reaches f row.inode) rows

pub record IsSeen (t : RawTables) (seen : List Bool) : Type 0 where
  pub places : length seen ≡ 65536
  pub each : (i : ℕ) → i < 65536 → MatchBool (is_seen seen i) (IsReached t i) (IsReached t i → ⊥)

abbrev pub tag_of : (inode index : ℕ) → Tag
tag_of i k = record { inode = i; index = k }

-- the first block below a number that has a tag
pub record IsFirstTagged (t : RawTables) (tag : Tag) (below b : ℕ) : Type 0 where
  pub low : b < below
  pub stands : tag_at t.tags b ≡ Some tag
  pub before : (c : ℕ) → c < b → tag_at t.tags c ≢ Some tag

abbrev pub first_in : List (Option ℕ) → (inode index : ℕ) → Option ℕ
first_in firsts i k = get_or firsts (i * 48 + k) None

-- the first of so many blocks for each index of a file that the tables may have
pub record AreFirst (t : RawTables) (firsts : List (Option ℕ)) (below : ℕ) : Type 0 where
  pub places : length firsts ≡ 49152
  pub each : (i k : ℕ) → i < 1024 → k < 48 → MatchOption (first_in firsts i k) ((b : ℕ) → b < below → tag_at t.tags b ≢ Some (tag_of i k))
      (IsFirstTagged t (tag_of i k) below)

pub record IsWalked (t : RawTables) (names : List ℕ) (reached : List Bool) (firsts : List (Option ℕ)) : Type 0 where
  pub counts : BlocksAreCounted t names
  pub seen : IsSeen t reached
  pub blocks : AreFirst t firsts 65536
