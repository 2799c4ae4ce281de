-- What a pair promises of its disks.
use Rattle.std.specs.Prelude.{ℕ, ◌≡◌, ◌≤◌, ◌⊎◌, true, List, Option, IfSome, is_some, slice_index}
use Rattle.pf_disk.specs.Crashes.{Images, Only}
use Rattle.pf_chunklog.specs.Records.{Raw}
use Rattle.pf_chunklog.specs.declared.log.ChunkLog.{ChunkLog}
use Rattle.pf_image.specs.Halves.{of_half, other}
use Rattle.pf_image.specs.Current.{IsCurrent}
use Rattle.pf_image.specs.Recovery.{Content, FindsIn}
use Rattle.pf_image.specs.declared.pair.Pair.{Pair}
use Rattle.pf_image.specs.declared.place.PairPlace.{PairPlace}

-- the log of the current half, and that of the other
abbrev pub current_of : {D : Type 0} → Pair D → ChunkLog D
current_of pair = of_half pair.current pair.zero pair.one

abbrev pub spare_of : {D : Type 0} → Pair D → ChunkLog D
spare_of pair = of_half (other pair.current) pair.zero pair.one

-- the format of the current half
abbrev pub format_of : {D : Type 0} → Pair D → ℕ
format_of pair = slice_index (current_of pair).head 4

-- where a pair stands
abbrev pub place_of_pair : {D : Type 0} → Pair D → PairPlace
place_of_pair pair = record {
  current = pair.current;
  zero_head = pair.zero.head;
  zero_used = pair.zero.used;
  one_head = pair.one.head;
  one_used = pair.one.used;
}

-- a pair that stands there, over the same disks
abbrev pub pair_moved_to : {D : Type 0} → Pair D → PairPlace → Pair D
pair_moved_to pair place = record pair {
  zero = record pair.zero { head = place.zero_head; used = place.zero_used };
  one = record pair.one { head = place.one_head; used = place.one_used };
  current = place.current;
}

-- a pair that stands where it stood
pub record PairStandsStill {D : Type 0} (old new : Pair D) : Type 0 where
  pub zero_head : new.zero.head ≡ old.zero.head
  pub zero_used : new.zero.used ≡ old.zero.used
  pub one_head : new.one.head ≡ old.one.head
  pub one_used : new.one.used ≡ old.one.used
  pub current : new.current ≡ old.current
  pub head : new.head ≡ old.head

-- a crash leaves of each disk what it was seen to hold
pub record PairIsDurable {D : Type 0} (seen : D → Option (List ℕ)) (may_leave : D → Images) (old new : Pair D) : Type 0 where
  pub zero : IfSome (seen old.zero.disk) (λ file. Only file (may_leave new.zero.disk))
  pub one : IfSome (seen old.one.disk) (λ file. Only file (may_leave new.one.disk))

-- no count of faults of the two disks fell
pub record AreLater {D : Type 0} (faults : D → ℕ) (old new : Pair D) : Type 0 where
  pub zero : faults old.zero.disk ≤ faults new.zero.disk
  pub one : faults old.one.disk ≤ faults new.one.disk

-- The pair has these records: a restart finds them after each crash, and more can be appended.
abbrev pub PairIsWhole : {D : Type 0} → (D → Option (List ℕ)) → (D → Images) → Pair D → List Raw → Type 0
PairIsWhole seen may_leave pair records = IsCurrent seen may_leave pair.head pair.current (current_of pair) (spare_of pair) records

-- both disks tell their content
abbrev pub PairTells : {D : Type 0} → (D → Option (List ℕ)) → Pair D → Type 0
PairTells seen pair = (is_some (seen pair.zero.disk) ≡ true) × (is_some (seen pair.one.disk) ≡ true)

-- in whatever two files a crash leaves a restart finds the content before, or that after
abbrev pub Leaves : List ℕ → (zero one : Images) → (before after : Content) → Type 0
Leaves head zero one before after = (a b : List ℕ) → zero a → one b → FindsIn head a b before ⊎ FindsIn head a b after

-- a crash now leaves one of the two
abbrev pub IsInDoubt : {D : Type 0} → (D → Images) → Pair D → (before after : Content) → Type 0
IsInDoubt may_leave pair before after = Leaves pair.head (may_leave pair.zero.disk) (may_leave pair.one.disk) before after

-- and so did a crash at any moment since old
abbrev pub WasInDoubt : {D : Type 0} → (D → ℕ) → (D → ℕ → Images) → (old new : Pair D) → (before after : Content) → Type 0
WasInDoubt moment left_since old new before after =
    Leaves old.head (left_since new.zero.disk (moment old.zero.disk)) (left_since new.one.disk (moment old.one.disk)) before after
