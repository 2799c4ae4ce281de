-- What the halves of two disks stand for.
use Rattle.std.specs.Prelude.{◌≡◌, ◌≢◌, ◌⊎◌, ℕ, Bool, true, ◌&&◌, IsTrue, List, Option, is_some}
use Rattle.std.specs.List.{AllZip}
use Rattle.pf_disk.specs.Crashes.{Images}
use Rattle.pf_disk.specs.Causes.{Rose}
use Rattle.pf_chunklog.specs.Records.{Raw}
use Rattle.pf_chunklog.specs.Logs.{IsOnlyRead}
use Rattle.pf_entry.specs.Canonical.{IsCanonicalRecord}
use Rattle.pf_entry.specs.Records.{Durable}
use Rattle.pf_entry.specs.declared.records.Record.{Record}
use Rattle.pf_codec.specs.Fitting.{RecordFits}
use Rattle.pf_codec.specs.Spelling.{body_bytes}
use Rattle.pf_server_store.specs.Stores.{is_image, state_of_records}
use Rattle.pf_image.specs.Recovery.{AreRecoverable, Content, FindsIn, IsFormat, SpellsRecord}
use Rattle.pf_image.specs.Current.{LogIsReady}
use Rattle.pf_image.specs.Pairs.{AreLater, PairIsWhole, current_of, format_of}
use Rattle.pf_image.specs.declared.pair.Pair.{Pair}

-- the records of a half in a format: an image and changes, which spell records that stand for this state
pub record IsStateIn (content : Content) (d : Durable) : Type 0 where
  pub recoverable : AreRecoverable content.0 content.1
  pub records : List Record
  pub spelled : AllZip (SpellsRecord content.0) content.1 records
  pub state : state_of_records content.0 records ≡ d

-- these bytes are an image with which a store may begin
pub record IsFirstImage (format : ℕ) (r : Record) (body : List ℕ) : Type 0 where
  pub known : IsFormat format
  pub image : is_image r ≡ true
  pub canonical : IsCanonicalRecord format r
  pub fits : RecordFits r
  pub is : body ≡ body_bytes r

-- a restart finds this state in the files of half 0 and half 1
pub record FindsState (head zero one : List ℕ) (d : Durable) : Type 0 where
  pub content : Content
  pub found : FindsIn head zero one content
  pub state : IsStateIn content d

-- in whatever two files a crash leaves a restart finds the first state, or the second
abbrev pub LeavesStates : List ℕ → (zero one : Images) → (before after : Durable) → Type 0
LeavesStates head zero one before after = (a b : List ℕ) → zero a → one b → FindsState head a b before ⊎ FindsState head a b after

-- both disks tell their content
abbrev pub tells : {D : Type 0} → (D → Option (List ℕ)) → Pair D → Bool
tells seen pair = is_some (seen pair.zero.disk) && is_some (seen pair.one.disk)

-- a count of faults of one of the two disks rose
abbrev pub OneRose : {D : Type 0} → (D → ℕ) → (old new : Pair D) → Type 0
OneRose faults old new = Rose (faults old.zero.disk) (faults new.zero.disk) ⊎ Rose (faults old.one.disk) (faults new.one.disk)

module _ {D : Type 0} (seen : D → Option (List ℕ)) (may_leave : D → Images) where
  -- the current half holds this state, and more can be appended
  pub record HasState (pair : Pair D) (d : Durable) : Type 0 where
    pub records : List Raw
    pub whole : PairIsWhole seen may_leave pair records
    pub state : IsStateIn (format_of pair, records) d

  -- a crash now leaves one of two states that differ
  pub record IsBetween (pair : Pair D) (before after : Durable) : Type 0 where
    pub apart : before ≢ after
    pub leaves : LeavesStates pair.head (may_leave pair.zero.disk) (may_leave pair.one.disk) before after

  -- One state, or a doubt between two. Where a disk does not tell its content, nothing is known but that more can be appended.
  pub record IsKept (pair : Pair D) (before after : Durable) : Type 0 where
    pub ready : before ≡ after → LogIsReady seen may_leave (current_of pair)
    pub known : IsTrue (tells seen pair) → ((before ≡ after) × HasState pair before) ⊎ IsBetween pair before after

-- the pair after calls that only read its disks
pub record IsReread {D : Type 0} (seen : D → Option (List ℕ)) (may_leave : D → Images) (old new : Pair D) : Type 0 where
  pub head : new.head ≡ old.head
  pub on_zero : IsOnlyRead seen may_leave old.zero.disk new.zero.disk
  pub on_one : IsOnlyRead seen may_leave old.one.disk new.one.disk

-- a crash at any moment since old left one of two states
abbrev pub WasKept : {D : Type 0} → (D → Option (List ℕ)) → (D → ℕ) → (D → ℕ → Images) → Bool → (old new : Pair D) → (before after : Durable) → Type 0
WasKept seen moment left_since tells_moments old new before after =
    IsTrue tells_moments → IsTrue (tells seen old) → LeavesStates old.head (left_since new.zero.disk (moment old.zero.disk))
    (left_since new.one.disk (moment old.one.disk)) before after

-- what became of a pair: a restart looks for the same head, no count of faults fell, and a crash at any moment left one of two states
pub record PairWentOn {D : Type 0} (seen : D → Option (List ℕ)) (faults moment : D → ℕ) (left_since : D → ℕ → Images) (tells_moments : Bool) (old new : Pair D)
    (before after : Durable) : Type 0 where
  pub head : new.head ≡ old.head
  pub later : AreLater faults old new
  pub left : WasKept seen moment left_since tells_moments old new before after
