-- One list of transactions for all mounts of a run.
use Rattle.std.specs.Prelude.{◌≡◌, ◌≢◌, ℕ, ◌<◌, ◌≤◌, List, ◌∷◌, ◌++◌, length, Some, slice_get}
use Rattle.pf_journal.specs.Layouts.{VolumeHasRoom, layout_of}
use Rattle.pf_file_calls.specs.declared.answers.CallAnswer.{CallAnswer}
use Rattle.pf_tree_tables.specs.Names.{Path}
use Rattle.pf_tree_tables.specs.declared.changes.Txn.{Txn}
use Rattle.pf_tree.specs.Calls.{FileCall}
use Rattle.pf_base.specs.declared.calls.Call.TheVariants.{Read}
use Rattle.pf_txn.specs.Reading.{txn_in}
use Rattle.pf_law_calls.specs.Doings.{IsDecidedIn, IsListOf}
use Rattle.pf_law_calls.specs.Lives.{lives}
use Rattle.pf_law_calls.specs.Answering.{IsCallAnsweredBy}
use Rattle.pf_law_calls.specs.Exchanges.{exchanges}
use Rattle.pf_law_calls.specs.Late.{IsPlanned}
use Rattle.pf_mount.specs.declared.work.MountWork.TheVariants.{Fails}
use Rattle.pf_mount.specs.Mounts.{MountIs}
use Rattle.pf_law_events.specs.Events.{MountsAreServed, Happening, port_events, mounts_told}
use Rattle.pf_law_homes.specs.Chunks.{ChunkGroups}
use Rattle.pf_law_plans.specs.Lists.{NamesEachOnce}
use Rattle.pf_law_calls.specs.Lists.{StandsInList}
use Rattle.pf_law_calls.specs.Trees.{call_named, data_blocks}
use Rattle.pf_law_files.specs.Calls.{AreOfOneMount, AreOneAtATime, GivesContents, done_calls}
use Rattle.pf_law_files.specs.Ordered.{GivesContentsInOrder}
use Rattle.pf_law_mounts.specs.Sectors.{AreRoutedSectors}
use Rattle.pf_law_mounts.specs.Told.{inputs_in}
use Rattle.pf_law_runs.specs.pf_world.specs.pf_chunk.specs.Runs.{ChunkRun}
use Rattle.pf_law_runs.specs.pf_world.specs.pf_world_moments.specs.Hosts.{ended_line}
use Rattle.pf_law_runs.specs.pf_world.specs.pf_world_moments.specs.Moments.{Acts, Answers, Calls, Moment, Writes}
use Rattle.pf_law_runs.specs.pf_world.specs.pf_world_hosts.specs.Volumes.{VolumeRun, host_at}
use Rattle.pf_law_runs.specs.pf_world.specs.pf_mount_host.specs.Hosts.{HostIs}
use Rattle.pf_law_runs.specs.pf_law_movers.specs.Epochs.{epoch_of, group_of_epoch}

-- in this epoch the chunk was served by a group of the run, with all of its history
pub record IsGroupOf (v : VolumeRun) (told : List Moment) (groups : ChunkGroups) (chunk epoch : ℕ) : Type 0 where
  pub k : ℕ
  pub at : group_of_epoch told chunk epoch ≡ Some k
  pub c : ChunkRun
  pub there : slice_get v.chunks k ≡ Some c
  pub setup : groups.setup epoch ≡ c.group.setup
  pub history : groups.history epoch ≡ c.group.history

-- the groups that served the chunk in a run, by what was told, in all epochs that there were
pub record AreGroupsOf (v : VolumeRun) (told : List Moment) (groups : ChunkGroups) (chunk : ℕ) : Type 0 where
  pub moves : groups.moves ≡ epoch_of told chunk
  pub each : (epoch : ℕ) → epoch ≤ epoch_of told chunk → IsGroupOf v told groups chunk epoch

-- the mount after what was told
abbrev pub mount_in : VolumeRun → (told : List Moment) → (m : ℕ) → MountIs
mount_in v told m = (lives v.layout v.extent (inputs_in told) m).mount

-- among the first so many of the list is each transaction of this mount's calls, up to the call with this number
abbrev pub HasCallsUntil : (list : List (List ℕ)) → (upto m number : ℕ) → Type 0
HasCallsUntil list upto m number =
    (position : ℕ) (value : List ℕ) (txn : Txn) → slice_get list position ≡ Some value → txn_in value ≡ Some txn → txn.mount ≡ m → txn.number ≤ number
    → position < upto

-- this is the first of them
abbrev pub StartsWith : List Moment → Moment → Type 0
StartsWith all first = (rest : List Moment) × (all ≡ first ∷ rest)

-- What came to the mounts is what the run tells of them, and each host has its mount by it. With what their ports handed on, in its order, it
-- is as the groups of the run answered it, each ask in the chunk that it names, through any number of moves. By it one list is decided,
-- position by position, by Disk Paxos over the sectors of the layout's anchors; where ballots need all anchors, it ends at the first position
-- that is not decided. No call has two transactions in it; and at every moment of the run each mount stands in this list, with tables that
-- stand for the user's tree after the calls that its transactions name, and has not failed for good. Each answer that the run tells is that of
-- this tree, at the mount's position then, and to a read the bytes that came for it. Each call is planned behind all transactions of the
-- calls, of any mount, that the run had told as answered before it began. Each sector of each chunk is one register, through moves that
-- carried what their movers read. Each answer stands in the report at once, in the line of its call. Where calls are one at a time, as those of
-- one mount are, a read that is answered is refused or gives the file's contents after the calls that had ended and were not refused. And where
-- only the calls that touch a block of the file are, it gives them in the order of the list
pub record HasOneList (v : VolumeRun) (told : List Moment) : Type 0 where
  pub happenings : List Happening
  pub told_are : mounts_told happenings ≡ inputs_in told
  pub room : VolumeHasRoom v.layout v.extent
  pub served : MountsAreServed v.layout v.extent happenings
  pub groups : (chunk : ℕ) → ChunkGroups
  pub of_run : (chunk : ℕ) → chunk < v.extent.chunks → AreGroupsOf v told (groups chunk) chunk
  pub sectors : AreRoutedSectors v told groups (port_events v.layout v.extent happenings)
  pub mounts : (m : ℕ) (host : HostIs) → host_at v.hosts m ≡ Some host → host.mount ≡ mount_in v told m
  pub list : List (List ℕ)
  pub is : IsListOf v.layout v.extent (inputs_in told) list
  pub whole : (layout_of v.layout).quorum ≡ length (layout_of v.layout).anchors → (position : ℕ) (value : List ℕ) → length list ≤ position
      → IsDecidedIn v.layout v.extent (inputs_in told) position value → ⊥
  pub stands : (before after : List Moment) (m : ℕ) → told ≡ before ++ after → m < 16
      → StandsInList v.layout v.extent (inputs_in told) list (mount_in v before m)
  pub works : (before after : List Moment) (m : ℕ) → told ≡ before ++ after → (mount_in v before m).task.work ≢ Fails
  pub once : NamesEachOnce list
  pub answers : (before after : List Moment) (m : ℕ) (answer : CallAnswer) → told ≡ before ++ Acts m (Answers answer) ∷ after
      → IsCallAnsweredBy v.layout v.extent (inputs_in told) list (exchanges v.layout v.extent (inputs_in before) m) m (mount_in v before m) answer
  pub lines : (before after : List Moment) (m : ℕ) (answer : CallAnswer) → told ≡ before ++ Acts m (Answers answer) ∷ after
      → StartsWith after (Writes (ended_line m (call_named (inputs_in before) m (mount_in v before m).files.calls) answer))
  pub late : (first rest mid after : List Moment) (n m : ℕ) (answer : CallAnswer) (call : FileCall)
      → let now = (first ++ Acts n (Answers answer) ∷ rest) ++ Acts m (Calls call) ∷ mid in
      told ≡ now ++ after → IsPlanned (mount_in v now m).task.work
      → HasCallsUntil list (mount_in v now m).upto n (mount_in v first n).files.calls
  pub reads : (before after : List Moment) (m : ℕ) (p : Path) (offset count : ℕ) (answer : CallAnswer)
      → told ≡ before ++ Acts m (Answers answer) ∷ after
      → call_named (inputs_in before) m (mount_in v before m).files.calls ≡ Some (Read p offset count)
      → AreOneAtATime v.layout v.extent (inputs_in before)
      → GivesContents (data_blocks v.layout v.extent) (done_calls v.layout v.extent (inputs_in before)) p offset count answer
  pub alone : (before after : List Moment) (m : ℕ) → told ≡ before ++ after
      → AreOfOneMount (inputs_in before) m → AreOneAtATime v.layout v.extent (inputs_in before)
  pub apart : (before after : List Moment) (m : ℕ) (p : Path) (offset count : ℕ) (answer : CallAnswer)
      → told ≡ before ++ Acts m (Answers answer) ∷ after
      → call_named (inputs_in before) m (mount_in v before m).files.calls ≡ Some (Read p offset count)
      → GivesContentsInOrder v.layout v.extent list (inputs_in told) (inputs_in before) m p offset count answer
