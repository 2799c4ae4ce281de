-- What the inputs of mounts are in a journal over the anchors. Each input is two doings: what it is at an anchor, and the ballot that the
-- mount begins with it.
use Rattle.std.specs.Prelude.{ℕ, ◌+◌, ◌==◌, nat_lt, if◌then◌else◌, List, [], ◌∷◌, length, Option, Some}
use Rattle.pf_base.specs.declared.asks.Reply.{Reply}
use Rattle.pf_base.specs.declared.asks.Reply.TheVariants.{Written, Bytes}
use Rattle.pf_volume.specs.Volumes.{Extent}
use Rattle.pf_paxos.specs.Registers.{Reply as BlockReply, Written as IsPut, Gives}
use Rattle.pf_paxos.specs.declared.parts.AnchorNext.TheVariants.{Read}
use Rattle.pf_paxos.specs.BallotRuns.{Act, Asks as AsksNext, IsWritten, GetsRead, no_turn, turn_asking, anchor_turn_answered}
use Rattle.pf_journal.specs.declared.layouts.Layout.{Layout}
use Rattle.pf_journal.specs.Layouts.{layout_of}
use Rattle.pf_law_lists.specs.Journals.{AreAllRegistersAt, Doing, Ballots as BeginsBallot, Acts, IsDecidedAt, IsTransactionList, BallotJournal, Looks, journal_from, new_journal}
use Rattle.pf_mount_errands.specs.Blocks.{blocks_in}
use Rattle.pf_mount_errands.specs.Errands.{is_anchor_free}
use Rattle.pf_mount_errands.specs.Positions.{anchors_of}
use Rattle.pf_mount.specs.declared.work.MountWork.{MountWork}
use Rattle.pf_mount.specs.declared.work.MountWork.TheVariants.{Ballots}
use Rattle.pf_mount.specs.Mounts.{MountIs}
use Rattle.pf_law_calls.specs.Lives.{Input, Begins, Asks, Hears, Waiting, OfBallot, OfSync, Life, work_waits, mount_after, MountTold, lived, all_opened}

-- nothing, in each position of the journal
abbrev pub no_doing : Layout → Doing
no_doing layout = Looks (layout_of layout).positions no_turn

-- the reads of a sync are those of another client than the mount's ballots
abbrev pub looker : (number : ℕ) → ℕ
looker number = 17 + number

-- At an anchor

-- what goes out is the next ask of the mount's ballot there, or a half that its sync reads. The read of a pause is nothing in the journal,
-- nor is what is asked of the superblock
abbrev pub asks_for : Layout → (number anchor : ℕ) → Option Waiting → Doing
asks_for layout number anchor (Some (OfBallot position)) = Acts number position anchor AsksNext
asks_for layout number anchor (Some (OfSync position half)) = Looks position (turn_asking (looker number) anchor (Read half))
asks_for layout number anchor waiting = no_doing layout

abbrev pub act_of : Reply → Act
act_of Written = IsWritten
act_of (Bytes sectors) = GetsRead (blocks_in sectors)

abbrev pub reply_of : Reply → BlockReply
reply_of Written = IsPut
reply_of (Bytes sectors) = Gives (blocks_in sectors)

-- what is answered is what was asked, also where the mount has left that position
abbrev pub hears_for : Layout → (number anchor : ℕ) → Reply → Option Waiting → Doing
hears_for layout number anchor reply (Some (OfBallot position)) = Acts number position anchor (act_of reply)
hears_for layout number anchor reply (Some (OfSync position half)) = Looks position (anchor_turn_answered (looker number) anchor (reply_of reply))
hears_for layout number anchor reply waiting = no_doing layout

abbrev pub asks_now : MountIs → (anchor : ℕ) → Doing
asks_now m anchor =
    if is_anchor_free m.errands m.position.ballot.parts anchor
    then asks_for m.position.layout m.files.mount anchor (work_waits m m.task.work anchor)
    else no_doing m.position.layout

-- file data are nothing in the journal
abbrev pub at_anchor : Life → Input → Doing
at_anchor l (Begins call) = no_doing l.mount.position.layout
at_anchor l (Asks port) = if port == anchors_of l.mount.position then no_doing l.mount.position.layout else asks_now l.mount port
at_anchor l (Hears port reply) =
    if port == anchors_of l.mount.position
    then no_doing l.mount.position.layout
    else hears_for l.mount.position.layout l.mount.files.mount port reply (l.waits port)

-- Ballots

-- its own mbal at a position, 0 where it did not stand there
abbrev pub mbal_at : MountIs → (position : ℕ) → ℕ
mbal_at m position = if position == m.upto then m.position.ballot.own.mbal else 0

-- a mount in a ballot began it where the own mbal has risen, above all that it had seen
abbrev pub began_in : Layout → MountWork → (number was is seen : ℕ) → Doing
began_in layout (Ballots input) number was is seen = if nat_lt was is then BeginsBallot number seen input else no_doing layout
began_in layout work number was is seen = no_doing layout

abbrev pub began : (before after : MountIs) → Doing
began before after =
    began_in before.position.layout after.task.work before.files.mount (mbal_at before after.upto) after.position.ballot.own.mbal after.position.rivals.seen

-- Many mounts

abbrev pub doings_from : (ℕ → Life) → List MountTold → List Doing
doings_from lives [] = []
doings_from lives (t ∷ told) =
    let l = lives t.mount in
    at_anchor l t.input ∷ began l.mount (mount_after l.mount t.input) ∷ doings_from (lived lives t) told

-- what was told of mounts of a volume, in a journal over the anchors
abbrev pub doings : Layout → Extent → List MountTold → List Doing
doings layout v told = doings_from (all_opened layout v) told

abbrev pub new_journal_of : Layout → BallotJournal
new_journal_of layout = new_journal (length (layout_of layout).anchors) (layout_of layout).quorum

-- the journal after all that was told
abbrev pub journal_after : Layout → Extent → List MountTold → BallotJournal
journal_after layout v told = journal_from (new_journal_of layout) (doings layout v told)

-- the blocks of its anchors are registers
abbrev pub HaveRegisters : Layout → Extent → List MountTold → Type 0
HaveRegisters layout v told = AreAllRegistersAt (length (layout_of layout).anchors) (layout_of layout).quorum (doings layout v told)

-- a position of it is decided with the value
abbrev pub IsDecidedIn : Layout → Extent → List MountTold → (position : ℕ) → (value : List ℕ) → Type 0
IsDecidedIn layout v told position value = IsDecidedAt (length (layout_of layout).anchors) (layout_of layout).quorum (doings layout v told) position value

-- a transaction list of it
abbrev pub IsListOf : Layout → Extent → List MountTold → (list : List (List ℕ)) → Type 0
IsListOf layout v told list = IsTransactionList (length (layout_of layout).anchors) (layout_of layout).quorum (doings layout v told) list
