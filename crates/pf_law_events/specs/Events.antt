-- What comes to mounts over a layout, as events of their ports: by the ask's chunk and sector, not by the port.
use Rattle.std.specs.Prelude.{◌≡◌, ◌≢◌, ℕ, ◌==◌, if◌then◌else◌, List, [], ◌∷◌, length, Option, Some, None}
use Rattle.pf_base.specs.declared.asks.Ask.{Ask}
use Rattle.pf_protocol.specs.Groups.{Answered}
use Rattle.pf_volume.specs.Volumes.{Extent}
use Rattle.pf_paxos.specs.declared.block.Block.{Block}
use Rattle.pf_paxos.specs.declared.parts.AnchorNext.{AnchorNext}
use Rattle.pf_paxos.specs.declared.parts.AnchorNext.TheVariants.{Write, Read, Idle}
use Rattle.pf_paxos.specs.declared.parts.Stage.{Stage}
use Rattle.pf_paxos.specs.declared.parts.Stage.TheVariants.{ReadsLow, ReadsHigh}
use Rattle.pf_paxos.specs.Ballots.{next_at_anchor}
use Rattle.pf_journal.specs.declared.layouts.Layout.{Layout}
use Rattle.pf_journal.specs.Layouts.{layout_of}
use Rattle.pf_journal.specs.Sectors.{HasSpelling}
use Rattle.pf_law_lists.specs.Journals.{Doing}
use Rattle.pf_mount_errands.specs.Looks.{look_at}
use Rattle.pf_mount_errands.specs.Positions.{anchors_of}
use Rattle.pf_mount.specs.declared.work.MountWork.{MountWork}
use Rattle.pf_mount.specs.declared.work.MountWork.TheVariants.{ReadsSuper, WritesSuper, Syncs, Ballots, Pauses}
use Rattle.pf_mount.specs.Mounts.{MountIs, ask_at}
use Rattle.pf_law_calls.specs.Doings.{at_anchor, began, looker, no_doing}
use Rattle.pf_law_calls.specs.Lives.{Asks, Begins, CanBe, Hears, Input, Life, MountTold, all_opened, lived, mount_after}
use Rattle.pf_law_homes.specs.Ports.{Comes, Goes, Hands, IsBehindJournal, IsReplyTo, Matter, OfBlock, OfData, OfHalf, OfPause, OfSuper, PortOwed, Passes, Pending, PortEvent, nothing_pending, pending_after}

-- What goes out

-- what it is asked for, by the mount's work
abbrev pub look_matter : (position : ℕ) → Stage → Matter
look_matter position ReadsLow = OfHalf position 0
look_matter position ReadsHigh = OfHalf position 1
look_matter position stage = OfData

abbrev pub ballot_matter : (position : ℕ) → AnchorNext → Matter
ballot_matter position (Write block) = OfBlock position block
ballot_matter position (Read half) = OfHalf position half
ballot_matter position Idle = OfData

abbrev pub matter_in : MountIs → (anchor : ℕ) → MountWork → Matter
matter_in m anchor ReadsSuper = OfSuper
matter_in m anchor WritesSuper = OfSuper
matter_in m anchor (Syncs looks) = look_matter m.upto (look_at looks anchor).stage
matter_in m anchor (Ballots input) = ballot_matter m.upto (next_at_anchor m.position.ballot anchor)
matter_in m anchor (Pauses input left) = OfPause m.upto
matter_in m anchor work = OfData

abbrev pub matter_at : MountIs → (port : ℕ) → Matter
matter_at m port = if port == anchors_of m.position then OfData else matter_in m port m.task.work

-- the reads of a sync are those of another client than the mount's ballots
abbrev pub client_of : (number : ℕ) → MountWork → ℕ
client_of number (Syncs looks) = looker number
client_of number work = number

abbrev pub owed_to : (client : ℕ) → Matter → Option Ask → Option PortOwed
owed_to client matter None = None
owed_to client matter (Some ask) = Some (record { client = client; ask = ask; matter = matter })

abbrev pub owed_now : MountIs → (port : ℕ) → Option PortOwed
owed_now m port = owed_to (client_of m.files.mount m.task.work) (matter_at m port) (ask_at m port)

-- Events

abbrev pub goes : (mount port : ℕ) → Option PortOwed → PortEvent
goes mount port None = Passes
goes mount port (Some owed) = Goes mount port owed

-- where it is an answer, the epoch of the ask's chunk whose group gave it, after so many events of its history, and for a read what that
-- group answered; for other inputs these say nothing
abbrev pub port_event : (mount : ℕ) → MountIs → (epoch by : ℕ) → Answered → Input → PortEvent
port_event mount m epoch by answer (Begins call) = Passes
port_event mount m epoch by answer (Asks port) = goes mount port (owed_now m port)
port_event mount m epoch by answer (Hears port reply) = Comes mount port reply epoch by answer

-- An input comes to a mount; or a port of the mount handed its pending ask to the group of that epoch of the ask's chunk: the event of the
-- group's history at that place
pub data Happening : Type 0 where
  Brings : (told : MountTold) (epoch by : ℕ) (answer : Answered) → Happening
  HandsOn : (mount port epoch place : ℕ) → Happening

abbrev pub mounts_told : List Happening → List MountTold
mounts_told [] = []
mounts_told (Brings told epoch by answer ∷ happenings) = told ∷ mounts_told happenings
mounts_told (HandsOn mount port epoch place ∷ happenings) = mounts_told happenings

-- In the journal an input is two doings, and what is handed on is nothing. So it is at the ports: a ballot that begins with an input is
-- no event there

abbrev pub doings_with : Layout → (ℕ → Life) → List Happening → List Doing
doings_with layout lives [] = []
doings_with layout lives (Brings t epoch by answer ∷ happenings) =
    let l = lives t.mount in
    at_anchor l t.input ∷ began l.mount (mount_after l.mount t.input) ∷ doings_with layout (lived lives t) happenings
doings_with layout lives (HandsOn mount port epoch place ∷ happenings) = no_doing layout ∷ doings_with layout lives happenings

abbrev pub doings_of : Layout → Extent → List Happening → List Doing
doings_of layout v happenings = doings_with layout (all_opened layout v) happenings

abbrev pub events_with : (ℕ → Life) → List Happening → List PortEvent
events_with lives [] = []
events_with lives (Brings t epoch by answer ∷ happenings) =
    port_event t.mount (lives t.mount).mount epoch by answer t.input ∷ Passes ∷ events_with (lived lives t) happenings
events_with lives (HandsOn mount port epoch place ∷ happenings) = Hands mount port epoch place ∷ events_with lives happenings

abbrev pub port_events : Layout → Extent → List Happening → List PortEvent
port_events layout v happenings = events_with (all_opened layout v) happenings

-- What is assumed

-- the block that a ballot writes has a spelling
abbrev pub IsSpelledIn : MountWork → Block → Type 0
IsSpelledIn (Ballots input) own = HasSpelling own
IsSpelledIn work own = Unit {0}

-- file data are asked for behind the journal alone
abbrev pub IsDataBehind : Layout → Extent → (port : ℕ) → Option Ask → Type 0
IsDataBehind layout v port None = Unit {0}
IsDataBehind layout v port (Some ask) = port ≡ length (layout_of layout).anchors → IsBehindJournal (layout_of layout) v ask

-- an ask goes out where none is pending
pub record CanAsk (layout : Layout) (v : Extent) (pending : Pending) (mount : ℕ) (m : MountIs) (port : ℕ) : Type 0 where
  pub free : owed_now m port ≢ None → pending mount port ≡ None
  pub spelled : IsSpelledIn m.task.work m.position.ballot.own
  pub behind : IsDataBehind layout v port (ask_at m port)

abbrev pub InputIsServed : Layout → Extent → Pending → (mount : ℕ) → MountIs → Answered → Input → Type 0
InputIsServed layout v pending mount m answer (Begins call) = Unit {0}
InputIsServed layout v pending mount m answer (Asks port) = CanAsk layout v pending mount m port
InputIsServed layout v pending mount m answer (Hears port reply) = IsReplyTo (pending mount port) reply answer

abbrev pub AreServedFrom : Layout → Extent → (ℕ → Life) → Pending → List Happening → Type 0
AreServedFrom layout v lives pending [] = Unit {0}
AreServedFrom layout v lives pending (Brings t epoch by answer ∷ happenings) =
    let m = (lives t.mount).mount in
    InputIsServed layout v pending t.mount m answer t.input × AreServedFrom layout v (lived lives t)
    (pending_after pending (port_event t.mount m epoch by answer t.input)) happenings
AreServedFrom layout v lives pending (HandsOn mount port epoch place ∷ happenings) = AreServedFrom layout v lives pending happenings

-- Each input is one that its mount can take then; a port is asked one thing at a time, and what it hears answers that; what ballots write
-- can be spelled; and file data are asked for behind the journal
pub record MountsAreServed (layout : Layout) (v : Extent) (happenings : List Happening) : Type 0 where
  pub can_be : CanBe layout v (mounts_told happenings)
  pub served : AreServedFrom layout v (all_opened layout v) nothing_pending happenings
