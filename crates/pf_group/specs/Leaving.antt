-- What a restart finds on the disks of a server.
use Rattle.std.specs.Prelude.{◌≡◌, ◌⊎◌, ℕ, List, Option, Some, None, slice_get}
use Rattle.pf_disk.specs.Crashes.{Images}
use Rattle.pf_entry.specs.Records.{Durable}
use Rattle.pf_disk_store.specs.Kept.{LeavesStates}
use Rattle.pf_protocol.specs.Servers.{Condition, Running, Stopped, Unformatted}
use Rattle.pf_group_network.specs.pf_server.specs.Turns.{IsSavedOf}
use Rattle.pf_server_format.specs.Opening.{head_of}
use Rattle.pf_group_network.specs.Showing.{seat_of}
use Rattle.pf_group.specs.GroupIs.{GroupIs, state_of}

-- the file as it is
abbrev pub as_seen : Option (List ℕ) → Images
as_seen seen file = seen ≡ Some file

-- in whatever two files are left, a restart that looks for this head finds one of two states
pub record HasLeft (head : List ℕ) (zero one : Images) (before after : Durable) : Type 0 where
  pub x : Durable
  pub y : Durable
  pub left : LeavesStates head zero one x y
  pub first : IsSavedOf before x ⊎ IsSavedOf after x
  pub second : IsSavedOf before y ⊎ IsSavedOf after y

-- of a running server its state, of a stopped one the state without its last step or with it
abbrev pub LeavesOf : (head : List ℕ) → Option Condition → (zero one : Images) → Type 0
LeavesOf head (Some (Running s)) zero one = HasLeft head zero one s.durable s.durable
LeavesOf head (Some (Stopped life before after)) zero one = HasLeft head zero one before after
LeavesOf head (Some Unformatted) zero one = Unit {0}
LeavesOf head None zero one = Unit {0}

-- what the halves of server i begin with, but for their own numbers
abbrev pub head_in : GroupIs → (i : ℕ) → List ℕ
head_in g i = head_of g.number (seat_of g.setup i)

-- of server i of the group, whose restart looks for its own head
abbrev pub LeavesIn : GroupIs → (i : ℕ) → (zero one : Images) → Type 0
LeavesIn g i zero one = LeavesOf (head_in g i) (slice_get (state_of g).servers i) zero one
