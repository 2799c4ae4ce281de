-- What a crash at any moment of the last step that may have touched disks, or after it, leaves on the disks of a group.
use Rattle.std.specs.Prelude.{◌≡◌, ◌⊎◌, ◌↔◌, ℕ, ◌<◌, Bool, ◌&&◌, IsTrue, List, Option, Some, is_some, slice_get}
use Rattle.pf_disk.specs.Crashes.{Images}
use Rattle.pf_entry.specs.Records.{Durable}
use Rattle.pf_disk_store.specs.Kept.{LeavesStates}
use Rattle.pf_protocol.specs.Groups.{Group}
use Rattle.pf_protocol.specs.Kept.{MayHold}
use Rattle.pf_group_network.specs.Going.{StateIsHeld}
use Rattle.pf_protocol.specs.Histories.{History, replay}
use Rattle.pf_group.specs.GroupIs.{GroupIs, IsLastStep, state_before, state_of}
use Rattle.pf_group.specs.Leaving.{head_in}

module _ {D : Type 0} (seen : D → Option (List ℕ)) (moment : D → ℕ) (left_since : D → ℕ → Images) (tells_moments : Bool) where
  -- both disks of a server tell their content
  abbrev pub both_tell : D × D → Bool
  both_tell disks = is_some (seen disks.0) && is_some (seen disks.1)

  -- in whatever two files a crash left since the old disks became the new ones, a restart finds one of two states
  abbrev pub LeftStates : (head : List ℕ) (old new : D × D) (x y : Durable) → Type 0
  LeftStates head old new x y = LeavesStates head (left_since new.0 (moment old.0)) (left_since new.1 (moment old.1)) x y

  module _ (head : List ℕ) (before after : Group) (i : ℕ) where
    -- So it finds there, with this head, a state that server i may hold in one of two groups, perhaps saved anew; where the disks told their
    -- content
    pub record WasLeft (old new : D × D) : Type 0 where
      pub x : Durable
      pub y : Durable
      pub first : StateIsHeld before after i x
      pub second : StateIsHeld before after i y
      pub left : IsTrue tells_moments → IsTrue (both_tell old) → LeftStates head old new x y

    -- The disks were not touched, or left such states; a restart may touch them twice. The moments of its two disks are counted apart, so
    -- each part of it has its own beginning.
    pub record WereTouched (old new : D × D) : Type 0 where
      pub between : D × D
      pub first : (between ≡ old) ⊎ WasLeft old between
      pub second : (new ≡ between) ⊎ WasLeft between new

  -- What a crash at any moment since that step began left of server i, whose disks are these now: a state that it may hold before the step or
  -- right after it; the quiet events since then have changed nothing of that. Where the step did not touch them, a crash leaves what it leaves now.
  pub record LeavesAtCrash (g : GroupIs) (i : ℕ) (zero one : D) : Type 0 where
    pub old : D × D
    pub told : IsTrue (both_tell old)
    pub began : slice_get g.time.began i ≡ Some (moment old.0, moment old.1)
    pub now : slice_get g.time.now i ≡ Some (moment zero, moment one)
    pub after : History
    pub step : IsLastStep g.time.earlier after g.history
    pub touched : WereTouched (head_in g i) (state_before g) (replay g.setup after) i old (zero, one)
    pub same : (d : Durable) → MayHold (state_of g) i d ↔ MayHold (replay g.setup after) i d

  -- So do some two disks of each of the three servers that stand at the moments of the group's own. No value that a contract sees holds a
  -- disk, so of its own this is told where they are given back.
  abbrev pub AllLeaveAtCrash : GroupIs → Type 0
  AllLeaveAtCrash g = (i : ℕ) → i < 3 → (zero : D) × ((one : D) × LeavesAtCrash g i zero one)
