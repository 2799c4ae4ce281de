-- The disks of a world: disk 6k + 2i + h of a list is half h of server i of chunk k.
use Rattle.std.specs.Prelude.{◌≡◌, ℕ, ◌+◌, ◌*◌, ◌<◌, Bool, IsTrue, List, [], ◌∷◌, Option, Some, drop, length, slice_get}
use Rattle.pf_disk.specs.Crashes.{Images}
use Rattle.pf_live_session.specs.pf_group.specs.declared.six.Six.{Six}
use Rattle.pf_live_session.specs.pf_group.specs.Crashing.{LeavesAtCrash}
use Rattle.pf_live_session.specs.pf_group.specs.Leaving.{LeavesIn, as_seen}
use Rattle.pf_live_session.specs.pf_chunk.specs.Views.{ChunkIs}

-- six disks, server by server
abbrev pub six_list : {D : Type 0} → Six D → List D
six_list six = six.s0h0 ∷ six.s0h1 ∷ six.s1h0 ∷ six.s1h1 ∷ six.s2h0 ∷ six.s2h1 ∷ []

module _ {D : Type 0} (seen : D → Option (List ℕ)) (may_leave : D → Images) (faults moment : D → ℕ) (left_since : D → ℕ → Images) (tells tells_moments : Bool)
  where
    -- The two halves of server i of chunk k have failed as often as its group knows. Where disks of their type tell their content, they hold
    -- what the group left there, now and at any moment since its last step began that may have touched disks
    pub record AreHalvesOf (disks : List D) (c : ChunkIs) (k i : ℕ) : Type 0 where
      pub zero : D
      pub one : D
      pub zero_is : slice_get disks (6 * k + 2 * i) ≡ Some zero
      pub one_is : slice_get disks (6 * k + 2 * i + 1) ≡ Some one
      pub left : IsTrue tells → LeavesIn c.group i (may_leave zero) (may_leave one)
      pub as_read : IsTrue tells → LeavesIn c.group i (as_seen (seen zero)) (as_seen (seen one))
      pub at_crash : IsTrue tells → LeavesAtCrash seen moment left_since tells_moments c.group i zero one
      pub counts : slice_get c.group.faults i ≡ Some (faults zero, faults one)

    -- these chunks, whose groups know whether their disks tell their content, left the first disks so, and all others are as they were
    pub record AreLeft (chunks : List ChunkIs) (before disks : List D) : Type 0 where
      pub told : (k : ℕ) (c : ChunkIs) → slice_get chunks k ≡ Some c → c.group.told ≡ tells
      pub halves : (k i : ℕ) (c : ChunkIs) → slice_get chunks k ≡ Some c → i < 3 → AreHalvesOf disks c k i
      pub rest : drop (6 * length chunks) disks ≡ drop (6 * length chunks) before
      pub count : length disks ≡ length before
