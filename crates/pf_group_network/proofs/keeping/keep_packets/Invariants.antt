use Rattle.std.proofs.Common.{◌≡◌, ℕ, ◌+◌, ◌≤◌, ◌++◌, List, length, map, sum_by, vec_capacity, vec_len}
use Rattle.pf_server_memory.specs.Outgoing.{Outgoing}
use Rattle.pf_group_network.specs.declared.kept.Parcel.{Parcel}
use Rattle.pf_group_network.specs.Keeping.{fresh_parcel}
use Rattle.pf_group_network.proofs.keeping.keep_packets.Given as goal

-- some of the packets were moved
pub record AreMoving (old now : List Parcel) (start len first capacity before room : ℕ) (from out : Outgoing) : Type 0 where
  pub packets : now ++ map fresh_parcel out.packets ≡ old ++ map fresh_parcel from.packets
  pub places : len + length out.packets ≤ capacity
  pub longer : start ≤ len
  pub grown : first ≤ capacity
  pub bytes : sum_by length out.packets ≤ room
  pub left : room + sum_by length from.packets ≡ before + sum_by length out.packets
  pub acked : out.acked ≡ from.acked

abbrev pub invariant-loop-bytes : goal.invariant-loop-bytes
invariant-loop-bytes l = AreMoving l.initial.packets.items l.packets.items (vec_len l.initial.packets) (vec_len l.packets) (vec_capacity l.initial.packets) (vec_capacity l.packets) l.initial.byte_room l.byte_room l.initial.out l.out

abbrev pub decreases-loop-bytes : goal.decreases-loop-bytes
decreases-loop-bytes l = length l.out.packets
