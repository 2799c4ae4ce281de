use Rattle.std.proofs.Common.{◌≡◌, ◌≤◌, ◌<◌, ◌^◌, length}
use Rattle.std.specs.List.{All}
use Rattle.std.specs.VecDeque.{deque_capacity, deque_len}
use Rattle.pf_holes.specs.SlotSets.{slots_upto, SlotsAreRising, AreAbove}
use Rattle.pf_holes.proofs.slots.joined.Given as goal

abbrev pub invariant-loop-place : goal.invariant-loop-place
invariant-loop-place l = record {
  rising : SlotsAreRising l.singles.items;
  above : AreAbove l.upto l.singles.items;
  fits : All (λ s. s < 2 ^ 64) l.singles.items;
  slots : slots_upto l.upto l.singles.items ≡ slots_upto l.initial.upto l.initial.singles.items;
  len : deque_len l.singles ≤ deque_len l.initial.singles;
  capacity : deque_capacity l.singles ≡ deque_capacity l.initial.singles;
}

abbrev pub decreases-loop-place : goal.decreases-loop-place
decreases-loop-place l = length l.singles.items
