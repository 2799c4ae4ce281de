use Rattle.std.proofs.Common.{◌≡◌, ℕ, ◌≤◌, List, length, Some, slice_get}
use Rattle.std.specs.Prelude.{vec_capacity, vec_len}
use Rattle.pf_entry.specs.Ops.{Sector}
use Rattle.pf_group_network.specs.declared.kept.Reading.TheVariants.{Answered}
use Rattle.pf_group_network.specs.Unread.{StaysAmong}
use Rattle.pf_group_network.proofs.reads.forget_taken.Given as goal

abbrev pub invariant-loop-number : goal.invariant-loop-number
invariant-loop-number l = record {
  among : (number : ℕ) (bytes : List Sector) → slice_get l.list number ≡ Some (Answered bytes) → StaysAmong l.initial.unread.items l.unread.items number;
  len : vec_len l.unread ≤ vec_len l.initial.unread;
  capacity : vec_capacity l.initial.unread ≤ vec_capacity l.unread;
}

abbrev pub decreases-loop-number : goal.decreases-loop-number
decreases-loop-number l = length l.unread.items
