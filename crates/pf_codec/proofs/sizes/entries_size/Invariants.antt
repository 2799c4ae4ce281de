use Rattle.std.proofs.Common.{◌≡◌, ◌*◌, ◌≤◌, take}
use Rattle.std.specs.List.{sum_by}
use Rattle.pf_entry.specs.Sizes.{entry_size}
use Rattle.pf_codec.proofs.sizes.entries_size.Given as goal

abbrev pub invariant-loop-entry : goal.invariant-loop-entry
invariant-loop-entry l = (l.size ≡ sum_by entry_size (take l.entry-index l.entries)) × (l.size ≤ 4400 * l.entry-index)
