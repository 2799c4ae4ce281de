use Rattle.std.proofs.Common.{◌≡◌, ◌++◌, take}
use Rattle.std.specs.Int.{w64}
use Rattle.std.specs.List.{flat_map}
use Rattle.pf_codec.specs.Spelling.{number}
use Rattle.pf_codec.proofs.writing.write_slot_row.Given as goal

abbrev pub invariant-loop-slot : goal.invariant-loop-slot
invariant-loop-slot l = l.writer ≡ l.fn.writer ++ flat_map (number w64) (take l.slot-index l.slots)
