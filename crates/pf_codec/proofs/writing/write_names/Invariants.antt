use Rattle.std.proofs.Common.{◌≡◌, ◌++◌, take}
use Rattle.std.specs.List.{flat_map}
use Rattle.pf_codec.specs.Spelling.{name_bytes}
use Rattle.pf_codec.proofs.writing.write_names.Given as goal

abbrev pub invariant-loop-name : goal.invariant-loop-name
invariant-loop-name l = l.writer ≡ l.fn.writer ++ flat_map name_bytes (take l.name-index l.look)
