use Rattle.std.proofs.Common.{◌≡◌, ◌+◌, ◌*◌, ◌++◌, length, take}
use Rattle.pf_file_calls.specs.Blocks.{bytes_of}
use Rattle.pf_file_calls.proofs.bytes.joined.Given as goal

abbrev pub invariant-loop-sector : goal.invariant-loop-sector
invariant-loop-sector l = record {
  bytes : l.all.items ≡ l.bytes ++ bytes_of (take l.sector-index l.sectors);
  count : length l.all.items ≡ length l.bytes + 512 * l.sector-index;
}
