use Rattle.std.proofs.Common.{◌≡◌, ◌++◌, take, drop}
use Rattle.pf_disk.specs.Scrambles.{scrambled}
use Rattle.pf_disk.proofs.files.scramble.Given as goal

abbrev pub invariant-loop-place : goal.invariant-loop-place
invariant-loop-place l = scrambled l.ranges 0 l.seed l.fn.bytes ≡ take l.place l.bytes ++ scrambled l.ranges l.place l.number (drop l.place l.bytes)
