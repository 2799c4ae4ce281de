use Rattle.std.proofs.Common.{◌<◌, ◌^◌, length}
use Rattle.pf_text.proofs.Decimals.{IsRead}
use Rattle.pf_text.proofs.read.decimal.Given as goal

abbrev pub invariant-loop-rest : goal.invariant-loop-rest
invariant-loop-rest l = record {
  read : IsRead l.word l.rest l.value;
  fits : l.value < 2 ^ 64;
}

abbrev pub decreases-loop-rest : goal.decreases-loop-rest
decreases-loop-rest l = length l.rest
