use Rattle.std.proofs.Common.{arith, inr, refl}
use Rattle.pf_test_trials.proofs.live.line.Goals as goal

pub new-requires : goal.new-requires
new-requires g c = record {
  setup = record {
    few_names = omega arith;
    some_sectors = omega arith;
    few_sectors = omega arith;
    blocks = (2, refl);
    format = inr refl;
    window = refl;
  };
}
