use Rattle.std.proofs.Common.{arith, inr, refl}
use Rattle.pf_test_trials.proofs.applying.new_group.Goals as goal

pub new-requires : goal.new-requires
new-requires c = record {
  setup = record {
    few_names = omega arith;
    some_sectors = omega arith;
    few_sectors = omega arith;
    blocks = (2, refl);
    format = inr refl;
    window = refl;
  };
}
