use Rattle.std.proofs.Common.{[], ◌∷◌, refl}
use Rattle.pf_test_trials.proofs.chunklog.with_record.Goals as goal

pub append-requires-clause-body : goal.append-requires-clause-body
append-requires-clause-body c = ((2, 0 ∷ 0 ∷ 0 ∷ 0 ∷ 0 ∷ 0 ∷ 0 ∷ 2 ∷ []), refl)
