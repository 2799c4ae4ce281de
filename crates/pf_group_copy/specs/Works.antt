-- Jobs whose sectors are copied.
use Rattle.std.specs.Prelude.{◌≡◌, ℕ, List, IfSome, Some, length, slice_get}
use Rattle.pf_group_copy.specs.declared.work.CopyWork.{CopyWork}
use Rattle.pf_group_copy.specs.Filling.{filled_of}

-- the job's sectors were copied, or there was no memory for that
pub record WorkIsBrought (old new : CopyWork) : Type 0 where
  pub job : new.job ≡ old.job
  pub filled : IfSome new.filled (λ f. f ≡ filled_of old.job)

-- each of them
pub record AreBrought (old new : List CopyWork) : Type 0 where
  pub same : length new ≡ length old
  pub each : (i : ℕ) (was is : CopyWork) → slice_get old i ≡ Some was → slice_get new i ≡ Some is → WorkIsBrought was is
