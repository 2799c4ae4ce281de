-- What a mount has met of the other mounts at a position.
use Rattle.std.specs.Prelude.{ℕ}

pub record RivalsAre : Type 0 where
  pub seen : ℕ  -- the greatest mbal that was read
  pub aborts : ℕ  -- how many ballots were aborted, counted up to 16
