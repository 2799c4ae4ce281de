-- What never changes of a group.
use Rattle.std.specs.Prelude.{ℕ}
use Rattle.pf_protocol.specs.Servers.{Setup}
use Rattle.pf_group.specs.GroupIs.{GroupIs}

pub record RootIs : Type 0 where
  pub number : ℕ  -- of the group in its volume
  pub setup : Setup

abbrev pub root_of : GroupIs → RootIs
root_of g = record { number = g.number; setup = g.setup }
