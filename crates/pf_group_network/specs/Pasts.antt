-- What a group came from. Nothing is known of it but that the group is viable: where disks tell their content, it is the replay of its legal
-- history; where they do not, restarts may have begun from any state that fits.
use Rattle.std.specs.Prelude.{ℕ, ◌+◌, ◌<◌, ◌≤◌, ◌^◌, List}
use Rattle.pf_protocol.specs.Servers.{Setup}
use Rattle.pf_protocol.specs.Groups.{Group}
use Rattle.pf_protocol.specs.Answers.{Claimed, IsSetup}
use Rattle.pf_protocol.specs.Viable.{IsViable}

-- the group that it led to, with its open claims
pub record GroupPast : Type 0 where
  pub group : Group
  pub top : ℕ  -- no server began in a term above its next one
  pub count : ℕ  -- no number is greater
  pub terms : List ℕ  -- those in which somebody stood for election
  pub claims : List Claimed

pub record IsViablePast (setup : Setup) (past : GroupPast) : Type 0 where
  pub is_setup : IsSetup setup
  pub group : IsViable setup past.top past.count past.terms past.claims past.group

-- its numbers are far from the ends of their types: above all that a restart takes up, there is room for 2^62 events
pub record PastIsShort (past : GroupPast) : Type 0 where
  pub count : past.count < 2 ^ 63 + 2 ^ 62 + 2 ^ 13
  pub top : past.top ≤ 2 ^ 63

-- whatever a restart takes up is within them
pub record CoversRestarts (past : GroupPast) : Type 0 where
  pub count : 2 ^ 63 + 4096 ≤ past.count
  pub top : 2 ^ 63 ≤ past.top
