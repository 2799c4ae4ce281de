-- One delivery of a settling.
use Rattle.std.proofs.Common.{ℕ, ◌<◌}
use Rattle.pf_protocol.specs.Answers.{most_packets}

-- a packet below the most
pub below_most : (k : ℕ) → k < 65536 → k < most_packets
unfolding most_packets
below_most k low = low
