-- Ports of a mount stay as they are.
use Rattle.std.proofs.Common.{◌≡◌, ◌≢◌, ℕ, ◌<◌, List, length, Some, slice_get, slice_set, refl, sym, ap, subst, ◌∙◌}
use Rattle.std.proofs.lemmas.Option.{same_Some, slice_get_within}
use Rattle.pf_mount_host.specs.pf_group_network.proofs.Lists.{set_length, something_there}
use Rattle.pf_mount_host.specs.pf_chunk.specs.Views.{ChunkIs}
use Rattle.pf_mount_host.specs.pf_world_moments.specs.Parts.{AreQuiet}
use Rattle.pf_mount_host.specs.pf_world_moments.specs.Steps.{HaveGone}
use Rattle.pf_mount_host.specs.pf_world_moments.proofs.PortDrives.{one_by_one}

-- the ports of mount n are as they were
pub record HasPorts (n : ℕ) (old new : List ChunkIs) : Type 0 where
  pub count : length new ≡ length old
  pub each : (k : ℕ) (was is : ChunkIs) → slice_get old k ≡ Some was → slice_get new k ≡ Some is → slice_get is.ports n ≡ slice_get was.ports n

-- a step of another mount leaves them
pub gone_ports : (m n : ℕ) (old new : List ChunkIs) → HaveGone m old new → n ≢ m → HasPorts n old new
gone_ports m n old new gone other = record { count = gone.count; each = λ k was is before after. (gone.each k was is before after).others n other }

-- and so does what leaves the ports of one chunk
pub one_ports : (n k : ℕ) (old : List ChunkIs) (was is : ChunkIs) → slice_get old k ≡ Some was → is.ports ≡ was.ports → HasPorts n old (slice_set old k is)
one_ports n k old was is at ports = record {
  count = set_length old k is;
  each = one_by_one n k old was is at (λ x y. slice_get y.ports n ≡ slice_get x.ports n) (ap (λ ps. slice_get ps n) ports) (λ c. refl);
}

pub same_ports : (n : ℕ) (chunks : List ChunkIs) → HasPorts n chunks chunks
same_ports n chunks = record { count = refl; each = λ k was is at to. ap (λ (c : ChunkIs). slice_get c.ports n) (same_Some is was (sym to ∙ at)) }

module _ (n : ℕ) (old new : List ChunkIs) (stay : HasPorts n old new) where
  pub before : (k : ℕ) (is : ChunkIs) → slice_get new k ≡ Some is → (was : ChunkIs) × (slice_get old k ≡ Some was)
  before k is at = something_there old k (subst (λ c. k < c) stay.count (slice_get_within new k is at))

  pub after : (k : ℕ) (was : ChunkIs) → slice_get old k ≡ Some was → (is : ChunkIs) × (slice_get new k ≡ Some is)
  after k was at = something_there new k (subst (λ c. k < c) (sym stay.count) (slice_get_within old k was at))

  pub quiet_stays : AreQuiet n old → AreQuiet n new
  quiet_stays quiet k is at port its =
      let was = before k is at in
      quiet k was.0 was.1 port (sym (stay.each k was.0 is was.1 at) ∙ its)
