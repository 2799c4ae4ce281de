-- Two disks as the store of a server, and three such stores.
use Rattle.std.specs.Prelude.{◌≡◌, ◌⊎◌, ◌≤◌, ℕ, Bool, List, length, map, Option, Some, slice_get}
use Rattle.pf_disk.specs.Crashes.{Images}
use Rattle.pf_disk.specs.Causes.{Rose}
use Rattle.pf_entry.specs.Records.{Durable}
use Rattle.pf_disk_store.specs.declared.kept.Kept.{Kept}
use Rattle.pf_disk_store.specs.Faults.{faults_of}
use Rattle.pf_disk_store.specs.Kept.{OneRose, PairWentOn, tells}
use Rattle.pf_group_network.specs.pf_server.specs.declared.server.Server.{Server}
use Rattle.pf_group_network.specs.declared.network.Network.{Network}

-- what a store says of its disks
module _ {D : Type 0} where
  abbrev pub told_in : (D → Option (List ℕ)) → Kept D → Bool
  told_in seen kept = tells seen kept.pair

  abbrev pub rose_in : (D → ℕ) → Kept D → Kept D → Type 0
  rose_in faults old new = OneRose faults old.pair new.pair

  abbrev pub was_in : (seen : D → Option (List ℕ)) (faults moment : D → ℕ) (left_since : D → ℕ → Images) (tells_moments : Bool) → Kept D → Kept D → Durable
      → Durable → Type 0
  was_in seen faults moment left_since tells_moments old new before after =
      PairWentOn seen faults moment left_since tells_moments old.pair new.pair before after

  -- a count of each disk: how often it has failed, or its moment
  abbrev pub all_counts : (D → ℕ) → Network (Kept D) → List (ℕ × ℕ)
  all_counts count network = map (λ (server : Server (Kept D)). faults_of count server.store) network.servers.items

-- a count of one of two disks rose
abbrev pub EitherRose : (before after : ℕ × ℕ) → Type 0
EitherRose before after = Rose before.0 after.0 ⊎ Rose before.1 after.1

-- a count of a disk of server i rose
pub record HasRisen (i : ℕ) (before after : List (ℕ × ℕ)) : Type 0 where
  pub was : ℕ × ℕ
  pub is : ℕ × ℕ
  pub then_is : slice_get before i ≡ Some was
  pub now_is : slice_get after i ≡ Some is
  pub risen : EitherRose was is

-- no count fell
pub record AreLater (before after : List (ℕ × ℕ)) : Type 0 where
  pub servers : length after ≡ length before
  pub each : (i : ℕ) (was is : ℕ × ℕ) → slice_get before i ≡ Some was → slice_get after i ≡ Some is → (was.0 ≤ is.0) × (was.1 ≤ is.1)
