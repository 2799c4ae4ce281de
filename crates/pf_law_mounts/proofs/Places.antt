-- Where hosts stand.
use Rattle.std.proofs.Common.{◌≡◌, ℕ, List, Option, Some, None, slice_get, slice_set, sym, ap, subst}
use Rattle.std.proofs.lemmas.Option.{none-some}
use Rattle.pf_law_runs.specs.pf_group_network.proofs.Lists.{set_same}
use Rattle.pf_law_runs.specs.pf_world.specs.pf_world_moments.specs.Moments.{Moment}
use Rattle.pf_law_runs.specs.pf_world.specs.pf_mount_host.specs.Hosts.{HostIs}
use Rattle.pf_law_runs.specs.pf_world.specs.pf_world_hosts.specs.Volumes.{Hosts, VolumeRun, host_at}
use Rattle.pf_law_runs.specs.pf_world.specs.pf_world_hosts.specs.Volumes as volumes
use Rattle.pf_law_mounts.proofs.Known.{IsKnown}

some_there : {Host : Type 0} → (o : Option (Option Host)) (host : Host) → volumes.there o ≡ Some host → o ≡ Some (Some host)
some_there None host is = absurd (none-some host is)
some_there (Some o) host is = ap (λ x. Some x) is

pub host_there : (hosts : Hosts) (m : ℕ) (host : HostIs) → host_at hosts m ≡ Some host → slice_get hosts m ≡ Some (Some host)
host_there hosts m host at = some_there (slice_get hosts m) host at

-- the run is that with this host in its place
pub known_with : {calls : ℕ} (v : VolumeRun) (m : ℕ) (host : HostIs) (told : List Moment) → slice_get v.hosts m ≡ Some (Some host) → IsKnown calls v told → IsKnown calls (record v { hosts = slice_set v.hosts m (Some host) }) told
known_with {calls} v m host told place known = subst (λ (hosts : Hosts). IsKnown calls (record v { hosts = hosts }) told) (sym (set_same v.hosts m (Some host) place)) known
