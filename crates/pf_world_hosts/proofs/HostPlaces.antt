-- Hosts in their places.
use Rattle.std.proofs.Common.{◌≡◌, ◌≢◌, ℕ, zero, suc, ◌<◌, ◌≤◌, List, [], ◌∷◌, ◌++◌, length, Option, Some, None, slice_get, slice_set, refl, sym, ap, ◌∙◌, arith}
use Rattle.std.proofs.lemmas.Option.{same_Some, slice_get_within}
use Rattle.pf_entry.proofs.Lists.{set_there}
use Rattle.pf_mount_host.specs.pf_group_network.proofs.Lists.{at_end, set_elsewhere}
use Rattle.pf_mount_host.specs.pf_chunk.specs.Runs.{mover_port}
use Rattle.pf_mount_host.specs.Hosts.{HostIs}
use Rattle.pf_world_hosts.specs.Volumes.{Hosts, host_at, there}

module _ (hosts : Hosts) where
  -- there is a place
  pub place_there : (m : ℕ) (host : HostIs) → host_at hosts m ≡ Some host → slice_get hosts m ≡ Some (Some host)
  place_there m host is = by (slice_get hosts m) refl is where
    by : (o : Option (Option HostIs)) → slice_get hosts m ≡ o → there o ≡ Some host → slice_get hosts m ≡ Some (Some host)
    by None at none = absurd (cc)
    by (Some it) at is_it = at ∙ ap (λ (x : Option HostIs). Some x) is_it

  -- its number is below the mover's
  pub place_is_low : (m : ℕ) (host : HostIs) → host_at hosts m ≡ Some host → length hosts ≤ 16 → m < mover_port
  place_is_low m host at few = omega (arith, few, slice_get_within hosts m (Some host) (place_there m host at))

  pub host_put : (m : ℕ) (host next : HostIs) → host_at hosts m ≡ Some host → host_at (slice_set hosts m (Some next)) m ≡ Some next
  host_put m host next is = ap (λ (o : Option (Option HostIs)). there o) (set_there hosts m (Some host) (Some next) (place_there m host is))

  pub others_put : (m n : ℕ) (next : Option HostIs) → n ≢ m → host_at (slice_set hosts m next) n ≡ host_at hosts n
  others_put m n next other = ap (λ (o : Option (Option HostIs)). there o) (set_elsewhere hosts m n next other)

  -- one more at the end
  pub last_is : (host x : HostIs) → host_at (hosts ++ Some host ∷ []) (length hosts) ≡ Some x → host ≡ x
  last_is host x at = same_Some host x (sym (ap (λ (o : Option (Option HostIs)). there o) (at_end hosts (Some host))) ∙ at)

-- the others stay where they are
elsewhere : {X : Type 0} → (xs : List X) (x : X) (n : ℕ) → n ≢ length xs → slice_get (xs ++ x ∷ []) n ≡ slice_get xs n
elsewhere [] x zero other = absurd (other refl)
elsewhere [] x (suc n) other = refl
elsewhere (y ∷ ys) x zero other = refl
elsewhere (y ∷ ys) x (suc n) other = elsewhere ys x n (λ e. other (ap suc e))

pub others_joined : (hosts : Hosts) (host : HostIs) (n : ℕ) → n ≢ length hosts → host_at (hosts ++ Some host ∷ []) n ≡ host_at hosts n
others_joined hosts host n other = ap (λ (o : Option (Option HostIs)). there o) (elsewhere hosts (Some host) n other)

-- none in a place that was emptied
pub none_put : (hosts : Hosts) (m : ℕ) → host_at (slice_set hosts m None) m ≡ None
none_put [] m = refl
none_put (host ∷ hosts) zero = refl
none_put (host ∷ hosts) (suc m) = none_put hosts m
