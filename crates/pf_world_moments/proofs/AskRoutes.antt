-- Which group has the asks for a chunk.
use Rattle.std.proofs.Common.{◌≡◌, ℕ, ◌<◌, Bool, true, false, length, Option, Some, None, if◌then◌else◌, ◌==◌, slice_get, refl, subst, arith}
use Rattle.std.specs.Prelude.{IfSome}
use Rattle.std.specs.Option.{option_map}
use Rattle.std.proofs.lemmas.Option.{none-some, slice_get_within}
use Rattle.pf_move.specs.declared.routes.Moving.{Moving}
use Rattle.pf_move.specs.declared.routes.Route.{Route}
use Rattle.pf_move.specs.Routes.{AreRouted, RoutesIs, group_routed, home_in, home_of_chunk, group_serving, group_serving_in}

-- the group that serves a chunk has its asks
pub served_home : (r : RoutesIs) (chunk k : ℕ) → group_serving r chunk ≡ Some k → home_of_chunk r chunk ≡ Some k
served_home r chunk k is = by r.moving is where
  apart : (b : Bool) (to : ℕ) (group : Option ℕ) → (if b then None else group) ≡ Some k → (if b then Some to else group) ≡ Some k
  apart true to group is = absurd (none-some k is)
  apart false to group is = is

  by : (moving : Option Moving) → group_serving_in r.routes moving chunk ≡ Some k → home_in r.routes moving chunk ≡ Some k
  by None is = is
  by (Some moving) is = apart (moving.chunk == chunk) moving.to (group_routed r.routes chunk) is

-- only chunks of the volume are routed
pub home_within : (groups : ℕ) (r : RoutesIs) (chunk k : ℕ) → AreRouted groups r → home_of_chunk r chunk ≡ Some k → chunk < length r.routes
home_within groups r chunk k routed is = by r.moving routed.moving is where
  got : (route : Option Route) → slice_get r.routes chunk ≡ route → option_map (λ (x : Route). x.group) route ≡ Some k → chunk < length r.routes
  got None there is = absurd (none-some k is)
  got (Some x) there is = slice_get_within r.routes chunk x there

  apart : (b : Bool) (to : ℕ) → (b ≡ true → chunk < length r.routes) → (if b then Some to else group_routed r.routes chunk) ≡ Some k → chunk < length r.routes
  apart true to low is = low refl
  apart false to low is = got (slice_get r.routes chunk) refl is

  same : (m : ℕ) → (m == chunk) ≡ true → m ≡ chunk
  same m is = grind arith

  by : (moving : Option Moving) → IfSome moving (λ m. m.chunk < length r.routes) → home_in r.routes moving chunk ≡ Some k → chunk < length r.routes
  by None low is = got (slice_get r.routes chunk) refl is
  by (Some moving) low is = apart (moving.chunk == chunk) moving.to (λ here. subst (λ n. n < length r.routes) (same moving.chunk here) low) is
