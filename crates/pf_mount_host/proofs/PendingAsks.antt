-- What is pending at the ports of a host over a layout.
use Rattle.std.proofs.Common.{◌≡◌, ◌≢◌, ◌⊎◌, ℕ, zero, suc, ◌<◌, ◌≤◌, Bool, true, false, ◌==◌, ◌||◌, List, [], ◌∷◌, length, Option, Some, None, slice_get, inl, inr, refl, sym, ap, subst, ◌∙◌, arith}
use Rattle.std.specs.Prelude.{IfSome}
use Rattle.std.specs.List.{list_any}
use Rattle.std.specs.Option.{option_and_then}
use Rattle.std.proofs.lemmas.Bool.{false≢true}
use Rattle.std.proofs.lemmas.Bool.Decides.{eqb_tells}
use Rattle.std.proofs.lemmas.Option.{none-some, same_Some}
use Rattle.pf_base.specs.declared.asks.Ask.{Ask}
use Rattle.pf_asks.specs.Ports.{PortIs}
use Rattle.pf_mount.specs.Standing.{Awaits}
use Rattle.pf_world_moments.specs.pf_chunk.specs.Views.{ChunkIs}
use Rattle.pf_move.specs.Routes.{AreRouted, RoutesIs, home_of_chunk, group_serving}
use Rattle.pf_world_moments.specs.Parts.{PortIsPending}
use Rattle.pf_world_moments.proofs.AskRoutes.{home_within, served_home}
use Rattle.pf_journal.specs.declared.layouts.Layout.{Layout}
use Rattle.pf_journal.specs.declared.layouts.Layout.TheVariants.{Plain, Three}
use Rattle.pf_journal.specs.Layouts.{layout_of}
use Rattle.pf_mount.specs.Mounts.{MountIs}
use Rattle.pf_mount.specs.Nexts.{is_busy, is_in_chunk, ports_of}
use Rattle.pf_mount_host.specs.Hosts.{HostIs, group_asked_at, mount_number, pending_at, same_chunk}
use Rattle.pf_mount_host.specs.Steps.{IsAnchoredHostOf}

pub same_or : (a b : ℕ) → (a ≡ b) ⊎ (a ≢ b)
same_or a b = elim (eqb_tells a b) [ inl same ↦ inl same.1 | inr other ↦ inr other.1 ]

-- At most four ports

few_anchors : (layout : Layout) → length (layout_of layout).anchors ≤ 3
few_anchors Plain = omega arith
few_anchors Three = omega arith

pub few_ports : (m : MountIs) (port : ℕ) → port < ports_of m → port < 4
few_ports m port low = omega (arith, low, few_anchors m.position.layout)

-- The list of what is pending

is_at : (o : Option (Option ℕ)) (chunk : ℕ) → option_and_then same_chunk o ≡ Some chunk → o ≡ Some (Some chunk)
is_at None chunk is = absurd (none-some chunk is)
is_at (Some None) chunk is = absurd (none-some chunk is)
is_at (Some (Some its)) chunk is = ap (λ (o : Option ℕ). Some o) is

pub at_place : (host : HostIs) (port chunk : ℕ) → pending_at host port ≡ Some chunk → slice_get host.at port ≡ Some (Some chunk)
at_place host port chunk is = is_at (slice_get host.at port) chunk is

pub pends_there : (host : HostIs) (port chunk : ℕ) → slice_get host.at port ≡ Some (Some chunk) → pending_at host port ≡ Some chunk
pends_there host port chunk is = ap (option_and_then same_chunk) is

-- some port has it
or_left : (a b : Bool) → a ≡ true → (a || b) ≡ true
or_left true b is = refl
or_left false b is = absurd (false≢true is)

or_right : (a b : Bool) → b ≡ true → (a || b) ≡ true
or_right true b is = refl
or_right false b is = is

eqb_same : (n : ℕ) → (n == n) ≡ true
eqb_same n = elim (eqb_tells n n) [ inl same ↦ same.0 | inr other ↦ absurd (other.1 refl) ]

any_at : (at : List (Option ℕ)) (port chunk : ℕ) → slice_get at port ≡ Some (Some chunk) → list_any (is_in_chunk chunk) at ≡ true
any_at [] port chunk is = absurd (none-some (Some chunk) is)
any_at (x ∷ xs) zero chunk is =
    or_left (is_in_chunk chunk x) (list_any (is_in_chunk chunk) xs) (ap (is_in_chunk chunk) (same_Some x (Some chunk) is) ∙ eqb_same chunk)
any_at (x ∷ xs) (suc port) chunk is = or_right (is_in_chunk chunk x) (list_any (is_in_chunk chunk) xs) (any_at xs port chunk is)

pub found_so : (host : HostIs) (port chunk : ℕ) → pending_at host port ≡ Some chunk → is_busy host.at chunk ≡ true
found_so host port chunk is = any_at host.at port chunk (at_place host port chunk is)

-- The group of a port's ask

-- a port that asks a group
pub record AsksHere (routes : RoutesIs) (chunks : List ChunkIs) (host : HostIs) (port k : ℕ) : Type 0 where
  pub chunk : ℕ
  pub at : pending_at host port ≡ Some chunk
  pub home : home_of_chunk routes chunk ≡ Some k
  pub c : ChunkIs
  pub there : slice_get chunks k ≡ Some c
  pub its : PortIs
  pub its_there : slice_get c.ports (mount_number host.mount) ≡ Some its
  pub ask : Ask
  pub pending : its.ask ≡ Some ask
  pub awaits : Awaits host.mount port (Some ask)

pub asks_here : (routes : RoutesIs) (chunks : List ChunkIs) (host : HostIs) (port k : ℕ) → IsAnchoredHostOf routes chunks host → group_asked_at routes host port ≡ Some k → AsksHere routes chunks host port k
asks_here routes chunks host port k is_host is = by (pending_at host port) refl is where
  by : (at : Option ℕ) → pending_at host port ≡ at → option_and_then (group_serving routes) at ≡ Some k → AsksHere routes chunks host port k
  by None at is = absurd (none-some k is)
  by (Some chunk) at is =
      let home : home_of_chunk routes chunk ≡ Some k = served_home routes chunk k is in
      let a = is_host.asking port chunk at in
      record {
        chunk = chunk;
        at = at;
        home = home;
        c = a.c;
        there = ap (slice_get chunks) (same_Some k a.k (sym home ∙ a.home)) ∙ a.there;
        its = a.its;
        its_there = a.its_there;
        ask = a.ask;
        pending = a.pending;
        awaits = a.awaits;
      }

pub is_pending : (routes : RoutesIs) (chunks : List ChunkIs) (host : HostIs) (port k : ℕ) → AsksHere routes chunks host port k → PortIsPending (mount_number host.mount) k chunks
is_pending routes chunks host port k a = record { chunk = a.c; there = a.there; port = a.its; its = a.its_there; ask = a.ask; pending = a.pending }

-- only chunks of the volume are asked
pub asks_within : (groups : ℕ) (routes : RoutesIs) (chunks : List ChunkIs) (host : HostIs) (port : ℕ) → AreRouted groups routes → IsAnchoredHostOf routes chunks host → IfSome (pending_at host port) (λ chunk. chunk < length routes.routes)
asks_within groups routes chunks host port routed is_host = by (pending_at host port) refl where
  by : (at : Option ℕ) → pending_at host port ≡ at → IfSome at (λ chunk. chunk < length routes.routes)
  by None at = tt
  by (Some chunk) at = let a = is_host.asking port chunk at in home_within groups routes chunk a.k routed a.home

-- its other ports ask other groups
pub asks_elsewhere : (groups : ℕ) (routes : RoutesIs) (chunks : List ChunkIs) (host : HostIs) (port other chunk its k : ℕ) → AreRouted groups routes → IsAnchoredHostOf routes chunks host → port ≢ other
    → pending_at host port ≡ Some chunk → pending_at host other ≡ Some its → home_of_chunk routes chunk ≡ Some k → home_of_chunk routes its ≢ Some k
asks_elsewhere groups routes chunks host port other chunk its k routed is_host apart at other_at home same =
    apart (is_host.apart port other chunk at (subst (λ n. pending_at host other ≡ Some n) (sym (routed.apart chunk its k home same)) other_at))
