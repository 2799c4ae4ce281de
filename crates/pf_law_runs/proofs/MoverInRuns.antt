-- What is known of the mover holds in the run of every script: each moment is so, and its ports were driven as was told.
use Rattle.std.proofs.Common.{◌≡◌, ◌≢◌, ℕ, zero, suc, replicate, ◌<◌, ◌≤◌, ◌==◌, List, [], ◌∷◌, ◌++◌, length, Option, Some, None, slice_get, slice_set, take, arith, refl, sym, ap, subst, ◌∙◌, append-nil}
use Rattle.std.proofs.lemmas.Option.{none-some, same_Some}
use Rattle.pf_base.specs.declared.asks.Ask.{Ask}
use Rattle.pf_entry.proofs.Lists.{every_append, set_there}
use Rattle.pf_law_movers.specs.pf_group_network.proofs.Lists.{set_length}
use Rattle.pf_asks.specs.Ports.{PortIs, new_port}
use Rattle.pf_volume.specs.Volumes.{Extent}
use Rattle.pf_move.specs.declared.mover.MoverAsk.{MoverAsk}
use Rattle.pf_move.specs.declared.mover.MoverAsk.TheVariants.{Reading, Writing}
use Rattle.pf_move.specs.Movers.{MoverIs}
use Rattle.pf_move.specs.Routes.{RoutesIs}
use Rattle.pf_law_movers.specs.pf_law_ports.specs.Driven.{Begins as BeginsDriven, IsDriven}
use Rattle.pf_world.specs.pf_group_rounds.specs.Chunks.{made_chunk}
use Rattle.pf_world.specs.pf_group_rounds.specs.Halts.{Halt}
use Rattle.pf_world.specs.pf_chunk.specs.Driving.{Driven, port_asked, asked_at}
use Rattle.pf_world.specs.pf_chunk.specs.Runs.{ChunkRun, most_ports, mover_port, new_run}
use Rattle.pf_world.specs.pf_world_moments.specs.Hosts.{handed_moments, put_at, run_after, with_run}
use Rattle.pf_world.specs.pf_world_moments.specs.Moments.{HostAct, Carries, Hands, Moment, Moves as MovesTo, Writes, Acts}
use Rattle.pf_world.specs.declared.kind.Kind.{Kind}
use Rattle.pf_world.specs.pf_live_session.specs.Sessions.{Session}
use Rattle.pf_world.specs.declared.line.Line.{Line}
use Rattle.pf_world.specs.Reports.{world_run}
use Rattle.pf_world.specs.Worlds.{WorldTold, volume_made}
use Rattle.pf_law_movers.specs.Handing.{reached}
use Rattle.pf_law_movers.specs.Pasts.{handed_at, mover_trace, moves_into, past_in, with_trace_of_port}
use Rattle.pf_law_runs.specs.Scripts.{IsScript}
use Rattle.pf_law_runs.proofs.MoverStepsTold.{IsBearing, bearing_on, still_bearing}
use Rattle.pf_law_movers.proofs.Each.{each_at, none_told, one_more}
use Rattle.pf_law_movers.proofs.HistoryGrowth.{Grows, grows_refl}
use Rattle.pf_law_movers.proofs.Handovers.{IsHandedAt, IsHandedIf}
use Rattle.pf_law_movers.proofs.ToldHearings.{IsSo, told_low}
use Rattle.pf_law_runs.proofs.MoverPortsKept.{AreSo, event_so, grown_so, told_too}
use Rattle.pf_law_runs.proofs.MoveBegins.{moves_so}
use Rattle.pf_law_runs.proofs.GroupPlaces.{made_there, new_placed, placed_ports}
use Rattle.pf_law_runs.proofs.KeptByPorts.{IsKeptByPorts, IsSaid}
use Rattle.pf_law_movers.proofs.PortSteps.{IsPortStep}
use Rattle.pf_law_movers.proofs.Ports.{asked_still, put_counts, put_elsewhere, put_others}
use Rattle.pf_law_runs.proofs.RoutesTold.{handed_still, same_routed, still_routed}
use Rattle.pf_law_runs.proofs.FirstRoutes.{new_routes}
use Rattle.pf_law_runs.proofs.MoverSteps.{AreBorne, IsBorne, mover_so}
use Rattle.pf_law_movers.proofs.MoverAsTold.{IsAsTold, MoverAsTold, mover_passed}
use Rattle.pf_law_runs.proofs.KeptThroughout.{HoldsOf, IsKeptByParts, throughout}
use Rattle.pf_law_movers.proofs.PortTraces.{IsWithin, Passes, test_other, writes_pass}

abbrev Ferried : Extent → RoutesIs → Option MoverIs → List ChunkRun → List Moment → Type 0
Ferried e r mover chunks told = AreBorne e.chunks r mover chunks told

-- The port of a mount

-- an ask was handed on by it
handed_told : (count : ℕ) (told : List Moment) (m k place j : ℕ) (c : ChunkRun) → m ≢ mover_port → (k ≡ j → place < length c.group.history) → IsAsTold count told j c → IsAsTold count (told ++ Hands m k place ∷ []) j c
handed_told count told m k place j c apart low is =
    let history = c.group.history in
    let t = moves_into history j count told in record {
      number = is.number;
      stands = is.stands;
      within = every_append (IsWithin j (length history)) told (Hands m k place ∷ []) is.within (low, tt);
      hauled = λ role. mover_passed count told j c (Hands m k place) is (test_other (k == j) m mover_port (with_trace_of_port (handed_at (take place history) (slice_get history place)) t.role t) t apart) role (is.hauled role);
    }

-- it takes a step
module _ (count : ℕ) (told : List Moment) (chunks : List ChunkRun) (so : AreSo count told chunks) (m k : ℕ) (c : ChunkRun) (d : Driven) (small : m < mover_port) (at : slice_get chunks k ≡ Some c) (s : IsPortStep m c d) where
  abbrev new : List ChunkRun
  new = slice_set chunks k d.chunk

  apart : mover_port ≢ m
  apart same = omega (arith, small, same)

  grown : AreSo count told new
  grown = grown_so count told chunks k c d.chunk at (s.others mover_port apart) s.grows so

  there : slice_get new k ≡ Some d.chunk
  there = set_there chunks k c d.chunk at

  hands_on : (place : ℕ) → d.place ≡ Some place → IsHandedAt m c d place → AreSo count (told ++ Hands m k place ∷ []) new
  hands_on place is h =
      let within = s.hands place is in
      let low = told_low count told chunks k c at so.each in record {
        ports = λ j x now.
            handed_told count told m k place j x (λ same. apart (sym same)) (λ same. subst (λ (y : ChunkRun). place < length y.group.history) (same_Some d.chunk x (sym there ∙ ap (slice_get new) same ∙ now)) within) (grown.ports j x now);
        each = one_more (IsSo count new) told (Hands m k place) grown.each (record {
          of_mover = λ high. absurd (omega (arith, small, high));
          behind = omega (arith, low, h.at);
          group = d.chunk;
          there = there;
          within = within;
        });
      }

  step_so : AreSo count (told ++ handed_moments m k d.place) new
  step_so = by d.place refl s.handed
    where
      by : (o : Option ℕ) → d.place ≡ o → IsHandedIf m c d o → AreSo count (told ++ handed_moments m k o) new
      by None is still = subst (λ (all : List Moment). AreSo count all new) (sym (append-nil told)) grown
      by (Some place) is h = hands_on place is h

-- an ask is put into it
asked_so : (count : ℕ) (told : List Moment) (chunks : List ChunkRun) (k m : ℕ) (ask : Ask) → m < mover_port → (o : Option ChunkRun) → slice_get chunks k ≡ o → AreSo count told chunks → AreSo count told (with_run chunks k (run_after o (λ c. port_asked c m ask)))
asked_so count told chunks k m ask small None there so = so
asked_so count told chunks k m ask small (Some c) there so =
    grown_so count told chunks k c (port_asked c m ask) there (put_elsewhere m ask mover_port c (slice_get c.ports m) (λ same. omega (arith, small, same))) (by (slice_get c.ports m)) so
  where
    by : (p : Option PortIs) → Grows c.group (asked_at c m ask p).group
    by None = grows_refl c.group
    by (Some p) = grows_refl c.group

put_so : (count : ℕ) (told : List Moment) (chunks : List ChunkRun) (group : Option ℕ) (m : ℕ) (ask : Ask) → m < mover_port → AreSo count told chunks → AreSo count told (put_at chunks group m ask)
put_so count told chunks None m ask small so = so
put_so count told chunks (Some k) m ask small so = asked_so count told chunks k m ask small (slice_get chunks k) refl so

-- what a host does is nothing to the mover's ports
acts_pass : (k who : ℕ) (act : HostAct) → Passes k (Acts who act)
acts_pass k who act = record { hauls = λ history t. refl; within = λ n. tt; still = tt }

-- What keeps it

module _ (kind : Option Kind) (count : ℕ) (r : RoutesIs) (mover : Option MoverIs) where
  said_borne : (chunks : List ChunkRun) (told : List Moment) (y : Moment) → IsSaid y → AreBorne count r mover chunks told → AreBorne count r mover chunks (told ++ y ∷ [])
  said_borne chunks told (Writes text) said is = record {
    routed = still_routed count r mover chunks chunks told (Writes text ∷ []) refl (tt, tt) is.routed;
    placed = is.placed;
    so = told_too count told chunks (Writes text) (λ k. writes_pass k text) tt is.so;
    bears = bearing_on count told (Writes text ∷ []) chunks chunks r (tt, tt) (λ of ask had. had) r.moving mover is.bears;
  }
  said_borne chunks told (Acts who act) said is = record {
    routed = still_routed count r mover chunks chunks told (Acts who act ∷ []) refl (tt, tt) is.routed;
    placed = is.placed;
    so = told_too count told chunks (Acts who act) (λ k. acts_pass k who act) tt is.so;
    bears = bearing_on count told (Acts who act ∷ []) chunks chunks r (tt, tt) (λ of ask had. had) r.moving mover is.bears;
  }
  said_borne chunks told (Hands m k place) said is = absurd said
  said_borne chunks told (MovesTo chunk to) said is = absurd said
  said_borne chunks told (Carries chunk heard next) said is = absurd said

  ferried_ports : IsKeptByPorts kind (AreBorne count r mover)
  ferried_ports = record {
    telling = said_borne;
    growing = λ chunks told k c d at ports grows adds is.
        let n = d.group.number in record {
          routed = same_routed count r mover chunks (slice_set chunks n d) told (set_length chunks n d) is.routed;
          placed = (placed_ports kind).growing chunks told k c d at ports grows adds is.placed;
          so = event_so count told chunks k c d at ports grows is.so;
          bears = still_bearing count told chunks r mover k c d at ports (grows.number ∙ (is.placed k c at).number) is.bears;
        };
    putting = λ chunks told group m ask small is.
        let new = put_at chunks group m ask in record {
          routed = same_routed count r mover chunks new told (put_counts m ask chunks group) is.routed;
          placed = (placed_ports kind).putting chunks told group m ask small is.placed;
          so = put_so count told chunks group m ask small is.so;
          bears = subst (λ (all : List Moment). IsBearing count all new r r.moving mover) (append-nil told)
              (bearing_on count told [] chunks new r tt (λ of its. put_others m ask chunks of group mover_port its (λ same. omega (arith, small, same))) r.moving mover is.bears);
        };
    stepping = λ chunks told k c m d small at s is.
        let new = slice_set chunks k d.chunk in
        let still = handed_still m k d.place in record {
          routed = still_routed count r mover chunks new told (handed_moments m k d.place) (set_length chunks k d.chunk) still is.routed;
          placed = (placed_ports kind).stepping chunks told k c m d small at s is.placed;
          so = step_so count told chunks is.so m k c d small at s;
          bears = bearing_on count told (handed_moments m k d.place) chunks new r still (λ of ask. asked_still of mover_port ask chunks k c d.chunk at (s.others mover_port (λ same. omega (arith, small, same)))) r.moving mover is.bears;
        };
  }

module _ (halts : List Halt) where
  all_ferried : IsKeptByParts halts (λ kind. Ferried)
  all_ferried = record {
    deciding = λ kind e r mover chunks told is. is;
    ports = λ kind e r mover. ferried_ports kind e.chunks r mover;
    carrying = λ kind v told is. mover_so halts v told is;
    moving = λ v told names format chunk free is. moves_so halts v told names format chunk free is;
  }

  -- A new volume

  new_port_at : (n m : ℕ) (port : PortIs) → slice_get (replicate n new_port) m ≡ Some port → new_port ≡ port
  new_port_at zero m port at = absurd (none-some port at)
  new_port_at (suc n) zero port at = same_Some new_port port at
  new_port_at (suc n) (suc m) port at = new_port_at n m port at

  new_so : (count sectors names format k : ℕ) → IsAsTold count [] k (new_run (made_chunk halts sectors names format k))
  new_so count sectors names format k = record { number = refl; stands = refl; within = tt; hauled = by }
    where
      by : (role : MoverAsk) → MoverAsTold count [] k (new_run (made_chunk halts sectors names format k)) role
      by Reading = record { port = new_port; its = BeginsDriven []; there = λ none. absurd (none-some Reading none) }
      by Writing = record { port = new_port; its = BeginsDriven []; there = λ none. absurd (none-some Writing none) }

  new_ferried : (sessions : List Session) (chunks sectors names format : ℕ) → HoldsOf Ferried (volume_made halts sessions chunks sectors names format).volume []
  new_ferried sessions chunks sectors names format =
      let is = made_there halts sessions chunks sectors names format in record {
        routed = record { routes = new_routes halts sessions chunks sectors names format; pair = tt };
        placed = new_placed halts sessions chunks sectors names format;
        so = record {
          ports = λ k c at. subst (λ (x : ChunkRun). IsAsTold chunks [] k x) (is k c at) (new_so chunks sectors names format k);
          each = none_told (IsSo chunks (volume_made halts sessions chunks sectors names format).volume.chunks);
        };
        bears = λ k c port at its. ap (λ (p : PortIs). p.ask) (sym (new_port_at most_ports mover_port port (ap (λ (x : ChunkRun). slice_get x.ports mover_port) (is k c at) ∙ its)));
      }

-- Runs

module _ (halts : List Halt) (sessions : List Session) (lines : List Line) (script : IsScript lines) where
  abbrev run : WorldTold
  run = world_run halts sessions lines

  abbrev chunks : List ChunkRun
  chunks = run.world.volume.chunks

  abbrev count : ℕ
  count = run.world.volume.extent.chunks

  pub is_ferried : IsBorne run.world.volume run.told
  is_ferried = throughout halts (λ kind. Ferried) (all_ferried halts) (new_ferried halts) sessions lines script

  -- each moment is so
  pub each_so : (before : List Moment) (y : Moment) (after : List Moment) → run.told ≡ before ++ y ∷ after → IsSo count chunks before y
  each_so before y after same = each_at (IsSo count chunks) run.told before y after is_ferried.so.each same

  -- each of the mover's ports was driven as was told
  pub movers_driven : (k : ℕ) (role : MoverAsk) (c : ChunkRun) → slice_get chunks k ≡ Some c → (port : PortIs) × IsDriven c.group.setup (past_in c.group.history (mover_trace c.group.history k role count run.told)) port
  movers_driven k role c at = let port = (is_ferried.so.ports k c at).hauled role in (port.port, port.its)

  -- an ask is handed on behind all that was told of the history
  pub behind_told : (before after : List Moment) (m k place : ℕ) → run.told ≡ before ++ Hands m k place ∷ after → reached k before ≤ place
  behind_told before after m k place same = (each_so before (Hands m k place) after same).behind
