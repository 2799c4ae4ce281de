-- Where a chunk begins to move, what is known of a run is kept.
use Rattle.std.proofs.Common.{◌≡◌, ◌≢◌, ◌⊎◌, ℕ, zero, suc, ◌/◌, ◌≤◌, ◌==◌, ◌&&◌, if◌then◌else◌, le-ltb, inl, inr, List, [], ◌∷◌, ◌++◌, length, map, Option, Some, None, slice_get, slice_set, take, arith, refl, sym, ap, subst, ◌∙◌, append-nil, false}
use Rattle.std.specs.List.{fold}
use Rattle.std.specs.Option.{is_some}
use Rattle.std.proofs.lemmas.List.{append_assoc}
use Rattle.std.proofs.lemmas.Option.{none-some, same_Some, slice_get_within}
use Rattle.pf_entry.specs.Lists.{Every}
use Rattle.pf_entry.proofs.Cases.{by_test}
use Rattle.pf_entry.proofs.Lists.{every_append}
use Rattle.pf_protocol.specs.Histories.{History}
use Rattle.pf_law_movers.specs.pf_group_network.proofs.Lists.{at_end, set_length, something_there}
use Rattle.pf_asks.specs.Ports.{PortIs, new_port, rehomed}
use Rattle.pf_move.specs.declared.mover.MoverAsk.{MoverAsk}
use Rattle.pf_move.specs.declared.mover.MoverAsk.TheVariants.{Reading, Writing}
use Rattle.pf_move.specs.declared.routes.Moving.{Moving}
use Rattle.pf_move.specs.Movers.{MoverIs, MoverStep, new_mover, step}
use Rattle.pf_move.specs.Routes.{RoutesIs, home_in, home_of_chunk}
use Rattle.pf_law_movers.specs.pf_law_ports.specs.Calls.{PortPast, new_past}
use Rattle.pf_law_movers.specs.pf_law_ports.specs.Driven.{Begins as BeginsDriven, IsDriven}
use Rattle.pf_world.specs.pf_group_rounds.specs.Chunks.{Chunk, made_chunk}
use Rattle.pf_world.specs.pf_group_rounds.specs.Halts.{Halt}
use Rattle.pf_world.specs.pf_chunk.specs.Runs.{ChunkRun, left_by_ports, mover_port, new_run, taking_ports}
use Rattle.pf_world.specs.pf_world_moments.specs.Moments.{Carries, Hands, Moment, Moves as MovesTo, Writes, Acts}
use Rattle.pf_world.specs.pf_world_hosts.specs.Volumes.{VolumeRun, carries_on, moved_from, chunk_moves, moves_from}
use Rattle.pf_world.specs.pf_world_hosts.specs.Volumes as volumes
use Rattle.pf_law_movers.specs.Pasts.{MoverTrace, PortTrace, at_carry, first_chunk, handed_at, is_some_of, moves_into, no_moves, no_trace, mover_numbered, past_in, trace_in, with_trace_of_port as with_port_of}
use Rattle.pf_law_runs.proofs.MoverStepsTold.{IsBearing, IsFree, no_one, step_asks}
use Rattle.pf_law_movers.proofs.Each.{one_more}
use Rattle.pf_law_movers.proofs.ChunkEpochs.{IsBegun}
use Rattle.pf_law_runs.proofs.MoverStepParts.{step_chunk}
use Rattle.pf_law_movers.proofs.ToldHearings.{AllGrow, IsSo, all_grown}
use Rattle.pf_law_runs.proofs.MoverPortsKept.{AreSo}
use Rattle.pf_law_movers.proofs.Lives.{its_own, not_its_own}
use Rattle.pf_law_runs.proofs.GroupPlaces.{came_from, placed_there, rehomed_at, with_both}
use Rattle.pf_law_movers.proofs.Ports.{HasAsked}
use Rattle.pf_law_runs.proofs.RoutesTold.{IsPair, began_routed, begins_so, new_is, none_moving, source_of}
use Rattle.pf_law_movers.proofs.ToldRoutes.{IsHome}
use Rattle.pf_law_runs.proofs.ScriptRuns.{new_group}
use Rattle.pf_law_runs.proofs.MoverSteps.{IsBorne, went}
use Rattle.pf_law_movers.proofs.MoverAsTold.{IsAsTold, MoverAsTold}
use Rattle.pf_law_movers.proofs.PortTraces.{asks_of, at_apart, at_same, is_hauled, IsElsewhere, IsWithin, moves_more, reading_apart}
use Rattle.pf_law_runs.proofs.Within.{grow_both}

-- A group of which nothing was told

pub every_of : (R : Moment → Type 0) (told : List Moment) → ((place : ℕ) (y : Moment) → slice_get told place ≡ Some y → R y) → Every R told
every_of R [] each = tt
every_of R (y ∷ told) each = (each zero y refl, every_of R told (λ place x at. each (suc place) x at))

module _ (count : ℕ) (chunks : List ChunkRun) (n : ℕ) (none : (c : ChunkRun) → slice_get chunks n ≡ Some c → ⊥) where
  abbrev IsStrange : Moment → Type 0
  IsStrange y = IsWithin n 0 y × IsElsewhere n y

  strange : (before : List Moment) (y : Moment) → IsSo count chunks before y → IsStrange y
  strange before (Hands m g place) is = ((λ same. absurd (none is.group (ap (slice_get chunks) (sym same) ∙ is.there))), tt)
  strange before (MovesTo chunk to) is = (tt, λ same. none is.group (ap (slice_get chunks) (sym same) ∙ is.there))
  strange before (Writes text) is = (tt, tt)
  strange before (Acts who act) is = (tt, tt)
  strange before (Carries chunk heard next) is = (tt, tt)

-- no mover's port into it was in use
record IsFresh (t : MoverTrace) : Type 0 where
  of : t.of ≡ None
  role : t.role ≡ None
  read : t.read ≡ no_trace

module _ (n : ℕ) where
  fresh_at : (y : Moment) (t : MoverTrace) → IsElsewhere n y → IsFresh t → IsFresh (at_carry [] n t y)
  fresh_at (MovesTo chunk to) t away f =
      let into : MoverTrace = record t { of = Some chunk; chunk = chunk; role = Some Writing; count = 0; written = no_trace } in
      let left : MoverTrace = record t { of = None; chunk = chunk; role = Some Reading; count = 0; read = no_trace } in
      let other : MoverTrace = record t { role = None } in
      subst IsFresh (sym (not_its_own to n into (if is_some_of t.of chunk then left else other) away ∙ ap (λ b. if b then left else other) (at_apart t.of chunk (λ same. none-some chunk (sym f.of ∙ same)))))
      (record { of = f.of; role = refl; read = f.read })
  fresh_at (Hands m g place) t away f =
      let change = handed_at (take_none place) (slice_get [] place) in
      by_test (m == mover_port && g == n) (λ b. IsFresh (if b then with_port_of change t.role t else t)) (λ _. subst IsFresh (sym (ap (λ o. with_port_of change o t) f.role)) f) (λ _. f)
    where
      take_none : ℕ → History
      take_none place = take place []
  fresh_at (Carries chunk heard next) t away f =
      let one : MoverTrace = record t { count = suc t.count } in
      by_test (chunk == t.chunk) (λ b. IsFresh (if b then mover_numbered (suc t.count) t.role next one else t)) (λ _. subst IsFresh (sym (ap (λ o. mover_numbered (suc t.count) o next one) f.role)) (record { of = f.of; role = f.role; read = f.read })) (λ _. f)
  fresh_at (Writes text) t away f = f
  fresh_at (Acts who act) t away f = f

  fresh_from : (told : List Moment) (t : MoverTrace) → Every (IsElsewhere n) told → IsFresh t → IsFresh (fold (at_carry [] n) t told)
  fresh_from [] t away f = f
  fresh_from (y ∷ told) t away f = fresh_from told (at_carry [] n t y) away.1 (fresh_at y t away.0 f)

  fresh_moves : (count : ℕ) (told : List Moment) → count ≤ n → Every (IsElsewhere n) told → IsFresh (moves_into [] n count told)
  fresh_moves count told le away = fresh_from told (no_moves (first_chunk count n)) away (record { of = ap (λ b. if b then Some n else None) (le-ltb n count le); role = refl; read = refl })

-- A port that goes there

rehomed_there : (ports : List PortIs) (m : ℕ) (p : PortIs) → slice_get ports m ≡ Some p → slice_get (map rehomed ports) m ≡ Some (rehomed p)
rehomed_there [] m p at = absurd (none-some p at)
rehomed_there (q ∷ ports) zero p at = ap (λ (x : PortIs). Some (rehomed x)) (same_Some q p at)
rehomed_there (q ∷ ports) (suc m) p at = rehomed_there ports m p at

-- The chunk leaves one group and goes to the other

module _ (halts : List Halt) (v : VolumeRun) (told : List Moment) (is : IsBorne v told) (rests : v.routes.moving ≡ None) (names format chunk h : ℕ) (home : home_of_chunk v.routes chunk ≡ Some h) where
  abbrev count : ℕ
  count = v.extent.chunks

  abbrev n : ℕ
  n = length v.chunks

  abbrev group : Chunk
  group = made_chunk halts v.extent.sectors names format n

  abbrev y : Moment
  y = MovesTo chunk n

  abbrev told_on : List Moment
  told_on = told ++ y ∷ []

  abbrev source : ChunkRun
  source = (source_of v told is.routed chunk h home).0

  source_there : slice_get v.chunks h ≡ Some source
  source_there = (source_of v told is.routed chunk h home).1

  abbrev chunks_on : List ChunkRun
  chunks_on = with_both v.chunks h source (new_run group)

  abbrev under : RoutesIs
  under = record v.routes { moving = Some (record { chunk = chunk; to = n }) }

  apart_home : n ≢ h
  apart_home same = let low = is.routed.routes.within chunk h home in omega (arith, low, same)

  nobody : (c : ChunkRun) → slice_get v.chunks n ≡ Some c → ⊥
  nobody c at = let low = slice_get_within v.chunks n c at in omega (arith, low)

  strange_all : Every (IsWithin n 0) told × Every (IsElsewhere n) told
  strange_all = (
    every_of (IsWithin n 0) told (λ place x at. (strange count v.chunks n nobody (take place told) x (is.so.each place x at)).0),
    every_of (IsElsewhere n) told (λ place x at. (strange count v.chunks n nobody (take place told) x (is.so.each place x at)).1),
  )

  had : asks_of count told h ≡ Some chunk
  had = (subst (IsHome (asks_of count told) chunk) home (is.routed.routes.homes chunk)).here

  -- another group has not the asks of the chunk
  away : (k : ℕ) → k ≢ h → asks_of count told k ≡ Some chunk → ⊥
  away k other has = other ((subst (IsHome (asks_of count told) chunk) home (is.routed.routes.homes chunk)).alone k has)

  -- no chunk is moving: the mover's ports have nothing to ask
  none_there : (o : Option MoverIs) → IsPair None o → IsBearing count told v.chunks v.routes None o → HasAsked no_one mover_port None v.chunks
  none_there None pair bears = bears
  none_there (Some mover) pair bears = absurd pair

  quiet : HasAsked no_one mover_port None v.chunks
  quiet = none_there v.mover (subst (λ m. IsPair m v.mover) rests is.routed.pair) (subst (λ m. IsBearing count told v.chunks v.routes m v.mover) rests is.bears)

  -- What the moment is to the traces

  module _ (history : History) (k : ℕ) where
    abbrev u : MoverTrace
    u = moves_into history k count told

    abbrev into : MoverTrace
    into = record u { of = Some chunk; chunk = chunk; role = Some Writing; count = 0; written = no_trace }

    abbrev left : MoverTrace
    left = record u { of = None; chunk = chunk; role = Some Reading; count = 0; read = no_trace }

    abbrev other : MoverTrace
    other = record u { role = None }

    moves_new : n ≡ k → moves_into history k count told_on ≡ into
    moves_new same = moves_more history k count told y ∙ its_own n k into (if is_some_of u.of chunk then left else other) same

    moves_left : n ≢ k → asks_of count told k ≡ Some chunk → moves_into history k count told_on ≡ left
    moves_left apart has =
        moves_more history k count told y ∙ not_its_own n k into (if is_some_of u.of chunk then left else other) apart ∙ ap (λ b. if b then left else other) (at_same u.of chunk ((is_hauled history k count told).of ∙ has))

    moves_other : n ≢ k → (asks_of count told k ≡ Some chunk → ⊥) → moves_into history k count told_on ≡ other
    moves_other apart none =
        moves_more history k count told y ∙ not_its_own n k into (if is_some_of u.of chunk then left else other) apart
        ∙ ap (λ b. if b then left else other) (at_apart u.of chunk (λ same. none (sym (is_hauled history k count told).of ∙ same)))

  -- The groups

  within_on : (k : ℕ) (c : ChunkRun) → IsAsTold count told k c → Every (IsWithin k (length c.group.history)) told_on
  within_on k c its = every_append (IsWithin k (length c.group.history)) told (y ∷ []) its.within (tt, tt)

  -- the one that the ports leave
  left_told : IsAsTold count told h source → IsAsTold count told_on h (left_by_ports source)
  left_told its = record {
    number = its.number;
    stands = its.stands;
    within = within_on h source its;
    hauled = by;
  }
    where
      history : History
      history = source.group.history

      now : moves_into source.group.history h count told_on ≡ left source.group.history h
      now = moves_left source.group.history h apart_home had

      by : (role : MoverAsk) → MoverAsTold count told_on h (left_by_ports source) role
      by Reading = record {
        port = new_port;
        its = subst (λ (x : MoverTrace). IsDriven source.group.setup (past_in source.group.history x.read) new_port) (sym now) (BeginsDriven source.group.history);
        there = λ _. refl;
      }
      by Writing =
          let was = its.hauled Writing in record {
            port = was.port;
            its = subst (λ (x : MoverTrace). IsDriven source.group.setup (past_in source.group.history x.written) was.port) (sym now) was.its;
            there = λ has. absurd (reading_apart (same_Some Reading Writing (sym (ap (λ (x : MoverTrace). x.role) now) ∙ has)));
          }

  -- any other that was there
  other_told : (k : ℕ) (c : ChunkRun) → n ≢ k → k ≢ h → IsAsTold count told k c → IsAsTold count told_on k c
  other_told k c apart elsewhere its =
      let now = moves_other c.group.history k apart (away k elsewhere) in record {
        number = its.number;
        stands = its.stands;
        within = within_on k c its;
        hauled = λ role.
            let was = its.hauled role in record {
              port = was.port;
              its = subst (λ (past : PortPast). IsDriven c.group.setup past was.port) (sym (ap (λ (x : MoverTrace). past_in c.group.history (trace_in x role)) now ∙ role_past c.group.history k role)) was.its;
              there = λ has. absurd (none-some role (sym (ap (λ (x : MoverTrace). x.role) now) ∙ has));
            };
      }
    where
      role_past : (history : History) (k : ℕ) (role : MoverAsk) → past_in history (trace_in (other history k) role) ≡ past_in history (trace_in (u history k) role)
      role_past history k Reading = refl
      role_past history k Writing = refl

  -- the new one
  abbrev target : ChunkRun
  target = taking_ports source (new_run group)

  new_told : IsAsTold count told h source → IsAsTold count told_on n target
  new_told its = record {
    number = refl;
    stands = refl;
    within = every_append (IsWithin n 0) told (y ∷ []) strange_all.0 (tt, tt);
    hauled = by;
  }
    where
      now : moves_into [] n count told_on ≡ into [] n
      now = moves_new [] n refl

      fresh : IsFresh (moves_into [] n count told)
      fresh = fresh_moves n count told is.routed.routes.made strange_all.1

      mover_port_there : (p : PortIs) × (slice_get source.ports mover_port ≡ Some p)
      mover_port_there = something_there source.ports mover_port (let full = (is.placed h source source_there).ports in omega (arith, full))

      unasked : mover_port_there.0.ask ≡ None
      unasked = quiet h source mover_port_there.0 source_there mover_port_there.1

      by : (role : MoverAsk) → MoverAsTold count told_on n target role
      by Writing = record {
        port = rehomed mover_port_there.0;
        its = subst (λ (x : MoverTrace). IsDriven group.setup (past_in [] x.written) (rehomed mover_port_there.0)) (sym now)
            (subst (λ a. let q : PortIs = record { ask = a; sent = None; last = 0 } in IsDriven group.setup (new_past []) q) (sym unasked) (BeginsDriven []));
        there = λ _. rehomed_there source.ports mover_port mover_port_there.0 mover_port_there.1;
      }
      by Reading = record {
        port = new_port;
        its = subst (λ (x : MoverTrace). IsDriven group.setup (past_in [] x.read) new_port) (sym now)
            (subst (λ (x : PortTrace). IsDriven group.setup (past_in [] x) new_port) (sym fresh.read) (BeginsDriven []));
        there = λ has. absurd (reading_apart (sym (same_Some Writing Reading (sym (ap (λ (x : MoverTrace). x.role) now) ∙ has))));
      }

  -- All of them

  abbrev where_from : (k : ℕ) (c : ChunkRun) → slice_get chunks_on k ≡ Some c → ((k ≡ h) × (left_by_ports source ≡ c)) ⊎ ((k ≢ h) × (slice_get v.chunks k ≡ Some c)) ⊎ ((k ≡ n) × (target ≡ c))
  where_from = came_from v.chunks h source (new_run group)

  grown_on : AllGrow v.chunks chunks_on
  grown_on = grow_both v.chunks h source (new_run group) source_there

  target_there : slice_get chunks_on n ≡ Some target
  target_there = ap (slice_get chunks_on) (sym (set_length v.chunks h (left_by_ports source))) ∙ at_end (slice_set v.chunks h (left_by_ports source)) target

  all_as_told : (k : ℕ) (c : ChunkRun) → slice_get chunks_on k ≡ Some c → IsAsTold count told_on k c
  all_as_told k c at = elim (where_from k c at) [
    | inl here ↦ subst (λ (i : ℕ). IsAsTold count told_on i c) (sym here.0) (subst (IsAsTold count told_on h) here.1 (left_told (is.so.ports h source source_there)))
    | inr more ↦ elim more [
      | inl old ↦ other_told k c (λ same. nobody c (ap (slice_get v.chunks) same ∙ old.1)) old.0 (is.so.ports k c old.1)
      | inr new ↦ subst (λ (i : ℕ). IsAsTold count told_on i c) (sym new.0) (subst (IsAsTold count told_on n) new.1 (new_told (is.so.ports h source source_there)))
    ]
  ]

  begun : IsBegun count told chunk n
  begun = begins_so v told is.routed chunk h home rests

  pub leaves_so : AreSo count told_on chunks_on
  leaves_so = record {
    ports = all_as_told;
    each = one_more (IsSo count chunks_on) told y (all_grown count told v.chunks chunks_on grown_on is.so.each) (record {
      small = begun.small;
      rests = begun.rests;
      behind = begun.behind;
      fresh = begun.fresh;
      group = target;
      there = target_there;
    });
  }

  pub leaves_free : IsFree count told_on chunks_on under (record { chunk = chunk; to = n })
  leaves_free = record {
    from = h;
    from_is = sym (ap (λ o. home_in v.routes.routes o chunk) rests) ∙ home;
    apart = λ same. apart_home (sym same);
    free = free_ports;
    roles = record {
      reads = λ history. (ap (λ (x : MoverTrace). x.role) (moves_left history h apart_home had), ap (λ (x : MoverTrace). x.chunk) (moves_left history h apart_home had));
      writes = λ history. (ap (λ (x : MoverTrace). x.role) (moves_new history n refl), ap (λ (x : MoverTrace). x.chunk) (moves_new history n refl));
      others = λ history k elsewhere apart. ap (λ (x : MoverTrace). x.role) (moves_other history k (λ same. apart (sym same)) (away k elsewhere));
    };
  }
    where
      free_ports : HasAsked no_one mover_port None chunks_on
      free_ports k c port at its = elim (where_from k c at) [
        | inl here ↦ ap (λ (p : PortIs). p.ask) (sym (same_Some new_port port (ap (λ (x : ChunkRun). slice_get x.ports mover_port) here.1 ∙ its)))
        | inr more ↦ elim more [
          | inl old ↦ quiet k c port old.1 its
          | inr new ↦
              let was = rehomed_at source.ports mover_port port (ap (λ (x : ChunkRun). slice_get x.ports mover_port) new.1 ∙ its) in
              ap (λ (p : PortIs). p.ask) was.2 ∙ quiet h source was.0 source_there was.1
        ]
      ]

-- The line

module _ (halts : List Halt) where
  pub moves_so : (v : VolumeRun) (told : List Moment) (names format chunk : ℕ) → is_some v.routes.moving ≡ false → IsBorne v told
      → let t : volumes.VolumeTold = chunk_moves chunk (new_group halts v names format) v in IsBorne t.volume (told ++ t.told)
  moves_so v told names format chunk free is = by (home_of_chunk v.routes chunk) refl
    where
      by : (o : Option ℕ) → home_of_chunk v.routes chunk ≡ o → let t : volumes.VolumeTold = moves_from chunk o (new_group halts v names format) v in IsBorne t.volume (told ++ t.told)
      by None at = subst (IsBorne v) (sym (append-nil told)) is
      by (Some h) at =
          let rests = none_moving v.routes.moving free in
          let group = made_chunk halts v.extent.sectors names format (length v.chunks) in
          let m : MoverIs = new_mover chunk (v.extent.sectors / 8) in
          let s : MoverStep = step m None in
          let moving : Moving = record { chunk = chunk; to = length v.chunks } in
          let source = source_of v told is.routed chunk h at in
          let new : List ChunkRun = with_both v.chunks h source.0 (new_run group) in
          let w : List ChunkRun → VolumeRun = λ chunks. record v { chunks = chunks; routes = record v.routes { moving = Some moving }; mover = Some m } in
          let on = told ++ MovesTo chunk (length v.chunks) ∷ [] in
          let done = went (w new) on (began_routed v told is.routed chunk h at rests (new_run group) m refl) (placed_there v.chunks h source.0 (new_run group) source.1 refl is.placed) (leaves_so halts v told is rests names format chunk h at) moving refl (leaves_free halts v told is rests names format chunk h at) m s.mover refl (step_chunk m None) None tt s.next (step_asks m None) in
          let t : volumes.VolumeTold = carries_on (moved_from v chunk h (new_run group)) None s in
          subst (IsBorne t.volume) (append_assoc told (MovesTo chunk (length v.chunks) ∷ []) t.told)
          (subst (λ (chunks : List ChunkRun). let x : volumes.VolumeTold = carries_on (w chunks) None s in IsBorne x.volume (on ++ x.told)) (sym (new_is v told is.routed chunk h at (new_run group))) done.0)
