-- In every run the routes are what was told, and a chunk that begins to move was at rest.
use Rattle.std.proofs.Common.{◌≡◌, ℕ, ◌/◌, ◌<◌, List, [], ◌∷◌, ◌++◌, length, Option, Some, None, slice_get, slice_set, false, refl, sym, ap, subst, ◌∙◌, append-nil}
use Rattle.std.specs.Option.{is_some, option_map}
use Rattle.std.proofs.lemmas.Bool.{false≢true}
use Rattle.std.proofs.lemmas.List.{append_assoc}
use Rattle.pf_base.specs.declared.asks.Ask.{Ask}
use Rattle.pf_base.specs.declared.asks.Ask.TheVariants as asks
use Rattle.pf_entry.specs.Lists.{Every}
use Rattle.pf_law_movers.specs.pf_group_network.proofs.Lists.{set_length, something_there}
use Rattle.pf_volume.specs.Volumes.{Extent}
use Rattle.pf_move.specs.declared.mover.MoveNext.{MoveNext}
use Rattle.pf_move.specs.declared.mover.MoveNext.TheVariants.{Read, Switch, Write}
use Rattle.pf_move.specs.declared.routes.Moving.{Moving}
use Rattle.pf_move.specs.declared.routes.Route.{Route}
use Rattle.pf_move.specs.Movers.{MoverIs, MoverStep, new_mover, step}
use Rattle.pf_move.specs.Routes.{Between, RoutesIs, between, home_of_chunk, routes_switched}
use Rattle.pf_report.specs.Moves.{moved_text}
use Rattle.pf_report.specs.Texts.{event_line}
use Rattle.pf_world.specs.pf_group_rounds.specs.Halts.{Halt}
use Rattle.pf_world.specs.pf_chunk.specs.Runs.{ChunkRun, mover_port}
use Rattle.pf_world.specs.pf_world_moments.specs.Moments.{Carries, Hands, Heard, Moment, Moves as MovesTo, Writes, Acts}
use Rattle.pf_world.specs.pf_world_moments.specs.Hosts.{drove, handed_moments, put_at}
use Rattle.pf_world.specs.pf_world_hosts.specs.Volumes.{VolumeRun, carries, moved_from, moves_from, with_new}
use Rattle.pf_world.specs.pf_world_hosts.specs.Volumes as volumes
use Rattle.pf_world.specs.declared.kind.Kind.{Kind}
use Rattle.pf_world.specs.pf_live_session.specs.Sessions.{Session}
use Rattle.pf_world.specs.declared.line.Line.{Line}
use Rattle.pf_world.specs.Reports.{world_run}
use Rattle.pf_world.specs.Worlds.{volume_made}
use Rattle.pf_law_movers.specs.Epochs.{group_of_epoch, home_of_group, group_of_now}
use Rattle.pf_law_movers.specs.Movers.{IsOnTheMove}
use Rattle.pf_law_runs.specs.Scripts.{IsScript}
use Rattle.pf_law_movers.proofs.Each.{AreEach, all_more, each_at, none_told, one_more}
use Rattle.pf_law_movers.proofs.ChunkEpochs.{AreBegun, IsBegun, group_home}
use Rattle.pf_law_runs.proofs.MoverStepParts.{hauled, step_chunk}
use Rattle.pf_law_runs.proofs.GroupPlaces.{one_longer, with_both}
use Rattle.pf_law_runs.proofs.KeptByPorts.{IsKeptByPorts, IsSaid}
use Rattle.pf_law_movers.proofs.Ports.{drives_at, put_counts}
use Rattle.pf_law_movers.proofs.ToldRoutes.{AreRoutes, IsAsk, IsStill, all_rest, ask_routes, begins_fresh, move_routes, on_the_move, small, still_routes, switch_routes, switched_is}
use Rattle.pf_law_runs.proofs.ScriptRuns.{new_group}
use Rattle.pf_law_runs.proofs.FirstRoutes.{new_routes}
use Rattle.pf_law_runs.proofs.KeptThroughout.{HoldsOf, IsKeptByParts, throughout}

-- there is a mover exactly while its chunk is moving
abbrev pub IsPair : Option Moving → Option MoverIs → Type 0
IsPair None None = Unit {0}
IsPair (Some moving) (Some mover) = mover.chunk ≡ moving.chunk
IsPair moving mover = ⊥

pair_on : (moving : Option Moving) (old mover : MoverIs) → mover.chunk ≡ old.chunk → IsPair moving (Some old) → IsPair moving (Some mover)
pair_on None old mover same pair = pair
pair_on (Some moving) old mover same pair = same ∙ pair

pub paired : (moving : Option Moving) (old : MoverIs) → IsPair moving (Some old) → (its : Moving) × (moving ≡ Some its) × (old.chunk ≡ its.chunk)
paired None old pair = absurd pair
paired (Some its) old pair = (its, refl, pair)

pub none_moving : (moving : Option Moving) → is_some moving ≡ false → moving ≡ None
none_moving None none = refl
none_moving (Some moving) none = absurd (false≢true (sym none))

-- the routes are what was told, and there is a mover while a chunk is moving
pub record IsRouted (count : ℕ) (r : RoutesIs) (mover : Option MoverIs) (chunks : List ChunkRun) (told : List Moment) : Type 0 where
  pub routes : AreRoutes count (length chunks) r told
  pub pair : IsPair r.moving mover

abbrev pub RoutedOf : VolumeRun → List Moment → Type 0
RoutedOf v told = IsRouted v.extent.chunks v.routes v.mover v.chunks told

-- as many groups, and more was told
pub still_routed : (count : ℕ) (r : RoutesIs) (mover : Option MoverIs) (chunks new : List ChunkRun) (told more : List Moment) → length new ≡ length chunks → Every IsStill more → IsRouted count r mover chunks told → IsRouted count r mover new (told ++ more)
still_routed count r mover chunks new told more same still is = record {
  routes = subst (λ n. AreRoutes count n r (told ++ more)) (sym same) (still_routes count (length chunks) r told more still is.routes);
  pair = is.pair;
}

-- nothing is told
pub same_routed : (count : ℕ) (r : RoutesIs) (mover : Option MoverIs) (chunks new : List ChunkRun) (told : List Moment) → length new ≡ length chunks → IsRouted count r mover chunks told → IsRouted count r mover new told
same_routed count r mover chunks new told same is = subst (IsRouted count r mover new) (append-nil told) (still_routed count r mover chunks new told [] same tt is)

-- the chunk of the mover is moving
abbrev pub chunk_moving : (v : VolumeRun) (told : List Moment) → RoutedOf v told → (old : MoverIs) → v.mover ≡ Some old → (its : Moving) × (v.routes.moving ≡ Some its) × (old.chunk ≡ its.chunk)
chunk_moving v told is old its = paired v.routes.moving old (subst (IsPair v.routes.moving) its is.pair)

-- The mover goes on

module _ (v : VolumeRun) (told : List Moment) (is : RoutedOf v told) (old mover : MoverIs) (its : v.mover ≡ Some old) (same : mover.chunk ≡ old.chunk) (heard : Option Heard) where
  abbrev moving_is : (its : Moving) × (v.routes.moving ≡ Some its) × (old.chunk ≡ its.chunk)
  moving_is = chunk_moving v told is old its

  asks_routed : (next : MoveNext) → IsAsk next → (group : Option ℕ) (ask : Ask) → IsRouted v.extent.chunks v.routes (Some mover) (put_at v.chunks group mover_port ask) (told ++ Carries mover.chunk heard next ∷ [])
  asks_routed next asks_so group ask = record {
    routes = subst (λ n. AreRoutes v.extent.chunks n v.routes (told ++ Carries mover.chunk heard next ∷ [])) (sym (put_counts mover_port ask v.chunks group)) (ask_routes v.extent.chunks (length v.chunks) v.routes told is.routes mover.chunk heard next asks_so);
    pair = pair_on v.routes.moving old mover same (subst (IsPair v.routes.moving) its is.pair);
  }

  pub carries_routed : (next : MoveNext) → RoutedOf (carries v mover heard next).volume (told ++ (carries v mover heard next).told)
  carries_routed (Read span) = asks_routed (Read span) tt (option_map (λ (b : Between). b.from) (between v.routes)) (asks.Read mover.chunk span)
  carries_routed (Write span sectors) = asks_routed (Write span sectors) tt (option_map (λ (b : Between). b.to) (between v.routes)) (asks.Write mover.chunk span sectors)
  carries_routed Switch =
      let count = v.extent.chunks in
      let y : Moment = Carries mover.chunk heard Switch in
      let line : Moment = Writes (event_line (moved_text mover.chunk)) in
      let first = subst (λ c. AreRoutes count (length v.chunks) (routes_switched v.routes) (told ++ Carries c heard Switch ∷ [])) (sym (same ∙ moving_is.2)) (switch_routes count (length v.chunks) v.routes told is.routes moving_is.0 moving_is.1 heard) in record {
        routes = subst (AreRoutes count (length v.chunks) (routes_switched v.routes)) (append_assoc told (y ∷ []) (line ∷ [])) (still_routes count (length v.chunks) (routes_switched v.routes) (told ++ y ∷ []) (line ∷ []) (tt, tt) first);
        pair = subst (λ (x : RoutesIs). IsPair x.moving None) (sym (switched_is count (length v.chunks) v.routes told is.routes moving_is.0 moving_is.1)) tt;
      }

  -- its chunk is on the move
  pub moves_there : IsOnTheMove v.extent.chunks told mover.chunk
  moves_there = subst (IsOnTheMove v.extent.chunks told) (sym (same ∙ moving_is.2)) (on_the_move v.extent.chunks (length v.chunks) v.routes told is.routes moving_is.0 moving_is.1)

-- A chunk begins to move

module _ (v : VolumeRun) (told : List Moment) (is : RoutedOf v told) (chunk h : ℕ) (home : home_of_chunk v.routes chunk ≡ Some h) where
  abbrev n : ℕ
  n = length v.chunks

  -- the group that has its asks
  pub source_of : (c : ChunkRun) × (slice_get v.chunks h ≡ Some c)
  source_of = something_there v.chunks h (is.routes.within chunk h home)

  pub new_is : (new : ChunkRun) → with_new v.chunks h (slice_get v.chunks h) new ≡ with_both v.chunks h source_of.0 new
  new_is new = ap (λ o. with_new v.chunks h o new) source_of.1

  module _ (rests : v.routes.moving ≡ None) where
    pub begins_so : IsBegun v.extent.chunks told chunk n
    begins_so = record {
      small = small v.extent.chunks n v.routes told is.routes rests chunk h home;
      rests = all_rest v.extent.chunks n v.routes told is.routes rests chunk h home;
      behind = is.routes.made;
      fresh = begins_fresh v.extent.chunks n v.routes told is.routes rests chunk h home;
    }

    pub began_routed : (new : ChunkRun) (mover : MoverIs) → mover.chunk ≡ chunk
        → IsRouted v.extent.chunks (record v.routes { moving = Some (record { chunk = chunk; to = n }) }) (Some mover) (with_both v.chunks h source_of.0 new) (told ++ MovesTo chunk n ∷ [])
    began_routed new mover its = record {
      routes = subst (λ i. AreRoutes v.extent.chunks i (record v.routes { moving = Some (record { chunk = chunk; to = n }) }) (told ++ MovesTo chunk n ∷ [])) (sym (one_longer v.chunks h source_of.0 new))
          (move_routes v.extent.chunks n v.routes told is.routes rests chunk h home);
      pair = its;
    }

-- What was told of moves

abbrev pub IsMoveSo : (count : ℕ) → List Moment → Moment → Type 0
IsMoveSo count before (MovesTo chunk to) = IsBegun count before chunk to
IsMoveSo count before (Carries chunk heard next) = IsOnTheMove count before chunk
IsMoveSo count before moment = Unit {0}

still_so : (count : ℕ) (before : List Moment) (y : Moment) → IsStill y → IsMoveSo count before y
still_so count before (MovesTo chunk to) still = absurd still
still_so count before (Carries chunk heard next) still = absurd still
still_so count before (Writes text) still = tt
still_so count before (Acts who act) still = tt
still_so count before (Hands m k place) still = tt

pub said_still : (y : Moment) → IsSaid y → IsStill y
said_still (MovesTo chunk to) said = said
said_still (Carries chunk heard next) said = said
said_still (Hands m k place) said = tt
said_still (Writes text) said = tt
said_still (Acts who act) said = tt

pub handed_still : (m k : ℕ) (place : Option ℕ) → Every IsStill (handed_moments m k place)
handed_still m k None = tt
handed_still m k (Some place) = (tt, tt)

-- the routes are so, and so is each moment of a move
pub record AreRouted (count : ℕ) (r : RoutesIs) (mover : Option MoverIs) (chunks : List ChunkRun) (told : List Moment) : Type 0 where
  pub is : IsRouted count r mover chunks told
  pub each : AreEach (IsMoveSo count) told

abbrev pub Routed : Extent → RoutesIs → Option MoverIs → List ChunkRun → List Moment → Type 0
Routed e r mover chunks told = AreRouted e.chunks r mover chunks told

module _ (count : ℕ) (r : RoutesIs) (mover : Option MoverIs) where
  stays_routed : (chunks new : List ChunkRun) (told more : List Moment) → length new ≡ length chunks → Every IsStill more → AreRouted count r mover chunks told → AreRouted count r mover new (told ++ more)
  stays_routed chunks new told more same still are = record {
    is = still_routed count r mover chunks new told more same still are.is;
    each = all_more (IsMoveSo count) IsStill (still_so count) told more are.each still;
  }

  quietly_routed : (chunks new : List ChunkRun) (told : List Moment) → length new ≡ length chunks → AreRouted count r mover chunks told → AreRouted count r mover new told
  quietly_routed chunks new told same are = record { is = same_routed count r mover chunks new told same are.is; each = are.each }

  routed_ports : (kind : Option Kind) → IsKeptByPorts kind (AreRouted count r mover)
  routed_ports kind = record {
    telling = λ chunks told y said. stays_routed chunks chunks told (y ∷ []) refl (said_still y said, tt);
    growing = λ chunks told k c d at ports grows adds. quietly_routed chunks (slice_set chunks d.group.number d) told (set_length chunks d.group.number d);
    putting = λ chunks told group m ask low. quietly_routed chunks (put_at chunks group m ask) told (put_counts m ask chunks group);
    stepping = λ chunks told k c m d low at step. stays_routed chunks (slice_set chunks k d.chunk) told (handed_moments m k d.place) (set_length chunks k d.chunk) (handed_still m k d.place);
  }

carried_so : (v : VolumeRun) (told : List Moment) (old mover : MoverIs) → v.mover ≡ Some old → mover.chunk ≡ old.chunk → (heard : Option Heard) (next : MoveNext) → HoldsOf Routed v told → HoldsOf Routed (carries v mover heard next).volume (told ++ (carries v mover heard next).told)
carried_so v told old mover its same heard next are =
    by next (carries_routed v told are.is old mover its same heard next)
  where
    one : (next : MoveNext) → AreEach (IsMoveSo v.extent.chunks) (told ++ Carries mover.chunk heard next ∷ [])
    one next = one_more (IsMoveSo v.extent.chunks) told (Carries mover.chunk heard next) are.each (moves_there v told are.is old mover its same heard)

    by : (next : MoveNext) → RoutedOf (carries v mover heard next).volume (told ++ (carries v mover heard next).told) → HoldsOf Routed (carries v mover heard next).volume (told ++ (carries v mover heard next).told)
    by (Read span) is = record { is = is; each = one (Read span) }
    by (Write span sectors) is = record { is = is; each = one (Write span sectors) }
    by Switch is =
        let y : Moment = Carries mover.chunk heard Switch in
        let line : Moment = Writes (event_line (moved_text mover.chunk)) in record {
          is = is;
          each = subst (AreEach (IsMoveSo v.extent.chunks)) (append_assoc told (y ∷ []) (line ∷ [])) (all_more (IsMoveSo v.extent.chunks) IsStill (still_so v.extent.chunks) (told ++ y ∷ []) (line ∷ []) (one Switch) (tt, tt));
        }

-- so moves and the mover's calls are as they are to be
pub all_begun : (count : ℕ) (told : List Moment) → AreEach (IsMoveSo count) told → AreBegun count told
all_begun count told each = record {
  begins = λ before after chunk to same. each_at (IsMoveSo count) told before (MovesTo chunk to) after each same;
  carries = λ before after chunk heard next same. each_at (IsMoveSo count) told before (Carries chunk heard next) after each same;
}

module _ (halts : List Halt) where
  moves_so : (v : VolumeRun) (told : List Moment) (names format chunk : ℕ) (o : Option ℕ) → v.routes.moving ≡ None → home_of_chunk v.routes chunk ≡ o → HoldsOf Routed v told
      → let t : volumes.VolumeTold = moves_from chunk o (new_group halts v names format) v in HoldsOf Routed t.volume (told ++ t.told)
  moves_so v told names format chunk None rests at are = subst (HoldsOf Routed v) (sym (append-nil told)) are
  moves_so v told names format chunk (Some h) rests at are =
      let new = new_group halts v names format in
      let m : MoverIs = new_mover chunk (v.extent.sectors / 8) in
      let s : MoverStep = step m None in
      let y : Moment = MovesTo chunk (length v.chunks) in
      let w : VolumeRun = moved_from v chunk h new in
      let first = subst (λ (chunks : List ChunkRun). HoldsOf Routed (record w { chunks = chunks; mover = Some m }) (told ++ y ∷ [])) (sym (new_is v told are.is chunk h at new)) (record {
        is = began_routed v told are.is chunk h at rests new m refl;
        each = one_more (IsMoveSo v.extent.chunks) told y are.each (begins_so v told are.is chunk h at rests);
      }) in
      let t : volumes.VolumeTold = carries w s.mover None s.next in
      subst (HoldsOf Routed t.volume) (append_assoc told (y ∷ []) t.told) (carried_so (record w { mover = Some m }) (told ++ y ∷ []) m s.mover refl (step_chunk m None) None s.next first)

  -- the mover's port takes a step
  pub drives_routed : (v : VolumeRun) (told : List Moment) (k : ℕ) → HoldsOf Routed v told → HoldsOf Routed (record v { chunks = (drove halts v.chunks mover_port k).chunks }) (told ++ (drove halts v.chunks mover_port k).told)
  drives_routed v told k its =
      let d = drives_at halts v.chunks mover_port k in
      stays_routed v.extent.chunks v.routes v.mover v.chunks (drove halts v.chunks mover_port k).chunks told (drove halts v.chunks mover_port k).told d.count d.still its

  -- and it carries on
  pub answers_routed : (v : VolumeRun) (told : List Moment) (old : MoverIs) (heard : Heard) → v.mover ≡ Some old → HoldsOf Routed v told
      → let s : MoverStep = step old (Some heard.reply) in HoldsOf Routed (carries v s.mover (Some heard) s.next).volume (told ++ (carries v s.mover (Some heard) s.next).told)
  answers_routed v told old heard there its = let s : MoverStep = step old (Some heard.reply) in carried_so v told old s.mover there (step_chunk old (Some heard.reply)) (Some heard) s.next its

  pub all_routed : IsKeptByParts halts (λ kind. Routed)
  all_routed = record {
    deciding = λ kind e r mover chunks told are. are;
    ports = λ kind e r mover. routed_ports e.chunks r mover kind;
    carrying = λ kind v told are. hauled halts (HoldsOf Routed) (λ w so_far k group. drives_routed w so_far k) answers_routed v told are;
    moving = λ v told names format chunk free are. moves_so v told names format chunk (home_of_chunk v.routes chunk) (none_moving v.routes.moving free) refl are;
  }

  pub new_routed : (sessions : List Session) (chunks sectors names format : ℕ) → HoldsOf Routed (volume_made halts sessions chunks sectors names format).volume []
  new_routed sessions chunks sectors names format = record { is = record { routes = new_routes halts sessions chunks sectors names format; pair = tt }; each = none_told (IsMoveSo chunks) }

  module _ (sessions : List Session) (lines : List Line) (script : IsScript lines) where
    run_routed : HoldsOf Routed (world_run halts sessions lines).world.volume (world_run halts sessions lines).told
    run_routed = throughout halts (λ kind. Routed) all_routed new_routed sessions lines script

    -- each chunk is served by the group that was told
    pub routes_told : (chunk : ℕ) (route : Route) → slice_get (world_run halts sessions lines).world.volume.routes.routes chunk ≡ Some route → group_of_now (world_run halts sessions lines).told chunk ≡ Some route.group
    routes_told chunk route there = (run_routed.is.routes.served chunk route there).0

    begun : AreBegun (world_run halts sessions lines).world.volume.extent.chunks (world_run halts sessions lines).told
    begun = let run = world_run halts sessions lines in all_begun run.world.volume.extent.chunks run.told run_routed.each

    -- no group has two chunks
    pub groups_apart : (chunk epoch group : ℕ) → chunk < (world_run halts sessions lines).world.volume.extent.chunks → group_of_epoch (world_run halts sessions lines).told chunk epoch ≡ Some group
        → home_of_group (world_run halts sessions lines).world.volume.extent.chunks (world_run halts sessions lines).told group ≡ Some (record { chunk = chunk; epoch = epoch })
    groups_apart chunk epoch group low at = group_home (world_run halts sessions lines).world.volume.extent.chunks (world_run halts sessions lines).told begun chunk epoch group low at
