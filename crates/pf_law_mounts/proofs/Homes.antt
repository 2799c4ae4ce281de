-- The group that has a chunk's asks is the last one of its service; and where it serves the chunk, that is not moving.
use Rattle.std.proofs.Common.{◌≡◌, ℕ, zero, suc, pred, ◌<◌, ◌==◌, Bool, true, false, if◌then◌else◌, List, length, Option, Some, None, slice_get, arith, refl, sym, ap, subst, ◌∙◌}
use Rattle.std.specs.Option.{option_map}
use Rattle.std.proofs.lemmas.Bool.{eqb-true, false≢true}
use Rattle.std.proofs.lemmas.Option.{same_Some}
use Rattle.pf_entry.proofs.Cases.{by_test}
use Rattle.pf_law_runs.specs.pf_group_network.proofs.Lists.{something_there}
use Rattle.pf_move.specs.declared.routes.Moving.{Moving}
use Rattle.pf_move.specs.declared.routes.Route.{Route}
use Rattle.pf_move.specs.Routes.{RoutesIs, home_in, home_of_chunk, group_serving, group_serving_in}
use Rattle.pf_move.specs.Routes as routes
use Rattle.pf_law_positions.specs.Deeds.{Deed}
use Rattle.pf_law_runs.specs.pf_law_service.specs.Services.{Service}
use Rattle.pf_law_runs.specs.pf_law_service.specs.Served.{Asks, Grows, Hands, Hears, ChunkIsServed, Moves, Opens, Passes, Switches}
use Rattle.pf_law_runs.specs.pf_world.specs.pf_chunk.specs.Runs.{ChunkRun}
use Rattle.pf_law_runs.specs.pf_world.specs.pf_world_moments.specs.Moments.{Moment}
use Rattle.pf_law_runs.specs.pf_law_movers.specs.Epochs.{epoch_of, group_of_epoch, groups_in_turn}
use Rattle.pf_law_runs.specs.pf_law_movers.proofs.ToldRoutes.{AreRoutes, IsHome, IsHomeOf, on_the_move, served_is}
use Rattle.pf_law_runs.specs.pf_law_movers.proofs.ToldRoutes as routing
use Rattle.pf_law_runs.specs.pf_law_movers.proofs.PortTraces.{asks_of}
use Rattle.pf_law_mounts.proofs.Known.{IsServing}

-- a chunk that is moving has moved before
pub moving_late : (chunk : ℕ) (s : Service) (ds : List Deed) → ChunkIsServed chunk s ds → s.moving ≡ true → 0 < s.epoch
moving_late chunk _ _ (Opens setup history) moves = absurd (false≢true moves)
moving_late chunk _ _ (Grows s ds epoch more is) moves = moving_late chunk s ds is moves
moving_late chunk _ _ (Passes s ds is) moves = moving_late chunk s ds is moves
moving_late chunk _ _ (Asks s ds mount client ask its of none is) moves = moving_late chunk s ds is moves
moving_late chunk _ _ (Hands s ds mount owed new next steps one is) moves = moving_late chunk s ds is moves
moving_late chunk _ _ (Hears s ds mount owed reply answer next steps answers is) moves = moving_late chunk s ds is moves
moving_late chunk _ _ (Moves s ds setup history steady is) moves = omega arith
moving_late chunk _ _ (Switches s ds moving is) moves = absurd (false≢true moves)

less_than_itself : (n : ℕ) → 0 < n → n ≡ pred n → ⊥
less_than_itself zero low same = omega (arith, low)
less_than_itself (suc n) low same = omega (arith, same)

still_serving : (s : Service) (moving : Bool) → s.moving ≡ moving → s.epoch ≡ (if moving then pred s.epoch else s.epoch) → (moving ≡ true → 0 < s.epoch) → moving ≡ false
still_serving s true is same late = absurd (less_than_itself s.epoch (late refl) same)
still_serving s false is same late = refl

module _ (count n : ℕ) (r : RoutesIs) (told : List Moment) (are : AreRoutes count n r told) where
  -- two chunks have their asks in two groups
  pub homes_apart : (chunk other k : ℕ) → home_of_chunk r chunk ≡ Some k → home_of_chunk r other ≡ Some k → chunk ≡ other
  homes_apart chunk other k one two =
      let first : IsHomeOf (asks_of count told) chunk k = subst (IsHome (asks_of count told) chunk) one (are.homes chunk) in
      let second : IsHomeOf (asks_of count told) other k = subst (IsHome (asks_of count told) other) two (are.homes other) in
      same_Some chunk other (sym first.here ∙ second.here)

  -- each chunk of the volume has one
  pub home_there : (chunk : ℕ) → chunk < count → (k : ℕ) × (home_of_chunk r chunk ≡ Some k)
  home_there chunk small = by r.moving
    where
      at : (route : Route) × (slice_get r.routes chunk ≡ Some route)
      at = something_there r.routes chunk (omega (arith, small, are.count_is))

      here : (k : ℕ) × (routes.group_routed r.routes chunk ≡ Some k)
      here = (at.0.group, ap (λ o. option_map (λ (x : Route). x.group) o) at.1)

      by : (o : Option Moving) → (k : ℕ) × (home_in r.routes o chunk ≡ Some k)
      by None = here
      by (Some its) = by_test (its.chunk == chunk) (λ b. (k : ℕ) × ((if b then Some its.to else routes.group_routed r.routes chunk) ≡ Some k)) (λ _. (its.to, refl)) (λ _. here)

  -- and no other chunk
  pub home_small : (chunk k : ℕ) → home_of_chunk r chunk ≡ Some k → chunk < count
  home_small chunk k home = by r.moving refl home
    where
      by : (o : Option Moving) → r.moving ≡ o → home_in r.routes o chunk ≡ Some k → chunk < count
      by None rests is = (served_is count n r told are chunk k (ap (λ m. group_serving_in r.routes m chunk) rests ∙ is)).rests.small
      by (Some its) moves at_home =
          by_test (its.chunk == chunk) (λ b. (if b then None else routes.group_routed r.routes chunk) ≡ group_serving_in r.routes (Some its) chunk → (if b then Some its.to else routes.group_routed r.routes chunk) ≡ Some k → chunk < count)
          (λ same _ is. subst (λ c. c < count) (eqb-true its.chunk chunk same) (are.to its moves).0)
          (λ _ served is. (served_is count n r told are chunk k (ap (λ m. group_serving_in r.routes m chunk) moves ∙ sym served ∙ is)).rests.small) refl at_home

  module _ (chunks : List ChunkRun) (chunk : ℕ) (s : Service) (ds : List Deed) (is : IsServing chunks told chunk s ds) where
    served_last : (k : ℕ) → routing.IsServed count told chunk k → (s.epoch ≡ epoch_of told chunk) × (group_of_epoch told chunk s.epoch ≡ Some k)
    served_last k its =
        let g = its.rests.groups in
        let turns = is.turns in
        let same : s.epoch ≡ epoch_of told chunk = omega (arith, g, turns) in
        (same, ap (group_of_epoch told chunk) same ∙ its.serves)

    -- the last group
    pub home_last : (k : ℕ) → home_of_chunk r chunk ≡ Some k → group_of_epoch told chunk s.epoch ≡ Some k
    home_last k home = by r.moving refl home
      where
        by : (o : Option Moving) → r.moving ≡ o → home_in r.routes o chunk ≡ Some k → group_of_epoch told chunk s.epoch ≡ Some k
        by None rests at = (served_last k (served_is count n r told are chunk k (ap (λ m. group_serving_in r.routes m chunk) rests ∙ at))).1
        by (Some its) moves at_home =
            by_test (its.chunk == chunk) (λ b. (if b then None else routes.group_routed r.routes chunk) ≡ group_serving_in r.routes (Some its) chunk → (if b then Some its.to else routes.group_routed r.routes chunk) ≡ Some k → group_of_epoch told chunk s.epoch ≡ Some k)
            (λ same _ at.
            let here : its.chunk ≡ chunk = eqb-true its.chunk chunk same in
            let two = (on_the_move count n r told are its moves).groups in
            let turns = is.turns in
            let late : length (groups_in_turn told chunk) ≡ suc (suc (epoch_of told chunk)) = subst (λ c. length (groups_in_turn told c) ≡ suc (suc (epoch_of told c))) here two in
            let last : s.epoch ≡ suc (epoch_of told chunk) = omega (arith, late, turns) in
            ap (group_of_epoch told chunk) last ∙ subst (λ c. group_of_epoch told c (suc (epoch_of told c)) ≡ Some its.to) here (are.to its moves).1 ∙ at)
            (λ _ served at. (served_last k (served_is count n r told are chunk k (ap (λ m. group_serving_in r.routes m chunk) moves ∙ sym served ∙ at))).1) refl at_home

    -- a chunk that is served is not moving
    pub steady : (k : ℕ) → group_serving r chunk ≡ Some k → ChunkIsServed chunk s ds → s.moving ≡ false
    steady k serves its =
        let last = (served_last k (served_is count n r told are chunk k serves)).0 in
        still_serving s s.moving refl (last ∙ is.epochs) (moving_late chunk s ds its)
