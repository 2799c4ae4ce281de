-- Which group has the asks of a chunk, and which serves it, is what was told.
use Rattle.std.proofs.Common.{◌≡◌, ◌≢◌, ◌⊎◌, ℕ, suc, cond, ◌+◌, ◌<◌, ◌≤◌, ◌==◌, if◌then◌else◌, inl, inr, List, [], ◌∷◌, ◌++◌, length, Option, Some, None, slice_get, slice_set, arith, refl, sym, ap, subst, ◌∙◌, append-nil}
use Rattle.std.specs.List.{flat_map}
use Rattle.std.specs.Option.{option_map}
use Rattle.std.proofs.lemmas.Bool.{cases_eq, eq-eqb, false≢true, ne_eqb}
use Rattle.std.proofs.lemmas.List.{append_assoc, length-append}
use Rattle.std.proofs.lemmas.Option.{none-some, same_Some, slice_get_within}
use Rattle.pf_entry.specs.Lists.{Every}
use Rattle.pf_entry.proofs.Cases.{by_test}
use Rattle.pf_entry.proofs.Lists.{set_cases}
use Rattle.pf_law_movers.specs.pf_group_network.proofs.Lists.{set_elsewhere, set_length, set_there, something_there}
use Rattle.pf_move.specs.declared.mover.MoveNext.{MoveNext}
use Rattle.pf_move.specs.declared.mover.MoveNext.TheVariants.{Read, Write, Switch}
use Rattle.pf_move.specs.declared.routes.Moving.{Moving}
use Rattle.pf_move.specs.declared.routes.Route.{Route}
use Rattle.pf_move.specs.Routes.{RoutesIs, home_in, home_of_chunk, risen, group_serving, group_serving_in, routes_switched, switched_in, switched_to}
use Rattle.pf_move.specs.Routes as routes
use Rattle.pf_law_movers.specs.pf_world_moments.specs.Moments.{Carries, Hands, Heard, Moment, Moves as MovesTo, Writes, Acts}
use Rattle.pf_law_movers.specs.Epochs.{epoch_of, group_of_epoch, groups_in_turn, groups_moved_to, group_of_now}
use Rattle.pf_law_movers.specs.Movers.{ChunkIsAtRest, IsOnTheMove}
use Rattle.pf_law_movers.specs.Pasts.{is_some_of}
use Rattle.pf_law_movers.proofs.ChunkEpochs.{epoch_on, group_stays, groups_on, moved_here, next_group}
use Rattle.pf_law_movers.proofs.Lives.{its_own, not_its_own}
use Rattle.pf_law_movers.proofs.ListPlaces.{get_either}
use Rattle.pf_law_movers.proofs.PortTraces.{IsNoMove, asks_of, asks_on, asks_still, at_apart, at_same}

-- Homes

-- of which chunk each group has the asks
abbrev pub Having : Type 0
Having = (group : ℕ) → Option ℕ

-- group k has the asks of the chunk, and no other has
pub record IsHomeOf (of : Having) (chunk k : ℕ) : Type 0 where
  pub here : of k ≡ Some chunk
  pub alone : (j : ℕ) → of j ≡ Some chunk → j ≡ k

-- so it is with this one; or no group has them
abbrev pub IsHome : Having → (chunk : ℕ) → (home : Option ℕ) → Type 0
IsHome of chunk (Some k) = IsHomeOf of chunk k
IsHome of chunk None = (j : ℕ) → of j ≡ Some chunk → ⊥

-- What is still: no chunk moves by it

abbrev pub IsStill : Moment → Type 0
IsStill (MovesTo chunk to) = ⊥
IsStill (Carries chunk heard next) = ⊥
IsStill moment = Unit {0}

pub still_no_move : (y : Moment) → IsStill y → IsNoMove y
still_no_move (MovesTo chunk to) still = absurd still
still_no_move (Carries chunk heard next) still = absurd still
still_no_move (Writes text) still = tt
still_no_move (Acts who act) still = tt
still_no_move (Hands m k place) still = tt

-- it is no switch, and no move begins
abbrev pub IsNoChange : (chunk : ℕ) → Moment → Type 0
IsNoChange chunk y = (groups_moved_to chunk y ≡ []) × (epoch_of (y ∷ []) chunk ≡ 0)

still_change : (chunk : ℕ) (y : Moment) → IsStill y → IsNoChange chunk y
still_change chunk (MovesTo c to) still = absurd still
still_change chunk (Carries c heard next) still = absurd still
still_change chunk (Writes text) still = (refl, refl)
still_change chunk (Acts who act) still = (refl, refl)
still_change chunk (Hands m k place) still = (refl, refl)

-- what the mover asks
abbrev pub IsAsk : MoveNext → Type 0
IsAsk Switch = ⊥
IsAsk next = Unit {0}

pub ask_change : (chunk c : ℕ) (heard : Option Heard) (next : MoveNext) → IsAsk next → IsNoChange chunk (Carries c heard next)
ask_change chunk c heard (Read span) ask = (refl, refl)
ask_change chunk c heard (Write span sectors) ask = (refl, refl)
ask_change chunk c heard Switch ask = absurd ask

module _ (told : List Moment) (y : Moment) (chunk : ℕ) (none : IsNoChange chunk y) where
  pub same_groups : groups_in_turn (told ++ y ∷ []) chunk ≡ groups_in_turn told chunk
  same_groups = groups_on told (y ∷ []) chunk ∙ ap (λ gs. groups_in_turn told chunk ++ (gs ++ [])) none.0 ∙ append-nil (groups_in_turn told chunk)

  pub same_epoch : epoch_of (told ++ y ∷ []) chunk ≡ epoch_of told chunk
  same_epoch = let both = epoch_on told (y ∷ []) chunk in omega (arith, both, none.1)

-- moments that are still change nothing
pub still_groups : (told more : List Moment) (chunk : ℕ) → Every IsStill more → (groups_in_turn (told ++ more) chunk ≡ groups_in_turn told chunk) × (epoch_of (told ++ more) chunk ≡ epoch_of told chunk)
still_groups told [] chunk still = (ap (λ (all : List Moment). groups_in_turn all chunk) (append-nil told), ap (λ (all : List Moment). epoch_of all chunk) (append-nil told))
still_groups told (y ∷ more) chunk still =
    let all : told ++ (y ∷ more) ≡ (told ++ y ∷ []) ++ more = sym (append_assoc told (y ∷ []) more) in
    let rest = still_groups (told ++ y ∷ []) more chunk still.1 in
    let none = still_change chunk y still.0 in (
      ap (λ (x : List Moment). groups_in_turn x chunk) all ∙ rest.0 ∙ same_groups told y chunk none,
      ap (λ (x : List Moment). epoch_of x chunk) all ∙ rest.1 ∙ same_epoch told y chunk none,
    )

-- The routes

-- one for the chunk that is moving
abbrev under_way : Option Moving → (chunk : ℕ) → ℕ
under_way None chunk = 0
under_way (Some moving) chunk = if moving.chunk == chunk then 1 else 0

-- the routes of a run with so many chunks, and by now so many groups
pub record AreRoutes (count n : ℕ) (r : RoutesIs) (told : List Moment) : Type 0 where
  pub count_is : length r.routes ≡ count
  pub made : count ≤ n
  pub homes : (chunk : ℕ) → IsHome (asks_of count told) chunk (home_of_chunk r chunk)
  pub within : (chunk k : ℕ) → home_of_chunk r chunk ≡ Some k → k < n
  pub served : (chunk : ℕ) (route : Route) → slice_get r.routes chunk ≡ Some route → (group_of_now told chunk ≡ Some route.group) × (route.group < n)
  pub turns : (chunk : ℕ) → chunk < count → length (groups_in_turn told chunk) ≡ suc (epoch_of told chunk) + under_way r.moving chunk
  pub to : (moving : Moving) → r.moving ≡ Some moving → (moving.chunk < count) × (group_of_epoch told moving.chunk (suc (epoch_of told moving.chunk)) ≡ Some moving.to)
  pub fresh : (chunk epoch group : ℕ) → chunk < count → group_of_epoch told chunk epoch ≡ Some group → group < n

module _ (count n : ℕ) (r : RoutesIs) (told : List Moment) (are : AreRoutes count n r told) where
  -- a moment that changes nothing
  unchanged : (y : Moment) → IsNoMove y → ((chunk : ℕ) → IsNoChange chunk y) → AreRoutes count n r (told ++ y ∷ [])
  unchanged y still none =
      let at : (chunk epoch : ℕ) → group_of_epoch (told ++ y ∷ []) chunk epoch ≡ group_of_epoch told chunk epoch = λ chunk epoch. ap (λ gs. slice_get gs epoch) (same_groups told y chunk (none chunk)) in
      let of : (k : ℕ) → asks_of count (told ++ y ∷ []) k ≡ asks_of count told k = λ k. asks_still count told (y ∷ []) k (still, tt) in record {
        count_is = are.count_is;
        made = are.made;
        homes = λ chunk. home_still of chunk (home_of_chunk r chunk) (are.homes chunk);
        within = are.within;
        served = λ chunk route there.
            (ap (group_of_epoch (told ++ y ∷ []) chunk) (same_epoch told y chunk (none chunk)) ∙ at chunk (epoch_of told chunk) ∙ (are.served chunk route there).0, (are.served chunk route there).1);
        turns = λ chunk low. ap length (same_groups told y chunk (none chunk)) ∙ are.turns chunk low ∙ ap (λ e. suc e + under_way r.moving chunk) (sym (same_epoch told y chunk (none chunk)));
        to = λ moving is.
            let was = are.to moving is in
            (was.0, ap (λ e. group_of_epoch (told ++ y ∷ []) moving.chunk (suc e)) (same_epoch told y moving.chunk (none moving.chunk)) ∙ at moving.chunk (suc (epoch_of told moving.chunk)) ∙ was.1);
        fresh = λ chunk epoch group low there. are.fresh chunk epoch group low (sym (at chunk epoch) ∙ there);
      }
    where
      home_still : {now was : Having} → ((k : ℕ) → now k ≡ was k) → (chunk : ℕ) (home : Option ℕ) → IsHome was chunk home → IsHome now chunk home
      home_still same chunk None is = λ j there. is j (sym (same j) ∙ there)
      home_still same chunk (Some k) is = record { here = same k ∙ is.here; alone = λ j there. is.alone j (sym (same j) ∙ there) }

  pub ask_routes : (chunk : ℕ) (heard : Option Heard) (next : MoveNext) → IsAsk next → AreRoutes count n r (told ++ Carries chunk heard next ∷ [])
  ask_routes chunk heard next ask = unchanged (Carries chunk heard next) tt (λ c. ask_change c chunk heard next ask)

-- moments that are still
pub still_routes : (count n : ℕ) (r : RoutesIs) (told more : List Moment) → Every IsStill more → AreRoutes count n r told → AreRoutes count n r (told ++ more)
still_routes count n r told [] still are = subst (AreRoutes count n r) (sym (append-nil told)) are
still_routes count n r told (y ∷ more) still are =
    subst (AreRoutes count n r) (append_assoc told (y ∷ []) more)
    (still_routes count n r (told ++ y ∷ []) more still.1 (unchanged count n r told are y (still_no_move y still.0) (λ chunk. still_change chunk y still.0)))

-- What the routes tell of a chunk

-- a group that serves a chunk has its asks
pub served_home : (r : RoutesIs) (chunk k : ℕ) → group_serving r chunk ≡ Some k → home_of_chunk r chunk ≡ Some k
served_home r chunk k = by r.moving
  where
    by : (o : Option Moving) → group_serving_in r.routes o chunk ≡ Some k → home_in r.routes o chunk ≡ Some k
    by None is = is
    by (Some its) is =
        by_test (its.chunk == chunk) (λ b. (if b then None else routes.group_routed r.routes chunk) ≡ Some k → (if b then Some its.to else routes.group_routed r.routes chunk) ≡ Some k) (λ _ none. absurd (none-some k none)) (λ _ its. its) is

group_in : (rs : List Route) (chunk k : ℕ) → routes.group_routed rs chunk ≡ Some k → (route : Route) × (slice_get rs chunk ≡ Some route) × (route.group ≡ k)
group_in rs chunk k = by (slice_get rs chunk) refl
  where
    by : (o : Option Route) → slice_get rs chunk ≡ o → option_map (λ (x : Route). x.group) o ≡ Some k → (route : Route) × (slice_get rs chunk ≡ Some route) × (route.group ≡ k)
    by None there is = absurd (none-some k is)
    by (Some route) there is = (route, there, same_Some route.group k is)

-- the chunk is at rest, and this group serves it and has its asks
pub record IsServed (count : ℕ) (told : List Moment) (chunk k : ℕ) : Type 0 where
  pub rests : ChunkIsAtRest count told chunk
  pub serves : group_of_now told chunk ≡ Some k

module _ (count n : ℕ) (r : RoutesIs) (told : List Moment) (are : AreRoutes count n r told) where
  resting : (chunk k : ℕ) → under_way r.moving chunk ≡ 0 → routes.group_routed r.routes chunk ≡ Some k → IsServed count told chunk k
  resting chunk k none at =
      let route = group_in r.routes chunk k at in
      let low = slice_get_within r.routes chunk route.0 route.1 in
      let small : chunk < count = omega (arith, low, are.count_is) in record {
        rests = record { small = small; groups = let turns = are.turns chunk small in omega (arith, turns, none) };
        serves = (are.served chunk route.0 route.1).0 ∙ ap (λ i. Some i) route.2;
      }

  pub served_is : (chunk k : ℕ) → group_serving r chunk ≡ Some k → IsServed count told chunk k
  served_is chunk k = by r.moving refl
    where
      by : (o : Option Moving) → r.moving ≡ o → group_serving_in r.routes o chunk ≡ Some k → IsServed count told chunk k
      by None moving is = resting chunk k (ap (λ o. under_way o chunk) moving) is
      by (Some its) moving is_so =
          by_test (its.chunk == chunk) (λ b. (its.chunk == chunk) ≡ b → (if b then None else routes.group_routed r.routes chunk) ≡ Some k → IsServed count told chunk k)
          (λ _ _ is. absurd (none-some k is))
          (λ _ apart is. resting chunk k (ap (λ o. under_way o chunk) moving ∙ ap (λ b. if b then 1 else 0) apart) is)
          refl is_so

  -- the chunk that is moving
  pub on_the_move : (moving : Moving) → r.moving ≡ Some moving → IsOnTheMove count told moving.chunk
  on_the_move moving is =
      let to = are.to moving is in
      let turns = are.turns moving.chunk to.0 in
      let way : under_way r.moving moving.chunk ≡ 1 = ap (λ o. under_way o moving.chunk) is ∙ its_own moving.chunk moving.chunk 1 0 refl in
      record { small = to.0; groups = omega (arith, turns, way) }

  -- which has two groups
  pub old_one : (moving : Moving) → r.moving ≡ Some moving → (route : Route) × (slice_get r.routes moving.chunk ≡ Some route)
  old_one moving is = let to = are.to moving is in something_there r.routes moving.chunk (omega (arith, to.0, are.count_is))

-- The chunk switches

module _ (count n : ℕ) (r : RoutesIs) (told : List Moment) (are : AreRoutes count n r told) (moving : Moving) (is : r.moving ≡ Some moving) where
  abbrev was : Route
  was = (old_one count n r told are moving is).0

  abbrev next : RoutesIs
  next = record { routes = slice_set r.routes moving.chunk (record { group = moving.to; epoch = risen was.epoch }); moving = None }

  pub switched_is : routes_switched r ≡ next
  switched_is = ap (switched_in r) is ∙ ap (λ o. let x : RoutesIs = record { routes = switched_to r.routes moving o; moving = None } in x) (old_one count n r told are moving is).1

  low : moving.chunk < length r.routes
  low = slice_get_within r.routes moving.chunk was (old_one count n r told are moving is).1

  home_on : (chunk : ℕ) → home_of_chunk next chunk ≡ home_of_chunk r chunk
  home_on chunk = elim (cases_eq moving.chunk chunk) [
    | inl same ↦
        ap (option_map (λ (x : Route). x.group)) (ap (slice_get next.routes) (sym same) ∙ set_there r.routes moving.chunk (record { group = moving.to; epoch = risen was.epoch }) low)
        ∙ sym (ap (λ o. home_in r.routes o chunk) is ∙ its_own moving.chunk chunk (Some moving.to) (routes.group_routed r.routes chunk) same)
    | inr apart ↦
        ap (option_map (λ (x : Route). x.group)) (set_elsewhere r.routes moving.chunk chunk (record { group = moving.to; epoch = risen was.epoch }) (λ same. apart (sym same)))
        ∙ sym (ap (λ o. home_in r.routes o chunk) is ∙ not_its_own moving.chunk chunk (Some moving.to) (routes.group_routed r.routes chunk) apart)
  ]

  module _ (heard : Option Heard) where
    abbrev y : Moment
    y = Carries moving.chunk heard Switch

    groups_same : (chunk : ℕ) → groups_in_turn (told ++ y ∷ []) chunk ≡ groups_in_turn told chunk
    groups_same chunk = groups_on told (y ∷ []) chunk ∙ append-nil (groups_in_turn told chunk)

    epoch_same : (chunk : ℕ) → moving.chunk ≢ chunk → epoch_of (told ++ y ∷ []) chunk ≡ epoch_of told chunk
    epoch_same chunk apart =
        let both = epoch_on told (y ∷ []) chunk in
        let none : epoch_of (y ∷ []) chunk ≡ 0 = ap (λ b. 0 + cond b 1 0) (ne_eqb moving.chunk chunk apart) in
        omega (arith, both, none)

    epoch_next : epoch_of (told ++ y ∷ []) moving.chunk ≡ suc (epoch_of told moving.chunk)
    epoch_next =
        let both = epoch_on told (y ∷ []) moving.chunk in
        let one : epoch_of (y ∷ []) moving.chunk ≡ 1 = ap (λ b. 0 + cond b 1 0) (eq-eqb moving.chunk moving.chunk refl) in
        omega (arith, both, one)

    at_same_group : (chunk epoch : ℕ) → group_of_epoch (told ++ y ∷ []) chunk epoch ≡ group_of_epoch told chunk epoch
    at_same_group chunk epoch = ap (λ gs. slice_get gs epoch) (groups_same chunk)

    home_now : (chunk : ℕ) (home : Option ℕ) → IsHome (asks_of count told) chunk home → IsHome (asks_of count (told ++ y ∷ [])) chunk home
    home_now chunk None is_home = λ j there. is_home j (sym (asks_still count told (y ∷ []) j (tt, tt)) ∙ there)
    home_now chunk (Some k) is_home = record {
      here = asks_still count told (y ∷ []) k (tt, tt) ∙ is_home.here;
      alone = λ j there. is_home.alone j (sym (asks_still count told (y ∷ []) j (tt, tt)) ∙ there);
    }

    abbrev its : Route
    its = record { group = moving.to; epoch = risen was.epoch }

    serves_now : (chunk : ℕ) (route : Route) → slice_get next.routes chunk ≡ Some route → (group_of_now (told ++ y ∷ []) chunk ≡ Some route.group) × (route.group < n)
    serves_now chunk route there = elim (set_cases r.routes moving.chunk its chunk route there) [
      | inl here ↦
          let to = are.to moving is in
          let group : moving.to ≡ route.group = ap (λ (x : Route). x.group) here.1 in (
            ap (group_of_now (told ++ y ∷ [])) here.0 ∙ ap (group_of_epoch (told ++ y ∷ []) moving.chunk) epoch_next ∙ at_same_group moving.chunk (suc (epoch_of told moving.chunk)) ∙ to.1 ∙ ap (λ i. Some i) group,
            subst (λ i. i < n) group (are.fresh moving.chunk (suc (epoch_of told moving.chunk)) moving.to to.0 to.1),
          )
      | inr away ↦
          let before = are.served chunk route away.1 in
          (ap (group_of_epoch (told ++ y ∷ []) chunk) (epoch_same chunk (λ same. away.0 (sym same))) ∙ at_same_group chunk (epoch_of told chunk) ∙ before.0, before.1)
    ]

    turns_now : (chunk : ℕ) → chunk < count → length (groups_in_turn (told ++ y ∷ []) chunk) ≡ suc (epoch_of (told ++ y ∷ []) chunk) + 0
    turns_now chunk small = elim (cases_eq moving.chunk chunk) [
      | inl same ↦
          let turns = are.turns chunk small in
          let way : under_way r.moving chunk ≡ 1 = ap (λ o. under_way o chunk) is ∙ its_own moving.chunk chunk 1 0 same in
          let groups = ap length (groups_same chunk) in
          let epoch : epoch_of (told ++ y ∷ []) chunk ≡ suc (epoch_of told chunk) = ap (epoch_of (told ++ y ∷ [])) (sym same) ∙ epoch_next ∙ ap (λ c. suc (epoch_of told c)) same in
          omega (arith, turns, way, groups, epoch)
      | inr apart ↦
          let turns = are.turns chunk small in
          let way : under_way r.moving chunk ≡ 0 = ap (λ o. under_way o chunk) is ∙ not_its_own moving.chunk chunk 1 0 apart in
          let groups = ap length (groups_same chunk) in
          let epoch = epoch_same chunk apart in
          omega (arith, turns, way, groups, epoch)
    ]

    pub switch_routes : AreRoutes count n (routes_switched r) (told ++ y ∷ [])
    switch_routes = subst (λ (x : RoutesIs). AreRoutes count n x (told ++ y ∷ [])) (sym switched_is) (record {
      count_is = set_length r.routes moving.chunk its ∙ are.count_is;
      made = are.made;
      homes = λ chunk. subst (IsHome (asks_of count (told ++ y ∷ [])) chunk) (sym (home_on chunk)) (home_now chunk (home_of_chunk r chunk) (are.homes chunk));
      within = λ chunk k home. are.within chunk k (sym (home_on chunk) ∙ home);
      served = serves_now;
      turns = turns_now;
      to = λ m none. absurd (none-some m none);
      fresh = λ chunk epoch group small there. are.fresh chunk epoch group small (sym (at_same_group chunk epoch) ∙ there);
    })

-- The chunk begins to move

module _ (count n : ℕ) (r : RoutesIs) (told : List Moment) (are : AreRoutes count n r told) (rests : r.moving ≡ None) (chunk h : ℕ) (home : home_of_chunk r chunk ≡ Some h) where
  abbrev moves : Moment
  moves = MovesTo chunk n

  abbrev under : RoutesIs
  under = record r { moving = Some (record { chunk = chunk; to = n }) }

  route_is : (c k : ℕ) → home_of_chunk r c ≡ Some k → (route : Route) × (slice_get r.routes c ≡ Some route) × (route.group ≡ k)
  route_is c k is = group_in r.routes c k (sym (ap (λ o. home_in r.routes o c) rests) ∙ is)

  pub small : chunk < count
  small = let route = route_is chunk h home in let within = slice_get_within r.routes chunk route.0 route.1 in omega (arith, within, are.count_is)

  pub all_rest : (other : ℕ) → other < count → ChunkIsAtRest count told other
  all_rest other low = record { small = low; groups = let turns = are.turns other low in let way : under_way r.moving other ≡ 0 = ap (λ o. under_way o other) rests in omega (arith, turns, way) }

  pub begins_rested : ChunkIsAtRest count told chunk
  begins_rested = record { small = small; groups = let turns = are.turns chunk small in let way : under_way r.moving chunk ≡ 0 = ap (λ o. under_way o chunk) rests in omega (arith, turns, way) }

  pub begins_fresh : (other by : ℕ) → other < count → group_of_epoch told other by ≡ Some n → ⊥
  begins_fresh other by small_one there = let low = are.fresh other by n small_one there in omega (arith, low)

  of_now : (k : ℕ) → asks_of count (told ++ moves ∷ []) k ≡ (if n == k then Some chunk else if is_some_of (asks_of count told k) chunk then None else asks_of count told k)
  of_now k = asks_on count told (moves ∷ []) k

  pub of_new : asks_of count (told ++ moves ∷ []) n ≡ Some chunk
  of_new = of_now n ∙ its_own n n (Some chunk) (if is_some_of (asks_of count told n) chunk then None else asks_of count told n) refl

  pub of_other : (k : ℕ) → n ≢ k → asks_of count (told ++ moves ∷ []) k ≡ (if is_some_of (asks_of count told k) chunk then None else asks_of count told k)
  of_other k apart = of_now k ∙ not_its_own n k (Some chunk) (if is_some_of (asks_of count told k) chunk then None else asks_of count told k) apart

  -- another chunk's group has its asks as before
  pub of_still : (k c : ℕ) → n ≢ k → chunk ≢ c → asks_of count told k ≡ Some c → asks_of count (told ++ moves ∷ []) k ≡ Some c
  of_still k c apart other is =
      of_other k apart ∙ ap (λ b. if b then None else asks_of count told k) (at_apart (asks_of count told k) chunk (λ same. other (same_Some chunk c (sym same ∙ is)))) ∙ is

  -- it had them before, or is the new one
  pub of_was : (k c : ℕ) → asks_of count (told ++ moves ∷ []) k ≡ Some c → ((n ≡ k) × (chunk ≡ c)) ⊎ ((n ≢ k) × (chunk ≢ c) × (asks_of count told k ≡ Some c))
  of_was k c is = elim (cases_eq n k) [
    | inl same ↦ inl (same, same_Some chunk c (sym of_new ∙ ap (asks_of count (told ++ moves ∷ [])) same ∙ is))
    | inr apart ↦
        by_test (is_some_of (asks_of count told k) chunk) (λ b. is_some_of (asks_of count told k) chunk ≡ b → (if b then None else asks_of count told k) ≡ Some c → ((n ≡ k) × (chunk ≡ c)) ⊎ ((n ≢ k) × (chunk ≢ c) × (asks_of count told k ≡ Some c)))
        (λ _ _ none. absurd (none-some c none))
        (λ _ away its. inr (apart, (λ same. false≢true (sym away ∙ at_same (asks_of count told k) chunk (its ∙ ap (λ i. Some i) (sym same)))), its))
        refl (sym (of_other k apart) ∙ is)
  ]

  home_under : (c : ℕ) → chunk ≢ c → home_of_chunk under c ≡ home_of_chunk r c
  home_under c apart = not_its_own chunk c (Some n) (routes.group_routed r.routes c) apart ∙ sym (ap (λ o. home_in r.routes o c) rests)

  homes_now : (c : ℕ) → IsHome (asks_of count (told ++ moves ∷ [])) c (home_of_chunk under c)
  homes_now c = elim (cases_eq chunk c) [
    | inl same ↦
        subst (IsHome (asks_of count (told ++ moves ∷ [])) c) (sym (its_own chunk c (Some n) (routes.group_routed r.routes c) same)) (record {
          here = of_new ∙ ap (λ i. Some i) same;
          alone = λ j there. elim (of_was j c there) [
            | inl here ↦ sym here.0
            | inr away ↦ absurd (away.1 same)
          ];
        })
    | inr apart ↦ subst (IsHome (asks_of count (told ++ moves ∷ [])) c) (sym (home_under c apart)) (others (home_of_chunk r c) refl apart (are.homes c))
  ]
    where
      others : (o : Option ℕ) → home_of_chunk r c ≡ o → chunk ≢ c → IsHome (asks_of count told) c o → IsHome (asks_of count (told ++ moves ∷ [])) c o
      others None at apart is = λ j there. elim (of_was j c there) [
        | inl here ↦ absurd (apart here.1)
        | inr away ↦ is j away.2
      ]
      others (Some k) at apart is = record {
        here = of_still k c (λ same. let low = are.within c k at in omega (arith, low, same)) apart is.here;
        alone = λ j there. elim (of_was j c there) [
          | inl here ↦ absurd (apart here.1)
          | inr away ↦ is.alone j away.2
        ];
      }

  groups_more : (c : ℕ) → chunk ≢ c → groups_in_turn (told ++ moves ∷ []) c ≡ groups_in_turn told c
  groups_more c apart = groups_on told (moves ∷ []) c ∙ ap (λ gs. groups_in_turn told c ++ (gs ++ [])) (not_its_own chunk c (n ∷ []) [] apart) ∙ append-nil (groups_in_turn told c)

  one_longer : length (groups_in_turn (told ++ moves ∷ []) chunk) ≡ suc (length (groups_in_turn told chunk))
  one_longer =
      let whole = ap length (groups_on told (moves ∷ []) chunk ∙ ap (λ gs. groups_in_turn told chunk ++ (gs ++ [])) (its_own chunk chunk (n ∷ []) [] refl)) in
      let sum = length-append (groups_in_turn told chunk) (n ∷ []) in
      omega (arith, whole, sum)

  epoch_stays : (c : ℕ) → epoch_of (told ++ moves ∷ []) c ≡ epoch_of told c
  epoch_stays c = let both = epoch_on told (moves ∷ []) c in omega (arith, both)

  pub move_routes : AreRoutes count (suc n) under (told ++ moves ∷ [])
  move_routes = record {
    count_is = are.count_is;
    made = omega (arith, are.made);
    homes = homes_now;
    within = λ c k at. elim (cases_eq chunk c) [
      | inl same ↦ let is : n ≡ k = same_Some n k (sym (its_own chunk c (Some n) (routes.group_routed r.routes c) same) ∙ at) in omega (arith, is)
      | inr apart ↦ let low = are.within c k (sym (home_under c apart) ∙ at) in omega (arith, low)
    ];
    served = λ c route there.
        let was = are.served c route there in
        (ap (group_of_epoch (told ++ moves ∷ []) c) (epoch_stays c) ∙ group_stays told (moves ∷ []) c (epoch_of told c) route.group was.0, omega (arith, was.1));
    turns = λ c small_one. elim (cases_eq chunk c) [
      | inl same ↦
          let turns = are.turns c small_one in
          let way : under_way r.moving c ≡ 0 = ap (λ o. under_way o c) rests in
          let one : under_way under.moving c ≡ 1 = its_own chunk c 1 0 same in
          let longer : length (groups_in_turn (told ++ moves ∷ []) c) ≡ suc (length (groups_in_turn told c)) = subst (λ x. length (groups_in_turn (told ++ moves ∷ []) x) ≡ suc (length (groups_in_turn told x))) same one_longer in
          let epoch = epoch_stays c in
          omega (arith, turns, way, one, longer, epoch)
      | inr apart ↦
          let turns = are.turns c small_one in
          let way : under_way r.moving c ≡ 0 = ap (λ o. under_way o c) rests in
          let none : under_way under.moving c ≡ 0 = not_its_own chunk c 1 0 apart in
          let same = ap length (groups_more c apart) in
          let epoch = epoch_stays c in
          omega (arith, turns, way, none, same, epoch)
    ];
    to = λ moving is.
        let it : Moving = record { chunk = chunk; to = n } in
        let same : it ≡ moving = same_Some it moving is in
        let last : group_of_epoch (told ++ moves ∷ []) chunk (suc (epoch_of (told ++ moves ∷ []) chunk)) ≡ Some n =
        ap (λ e. group_of_epoch (told ++ moves ∷ []) chunk (suc e)) (epoch_stays chunk) ∙ ap (group_of_epoch (told ++ moves ∷ []) chunk) (sym begins_rested.groups) ∙ next_group told chunk n in
        subst (λ (x : Moving). (x.chunk < count) × (group_of_epoch (told ++ moves ∷ []) x.chunk (suc (epoch_of (told ++ moves ∷ []) x.chunk)) ≡ Some x.to)) same (small, last);
    fresh = λ c epoch group small_one there.
        let both : slice_get (groups_in_turn told c ++ flat_map (groups_moved_to c) (moves ∷ [])) epoch ≡ Some group = sym (ap (λ gs. slice_get gs epoch) (groups_on told (moves ∷ []) c)) ∙ there in
        elim (get_either (groups_in_turn told c) (flat_map (groups_moved_to c) (moves ∷ [])) epoch group both) [
          | inl old ↦ let low = are.fresh c epoch group small_one old in omega (arith, low)
          | inr new ↦ let is = moved_here c moves new.0 group new.1 in let same : n ≡ group = to_of n group is.0 in omega (arith, same)
        ];
  }
    where
      to_of : {c d : ℕ} → (a b : ℕ) → MovesTo c a ≡ MovesTo d b → a ≡ b
      to_of a b same = cc
