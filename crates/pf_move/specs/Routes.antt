-- Which group serves each chunk, in which epoch.
use Rattle.std.specs.Prelude.{◌≡◌, ℕ, ◌+◌, ◌-◌, ◌^◌, ◌<◌, ◌≤◌, ◌==◌, min, if◌then◌else◌, IfSome, List, length, slice_get, slice_set, Option, Some, None}
use Rattle.std.specs.Option.{option_map}
use Rattle.pf_move.specs.declared.routes.Moving.{Moving}
use Rattle.pf_move.specs.declared.routes.Route.{Route}

pub record RoutesIs : Type 0 where
  pub routes : List Route  -- of each chunk; of one that is moving, its old one
  pub moving : Option Moving

-- each of so many chunks is served by the group of its own number, in epoch 0, and none is moving
pub record AreFirst (chunks : ℕ) (r : RoutesIs) : Type 0 where
  pub count : length r.routes ≡ chunks
  pub own : (chunk : ℕ) → chunk < chunks → slice_get r.routes chunk ≡ Some (record { group = chunk; epoch = 0 })
  pub none : r.moving ≡ None

-- the chunk is moving, to some group
abbrev pub IsMoving : RoutesIs → (chunk : ℕ) → Type 0
IsMoving r chunk = (to : ℕ) × (r.moving ≡ Some (record { chunk = chunk; to = to }))

-- one higher, but for the end of its type, where it stands still
abbrev pub risen : (epoch : ℕ) → ℕ
risen epoch = min (epoch + 1) (2 ^ 64 - 1)

-- the chunk that was moving is served by its new group, in the next epoch, and nothing else changes
pub record Switches (old new : RoutesIs) : Type 0 where
  pub moved : Moving
  pub was : Route
  pub moving : old.moving ≡ Some moved
  pub found : slice_get old.routes moved.chunk ≡ Some was
  pub routes : new.routes ≡ slice_set old.routes moved.chunk (record { group = moved.to; epoch = risen was.epoch })
  pub none : new.moving ≡ None

-- Where asks for a chunk go

abbrev pub group_routed : List Route → (chunk : ℕ) → Option ℕ
group_routed routes chunk = option_map (λ (r : Route). r.group) (slice_get routes chunk)

-- the group that serves the chunk: none while the chunk is moving
abbrev pub group_serving_in : List Route → (moving : Option Moving) → (chunk : ℕ) → Option ℕ
group_serving_in routes None chunk = group_routed routes chunk
group_serving_in routes (Some moving) chunk = if moving.chunk == chunk then None else group_routed routes chunk

abbrev pub group_serving : RoutesIs → (chunk : ℕ) → Option ℕ
group_serving r chunk = group_serving_in r.routes r.moving chunk

-- the group that has the asks for the chunk: those for one that is moving wait at its new group
abbrev pub home_in : List Route → (moving : Option Moving) → (chunk : ℕ) → Option ℕ
home_in routes None chunk = group_routed routes chunk
home_in routes (Some moving) chunk = if moving.chunk == chunk then Some moving.to else group_routed routes chunk

abbrev pub home_of_chunk : RoutesIs → (chunk : ℕ) → Option ℕ
home_of_chunk r chunk = home_in r.routes r.moving chunk

-- The chunk that is moving is served by its new group from here on
abbrev pub switched_to : List Route → Moving → Option Route → List Route
switched_to routes moving None = routes
switched_to routes moving (Some was) = slice_set routes moving.chunk (record { group = moving.to; epoch = risen was.epoch })

abbrev pub switched_in : RoutesIs → Option Moving → RoutesIs
switched_in r None = r
switched_in r (Some moving) = record { routes = switched_to r.routes moving (slice_get r.routes moving.chunk); moving = None }

abbrev pub routes_switched : RoutesIs → RoutesIs
routes_switched r = switched_in r r.moving

-- The groups through which a chunk that is moving goes: the one that is read, and the one that is written
pub record Between : Type 0 where
  pub from : ℕ
  pub to : ℕ

abbrev pub between_in : List Route → Option Moving → Option Between
between_in routes None = None
between_in routes (Some moving) = option_map (λ group. record { from = group; to = moving.to }) (group_routed routes moving.chunk)

abbrev pub between : RoutesIs → Option Between
between r = between_in r.routes r.moving

-- Each of so many groups has the asks for one chunk at most, a chunk that is moving is one of these, and its new group is none that it had
pub record AreRouted (groups : ℕ) (r : RoutesIs) : Type 0 where
  pub chunks : length r.routes ≤ 8
  pub within : (chunk group : ℕ) → home_of_chunk r chunk ≡ Some group → group < groups
  pub apart : (chunk other group : ℕ) → home_of_chunk r chunk ≡ Some group → home_of_chunk r other ≡ Some group → chunk ≡ other
  pub moving : IfSome r.moving (λ moving. moving.chunk < length r.routes)
  pub old : IfSome (between r) (λ b. (b.from < groups) × (b.from < b.to))
  pub old_alone : (chunk : ℕ) → IfSome (between r) (λ b. home_of_chunk r chunk ≡ Some b.from → ⊥)
