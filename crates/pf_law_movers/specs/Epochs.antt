-- Which groups served each chunk, one after another, by what a run told.
use Rattle.std.specs.Prelude.{ℕ, ◌==◌, nat_lt, Bool, false, if◌then◌else◌, List, [], ◌∷◌, ◌++◌, length, Option, Some, None, slice_get}
use Rattle.std.specs.List.{count_by, flat_map}
use Rattle.pf_move.specs.declared.mover.MoveNext.TheVariants.{Switch}
use Rattle.pf_world_moments.specs.Moments.{Moment, Carries, Moves}

abbrev pub groups_moved_to : (chunk : ℕ) → Moment → List ℕ
groups_moved_to chunk (Moves c group) = if c == chunk then group ∷ [] else []
groups_moved_to chunk moment = []

-- The groups that have had the asks for the chunk, in turn: the first has the chunk's own number, and each later one was made for a move. While
-- the chunk is moving the last one does not serve it yet
abbrev pub groups_in_turn : List Moment → (chunk : ℕ) → List ℕ
groups_in_turn told chunk = chunk ∷ flat_map (groups_moved_to chunk) told

abbrev pub is_switch_moment : (chunk : ℕ) → Moment → Bool
is_switch_moment chunk (Carries c heard Switch) = c == chunk
is_switch_moment chunk moment = false

-- how often the chunk has moved, which is its epoch
abbrev pub epoch_of : List Moment → (chunk : ℕ) → ℕ
epoch_of told chunk = count_by (is_switch_moment chunk) told

-- the group of an epoch of the chunk
abbrev pub group_of_epoch : List Moment → (chunk epoch : ℕ) → Option ℕ
group_of_epoch told chunk epoch = slice_get (groups_in_turn told chunk) epoch

-- the group that serves the chunk; of one that is moving, its old one
abbrev pub group_of_now : List Moment → (chunk : ℕ) → Option ℕ
group_of_now told chunk = group_of_epoch told chunk (epoch_of told chunk)

-- of which chunk a group is, and in which epoch
pub record GroupHome : Type 0 where
  pub chunk : ℕ
  pub epoch : ℕ

abbrev pub home_from : (group : ℕ) → (before told : List Moment) → Option GroupHome
home_from group before [] = None
home_from group before (Moves chunk to ∷ told) =
    if to == group then Some (record { chunk = chunk; epoch = length (groups_in_turn before chunk) }) else home_from group (before ++ Moves chunk to ∷ []) told
home_from group before (moment ∷ told) = home_from group (before ++ moment ∷ []) told

-- groups below the count of chunks are those of the volume as it was made
abbrev pub home_of_group : (chunks : ℕ) → List Moment → (group : ℕ) → Option GroupHome
home_of_group chunks told group = if nat_lt group chunks then Some (record { chunk = group; epoch = 0 }) else home_from group [] told
