-- How the chunks of a world are made.
use Rattle.std.specs.Prelude.{◌≡◌, ℕ, ◌+◌, ◌*◌, ◌<◌, ◌≤◌, Bool, IsTrue, List, [], ◌∷◌, ◌++◌, Some, length, slice_get, take}
use Rattle.std.specs.List.{flat_map}
use Rattle.pf_entry.specs.Lists.{Every}
use Rattle.pf_protocol.specs.declared.answers.Answer.{Answer}
use Rattle.pf_protocol.specs.declared.answers.Answer.TheVariants.{Done}
use Rattle.pf_live_session.specs.pf_group.specs.declared.six.Six.{Six}
use Rattle.pf_live_session.specs.pf_group.specs.Making as groups
use Rattle.pf_live_session.specs.pf_group_rounds.specs.Halts.{Halt}
use Rattle.pf_live_session.specs.pf_group_rounds.specs.Agreeing.{chunk_standing}
use Rattle.pf_live_session.specs.pf_group_rounds.specs.Growing.{IsPaidSince}
use Rattle.pf_live_session.specs.pf_chunk.specs.Runs.{new_run}
use Rattle.pf_live_session.specs.pf_chunk.specs.Views.{ChunkIs, ChunkIsReady, run_of}
use Rattle.pf_world_hosts.specs.Moves as moves
use Rattle.pf_world.specs.Views.{IsWorld, WorldIs, WorldOn}
use Rattle.pf_world.specs.Disks.{six_list}

-- the second answer, unless it is done
abbrev pub unless_done : Answer → Answer → Answer
unless_done first Done = first
unless_done first second = second

module _ {D : Type 0} (faults : D → ℕ) where
  -- a group with this number was made on the first six of these disks, which it has from then on
  pub record HasMade (told : Bool) (number sectors names format : ℕ) (disks : List D) (chunk : ChunkIs) (answer : Answer) (left : List D) : Type 0 where
    pub six : Six D
    pub given : disks ≡ six_list six ++ left
    pub made : groups.GroupIsMade number sectors names format told (groups.six_faults faults six) chunk.group answer
    pub ready : ChunkIsReady chunk
    pub run : (halts : List Halt) → run_of halts chunk ≡ new_run (chunk_standing halts chunk.group)

  -- the next one of a world
  abbrev pub HasMadeNext : Bool → WorldOn D → ChunkIs → Answer → WorldOn D → Type 0
  HasMadeNext told old chunk answer new = HasMade told (length old.world.chunks) old.world.sectors old.world.names old.world.format old.spare chunk answer
      new.spare

  -- so the next chunk was made
  pub record HasAdded (told : Bool) (old : WorldOn D) (answer : Answer) (new : WorldOn D) : Type 0 where
    pub chunk : ChunkIs
    pub made : HasMadeNext told old chunk answer new
    pub world : new.world ≡ record old.world { chunks = old.world.chunks ++ chunk ∷ [] }

  -- the chunk begins to move to a group that was made so
  pub record HasBegunMove (told : Bool) (chunk : ℕ) (old : WorldOn D) (number : ℕ) (new : WorldOn D) : Type 0 where
    pub number_is : number ≡ length old.world.chunks
    pub is_world : IsWorld new.world
    pub group : ChunkIs
    pub answer : Answer
    pub made : HasMadeNext told old group answer new
    pub begun : moves.HasBegunMove chunk group old.world.chunks old.world.fleet new.world.chunks new.world.fleet
    pub others : new.world ≡ record old.world { chunks = new.world.chunks; fleet = new.world.fleet }

  -- the group was made on these six disks, and where they tell their content, whatever halted it since was a disk of them that failed
  pub record IsMadeOn (six : Six D) (c : ChunkIs) : Type 0 where
    pub paid : IsTrue c.group.told → IsPaidSince (groups.six_faults faults six) c.group
    pub few : Every (λ i. i < 3) c.group.setup.failed

  -- each of these groups was made on its six of these disks
  pub record AreMadeOn (disks : List D) (made : List ChunkIs) : Type 0 where
    pub sixes : List (Six D)
    pub given : take (6 * length made) disks ≡ flat_map six_list sixes
    pub each : (k : ℕ) (c : ChunkIs) → slice_get made k ≡ Some c → (six : Six D) × (slice_get sixes k ≡ Some six) × IsMadeOn six c

  -- some more groups were made, each on the next six disks
  pub record HasMadeMore (old new : WorldOn D) : Type 0 where
    pub sixes : List (Six D)
    pub given : old.spare ≡ flat_map six_list sixes ++ new.spare
    pub count : length new.world.chunks ≡ length old.world.chunks + length sixes
    pub numbers : (k : ℕ) (c : ChunkIs) → length old.world.chunks ≤ k → slice_get new.world.chunks k ≡ Some c → c.group.number ≡ k
    pub each : (k : ℕ) (six : Six D) (c : ChunkIs) → slice_get sixes k ≡ Some six → slice_get new.world.chunks (length old.world.chunks + k) ≡ Some c
        → IsMadeOn six c

  -- nothing has happened to chunk k yet, and each server that could not be formatted is one of its three, with a disk that failed meanwhile
  pub record IsNew (sixes : List (Six D)) (k : ℕ) (c : ChunkIs) : Type 0 where
    pub six : Six D
    pub there : slice_get sixes k ≡ Some six
    pub history : c.group.history ≡ []
    pub paid : IsPaidSince (groups.six_faults faults six) c.group
    pub few : Every (λ i. i < 3) c.group.setup.failed

  -- Some first chunks of a volume were made, each on its six of these disks, with their own numbers and those of the volume.
  pub record AreBegun (chunks sectors names format : ℕ) (disks : List D) (made : List ChunkIs) : Type 0 where
    pub few : length made ≤ chunks
    pub sixes : List (Six D)
    pub given : take (6 * length made) disks ≡ flat_map six_list sixes
    pub each : (k : ℕ) (c : ChunkIs) → slice_get made k ≡ Some c → IsNew sixes k c
    pub numbers : (k : ℕ) (c : ChunkIs) → slice_get made k ≡ Some c → (c.group.number ≡ k)
        × (c.group.setup ≡ groups.setup_with sectors names format c.group.setup.failed)

  -- the chunks are new, each on its six of these disks
  pub record AreNew (disks : List D) (w : WorldIs) : Type 0 where
    pub sixes : List (Six D)
    pub given : take (6 * length w.chunks) disks ≡ flat_map six_list sixes
    pub each : (k : ℕ) (c : ChunkIs) → slice_get w.chunks k ≡ Some c → IsNew sixes k c
