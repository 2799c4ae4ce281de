-- Where the settlings of chunks begin and go on. What is left is known of groups whose disks tell their content.
use Rattle.std.specs.Prelude.{◌≡◌, ℕ, ◌<◌, ◌≤◌, IsTrue, false, List, length, Some, None, slice_get}
use Rattle.pf_mount_host.specs.pf_group.specs.GroupIs.{state_of}
use Rattle.pf_mount_host.specs.pf_group.specs.Packets.{is_left_in, least_from}
use Rattle.pf_mount_host.specs.pf_chunk.specs.Views.{ChunkIs, ChunkIsReady}

-- a settling of the chunk begins: no packet below the next one is left
pub record SettlingBegins (was is : ChunkIs) : Type 0 where
  pub same : is ≡ record was { first_left = is.next; next = is.next }
  pub ready : ChunkIsReady is

pub record AllBegin (old new : List ChunkIs) : Type 0 where
  pub count : length new ≡ length old
  pub each : (k : ℕ) (was is : ChunkIs) → slice_get old k ≡ Some was → slice_get new k ≡ Some is → SettlingBegins was is

-- it goes on further up: no packet in between is left
pub record MovesUp (was is : ChunkIs) : Type 0 where
  pub same : is ≡ record was { next = is.next }
  pub above : was.next ≤ is.next
  pub sent : IsTrue was.group.told → was.next ≤ length (state_of was.group).packets → is.next ≤ length (state_of was.group).packets
  pub none : IsTrue was.group.told → (j : ℕ) → was.next ≤ j → j < is.next → is_left_in (state_of was.group) j ≡ false

pub record AllMoveUp (old new : List ChunkIs) : Type 0 where
  pub count : length new ≡ length old
  pub each : (k : ℕ) (was is : ChunkIs) → slice_get old k ≡ Some was → slice_get new k ≡ Some is → MovesUp was is

-- chunks below this one have no packet that is left from where their settlings go on
abbrev pub AreQuietBelow : (place : ℕ) → List ChunkIs → Type 0
AreQuietBelow place chunks = (k : ℕ) (c : ChunkIs) → k < place → slice_get chunks k ≡ Some c → IsTrue c.group.told → least_from c.next (state_of c.group) ≡ None

-- the least chunk of which a packet is left, and its settling goes on with that
pub record IsNextChunk (place : ℕ) (chunks : List ChunkIs) : Type 0 where
  pub inside : place < length chunks
  pub low : (c : ChunkIs) → slice_get chunks place ≡ Some c → c.next < 65536
  pub least : (c : ChunkIs) → slice_get chunks place ≡ Some c → IsTrue c.group.told → least_from c.next (state_of c.group) ≡ Some c.next
  pub below : AreQuietBelow place chunks
