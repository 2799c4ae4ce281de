-- The group of a chunk is handed out, and more happens to it before it is back.
use Rattle.std.specs.Prelude.{◌≡◌, ℕ, IsTrue, List, ◌++◌}
use Rattle.std.specs.List.{fold}
use Rattle.pf_asks.specs.Ports.{PortIs}
use Rattle.pf_protocol.specs.declared.answers.Answer.TheVariants.{Done}
use Rattle.pf_protocol.specs.declared.events.Event.{Event}
use Rattle.pf_group_rounds.specs.pf_group.specs.GroupIs.{GroupIs, state_of}
use Rattle.pf_group_rounds.specs.Halts.{Halt}
use Rattle.pf_group_rounds.specs.Chunks.{Chunk, after}
use Rattle.pf_chunk_waiting.specs.declared.waiting.Waiting.{Waiting}
use Rattle.pf_chunk.specs.Happenings.{Happened, followed}
use Rattle.pf_chunk.specs.Runs.{ChunkRun}
use Rattle.pf_chunk.specs.Steps.{AreGoneThrough, ReadsAreTold}
use Rattle.pf_chunk.specs.Views.{ChunkIs}

-- what is kept beside the group of this number
pub record LentIs : Type 0 where
  pub number : ℕ
  pub waiting : List Waiting
  pub first_left : ℕ
  pub next : ℕ
  pub ports : List PortIs

-- and the chunk with that group
abbrev pub with_group : LentIs → GroupIs → ChunkIs
with_group lent g = record { group = g; waiting = lent.waiting; first_left = lent.first_left; next = lent.next; ports = lent.ports }

-- events happen one after another, with nothing applied between them
abbrev pub after_all : List Halt → Chunk → List Event → Chunk
after_all halts c events = fold (after halts) c events

-- and all of them are followed up, as one event is
abbrev pub all_happened : List Halt → List Event → ChunkRun → Happened
all_happened halts events c = followed halts (record c { group = after_all halts c.group events }) Done

-- the reads of lines were gone through; where the disks tell their content, those that were answered are told
pub record HasTold (old : ChunkIs) (before after : List ℕ) (new : ChunkIs) : Type 0 where
  pub through : AreGoneThrough old.group.taken old.waiting new.group.taken new.waiting
  pub text : List ℕ
  pub put : after ≡ before ++ text
  pub told : IsTrue old.group.told → ReadsAreTold old.group.number (state_of old.group) old.group.taken old.waiting new.group.taken new.waiting text
