-- What is known of moves in any run, and of groups that are those of a run's chunks.
use Rattle.std.proofs.Common.{◌≡◌, ℕ, suc, ◌<◌, ◌≤◌, List, ◌∷◌, ◌++◌, take, drop, Some, slice_get, subst, ◌∙◌}
use Rattle.pf_protocol.specs.Answers.{IsLegal}
use Rattle.pf_law_positions.specs.Deeds.{Groups}
use Rattle.pf_law_movers.specs.pf_chunk.specs.Runs.{ChunkRun}
use Rattle.pf_volume.specs.Volumes.{Extent}
use Rattle.pf_law_movers.specs.pf_world_moments.specs.Moments.{Hands, Moment, Moves}
use Rattle.pf_law_movers.specs.Epochs.{epoch_of, group_of_epoch}
use Rattle.pf_law_movers.specs.Handing.{reached}
use Rattle.pf_law_movers.specs.Hosted.{carried_into}
use Rattle.pf_law_movers.specs.Movers.{AreMoves}
use Rattle.pf_law_movers.proofs.ChunkEpochs.{AreBegun, begun_until, each_there, some_group}
use Rattle.pf_law_movers.proofs.ListPlaces.{more_is_told, parted}

-- what moves make of chunks
pub are_begun : (v : Extent) (chunks : List ChunkRun) (told : List Moment) → AreMoves v chunks told → AreBegun v.chunks told
are_begun v chunks told moves = record {
  begins = λ before after chunk to same. let b = moves.begins before after chunk to same in record { small = b.small; rests = b.rests; behind = b.behind; fresh = b.fresh };
  carries = moves.carries;
}

-- of its moves, of what was handed on, and that its groups are lawful
pub record IsOfMoves (v : Extent) (chunks : List ChunkRun) (told : List Moment) : Type 0 where
  pub moves : AreMoves v chunks told
  pub behind : (before after : List Moment) (m k place : ℕ) → told ≡ before ++ Hands m k place ∷ after → reached k before ≤ place
  pub legal : (k : ℕ) (c : ChunkRun) → slice_get chunks k ≡ Some c → IsLegal c.group.setup c.group.history

-- groups of the chunks in their epochs, each so far as this says of its number, and no less far than was told; into each the mover wrote what was told
pub record AreGroupsOf (v : Extent) (chunks : List ChunkRun) (told : List Moment) (upto : ℕ → ℕ) (groups : Groups) : Type 0 where
  pub far : (k : ℕ) (c : ChunkRun) → slice_get chunks k ≡ Some c → reached k told ≤ upto k
  pub setup : (chunk epoch k : ℕ) (c : ChunkRun) → group_of_epoch told chunk epoch ≡ Some k → slice_get chunks k ≡ Some c → groups.setup chunk epoch ≡ c.group.setup
  pub history : (chunk epoch k : ℕ) (c : ChunkRun) → group_of_epoch told chunk epoch ≡ Some k → slice_get chunks k ≡ Some c → groups.history chunk epoch ≡ take (upto k) c.group.history
  pub moved : (chunk epoch k : ℕ) → group_of_epoch told chunk (suc epoch) ≡ Some k → groups.moved chunk epoch ≡ carried_into v chunks told chunk epoch (Some k)

-- the group of an epoch of the chunk
pub record HasGroup (chunks : List ChunkRun) (told : List Moment) (chunk epoch : ℕ) : Type 0 where
  pub k : ℕ
  pub at : group_of_epoch told chunk epoch ≡ Some k
  pub c : ChunkRun
  pub there : slice_get chunks k ≡ Some c

-- What was told first
module _ (v : Extent) (chunks : List ChunkRun) (whole : List Moment) (moves : AreMoves v chunks whole) (told rest : List Moment) (part : whole ≡ told ++ rest) where
  pub begun_first : AreBegun v.chunks told
  begun_first = begun_until v.chunks told rest (subst (AreBegun v.chunks) part (are_begun v chunks whole moves))

  -- a moment of it is one of the whole
  pub whole_by : (before : List Moment) (x : Moment) (after : List Moment) → told ≡ before ++ x ∷ after → whole ≡ before ++ x ∷ (after ++ rest)
  whole_by before x after same = part ∙ more_is_told before x after rest told same

  pub cut_by : (p : ℕ) (x : Moment) → slice_get told p ≡ Some x → whole ≡ take p told ++ x ∷ (drop (suc p) told ++ rest)
  cut_by p x at = whole_by (take p told) x (drop (suc p) told) (parted told p x at)

  -- each group that a chunk has had is there
  pub group_by : (chunk epoch k : ℕ) → chunk < v.chunks → group_of_epoch told chunk epoch ≡ Some k → (c : ChunkRun) × (slice_get chunks k ≡ Some c)
  group_by chunk epoch k small at = each_there v.chunks chunks told moves.groups
      (λ before after c to same. let b = moves.begins before (after ++ rest) c to (whole_by before (Moves c to) after same) in (b.group, b.there)) chunk epoch k small at

  pub group_in : (chunk epoch : ℕ) → chunk < v.chunks → epoch ≤ epoch_of told chunk → HasGroup chunks told chunk epoch
  group_in chunk epoch small low =
      let some = some_group v.chunks told begun_first chunk epoch low in
      let there = group_by chunk epoch some.0 small some.1 in
      record { k = some.0; at = some.1; c = there.0; there = there.1 }
