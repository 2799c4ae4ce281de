-- What a phase of a ballot has done at each of its anchors.
use Rattle.std.specs.Prelude.{◌≡◌, ℕ, suc, ◌-◌, ◌≤◌, Bool, true, false, nat_lt, if◌then◌else◌, List, [], ◌∷◌, ◌++◌, length, map, replicate, take, slice_index_or, slice_set}
use Rattle.pf_paxos.specs.declared.block.Block.{Block}
use Rattle.pf_paxos.specs.Blocks.{zero_block, best_of}
use Rattle.pf_paxos.specs.declared.parts.AnchorAsk.{AnchorAsk}
use Rattle.pf_paxos.specs.declared.parts.AnchorAsk.TheVariants.{Nothing, OwnBlock, Half}
use Rattle.pf_paxos.specs.declared.parts.AnchorNext.{AnchorNext}
use Rattle.pf_paxos.specs.declared.parts.AnchorNext.TheVariants.{Write, Read, Idle}
use Rattle.pf_paxos.specs.declared.parts.Stage.{Stage}
use Rattle.pf_paxos.specs.declared.parts.Stage.TheVariants.{Writes, ReadsLow, ReadsHigh, Done}
use Rattle.pf_paxos.specs.declared.parts.Part.{Part}

-- at an anchor where nothing is asked
abbrev pub fresh : (own : Block) → Part
fresh own = record { stage = Writes; asked = Nothing; is_late = true; best = own }

-- where there is no anchor
abbrev pub no_part : Part
no_part = fresh zero_block

-- the part of an anchor
abbrev pub part_at : List Part → (anchor : ℕ) → Part
part_at parts anchor = slice_index_or parts anchor no_part

abbrev pub with_part : List Part → (anchor : ℕ) → Part → List Part
with_part parts anchor part = slice_set parts anchor part

-- a phase begins at each anchor with the write. What is asked still is late from then on
abbrev pub phase_begun : (own : Block) → Part → Part
phase_begun own part = record { stage = Writes; asked = part.asked; is_late = true; best = own }

abbrev pub renewed : List Part → (own : Block) → List Part
renewed parts own = map (phase_begun own) parts

-- what a part waits for: the write, then the low half, then the high one
abbrev pub ask_of_stage : Stage → (own : Block) → AnchorNext
ask_of_stage Writes own = Write own
ask_of_stage ReadsLow own = Read 0
ask_of_stage ReadsHigh own = Read 1
ask_of_stage Done own = Idle

-- one ask at a time
abbrev pub next_where : (asked : AnchorAsk) → Stage → (own : Block) → AnchorNext
next_where Nothing stage own = ask_of_stage stage own
next_where _ stage own = Idle

abbrev pub part_takes : Part → AnchorNext → Part
part_takes part Idle = part
part_takes part (Write block) = record part { asked = OwnBlock; is_late = false }
part_takes part (Read half) = record part { asked = Half half; is_late = false }

-- the asks
abbrev pub AsksBlockWrite : AnchorAsk → Type 0
AsksBlockWrite OwnBlock = Unit {0}
AsksBlockWrite _ = ⊥

abbrev pub AsksHalf : (half : ℕ) → AnchorAsk → Type 0
AsksHalf half (Half other) = other ≡ half
AsksHalf half _ = ⊥

-- an answer frees the anchor, and one of an earlier phase or ballot does nothing else
abbrev pub part_freed : Part → Part
part_freed part = record part { asked = Nothing }

abbrev pub part_written : Part → Part
part_written part = if part.is_late then part_freed part else record (part_freed part) { stage = ReadsLow }

abbrev pub stage_after : Stage → Stage
stage_after ReadsLow = ReadsHigh
stage_after _ = Done

abbrev pub part_advanced : Part → List Block → Part
part_advanced part blocks = record { stage = stage_after part.stage; asked = Nothing; is_late = part.is_late; best = best_of part.best blocks }

-- how many anchors have done their part
abbrev pub is_done : Stage → Bool
is_done Done = true
is_done _ = false

abbrev pub parts_done : List Part → ℕ
parts_done [] = 0
parts_done (part ∷ parts) = if is_done part.stage then suc (parts_done parts) else parts_done parts

-- the block with the greatest bal, of this one and of those read on the anchors that have done their part
abbrev pub best_with_done : Block → Part → Block
best_with_done best part = if is_done part.stage then if nat_lt best.bal part.best.bal then part.best else best else best

abbrev pub best_done : List Part → (own : Block) → Block
best_done [] own = own
best_done (part ∷ parts) own = best_done parts (best_with_done own part)

-- three parts in place, of which those past the count are of no anchor
abbrev pub parts_padded : List Part → List Part
parts_padded parts = parts ++ replicate (3 - length parts) no_part

pub record ArePadded (field : List Part) (count : ℕ) : Type 0 where
  pub few : count ≤ 3
  pub there : length (take count field) ≡ count
  pub rest : parts_padded (take count field) ≡ field
