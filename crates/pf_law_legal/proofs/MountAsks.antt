-- What a mount asks may come: a block of file data or half a position lies in one chunk, and what is written has 512 bytes in each sector.
use Rattle.std.proofs.Common.{◌≡◌, ℕ, zero, suc, ◌+◌, ◌*◌, ◌/◌, ◌%◌, ◌<◌, ◌≤◌, not, ◌&&◌, ◌==◌, if◌then◌else◌, List, [], ◌∷◌, ◌++◌, drop, length, replicate, Option, Some, None, arith, refl, sym, ap, subst, ◌∙◌}
use Rattle.std.proofs.lemmas.List.{length-append, length-drop, length-replicate, length-take}
use Rattle.std.proofs.lemmas.Nat.{mod-mul-add}
use Rattle.std.proofs.lemmas.Option.{none-some}
use Rattle.pf_base.specs.Span.{IsWritable}
use Rattle.pf_base.specs.declared.asks.Ask.{Ask}
use Rattle.pf_base.specs.declared.asks.Reply.{Reply}
use Rattle.pf_base.specs.declared.asks.Reply.TheVariants.{Bytes}
use Rattle.pf_entry.specs.Lists.{Every}
use Rattle.pf_entry.specs.Ops.{Sector}
use Rattle.pf_entry.proofs.Cases.{by_test}
use Rattle.pf_volume.specs.Volumes.{Extent, IsVolume}
use Rattle.pf_layout.specs.Supers.{super_block}
use Rattle.pf_paxos.specs.declared.block.Block.{Block}
use Rattle.pf_paxos.specs.declared.parts.AnchorNext.{AnchorNext}
use Rattle.pf_paxos.specs.declared.parts.AnchorNext.TheVariants.{Write, Read, Idle}
use Rattle.pf_paxos.specs.declared.parts.AnchorAsk.{AnchorAsk}
use Rattle.pf_paxos.specs.declared.parts.AnchorAsk.TheVariants.{Nothing, OwnBlock, Half}
use Rattle.pf_paxos.specs.declared.parts.Part.{Part}
use Rattle.pf_paxos.specs.declared.parts.Stage.{Stage}
use Rattle.pf_paxos.specs.declared.parts.Stage.TheVariants.{Writes, ReadsLow, ReadsHigh, Done}
use Rattle.pf_paxos.specs.declared.ballot.Phase.{Phase}
use Rattle.pf_paxos.specs.declared.ballot.Phase.TheVariants.{Resting, Claiming, Proposing}
use Rattle.pf_paxos.specs.Ballots.{next_in_phase, next_at_anchor}
use Rattle.pf_paxos.specs.Parts.{next_where, part_at}
use Rattle.pf_journal.specs.declared.layouts.Layout.{Layout}
use Rattle.pf_journal.specs.declared.layouts.Layout.TheVariants.{Plain, Three}
use Rattle.pf_journal.specs.Layouts.{base_of, layout_of, place_on}
use Rattle.pf_journal.specs.Sectors.{HasSpelling, block_bytes, head_bytes}
use Rattle.pf_file_calls.specs.declared.moving.DataMoving.{DataMoving}
use Rattle.pf_file_calls.specs.declared.moving.DataMoving.TheVariants.{Fetches}
use Rattle.pf_file_calls.specs.Blocks.{bytes_of, sectors_of}
use Rattle.pf_file_calls.specs.Filling.{filled_block}
use Rattle.pf_file_calls.proofs.Cut.{length_cut}
use Rattle.pf_file_calls.proofs.FilledBlocks.{length_filled}
use Rattle.pf_mount_errands.specs.Errands.{is_anchor_free, is_pausing, least_free_anchor}
use Rattle.pf_mount_errands.specs.Looks.{look_at}
use Rattle.pf_mount_errands.specs.Places.{reads_first, reads_half, reads_super, writes_super}
use Rattle.pf_mount_errands.specs.Positions.{anchors_of, journal_of}
use Rattle.pf_mount_errands.specs.declared.errands.Errand.TheVariants.{FillsSuper, OfPause, OfSuper}
use Rattle.pf_mount.specs.declared.work.MountWork.{MountWork}
use Rattle.pf_mount.specs.declared.work.MountWork.TheVariants.{ReadsSuper, WritesSuper, Syncs, Ballots, Pauses, Moves}
use Rattle.pf_mount.specs.Filing.{AnswersMoving}
use Rattle.pf_mount.specs.Mounts.{MountIs, anchor_hands, ask_at, ballot_asks_next, hands_errand, hands_nothing, looks_on, stand_of, works_on}
use Rattle.pf_mount.specs.Nexts.{going, may_go, next_ask}
use Rattle.pf_mount.specs.Standing.{AnswersData}
use Rattle.pf_law_mounts.proofs.WaitingAsks.{AreSo, GivesWhole, Waits}
use Rattle.pf_law_legal.proofs.Ports.{IsFit}
use Rattle.pf_law_legal.proofs.Sent.{IsFull}

abbrev IsFitIf : Option Ask → Type 0
IsFitIf None = Unit {0}
IsFitIf (Some ask) = IsFit ask

-- Ranges

-- a block, wherever it would lie
eight_low : (v : Extent) (block : ℕ) → IsVolume v → IsWritable ((8 * block) % v.sectors) 8
eight_low v block is =
    let k = is.blocks.0 in
    let eights : v.sectors ≡ 8 * k = is.blocks.1 in
    let least = is.some_sectors in
    let most = is.few_sectors in
    let some : 0 < k = omega (arith, eights, least) in
    let less : block % k < k = omega (arith, some) in
    let whole : block ≡ k * (block / k) + block % k = omega (arith, some) in
    let parts : 8 * block ≡ (block / k) * (8 * k) + 8 * (block % k) = grind (arith, whole) in
    let rest : (8 * block) % v.sectors ≡ 8 * (block % k) = ap (λ n. (8 * block) % n) eights ∙ ap (λ n. n % (8 * k)) parts ∙ mod-mul-add (block / k) (8 * k) (8 * (block % k)) (omega (arith, less)) in
    record { some = omega arith; few = omega arith; low = omega (arith, rest, less, eights, most) }

one_low : (v : Extent) (place : ℕ) → IsVolume v → IsWritable (place % v.sectors) 1
one_low v place is =
    let least = is.some_sectors in
    let most = is.few_sectors in
    let less : place % v.sectors < v.sectors = omega (arith, least) in
    record { some = omega arith; few = omega arith; low = omega (arith, less, most) }

base_eights : (layout : Layout) (anchor : ℕ) → (n : ℕ) × (base_of (layout_of layout) anchor ≡ 8 * n)
base_eights Plain zero = (0, refl)
base_eights Plain (suc a) = (0, refl)
base_eights Three zero = (0, refl)
base_eights Three (suc zero) = (512, refl)
base_eights Three (suc (suc zero)) = (1024, refl)
base_eights Three (suc (suc (suc a))) = (0, refl)

half_eights : (layout : Layout) (anchor position half : ℕ) → (n : ℕ) × (place_on (layout_of layout) anchor position (8 * half) ≡ 8 * n)
half_eights layout anchor position half = let base = base_eights layout anchor in let its = base.1 in (base.0 + 1 + 2 * position + half, omega (arith, its))

-- Whole sectors

cut_full : (count : ℕ) (bytes : List ℕ) → 512 * count ≤ length bytes → Every (λ (sector : List ℕ). length sector ≡ 512) (sectors_of count bytes)
unfolding sectors_of
cut_full zero bytes low = tt
cut_full (suc count) bytes low = (let first = length-take 512 bytes in omega (arith, first, low), cut_full count (drop 512 bytes) (let rest = length-drop 512 bytes in omega (arith, rest, low)))

joined : (sectors : List Sector) → Every (λ bytes. length bytes ≡ 512) sectors → length (bytes_of sectors) ≡ 512 * length sectors
joined [] full = refl
joined (sector ∷ sectors) full = let all = length-append sector (bytes_of sectors) in let rest = joined sectors full.1 in let first = full.0 in omega (arith, all, rest, first)

head_length : (b : Block) → length (head_bytes b) ≡ 18
unfolding head_bytes
head_length b = refl

block_full : (b : Block) → HasSpelling b → length (block_bytes b) ≡ 512
unfolding block_bytes
block_full b has =
    let front : List ℕ = head_bytes b ++ b.value in
    let few = has.few in
    let head = head_length b in
    let all = length-append (head_bytes b) b.value in
    length-append front (replicate _ 0) ∙ ap (λ n. length front + n) (length-replicate _ 0) ∙ omega (arith, few, head, all)

super_full : (chunks sectors : ℕ) → length (super_block chunks sectors) ≡ 512
super_full chunks sectors = refl

-- File data

abbrev pub IsFitData : Extent → DataMoving → Ask → Type 0
IsFitData v moving ask = IsVolume v → IsFit ask

abbrev pub IsWholeBlock : List ℕ → Type 0
IsWholeBlock bytes = length bytes ≡ 4096

pub blocks_fit : AreSo IsFitData IsWholeBlock
blocks_fit = record {
  fetches = λ v block f index volume. eight_low v block volume;
  gathers = λ v block inode offset to index bytes volume. eight_low v block volume;
  stores = λ v block f index bytes whole volume.
      let its : List ℕ = filled_block f index bytes in
      let eight : 8 ≡ length (sectors_of 8 its) = sym (length_cut 8 its) in
      let all = length_filled f (4096 * index) bytes in
      (subst (IsWritable ((8 * block) % v.sectors)) eight (eight_low v block volume), refl, cut_full 8 its (omega (arith, all, whole)));
  zeros = length-replicate {A = ℕ} 4096 0;
}

-- an ask for file data waits in the mount, if any does, that may come
abbrev pub IsFitMount : MountIs → Type 0
IsFitMount m = Waits IsFitData IsWholeBlock m.files.volume m.task.work m.task.ask

-- what an answer gives to a mount that takes it is whole
pub gives_whole : (moving : DataMoving) (waiting : Option Ask) (reply : Reply) → AnswersData (Moves moving) waiting reply → IsFull reply → GivesWhole IsFitData IsWholeBlock moving reply
gives_whole moving (Some ask) reply answers full = absurd answers
gives_whole moving None reply answers full = by moving reply answers full
  where
    by : (moving : DataMoving) (reply : Reply) → AnswersMoving moving reply → IsFull reply → GivesWhole IsFitData IsWholeBlock moving reply
    by (Fetches f index) (Bytes sectors) eight full = let all = joined sectors full in omega (arith, all, eight)
    by moving reply answers full = tt

waits_fit : (v : Extent) (work : MountWork) (ask : Ask) → IsVolume v → Waits IsFitData IsWholeBlock v work (Some ask) → IsFit ask
waits_fit v (Moves moving) ask volume is = is volume
waits_fit v work ask volume is = absurd is

-- Anchors

-- a ballot writes its own block
abbrev WritesSpelled : AnchorNext → Type 0
WritesSpelled (Write block) = HasSpelling block
WritesSpelled next = Unit {0}

own_next : (phase : Phase) (part : Part) (own : Block) → HasSpelling own → WritesSpelled (next_in_phase phase part own)
own_next phase part own has = of_phase phase part.asked part.stage
  where
    of_asked : (asked : AnchorAsk) (stage : Stage) → WritesSpelled (next_where asked stage own)
    of_asked Nothing Writes = has
    of_asked Nothing ReadsLow = tt
    of_asked Nothing ReadsHigh = tt
    of_asked Nothing Done = tt
    of_asked OwnBlock stage = tt
    of_asked (Half half) stage = tt

    of_phase : (phase : Phase) (asked : AnchorAsk) (stage : Stage) → WritesSpelled (next_in_phase phase (record part { asked = asked; stage = stage }) own)
    of_phase Resting asked stage = tt
    of_phase Claiming asked stage = of_asked asked stage
    of_phase Proposing asked stage = of_asked asked stage

module _ (m : MountIs) (volume : IsVolume m.files.volume) (has : HasSpelling m.position.ballot.own) (a : ℕ) where
  half_fits : (position half : ℕ) → IsFit (reads_half (layout_of m.position.layout) m.files.volume a position half)
  half_fits position half =
      let place = half_eights m.position.layout a position half in
      subst (λ n. IsWritable (n % m.files.volume.sectors) 8) (sym place.1) (eight_low m.files.volume place.0 volume)

  looks_fit : (stage : Stage) → IsFitIf (looks_on (stand_of m) a stage).ask
  looks_fit ReadsLow = half_fits m.upto 0
  looks_fit ReadsHigh = half_fits m.upto 1
  looks_fit Writes = tt
  looks_fit Done = tt

  next_fits : (next : AnchorNext) → WritesSpelled next → IsFitIf (ballot_asks_next (stand_of m) a next)
  next_fits (Write block) its = (one_low m.files.volume _ volume, refl, (block_full block its, tt))
  next_fits (Read half) its = half_fits m.upto half
  next_fits Idle its = tt

  works_fit : (work : MountWork) → IsFitIf (works_on (stand_of m) work a).ask
  works_fit ReadsSuper = by_test (a == 0) (λ b. IsFitIf (if b then hands_errand (stand_of m) a OfSuper (reads_super m.files.volume) else hands_nothing (stand_of m)).ask) (λ _. one_low m.files.volume 0 volume) (λ _. tt)
  works_fit WritesSuper =
      by_test (a == 0) (λ b. IsFitIf (if b then hands_errand (stand_of m) a FillsSuper (writes_super m.files.volume) else hands_nothing (stand_of m)).ask)
      (λ _. (one_low m.files.volume 0 volume, refl, (super_full m.files.volume.chunks m.files.volume.sectors, tt))) (λ _. tt)
  works_fit (Syncs looks) = looks_fit (look_at looks a).stage
  works_fit (Ballots input) = next_fits (next_at_anchor m.position.ballot a) (own_next m.position.ballot.phase (part_at m.position.ballot.parts a) m.position.ballot.own has)
  works_fit (Pauses input left) =
      by_test (not (is_pausing m.errands) && (a == least_free_anchor m.errands m.position.ballot.parts))
      (λ b. IsFitIf (if b then hands_errand (stand_of m) a OfPause (reads_first (journal_of m.position) m.files.volume a m.upto) else hands_nothing (stand_of m)).ask) (λ _. one_low m.files.volume _ volume) (λ _. tt)
  works_fit work = tt

  hands_fit : IsFitIf (anchor_hands (stand_of m) m.task.work a).ask
  hands_fit = by_test (is_anchor_free m.errands m.position.ballot.parts a) (λ b. IsFitIf (if b then works_on (stand_of m) m.task.work a else hands_nothing (stand_of m)).ask) (λ _. works_fit m.task.work) (λ _. tt)

-- At any port

puts_it : (m : MountIs) (busy : List (Option ℕ)) (port : ℕ) (o : Option Ask) (ask : Ask) → going m busy port o ≡ Some ask → o ≡ Some ask
puts_it m busy port None ask is = absurd (none-some ask is)
puts_it m busy port (Some x) ask is = by_test (may_go m busy port x) (λ b. (if b then Some x else None) ≡ Some ask → Some x ≡ Some ask) (λ _ same. same) (λ _ none. absurd (none-some ask none)) is

-- what the mount asks next may come
pub next_fit : (m : MountIs) (busy : List (Option ℕ)) (port : ℕ) (ask : Ask) → IsVolume m.files.volume → HasSpelling m.position.ballot.own → IsFitMount m → next_ask m busy port ≡ Some ask → IsFit ask
next_fit m busy port ask volume has fit is =
    by_test (port == anchors_of m.position) (λ b. (if b then m.task.ask else (anchor_hands (stand_of m) m.task.work port).ask) ≡ Some ask → IsFit ask)
    (λ _ same. waits_fit m.files.volume m.task.work ask volume (subst (Waits IsFitData IsWholeBlock m.files.volume m.task.work) same fit))
    (λ _ same. subst IsFitIf same (hands_fit m volume has port))
    (puts_it m busy port (ask_at m port) ask is)
