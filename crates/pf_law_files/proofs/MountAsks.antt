-- What a mount asks at its ports: file data while its call is at them, at the port for them, and then nothing at the anchors.
use Rattle.std.proofs.Common.{◌≡◌, ◌≢◌, ℕ, ◌<◌, ◌==◌, Bool, true, false, cond, if◌then◌else◌, not, ◌&&◌, List, Option, Some, None, refl, sym, ap, subst, ◌∙◌}
use Rattle.std.proofs.lemmas.Bool.{cond-true, eq-eqb}
use Rattle.std.proofs.lemmas.Option.{none-some, same_Some}
use Rattle.pf_base.specs.declared.asks.Ask.{Ask}
use Rattle.pf_entry.proofs.Cases.{by_test}
use Rattle.pf_volume.specs.Volumes.{Extent, IsVolume}
use Rattle.pf_paxos.specs.declared.block.Block.{Block}
use Rattle.pf_paxos.specs.declared.parts.AnchorNext.{AnchorNext}
use Rattle.pf_paxos.specs.declared.parts.AnchorNext.TheVariants.{Write, Read, Idle}
use Rattle.pf_paxos.specs.declared.parts.Stage.{Stage}
use Rattle.pf_paxos.specs.declared.parts.Stage.TheVariants.{Writes, ReadsLow, ReadsHigh, Done}
use Rattle.pf_paxos.specs.Ballots.{next_at_anchor}
use Rattle.pf_tree.specs.Held.{Held}
use Rattle.pf_file_calls.specs.Moving.{IsTreeOf, data_moves}
use Rattle.pf_file_calls.specs.declared.calls.Pending.{Pending as Call}
use Rattle.pf_file_calls.specs.declared.moving.DataMoving.{DataMoving}
use Rattle.pf_file_calls.specs.declared.moving.Moved.TheVariants.{Asks as AsksFor}
use Rattle.pf_law_plans.specs.Exchanges.{Exchange}
use Rattle.pf_mount_errands.specs.Errands.{is_anchor_free, is_pausing, least_free_anchor}
use Rattle.pf_mount_errands.specs.Looks.{look_at}
use Rattle.pf_mount_errands.specs.Places.{reads_first, reads_super, writes_super}
use Rattle.pf_mount_errands.specs.Positions.{anchors_of, journal_of}
use Rattle.pf_mount_errands.specs.declared.errands.Errand.{Errand}
use Rattle.pf_mount_errands.specs.declared.errands.Errand.TheVariants.{FillsSuper, OfPause as PauseErrand, OfSuper as SuperErrand}
use Rattle.pf_mount.specs.declared.work.MountWork.{MountWork}
use Rattle.pf_mount.specs.declared.work.MountWork.TheVariants.{Ballots, Moves, Pauses, ReadsSuper, Syncs, WritesSuper}
use Rattle.pf_mount.specs.Mounts.{MountIs, anchor_hands, ask_at, asked_anchor, asked_data, ballot_asks_next, hands_errand, hands_nothing, looks_on, stand_of, works_on}
use Rattle.pf_law_calls.specs.Lives.{Asks, Begins, Hears, Input, mount_after}
use Rattle.pf_law_calls.specs.Going.{GoesAt, IsDataAsked}
use Rattle.pf_law_homes.specs.Ports.{Matter, OfBlock, OfData, OfHalf, OfPause, OfSuper, PortOwed}
use Rattle.pf_law_events.specs.Events.{ballot_matter, client_of, look_matter, matter_at, matter_in, owed_now, owed_to}
use Rattle.pf_law_events.proofs.AnchorPending.{asks_there_now, matter_there}
use Rattle.pf_law_files.proofs.Blocks.{IsOfBlock, goes_block, moves_block}

-- File data

-- with this ask pending at the port for file data and this one next, and this call: at work on file data they are of a block, and one of them is
abbrev pub MovesNow : Extent → (last next : Option Ask) → Option Call → MountWork → Type 0
MovesNow v last next q (Moves moving) = (q ≢ None) × (ask : Ask) × IsDataAsked last next ask × IsOfBlock v ask
MovesNow v last next q work = (last ≡ None) × (next ≡ None)

abbrev pub IsFar : Extent → (last : Option Ask) → MountIs → Type 0
IsFar v last x = MovesNow v last x.task.ask x.files.pending x.task.work

no_none : (p : Call) → ◌≢◌ {A = Option Call} (Some p) None
no_none p e = none-some p (sym e)

pub far_is : (list : List (List ℕ)) (m : ℕ) (v : Extent) → IsVolume v → (its : List Exchange) (last next : Option Ask) (upto : ℕ) (h : Held) → IsTreeOf v h.tables → (q : Option Call) (work : MountWork) → GoesAt list m v its last next upto h q work → MovesNow v last next q work
far_is list m v volume its last next upto h tree None (Moves moving) far = absurd far
far_is list m v volume its last next upto h tree (Some p) (Moves moving) far =
    let gone = far.2 in
    (no_none p, far.0, far.1, goes_block v volume h.tables tree (data_moves v h.tables gone.size p.call) its (AsksFor far.0 moving) (moves_block v volume h.tables tree gone.size p.call) gone.goes)
far_is list m v volume its last next upto h tree q work far = (far.0, far.1)

-- where this is next, nothing is pending there
pub record IsNext (v : Extent) (last : Option Ask) (q : Option Call) (number : ℕ) (work : MountWork) (ask : Ask) : Type 0 where
  pub free : last ≡ None
  pub calls : q ≢ None
  pub by_itself : client_of number work ≡ number
  pub block : IsOfBlock v ask

next_is : (v : Extent) (last next : Option Ask) (q : Option Call) (number : ℕ) (work : MountWork) (ask : Ask) → next ≡ Some ask → MovesNow v last next q work → IsNext v last q number work ask
next_is v last None q number work ask is far = absurd (none-some ask is)
next_is v last (Some next) q number (Moves moving) ask is far = record {
  free = far.2.0;
  calls = far.0;
  by_itself = refl;
  block = subst (IsOfBlock v) (sym far.2.1 ∙ same_Some next ask is) far.3;
}
next_is v last (Some next) q number work ask is far = absurd (none-some next (sym far.1))

pub next_data : (v : Extent) (last : Option Ask) (x : MountIs) (ask : Ask) → x.task.ask ≡ Some ask → IsFar v last x → IsNext v last x.files.pending x.files.mount x.task.work ask
next_data v last x ask is far = next_is v last x.task.ask x.files.pending x.files.mount x.task.work ask is far

-- where this is pending, nothing is next, and no anchor is asked anything
pub record IsPendingData (next : Option Ask) (q : Option Call) (work : MountWork) : Type 0 where
  pub nothing : next ≡ None
  pub calls : q ≢ None
  pub moving : DataMoving
  pub at_data : work ≡ Moves moving

pends_is : (v : Extent) (last next : Option Ask) (q : Option Call) (work : MountWork) (ask : Ask) → last ≡ Some ask → MovesNow v last next q work → IsPendingData next q work
pends_is v last None q (Moves moving) ask is far = record { nothing = refl; calls = far.0; moving = moving; at_data = refl }
pends_is v last (Some next) q (Moves moving) ask is far = absurd (none-some ask (sym far.2.0 ∙ is))
pends_is v last next q work ask is far = absurd (none-some ask (sym far.0 ∙ is))

pub pending_data : (v : Extent) (last : Option Ask) (x : MountIs) (ask : Ask) → last ≡ Some ask → IsFar v last x → IsPendingData x.task.ask x.files.pending x.task.work
pending_data v last x ask is far = pends_is v last x.task.ask x.files.pending x.task.work ask is far

-- where no call is pending, nothing is
none_is : (v : Extent) (last next : Option Ask) (q : Option Call) (work : MountWork) → q ≡ None → MovesNow v last next q work → last ≡ None
none_is v last next q (Moves moving) none far = absurd (far.0 none)
none_is v last next q work none far = far.0

pub none_pends : (v : Extent) (last : Option Ask) (x : MountIs) → x.files.pending ≡ None → IsFar v last x → last ≡ None
none_pends v last x none far = none_is v last x.task.ask x.files.pending x.task.work none far

-- At the port for file data

pub data_now : (x : MountIs) (port : ℕ) → port ≡ anchors_of x.position → owed_now x port ≡ owed_to (client_of x.files.mount x.task.work) OfData x.task.ask
data_now x port same =
    let is = eq-eqb port (anchors_of x.position) same in
    ap (λ (matter : Matter). owed_to (client_of x.files.mount x.task.work) matter (ask_at x port)) (cond-true (port == anchors_of x.position) OfData (matter_in x port x.task.work) is)
    ∙ ap (owed_to (client_of x.files.mount x.task.work) OfData) (cond-true (port == anchors_of x.position) x.task.ask (anchor_hands (stand_of x) x.task.work port).ask is)

-- At the anchors

block_other : (position : ℕ) (block : Block) → OfBlock position block ≢ OfData
block_other position block e = absurd (cc)

half_other : (position half : ℕ) → OfHalf position half ≢ OfData
half_other position half e = absurd (cc)

pause_other : (position : ℕ) → OfPause position ≢ OfData
pause_other position e = absurd (cc)

super_other : OfSuper ≢ OfData
super_other e = absurd (cc)

-- what is owed is for something else
abbrev pub IsOther : Option PortOwed → Type 0
IsOther None = Unit {0}
IsOther (Some owed) = owed.matter ≢ OfData

module _ (x : MountIs) (a : ℕ) (low : a < anchors_of x.position) where
  abbrev OtherAt : MountWork → Matter → Option Ask → Type 0
  OtherAt work matter ask = IsOther (owed_to (client_of x.files.mount work) matter ask)

  next_other : (input : Option (List ℕ)) (next : AnchorNext) → OtherAt (Ballots input) (ballot_matter x.upto next) (ballot_asks_next (stand_of x) a next)
  next_other input (Write block) = block_other x.upto block
  next_other input (Read half) = half_other x.upto half
  next_other input Idle = tt

  super_there : (work : MountWork) (b : Bool) (errand : Errand) (ask : Ask) → OtherAt work OfSuper (cond b (hands_errand (stand_of x) a errand ask) (hands_nothing (stand_of x))).ask
  super_there work true errand ask = super_other
  super_there work false errand ask = tt

  work_other : (work : MountWork) → OtherAt work (matter_in x a work) (works_on (stand_of x) work a).ask
  work_other (Syncs looks) = by (look_at looks a).stage
    where
      by : (stage : Stage) → OtherAt (Syncs looks) (look_matter x.upto stage) (looks_on (stand_of x) a stage).ask
      by ReadsLow = half_other x.upto 0
      by ReadsHigh = half_other x.upto 1
      by Writes = tt
      by Done = tt
  work_other (Ballots input) = next_other input (next_at_anchor x.position.ballot a)
  work_other (Pauses input left) = by (not (is_pausing x.errands) && (a == least_free_anchor x.errands x.position.ballot.parts))
    where
      by : (b : Bool) → (let s = stand_of x in OtherAt (Pauses input left) (OfPause x.upto) (cond b (hands_errand s a PauseErrand (reads_first (journal_of s.position) s.volume a s.upto)) (hands_nothing s)).ask)
      by true = pause_other x.upto
      by false = tt
  work_other ReadsSuper = super_there ReadsSuper (a == 0) SuperErrand (reads_super x.files.volume)
  work_other WritesSuper = super_there WritesSuper (a == 0) FillsSuper (writes_super x.files.volume)
  work_other work = tt

  pub anchor_other : IsOther (owed_now x a)
  anchor_other =
      subst (λ (o : Option Ask). OtherAt x.task.work (matter_at x a) o) (sym (asks_there_now x a low))
      (subst (λ (matter : Matter). OtherAt x.task.work matter (anchor_hands (stand_of x) x.task.work a).ask) (sym (matter_there x a low))
      (by (is_anchor_free x.errands x.position.ballot.parts a)))
    where
      by : (b : Bool) → OtherAt x.task.work (matter_in x a x.task.work) (cond b (works_on (stand_of x) x.task.work a) (hands_nothing (stand_of x))).ask
      by true = work_other x.task.work
      by false = tt

  -- nothing is, at work on file data
  pub anchor_none : (moving : DataMoving) → x.task.work ≡ Moves moving → owed_now x a ≡ None
  anchor_none moving at =
      ap (owed_to (client_of x.files.mount x.task.work) (matter_at x a)) (asks_there_now x a low ∙ ap (λ work. (anchor_hands (stand_of x) work a).ask) at ∙ by (is_anchor_free x.errands x.position.ballot.parts a))
    where
      by : (b : Bool) → (cond b (works_on (stand_of x) (Moves moving) a) (hands_nothing (stand_of x))).ask ≡ None
      by true = refl
      by false = refl

-- Calls

still_none : (b : Bool) (q : Option Call) → q ≡ None → (if b then None else q) ≡ None
still_none true q none = refl
still_none false q none = none

abbrev pub IsNoCall : Input → Type 0
IsNoCall (Begins call) = ⊥
IsNoCall input = Unit {0}

-- no call is pending until one begins
pub still_rests : (x : MountIs) (input : Input) → IsNoCall input → x.files.pending ≡ None → (mount_after x input).files.pending ≡ None
still_rests x (Begins call) begun none = absurd begun
still_rests x (Asks port) begun none = by_test (port == anchors_of x.position) (λ b. (if b then asked_data x else asked_anchor x port).files.pending ≡ None) (λ _. none) (λ _. none)
still_rests x (Hears port reply) begun none = still_none _ x.files.pending none
