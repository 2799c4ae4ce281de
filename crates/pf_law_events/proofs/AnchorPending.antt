-- What is pending at an anchor is what it was asked for.
use Rattle.std.proofs.Common.{◌≡◌, ◌⊎◌, ℕ, ◌<◌, inl, inr, ◌==◌, Bool, true, false, cond, not, ◌&&◌, List, Option, Some, None, arith, refl, sym, subst}
use Rattle.std.proofs.lemmas.Bool.{cond-false, ne_eqb}
use Rattle.pf_base.specs.declared.asks.Ask.{Ask}
use Rattle.pf_volume.specs.Volumes.{Extent}
use Rattle.pf_paxos.specs.Registers.{Ask as BlockAsk, AsksRead, AsksWrite}
use Rattle.pf_paxos.specs.declared.parts.AnchorNext.{AnchorNext}
use Rattle.pf_paxos.specs.declared.parts.AnchorNext.TheVariants.{Write, Read, Idle}
use Rattle.pf_paxos.specs.declared.parts.Stage.{Stage}
use Rattle.pf_paxos.specs.declared.parts.Stage.TheVariants.{Writes, ReadsLow, ReadsHigh, Done}
use Rattle.pf_paxos.specs.Ballots.{next_at_anchor}
use Rattle.pf_mount_errands.specs.Errands.{is_anchor_free, is_pausing, least_free_anchor}
use Rattle.pf_mount_errands.specs.Looks.{look_at}
use Rattle.pf_mount_errands.specs.Places.{reads_first, reads_super, writes_super}
use Rattle.pf_mount_errands.specs.Positions.{anchors_of, journal_of}
use Rattle.pf_mount_errands.specs.declared.errands.Errand.TheVariants.{FillsSuper, OfPause as PauseErrand, OfSuper as SuperErrand}
use Rattle.pf_mount.specs.declared.work.MountWork.{MountWork}
use Rattle.pf_mount.specs.declared.work.MountWork.TheVariants.{ReadsSuper, Syncs, Ballots, Pauses, WritesSuper}
use Rattle.pf_mount.specs.Mounts.{MountIs, anchor_hands, ask_at, ballot_asks_next, hands_errand, hands_nothing, looks_on, stand_of, works_on}
use Rattle.pf_law_calls.specs.Doings.{looker}
use Rattle.pf_law_calls.specs.Lives.{OfBallot, OfPause, OfSuper, OfSync, Waiting, ballot_waits, look_waits, work_waits}
use Rattle.pf_law_homes.specs.Ports.{Matter, OfData, PortOwed, asks_there}
use Rattle.pf_law_events.specs.Events.{ballot_matter, client_of, look_matter, matter_at, matter_in, owed_now, owed_to}

-- in one position alone it asks this
abbrev pub AsksAt : (position : ℕ) → Matter → Type 0
AsksAt position matter = (ask : BlockAsk) × ((q : ℕ) → asks_there q matter ≡ cond (q == position) (Some ask) None)

-- an ask of the superblock
abbrev pub IsOfSuper : Extent → Ask → Type 0
IsOfSuper v ask = (ask ≡ reads_super v) ⊎ (ask ≡ writes_super v)

abbrev pub OwesFor : Extent → (number : ℕ) → Waiting → PortOwed → Type 0
OwesFor v number (OfBallot position) owed = (owed.client ≡ number) × AsksAt position owed.matter
OwesFor v number (OfSync position half) owed = (owed.client ≡ looker number) × AsksAt position owed.matter
OwesFor v number OfPause owed = (q : ℕ) → asks_there q owed.matter ≡ None
OwesFor v number OfSuper owed = ((q : ℕ) → asks_there q owed.matter ≡ None) × IsOfSuper v owed.ask

-- Where nothing waits it does not matter
abbrev pub Owes : Extent → (number : ℕ) → Option Waiting → Option PortOwed → Type 0
Owes v number None owed = Unit {0}
Owes v number (Some waiting) None = ⊥
Owes v number (Some waiting) (Some owed) = OwesFor v number waiting owed

abbrev pub newest : (now before : Option PortOwed) → Option PortOwed
newest None before = before
newest (Some owed) before = Some owed

-- at an anchor
pub asks_there_now : (m : MountIs) (a : ℕ) → a < anchors_of m.position → ask_at m a ≡ (anchor_hands (stand_of m) m.task.work a).ask
asks_there_now m a low = cond-false (a == anchors_of m.position) m.task.ask (anchor_hands (stand_of m) m.task.work a).ask (ne_eqb a (anchors_of m.position) (λ e. absurd (omega (arith, e, low))))

pub matter_there : (m : MountIs) (a : ℕ) → a < anchors_of m.position → matter_at m a ≡ matter_in m a m.task.work
matter_there m a low = cond-false (a == anchors_of m.position) OfData (matter_in m a m.task.work) (ne_eqb a (anchors_of m.position) (λ e. absurd (omega (arith, e, low))))

module _ (m : MountIs) (a : ℕ) (before : Option PortOwed) where
  abbrev OwesThen : (work : MountWork) → Option Waiting → Matter → Option Ask → Type 0
  OwesThen work waiting matter ask = Owes m.files.volume m.files.mount waiting (newest (owed_to (client_of m.files.mount work) matter ask) before)

  ballot_owes : (input : Option (List ℕ)) (next : AnchorNext) → OwesThen (Ballots input) (ballot_waits m.upto next) (ballot_matter m.upto next) (ballot_asks_next (stand_of m) a next)
  ballot_owes input (Write block) = (refl, (AsksWrite block, λ q. refl))
  ballot_owes input (Read half) = (refl, (AsksRead half, λ q. refl))
  ballot_owes input Idle = tt

  work_owes : (work : MountWork) → OwesThen work (work_waits m work a) (matter_in m a work) (works_on (stand_of m) work a).ask
  work_owes (Syncs looks) = by (look_at looks a).stage
    where
      by : (stage : Stage) → OwesThen (Syncs looks) (look_waits m.upto stage) (look_matter m.upto stage) (looks_on (stand_of m) a stage).ask
      by ReadsLow = (refl, (AsksRead 0, λ q. refl))
      by ReadsHigh = (refl, (AsksRead 1, λ q. refl))
      by Writes = tt
      by Done = tt
  work_owes (Ballots input) = ballot_owes input (next_at_anchor m.position.ballot a)
  work_owes (Pauses input left) = by (not (is_pausing m.errands) && (a == least_free_anchor m.errands m.position.ballot.parts))
    where
      by : (b : Bool) → (let s = stand_of m in OwesThen (Pauses input left) (cond b (Some OfPause) None) (matter_in m a (Pauses input left)) (cond b (hands_errand s a PauseErrand (reads_first (journal_of s.position) s.volume a s.upto)) (hands_nothing s)).ask)
      by true = λ q. refl
      by false = tt
  work_owes ReadsSuper = by (a == 0)
    where
      by : (b : Bool) → (let s = stand_of m in OwesThen ReadsSuper (cond b (Some OfSuper) None) (matter_in m a ReadsSuper) (cond b (hands_errand s a SuperErrand (reads_super s.volume)) (hands_nothing s)).ask)
      by true = ((λ q. refl), inl refl)
      by false = tt
  work_owes WritesSuper = by (a == 0)
    where
      by : (b : Bool) → (let s = stand_of m in OwesThen WritesSuper (cond b (Some OfSuper) None) (matter_in m a WritesSuper) (cond b (hands_errand s a FillsSuper (writes_super s.volume)) (hands_nothing s)).ask)
      by true = ((λ q. refl), inr refl)
      by false = tt
  work_owes work = tt

  -- where an ask is pending, nothing goes out
  anchor_owes : (waits : Option Waiting) → Owes m.files.volume m.files.mount waits before
      → OwesThen m.task.work (cond (is_anchor_free m.errands m.position.ballot.parts a) (work_waits m m.task.work a) waits) (matter_in m a m.task.work) (anchor_hands (stand_of m) m.task.work a).ask
  anchor_owes waits owes = by (is_anchor_free m.errands m.position.ballot.parts a)
    where
      by : (b : Bool) → OwesThen m.task.work (cond b (work_waits m m.task.work a) waits) (matter_in m a m.task.work) (cond b (works_on (stand_of m) m.task.work a) (hands_nothing (stand_of m))).ask
      by true = work_owes m.task.work
      by false = owes

  pub asked_owes : (waits : Option Waiting) → a < anchors_of m.position → Owes m.files.volume m.files.mount waits before
      → Owes m.files.volume m.files.mount (cond (is_anchor_free m.errands m.position.ballot.parts a) (work_waits m m.task.work a) waits) (newest (owed_now m a) before)
  asked_owes waits low owes =
      let w = cond (is_anchor_free m.errands m.position.ballot.parts a) (work_waits m m.task.work a) waits in
      subst (λ (o : Option Ask). Owes m.files.volume m.files.mount w (newest (owed_to (client_of m.files.mount m.task.work) (matter_at m a) o) before)) (sym (asks_there_now m a low))
      (subst (λ (x : Matter). OwesThen m.task.work w x (anchor_hands (stand_of m) m.task.work a).ask) (sym (matter_there m a low)) (anchor_owes waits owes))
