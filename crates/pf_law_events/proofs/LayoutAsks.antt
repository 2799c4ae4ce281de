-- What goes out at a port is an ask of the layout.
use Rattle.std.proofs.Common.{◌≡◌, ℕ, ◌+◌, ◌<◌, ◌≤◌, ◌⊎◌, inl, inr, ◌==◌, Bool, true, false, cond, not, ◌&&◌, List, Option, Some, None, arith, refl, sym, subst, ap}
use Rattle.std.proofs.Math.Nat.{zero-div, zero-mod}
use Rattle.std.proofs.lemmas.Bool.{cases_eq, cond-true, eq-eqb}
use Rattle.pf_base.specs.declared.asks.Ask.{Ask}
use Rattle.pf_volume.specs.Volumes.{Extent}
use Rattle.pf_paxos.specs.declared.block.Block.{Block}
use Rattle.pf_paxos.specs.declared.parts.AnchorNext.{AnchorNext}
use Rattle.pf_paxos.specs.declared.parts.AnchorNext.TheVariants.{Write, Read, Idle}
use Rattle.pf_paxos.specs.declared.parts.AnchorAsk.{AnchorAsk}
use Rattle.pf_paxos.specs.declared.parts.AnchorAsk.TheVariants.{Nothing, OwnBlock, Half}
use Rattle.pf_paxos.specs.declared.parts.Part.{Part}
use Rattle.pf_paxos.specs.declared.parts.Stage.{Stage}
use Rattle.pf_paxos.specs.declared.parts.Stage.TheVariants.{Writes, ReadsLow, ReadsHigh, Done}
use Rattle.pf_paxos.specs.declared.ballot.Phase.{Phase}
use Rattle.pf_paxos.specs.declared.ballot.Phase.TheVariants.{Resting, Claiming, Proposing}
use Rattle.pf_paxos.specs.Parts.{ask_of_stage, next_where, part_at}
use Rattle.pf_paxos.specs.Ballots.{BallotIs, next_in_phase, next_at_anchor}
use Rattle.pf_journal.specs.Layouts.{LayoutIs}
use Rattle.pf_journal.specs.Sectors.{HasSpelling}
use Rattle.pf_mount_errands.specs.Errands.{is_anchor_free, is_pausing, least_free_anchor}
use Rattle.pf_mount_errands.specs.Looks.{look_at}
use Rattle.pf_mount_errands.specs.Places.{reads_first, reads_super, writes_super}
use Rattle.pf_mount_errands.specs.Positions.{anchors_of, journal_of}
use Rattle.pf_mount_errands.specs.declared.errands.Errand.TheVariants.{FillsSuper, OfPause as PauseErrand, OfSuper as SuperErrand}
use Rattle.pf_mount.specs.declared.work.MountWork.{MountWork}
use Rattle.pf_mount.specs.declared.work.MountWork.TheVariants.{ReadsSuper, Syncs, Ballots, Pauses, WritesSuper}
use Rattle.pf_mount.specs.Mounts.{MountIs, anchor_hands, ask_at, ballot_asks_next, hands_errand, hands_nothing, looks_on, stand_of, works_on}
use Rattle.pf_law_homes.specs.Ports.{IsOwed, IsSuper, Matter, OfData, OfSuper, PortOwed}
use Rattle.pf_law_events.specs.Events.{IsDataBehind, IsSpelledIn, ballot_matter, client_of, look_matter, matter_at, matter_in, owed_now, owed_to}
use Rattle.pf_law_events.proofs.AnchorPending.{IsOfSuper, asks_there_now, matter_there}
use Rattle.pf_law_events.proofs.Room.{HasPosition}

-- What a ballot asks next is its own block, or one of two halves

abbrev pub IsFit : Block → AnchorNext → Type 0
IsFit own (Write block) = own ≡ block
IsFit own (Read half) = half < 2
IsFit own Idle = Unit {0}

stage_fits : (stage : Stage) (own : Block) → IsFit own (ask_of_stage stage own)
stage_fits Writes own = refl
stage_fits ReadsLow own = omega arith
stage_fits ReadsHigh own = omega arith
stage_fits Done own = tt

where_fits : (asked : AnchorAsk) (stage : Stage) (own : Block) → IsFit own (next_where asked stage own)
where_fits Nothing stage own = stage_fits stage own
where_fits OwnBlock stage own = tt
where_fits (Half half) stage own = tt

in_fits : (phase : Phase) (part : Part) (own : Block) → IsFit own (next_in_phase phase part own)
in_fits Resting part own = tt
in_fits Claiming part own = where_fits part.asked part.stage own
in_fits Proposing part own = where_fits part.asked part.stage own

pub next_fits : (p : BallotIs) (a : ℕ) → IsFit p.own (next_at_anchor p a)
next_fits p a = in_fits p.phase (part_at p.parts a) p.own

-- what is asked for the superblock reads it, or writes the volume's own
abbrev pub IsOwn : Extent → Matter → Ask → Type 0
IsOwn v OfSuper ask = IsOfSuper v ask
IsOwn v matter ask = Unit {0}

abbrev pub IfOwed : LayoutIs → Extent → (mount port : ℕ) → Option PortOwed → Type 0
IfOwed l v mount port None = Unit {0}
IfOwed l v mount port (Some owed) = IsOwed l v mount port owed × IsOwn v owed.matter owed.ask

-- the superblock is sector 0

reads_it : (v : Extent) → IsSuper (reads_super v)
reads_it v = record { chunk = zero-div v.sectors; first = zero-mod v.sectors; one = refl }

writes_it : (v : Extent) → IsSuper (writes_super v)
writes_it v = record { chunk = zero-div v.sectors; first = zero-mod v.sectors; one = refl }

module _ (m : MountIs) (low_m : m.files.mount < 16) (room : HasPosition (journal_of m.position).positions m.task.work m.upto) where
  abbrev n : ℕ
  n = m.files.mount

  abbrev v : Extent
  v = m.files.volume

  abbrev l : LayoutIs
  l = journal_of m.position

  module _ (a : ℕ) (low : a < anchors_of m.position) where
    abbrev OwedBy : (work : MountWork) → Matter → Option Ask → Type 0
    OwedBy work matter ask = IfOwed l v n a (owed_to (client_of n work) matter ask)

    ballot_owed : (input : Option (List ℕ)) (next : AnchorNext) → m.upto < l.positions → IsFit m.position.ballot.own next → HasSpelling m.position.ballot.own → OwedBy (Ballots input) (ballot_matter m.upto next) (ballot_asks_next (stand_of m) a next)
    ballot_owed input (Write block) room fits has = (record { mount_low = low_m; client = inl refl; ask = (low, room, refl, subst HasSpelling fits has, refl) }, tt)
    ballot_owed input (Read half) room fits has = (record { mount_low = low_m; client = inl refl; ask = (low, room, fits, refl) }, tt)
    ballot_owed input Idle room fits has = tt

    work_owed : (work : MountWork) → HasPosition l.positions work m.upto → IsSpelledIn work m.position.ballot.own → OwedBy work (matter_in m a work) (works_on (stand_of m) work a).ask
    work_owed (Syncs looks) room has = by (look_at looks a).stage
      where
        by : (stage : Stage) → OwedBy (Syncs looks) (look_matter m.upto stage) (looks_on (stand_of m) a stage).ask
        by ReadsLow = (record { mount_low = low_m; client = inr refl; ask = (low, room, omega arith, refl) }, tt)
        by ReadsHigh = (record { mount_low = low_m; client = inr refl; ask = (low, room, omega arith, refl) }, tt)
        by Writes = tt
        by Done = tt
    work_owed (Ballots input) room has = ballot_owed input (next_at_anchor m.position.ballot a) room (next_fits m.position.ballot a) has
    work_owed (Pauses input left) room has = by (not (is_pausing m.errands) && (a == least_free_anchor m.errands m.position.ballot.parts))
      where
        by : (b : Bool) → (let s = stand_of m in OwedBy (Pauses input left) (matter_in m a (Pauses input left)) (cond b (hands_errand s a PauseErrand (reads_first (journal_of s.position) s.volume a s.upto)) (hands_nothing s)).ask)
        by true = (record { mount_low = low_m; client = inl refl; ask = (room, refl) }, tt)
        by false = tt
    work_owed ReadsSuper room has = by (a == 0)
      where
        by : (b : Bool) → (let s = stand_of m in OwedBy ReadsSuper (matter_in m a ReadsSuper) (cond b (hands_errand s a SuperErrand (reads_super s.volume)) (hands_nothing s)).ask)
        by true = (record { mount_low = low_m; client = inl refl; ask = reads_it v }, inl refl)
        by false = tt
    work_owed WritesSuper room has = by (a == 0)
      where
        by : (b : Bool) → (let s = stand_of m in OwedBy WritesSuper (matter_in m a WritesSuper) (cond b (hands_errand s a FillsSuper (writes_super s.volume)) (hands_nothing s)).ask)
        by true = (record { mount_low = low_m; client = inl refl; ask = writes_it v }, inr refl)
        by false = tt
    work_owed work room has = tt

    anchor_owed : IsSpelledIn m.task.work m.position.ballot.own → IfOwed l v n a (owed_now m a)
    anchor_owed has =
        subst (λ (o : Option Ask). IfOwed l v n a (owed_to (client_of n m.task.work) (matter_at m a) o)) (sym (asks_there_now m a low))
        (subst (λ (x : Matter). OwedBy m.task.work x (anchor_hands (stand_of m) m.task.work a).ask) (sym (matter_there m a low))
        (by (is_anchor_free m.errands m.position.ballot.parts a)))
      where
        by : (b : Bool) → OwedBy m.task.work (matter_in m a m.task.work) (cond b (works_on (stand_of m) m.task.work a) (hands_nothing (stand_of m))).ask
        by true = work_owed m.task.work room has
        by false = tt

  -- file data
  of_mount : (work : MountWork) → (client_of n work ≡ n) ⊎ (client_of n work ≡ 17 + n)
  of_mount (Syncs looks) = inr refl
  of_mount work = inl refl

  abbrev OwedAt : (port : ℕ) → Type 0
  OwedAt port = IfOwed l v n port (owed_now m port)

  data_owed : (port : ℕ) (ask : Option Ask) → port ≡ anchors_of m.position → IsDataBehind m.position.layout v port ask → IfOwed l v n port (owed_to (client_of n m.task.work) OfData ask)
  data_owed port None same behind = tt
  data_owed port (Some ask) same behind = (record { mount_low = low_m; client = of_mount m.task.work; ask = behind same }, tt)

  data_now : (port : ℕ) → port ≡ anchors_of m.position → owed_now m port ≡ owed_to (client_of n m.task.work) OfData (ask_at m port)
  data_now port same = ap (λ x. owed_to (client_of n m.task.work) x (ask_at m port)) (cond-true (port == anchors_of m.position) OfData (matter_in m port m.task.work) (eq-eqb port (anchors_of m.position) same))

  pub port_owed : (port : ℕ) → port ≤ anchors_of m.position → IsSpelledIn m.task.work m.position.ballot.own → IsDataBehind m.position.layout v port (ask_at m port) → OwedAt port
  port_owed port low has behind = elim (cases_eq port (anchors_of m.position)) [
    | inl same ↦ subst (λ (o : Option PortOwed). IfOwed l v n port o) (sym (data_now port same)) (data_owed port (ask_at m port) same behind)
    | inr apart ↦ anchor_owed port (omega (arith, low, apart)) has
  ]
