-- What goes out at an anchor is a turn of the journal there.
use Rattle.std.proofs.Common.{◌≡◌, ◌≢◌, ℕ, ◌<◌, ◌==◌, Bool, true, false, cond, not, ◌&&◌, nat_lt, List, length, Option, Some, None, arith, refl, sym, ap, ◌∙◌}
use Rattle.std.proofs.lemmas.Bool.{cond-false, cond-true, eq-eqb, lt-ltb, ne_eqb}
use Rattle.pf_base.specs.declared.asks.Ask.{Ask}
use Rattle.pf_paxos.specs.Registers.{Ask as BlockAsk, AsksRead, AsksWrite, Turn}
use Rattle.pf_paxos.specs.Runs.{idle_turn}
use Rattle.pf_paxos.specs.declared.parts.AnchorNext.{AnchorNext}
use Rattle.pf_paxos.specs.declared.parts.AnchorNext.TheVariants.{Write, Read, Idle}
use Rattle.pf_paxos.specs.declared.parts.Stage.{Stage}
use Rattle.pf_paxos.specs.declared.parts.Stage.TheVariants.{Writes, ReadsLow, ReadsHigh, Done}
use Rattle.pf_paxos.specs.Parts.{part_at}
use Rattle.pf_paxos.specs.Ballots.{BallotIs, next_at_anchor}
use Rattle.pf_paxos.specs.Quorums.{turn_on}
use Rattle.pf_paxos.specs.BallotRuns.{Asks as AsksNext, At, Calls, move_at, move_in, turn_asking, ballot_turn, turn_of_move}
use Rattle.pf_journal.specs.declared.layouts.Layout.{Layout}
use Rattle.pf_law_lists.specs.Journals.{BallotJournal}
use Rattle.pf_law_positions.specs.Homes.{turn_or_idle}
use Rattle.pf_mount_errands.specs.Errands.{is_anchor_free, is_pausing, least_free_anchor}
use Rattle.pf_mount_errands.specs.Looks.{look_at}
use Rattle.pf_mount_errands.specs.Places.{reads_first, reads_super, writes_super}
use Rattle.pf_mount_errands.specs.Positions.{IsOverAnchors, anchors_of, journal_of}
use Rattle.pf_mount_errands.specs.declared.errands.Errand.TheVariants.{FillsSuper, OfPause as PauseErrand, OfSuper as SuperErrand}
use Rattle.pf_mount.specs.declared.work.MountWork.{MountWork}
use Rattle.pf_mount.specs.declared.work.MountWork.TheVariants.{ReadsSuper, Syncs, Ballots, Pauses, WritesSuper}
use Rattle.pf_mount.specs.Mounts.{MountIs, anchor_hands, ballot_asks_next, hands_errand, hands_nothing, looks_on, stand_of, works_on}
use Rattle.pf_law_calls.specs.Doings.{asks_for, asks_now, looker, no_doing}
use Rattle.pf_law_calls.specs.Lives.{OfBallot, OfPause, OfSuper, OfSync, Waiting, ballot_waits, look_waits, work_waits}
use Rattle.pf_law_homes.specs.Ports.{Matter, PortOwed, Pending, ask_on, asks_there, turn_of_event as event_turn}
use Rattle.pf_law_events.specs.Events.{ballot_matter, client_of, goes, look_matter, matter_at, matter_in, owed_now, owed_to}
use Rattle.pf_law_events.proofs.AnchorPending.{asks_there_now, matter_there}
use Rattle.pf_law_events.proofs.Turns.{acts_is, looks_is, nothing_is, turn_at}

abbrev pub asking : (client : ℕ) → BlockAsk → Turn
asking client ask = record { client = client; reply = None; ask = Some ask }

-- what goes out at a port, as a turn of a position
abbrev pub asks_turn : (anchor position port : ℕ) → Option PortOwed → Turn
asks_turn a q port None = idle_turn
asks_turn a q port (Some owed) = turn_or_idle owed.client None (ask_on a q port owed.matter)

pub goes_is : (a q k port : ℕ) (pending : Pending) (o : Option PortOwed) → event_turn a q pending (goes k port o) ≡ asks_turn a q port o
goes_is a q k port pending None = refl
goes_is a q k port pending (Some owed) = refl

-- at another anchor
pub asks_elsewhere : (a q port : ℕ) (o : Option PortOwed) → port ≢ a → asks_turn a q port o ≡ idle_turn
asks_elsewhere a q port None apart = refl
asks_elsewhere a q port (Some owed) apart = ap (turn_or_idle owed.client None) (cond-false (port == a) (asks_there q owed.matter) None (ne_eqb port a apart))

-- at this one, in one position
asks_here : (a client : ℕ) (b : Bool) (ask : BlockAsk) → turn_or_idle client None (cond (a == a) (cond b (Some ask) None) None) ≡ cond b (asking client ask) idle_turn
asks_here a client b ask = ap (turn_or_idle client None) (cond-true (a == a) (cond b (Some ask) None) None (eq-eqb a a refl)) ∙ by b
  where
    by : (c : Bool) → turn_or_idle client None (cond c (Some ask) None) ≡ cond c (asking client ask) idle_turn
    by true = refl
    by false = refl

none_here : (a client : ℕ) → turn_or_idle client None (cond (a == a) None None) ≡ idle_turn
none_here a client = ap (turn_or_idle client None) (cond-true (a == a) None None (eq-eqb a a refl))

-- this, where the position is the one
if_same : (b : Bool) (x y : Turn) → x ≡ y → cond b x idle_turn ≡ cond b y idle_turn
if_same b x y same = ap (λ t. cond b t idle_turn) same

module _ (j : BallotJournal) (a q : ℕ) (m : MountIs) (low_a : a < anchors_of m.position) (low_m : m.files.mount < 16) (here : j.mounts m.upto m.files.mount ≡ m.position.ballot) (over : IsOverAnchors m.position) where
  abbrev its : Layout
  its = m.position.layout

  abbrev n : ℕ
  n = m.files.mount

  count : length (j.mounts m.upto n).parts ≡ anchors_of m.position
  count = ap (λ (p : BallotIs). length p.parts) here ∙ over

  -- what is asked of the anchor's ballot
  asks_next_is : ballot_turn (j.mounts m.upto) (Calls n (At a AsksNext)) ≡ turn_asking n a (next_at_anchor m.position.ballot a)
  asks_next_is =
      ap turn_of_move
      (cond-true (nat_lt n 16) (move_in n (j.mounts m.upto n) (At a AsksNext)) None (lt-ltb n 16 low_m)
      ∙ cond-true (nat_lt a (length (j.mounts m.upto n).parts)) (move_at n a (j.mounts m.upto n) AsksNext (part_at (j.mounts m.upto n).parts a).asked) None
      (lt-ltb a (length (j.mounts m.upto n).parts) (omega (arith, low_a, count))))
      ∙ ap (λ (p : BallotIs). turn_asking n a (next_at_anchor p a)) here

  on_here : (t : Turn) → cond (a == a) t idle_turn ≡ t
  on_here t = cond-true (a == a) t idle_turn (eq-eqb a a refl)

  -- a doing and an event are the same there
  abbrev IsSame : (work : MountWork) → Option Waiting → Matter → Option Ask → Type 0
  IsSame work waiting matter ask = turn_at j a q (asks_for its n a waiting) ≡ asks_turn a q a (owed_to (client_of n work) matter ask)

  acts_so : turn_at j a q (asks_for its n a (Some (OfBallot m.upto))) ≡ cond (q == m.upto) (turn_on a (turn_asking n a (next_at_anchor m.position.ballot a))) idle_turn
  acts_so = acts_is j a q n m.upto a AsksNext ∙ if_same (q == m.upto) _ _ (ap (turn_on a) asks_next_is)

  ballot_same : (input : Option (List ℕ)) (next : AnchorNext) → next_at_anchor m.position.ballot a ≡ next → IsSame (Ballots input) (ballot_waits m.upto next) (ballot_matter m.upto next) (ballot_asks_next (stand_of m) a next)
  ballot_same input (Write block) is =
      acts_so ∙ if_same (q == m.upto) _ _ (ap (λ x. turn_on a (turn_asking n a x)) is ∙ on_here (asking n (AsksWrite block)))
      ∙ sym (asks_here a n (q == m.upto) (AsksWrite block))
  ballot_same input (Read half) is =
      acts_so ∙ if_same (q == m.upto) _ _ (ap (λ x. turn_on a (turn_asking n a x)) is ∙ on_here (asking n (AsksRead half)))
      ∙ sym (asks_here a n (q == m.upto) (AsksRead half))
  ballot_same input Idle is = nothing_is j a q its

  -- a half that a sync reads
  look_same : (half : ℕ) → turn_at j a q (asks_for its n a (Some (OfSync m.upto half))) ≡ cond (q == m.upto) (asking (looker n) (AsksRead half)) idle_turn
  look_same half = looks_is j a q m.upto (turn_asking (looker n) a (Read half)) (omega arith) ∙ if_same (q == m.upto) _ _ (on_here (asking (looker n) (AsksRead half)))

  work_same : (work : MountWork) → IsSame work (work_waits m work a) (matter_in m a work) (works_on (stand_of m) work a).ask
  work_same (Syncs looks) = by (look_at looks a).stage
    where
      by : (stage : Stage) → IsSame (Syncs looks) (look_waits m.upto stage) (look_matter m.upto stage) (looks_on (stand_of m) a stage).ask
      by ReadsLow = look_same 0 ∙ sym (asks_here a (looker n) (q == m.upto) (AsksRead 0))
      by ReadsHigh = look_same 1 ∙ sym (asks_here a (looker n) (q == m.upto) (AsksRead 1))
      by Writes = nothing_is j a q its
      by Done = nothing_is j a q its
  work_same (Ballots input) = ballot_same input (next_at_anchor m.position.ballot a) refl
  work_same (Pauses input left) = by (not (is_pausing m.errands) && (a == least_free_anchor m.errands m.position.ballot.parts))
    where
      by : (b : Bool) → (let s = stand_of m in IsSame (Pauses input left) (cond b (Some OfPause) None) (matter_in m a (Pauses input left)) (cond b (hands_errand s a PauseErrand (reads_first (journal_of s.position) s.volume a s.upto)) (hands_nothing s)).ask)
      by true = nothing_is j a q its ∙ sym (none_here a n)
      by false = nothing_is j a q its
  work_same ReadsSuper = by (a == 0)
    where
      by : (b : Bool) → (let s = stand_of m in IsSame ReadsSuper (cond b (Some OfSuper) None) (matter_in m a ReadsSuper) (cond b (hands_errand s a SuperErrand (reads_super s.volume)) (hands_nothing s)).ask)
      by true = nothing_is j a q its ∙ sym (none_here a n)
      by false = nothing_is j a q its
  work_same WritesSuper = by (a == 0)
    where
      by : (b : Bool) → (let s = stand_of m in IsSame WritesSuper (cond b (Some OfSuper) None) (matter_in m a WritesSuper) (cond b (hands_errand s a FillsSuper (writes_super s.volume)) (hands_nothing s)).ask)
      by true = nothing_is j a q its ∙ sym (none_here a n)
      by false = nothing_is j a q its
  work_same work = nothing_is j a q its

  pub asks_same : turn_at j a q (asks_now m a) ≡ asks_turn a q a (owed_now m a)
  asks_same =
      by (is_anchor_free m.errands m.position.ballot.parts a)
      ∙ ap (λ (x : Matter). asks_turn a q a (owed_to (client_of n m.task.work) x (anchor_hands (stand_of m) m.task.work a).ask)) (sym (matter_there m a low_a))
      ∙ ap (λ (o : Option Ask). asks_turn a q a (owed_to (client_of n m.task.work) (matter_at m a) o)) (sym (asks_there_now m a low_a))
    where
      by : (b : Bool) → (turn_at j a q (cond b (asks_for its n a (work_waits m m.task.work a)) (no_doing its)) ≡ asks_turn a q a (owed_to (client_of n m.task.work) (matter_in m a m.task.work) (cond b (works_on (stand_of m) m.task.work a) (hands_nothing (stand_of m))).ask))
      by true = work_same m.task.work
      by false = nothing_is j a q its
