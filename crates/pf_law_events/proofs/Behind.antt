-- Behind the last position of the journal nothing is asked or answered.
use Rattle.std.proofs.Common.{◌≡◌, ℕ, zero, suc, ◌<◌, ◌≤◌, ◌==◌, Bool, true, false, cond, not, ◌&&◌, List, [], ◌∷◌, Option, Some, None, slice_get, arith, sym, ap, ◌∙◌}
use Rattle.std.proofs.lemmas.Bool.{cond-false, ne_eqb}
use Rattle.std.proofs.lemmas.Option.{none-some, same_Some}
use Rattle.pf_base.specs.declared.asks.Reply.{Reply}
use Rattle.pf_entry.proofs.Cases.{by_test}
use Rattle.pf_volume.specs.Volumes.{Extent}
use Rattle.pf_paxos.specs.declared.block.Block.{Block}
use Rattle.pf_paxos.specs.Registers.{AreRegisters, AsksRead, ClientHasRead, Turn}
use Rattle.pf_paxos.specs.Runs.{idle_turn}
use Rattle.pf_paxos.specs.declared.parts.AnchorNext.{AnchorNext}
use Rattle.pf_paxos.specs.declared.parts.AnchorNext.TheVariants.{Write, Read, Idle}
use Rattle.pf_paxos.specs.declared.parts.Stage.{Stage}
use Rattle.pf_paxos.specs.declared.parts.Stage.TheVariants.{Writes, ReadsLow, ReadsHigh, Done}
use Rattle.pf_paxos.specs.Ballots.{next_at_anchor}
use Rattle.pf_paxos.specs.Quorums.{turn_on, turns_on}
use Rattle.pf_paxos.specs.BallotRuns.{Asks as AsksNext, At, Calls, history_from, anchor_turn_answered, turn_asking, ballot_turn}
use Rattle.pf_journal.specs.declared.layouts.Layout.{Layout}
use Rattle.pf_journal.specs.Layouts.{layout_of}
use Rattle.pf_journal.specs.declared.layouts.Layout.{Layout}
use Rattle.pf_journal.specs.Layouts.{layout_of}
use Rattle.pf_law_lists.specs.Journals.{BallotJournal, events_from, journal_goes_on, history_at}
use Rattle.pf_mount_errands.specs.Errands.{is_anchor_free, is_pausing, least_free_anchor}
use Rattle.pf_mount_errands.specs.Looks.{look_at}
use Rattle.pf_mount_errands.specs.Positions.{anchors_of}
use Rattle.pf_mount.specs.declared.work.MountWork.{MountWork}
use Rattle.pf_mount.specs.declared.work.MountWork.TheVariants.{ReadsSuper, Syncs, Ballots, Pauses, WritesSuper}
use Rattle.pf_mount.specs.Mounts.{MountIs}
use Rattle.pf_law_calls.specs.Doings.{act_of, asks_for, at_anchor, began, hears_for, looker, new_journal_of, no_doing, reply_of}
use Rattle.pf_law_calls.specs.Lives.{Asks, Begins, Hears, Input, Life, OfBallot, OfPause, OfSuper, OfSync, MountTold, Waiting, all_opened, ballot_waits, lived, lives_on, look_waits, mount_after, waits_after, waits_now, work_waits}
use Rattle.pf_law_calls.proofs.Layouts.{Lies, anchors_in, input_lies, new_lies}
use Rattle.pf_law_events.specs.Events.{Brings, Happening, HandsOn, doings_of, doings_with}
use Rattle.pf_law_events.proofs.Room.{HasPosition, new_room, positions_in, room_after}
use Rattle.pf_law_events.proofs.Turns.{acts_is, began_is, looks_is, nothing_is, turn_at}

-- what waits was asked in the journal
abbrev IsWithin : (positions : ℕ) → Option Waiting → Type 0
IsWithin positions (Some (OfBallot u)) = u < positions
IsWithin positions (Some (OfSync u half)) = u < positions
IsWithin positions waiting = Unit {0}

module _ (positions : ℕ) (m : MountIs) (a : ℕ) where
  work_within : (work : MountWork) → HasPosition positions work m.upto → IsWithin positions (work_waits m work a)
  work_within (Syncs looks) room = by (look_at looks a).stage
    where
      by : (stage : Stage) → IsWithin positions (look_waits m.upto stage)
      by ReadsLow = room
      by ReadsHigh = room
      by Writes = tt
      by Done = tt
  work_within (Ballots input) room = by (next_at_anchor m.position.ballot a)
    where
      by : (next : AnchorNext) → IsWithin positions (ballot_waits m.upto next)
      by (Write block) = room
      by (Read half) = room
      by Idle = tt
  work_within (Pauses input left) room = by (not (is_pausing m.errands) && (a == least_free_anchor m.errands m.position.ballot.parts))
    where
      by : (b : Bool) → IsWithin positions (cond b (Some OfPause) None)
      by true = tt
      by false = tt
  work_within ReadsSuper room = by (a == 0)
    where
      by : (b : Bool) → IsWithin positions (cond b (Some OfSuper) None)
      by true = tt
      by false = tt
  work_within WritesSuper room = by (a == 0)
    where
      by : (b : Bool) → IsWithin positions (cond b (Some OfSuper) None)
      by true = tt
      by false = tt
  work_within work room = tt

within_if : (positions : ℕ) (b : Bool) (x y : Option Waiting) → IsWithin positions x → IsWithin positions y → IsWithin positions (cond b x y)
within_if positions true x y of_x of_y = of_x
within_if positions false x y of_x of_y = of_y

module _ (layout : Layout) where
  -- so far
  pub record IsLow (l : Life) : Type 0 where
    pub lies : Lies layout l.mount
    pub room : HasPosition (positions_in layout) l.mount.task.work l.mount.upto
    pub waits : (a : ℕ) → IsWithin (positions_in layout) (l.waits a)

  pub opened_low : (v : Extent) (m : ℕ) → IsLow (all_opened layout v m)
  opened_low v m = record { lies = new_lies layout m v; room = new_room layout; waits = λ k. tt }

  now_within : (l : Life) (a : ℕ) → IsLow l → IsWithin (positions_in layout) (waits_now l a)
  now_within l a is =
      within_if (positions_in layout) (is_anchor_free l.mount.errands l.mount.position.ballot.parts a) (work_waits l.mount l.mount.task.work a) (l.waits a)
      (work_within (positions_in layout) l.mount a l.mount.task.work is.room) (is.waits a)

  after_within : (l : Life) (input : Input) → IsLow l → (a : ℕ) → IsWithin (positions_in layout) (waits_after l input a)
  after_within l (Begins call) is a = is.waits a
  after_within l (Asks port) is a = within_if (positions_in layout) (a == port) (waits_now l port) (l.waits a) (now_within l port is) (is.waits a)
  after_within l (Hears port reply) is a = within_if (positions_in layout) (a == port) None (l.waits a) tt (is.waits a)

  lives_on_low : (l : Life) (input : Input) → IsLow l → IsLow (lives_on l input)
  lives_on_low l input is = record { lies = input_lies layout l.mount input is.lies; room = room_after layout l.mount is.lies.lies input is.room; waits = after_within l input is }

  pub lived_low : (lives : ℕ → Life) (t : MountTold) → ((m : ℕ) → IsLow (lives m)) → (m : ℕ) → IsLow (lived lives t m)
  lived_low lives t are m = by_test (m == t.mount) (λ b. IsLow (cond b (lives_on (lives m) t.input) (lives m))) (λ _. lives_on_low (lives m) t.input (are m)) (λ _. are m)

-- Doings are nothing behind it

module _ (layout : Layout) (j : BallotJournal) (a q : ℕ) (past : positions_in layout ≤ q) where
  other_than : (u : ℕ) (t : Turn) → u < positions_in layout → cond (q == u) t idle_turn ≡ idle_turn
  other_than u t low = cond-false (q == u) t idle_turn (ne_eqb q u (λ e. absurd (omega (arith, e, low, past))))

  module _ (its : Layout) (n port : ℕ) where
    asks_idle : (w : Option Waiting) → IsWithin (positions_in layout) w → turn_at j a q (asks_for its n port w) ≡ idle_turn
    asks_idle (Some (OfBallot u)) low = acts_is j a q n u port AsksNext ∙ other_than u (turn_on a (ballot_turn (j.mounts u) (Calls n (At port AsksNext)))) low
    asks_idle (Some (OfSync u half)) low = looks_is j a q u (turn_asking (looker n) port (Read half)) (omega arith) ∙ other_than u (turn_on a (turn_asking (looker n) port (Read half))) low
    asks_idle w low = nothing_is j a q its

    hears_idle : (reply : Reply) (w : Option Waiting) → IsWithin (positions_in layout) w → turn_at j a q (hears_for its n port reply w) ≡ idle_turn
    hears_idle reply (Some (OfBallot u)) low = acts_is j a q n u port (act_of reply) ∙ other_than u (turn_on a (ballot_turn (j.mounts u) (Calls n (At port (act_of reply))))) low
    hears_idle reply (Some (OfSync u half)) low = looks_is j a q u (anchor_turn_answered (looker n) port (reply_of reply)) (omega arith) ∙ other_than u (turn_on a (anchor_turn_answered (looker n) port (reply_of reply))) low
    hears_idle reply w low = nothing_is j a q its

  input_idle : (l : Life) (input : Input) → IsLow layout l → turn_at j a q (at_anchor l input) ≡ idle_turn
  input_idle l (Begins call) is = nothing_is j a q l.mount.position.layout
  input_idle l (Asks port) is = by (port == anchors_of l.mount.position) (is_anchor_free l.mount.errands l.mount.position.ballot.parts port)
    where
      by : (b c : Bool) → turn_at j a q (cond b (no_doing l.mount.position.layout) (cond c (asks_for l.mount.position.layout l.mount.files.mount port (work_waits l.mount l.mount.task.work port)) (no_doing l.mount.position.layout))) ≡ idle_turn
      by true c = nothing_is j a q l.mount.position.layout
      by false true = asks_idle l.mount.position.layout l.mount.files.mount port (work_waits l.mount l.mount.task.work port) (work_within (positions_in layout) l.mount port l.mount.task.work is.room)
      by false false = nothing_is j a q l.mount.position.layout
  input_idle l (Hears port reply) is = by (port == anchors_of l.mount.position)
    where
      by : (b : Bool) → turn_at j a q (cond b (no_doing l.mount.position.layout) (hears_for l.mount.position.layout l.mount.files.mount port reply (l.waits port))) ≡ idle_turn
      by true = nothing_is j a q l.mount.position.layout
      by false = hears_idle l.mount.position.layout l.mount.files.mount port reply (l.waits port) (is.waits port)

-- All turns there are nobody's

abbrev AllIdle : List Turn → Type 0
AllIdle [] = Unit {0}
AllIdle (t ∷ ts) = (t ≡ idle_turn) × AllIdle ts

idle_at : (ts : List Turn) → AllIdle ts → (k : ℕ) (turn : Turn) → slice_get ts k ≡ Some turn → turn ≡ idle_turn
idle_at [] are k turn at = absurd (none-some turn at)
idle_at (t ∷ ts) are zero turn at = sym (same_Some t turn at) ∙ are.0
idle_at (t ∷ ts) are (suc k) turn at = idle_at ts are.1 k turn at

all_idle : (layout : Layout) (a q : ℕ) → positions_in layout ≤ q → (hs : List Happening) (j : BallotJournal) (lives : ℕ → Life) → ((m : ℕ) → IsLow layout (lives m)) → AllIdle (turns_on a (history_from (j.mounts q) (events_from q j (doings_with layout lives hs))))
all_idle layout a q past [] j lives are = tt
all_idle layout a q past (Brings t epoch by answer ∷ hs) j lives are =
    let l = lives t.mount in
    let after = journal_goes_on j (at_anchor l t.input) in (
      input_idle layout j a q past l t.input (are t.mount),
      (
        began_is after a q l.mount (mount_after l.mount t.input),
        all_idle layout a q past hs (journal_goes_on after (began l.mount (mount_after l.mount t.input))) (lived lives t) (lived_low layout lives t are),
      ),
    )
all_idle layout a q past (HandsOn m port epoch place ∷ hs) j lives are = (nothing_is j a q layout, all_idle layout a q past hs (journal_goes_on j (no_doing layout)) lives are)

-- who is never asked is a register
module _ (history : List Turn) (idle : (k : ℕ) (turn : Turn) → slice_get history k ≡ Some turn → turn ≡ idle_turn) where
  no_read : (client half asked answered : ℕ) (blocks : List Block) → ClientHasRead history client half asked answered blocks → ⊥
  no_read client half asked answered blocks r = none-some (AsksRead half) (sym (ap (λ (t : Turn). t.ask) (idle asked r.turn r.at)) ∙ r.asks)

  idle_registers : AreRegisters history
  idle_registers = record {
    seen = λ moment client. 0;
    whole = λ client half asked answered blocks r. absurd (no_read client half asked answered blocks r);
    gives = λ client half asked answered place blocks r. absurd (no_read client half asked answered blocks r);
    not_late = λ client half asked answered place blocks r. absurd (no_read client half asked answered blocks r);
    fresh = λ client half asked answered place blocks r. absurd (no_read client half asked answered blocks r);
    rising = λ client half asked answered place blocks r. absurd (no_read client half asked answered blocks r);
  }

pub behind_registers : (layout : Layout) (v : Extent) (hs : List Happening) (a q : ℕ) → positions_in layout ≤ q → AreRegisters (turns_on a (history_at (anchors_in layout) (layout_of layout).quorum q (doings_of layout v hs)))
behind_registers layout v hs a q past =
    let turns = turns_on a (history_at (anchors_in layout) (layout_of layout).quorum q (doings_of layout v hs)) in
    idle_registers turns (idle_at turns (all_idle layout a q past hs (new_journal_of layout) (all_opened layout v) (opened_low layout v)))
