-- All that happens, as turns of the journal at an anchor and as events of ports.
use Rattle.std.proofs.Common.{◌≡◌, ◌≢◌, ℕ, zero, suc, ◌<◌, ◌≤◌, inl, inr, ◌==◌, Bool, true, false, cond, ◌&&◌, List, [], ◌∷◌, Option, Some, None, slice_get, arith, refl, sym, ap, ap₂, subst, subst₂, ◌∙◌}
use Rattle.std.proofs.lemmas.Bool.{and_left, cases_eq, cond-false, eq-eqb, eqb-true, ne_eqb}
use Rattle.std.proofs.lemmas.Option.{none-some, same_Some}
use Rattle.pf_base.specs.declared.asks.Reply.{Reply}
use Rattle.pf_entry.proofs.Cases.{by_test}
use Rattle.pf_protocol.specs.Groups.{Answered}
use Rattle.pf_volume.specs.Volumes.{Extent}
use Rattle.pf_paxos.specs.Registers.{Turn}
use Rattle.pf_paxos.specs.Runs.{idle_turn}
use Rattle.pf_paxos.specs.Quorums.{turns_on}
use Rattle.pf_paxos.specs.BallotRuns.{At, Calls, Mounts, Otherwise, ballots_after, history_from, no_turn, anchor_turn_answered, ballot_turn}
use Rattle.pf_journal.specs.declared.layouts.Layout.{Layout}
use Rattle.pf_journal.specs.Layouts.{layout_of}
use Rattle.pf_law_lists.specs.Journals.{BallotJournal, events_from, journal_goes_on, history_at}
use Rattle.pf_mount_errands.specs.Errands.{is_anchor_free}
use Rattle.pf_mount_errands.specs.Positions.{anchors_of}
use Rattle.pf_mount.specs.Standing.{AnswersPort}
use Rattle.pf_mount.specs.Mounts.{MountIs, asked_anchor, asked_data, ask_at}
use Rattle.pf_law_calls.specs.Doings.{act_of, asks_now, at_anchor, began, hears_for, new_journal_of, no_doing, reply_of}
use Rattle.pf_law_calls.specs.Lives.{Asks, Begins, CanComeFrom, CanTake, Hears, Input, Life, OfBallot, MountTold, all_opened, lived, lives_on, mount_after, waits_after, waits_now, work_waits}
use Rattle.pf_law_calls.proofs.Layouts.{Lies, anchors_in, input_lies, new_lies}
use Rattle.pf_law_homes.specs.Ports.{AreEvents, AreEventsFrom, CanHappen, Goes, Hands, PortOwed, Passes, Pending, PortEvent, nothing_pending, pending_after, turn_of_event as event_turn, port_turns_from, port_turns_on as port_turns}
use Rattle.pf_law_events.specs.Events.{MountsAreServed, AreServedFrom, Brings, CanAsk, HandsOn, Happening, IsDataBehind, InputIsServed, doings_of, doings_with, port_event, port_events, events_with, goes, owed_now, mounts_told}
use Rattle.pf_law_events.proofs.AnchorAsks.{asks_elsewhere, asks_same, asks_turn, goes_is}
use Rattle.pf_law_events.proofs.AnchorReplies.{answered_elsewhere, hears_same}
use Rattle.pf_law_events.proofs.LayoutAsks.{IfOwed, port_owed}
use Rattle.pf_law_events.proofs.AnchorPending.{Owes, asked_owes, newest}
use Rattle.pf_law_events.proofs.Room.{HasPosition, new_room, positions_in, room_after}
use Rattle.pf_law_events.proofs.MountJournals.{StandThrough, Stands, stand_through}
use Rattle.pf_law_events.proofs.Turns.{asks_now_elsewhere, began_is, hears_elsewhere, nothing_is, turn_at}

-- A nothing leaves the journal

nothing_there : (ps : Mounts) (b : Bool) → ballots_after ps (cond b (Otherwise no_turn) (Otherwise no_turn)) ≡ ps
nothing_there ps true = refl
nothing_there ps false = refl

nothing_goes : (layout : Layout) (j : BallotJournal) → journal_goes_on j (no_doing layout) ≡ j
nothing_goes layout j = λ i. record { mounts = λ q. nothing_there (j.mounts q) (q == (layout_of layout).positions) i; list = j.list }

-- an input leaves the volume
same_volume : (m : MountIs) (input : Input) → (mount_after m input).files.volume ≡ m.files.volume
same_volume m (Begins call) = refl
same_volume m (Hears port reply) = refl
same_volume m (Asks port) = by (port == anchors_of m.position)
  where
    by : (b : Bool) → (let n : MountIs = cond b (asked_data m) (asked_anchor m port) in n.files.volume) ≡ m.files.volume
    by true = refl
    by false = refl

-- What is pending stays what was asked for

module _ (pending : Pending) (k a port : ℕ) where
  goes_pending : (o : Option PortOwed) → pending_after pending (goes k port o) k a ≡ cond (a == port) (newest o (pending k a)) (pending k a)
  goes_pending None = by (a == port)
    where
      by : (b : Bool) → pending k a ≡ cond b (pending k a) (pending k a)
      by true = refl
      by false = refl
  goes_pending (Some owed) = ap (λ b. cond (b && (a == port)) (Some owed) (pending k a)) (eq-eqb k k refl)

-- of another mount
other_pending : (pending : Pending) (k m a : ℕ) (l : MountIs) (epoch by : ℕ) (answer : Answered) (input : Input) → (m == k) ≡ false → pending_after pending (port_event k l epoch by answer input) m a ≡ pending m a
other_pending pending k m a l epoch by answer (Begins call) apart = refl
other_pending pending k m a l epoch by answer (Hears port reply) apart = cond-false _ _ _ (and_left (m == k) (a == port) apart)
other_pending pending k m a l epoch by answer (Asks port) apart = of (owed_now l port)
  where
    of : (o : Option PortOwed) → pending_after pending (goes k port o) m a ≡ pending m a
    of None = refl
    of (Some owed) = cond-false _ _ _ (and_left (m == k) (a == port) apart)

module _ (l : Life) (v : Extent) (volume : l.mount.files.volume ≡ v) (k a : ℕ) (low_a : a < anchors_of l.mount.position) (number : l.mount.files.mount ≡ k) (pending : Pending) (owes : Owes v k (l.waits a) (pending k a)) where
  asks_owe : (port : ℕ) → Owes v k (cond (a == port) (waits_now l port) (l.waits a)) (cond (a == port) (newest (owed_now l.mount port) (pending k a)) (pending k a))
  asks_owe port =
      by_test (a == port) (λ b. Owes v k (cond b (waits_now l port) (l.waits a)) (cond b (newest (owed_now l.mount port) (pending k a)) (pending k a)))
      (λ same.
      subst (λ p. Owes v k (waits_now l p) (newest (owed_now l.mount p) (pending k a))) (eqb-true a port same)
      (subst₂ (λ x n. Owes x n (waits_now l a) (newest (owed_now l.mount a) (pending k a))) volume number
      (asked_owes l.mount a (pending k a) (l.waits a) low_a (subst₂ (λ x n. Owes x n (l.waits a) (pending k a)) (sym volume) (sym number) owes))))
      (λ other. owes)

  owes_on : (epoch by : ℕ) (answer : Answered) (input : Input) → Owes v k (waits_after l input a) (pending_after pending (port_event k l.mount epoch by answer input) k a)
  owes_on epoch by answer (Begins call) = owes
  owes_on epoch by answer (Asks port) = subst (λ o. Owes v k (waits_after l (Asks port) a) o) (sym (goes_pending pending k a port (owed_now l.mount port))) (asks_owe port)
  owes_on epoch by answer (Hears port reply) =
      subst (λ b. Owes v k (waits_after l (Hears port reply) a) (cond (b && (a == port)) None (pending k a))) (sym (eq-eqb k k refl)) (of (a == port))
    where
      of : (b : Bool) → Owes v k (cond b None (l.waits a)) (cond b None (pending k a))
      of true = tt
      of false = owes

module _ (layout : Layout) (v : Extent) where
  -- of each mount and anchor, so far
  abbrev pub AllOwe : (ℕ → Life) → Pending → Type 0
  AllOwe lives pending = (m a : ℕ) → m < 16 → a < anchors_in layout → Owes v m ((lives m).waits a) (pending m a)

  -- a mount of the volume and the layout, with a position where one is read or decided
  pub record IsOf (m : MountIs) : Type 0 where
    pub volume : m.files.volume ≡ v
    pub lies : Lies layout m
    pub room : HasPosition (positions_in layout) m.task.work m.upto

  pub opened_of : (m : ℕ) → IsOf (all_opened layout v m).mount
  opened_of m = record { volume = refl; lies = new_lies layout m v; room = new_room layout }

  input_of : (m : MountIs) (input : Input) → IsOf m → IsOf (mount_after m input)
  input_of m input of = record { volume = same_volume m input ∙ of.volume; lies = input_lies layout m input of.lies; room = room_after layout m of.lies.lies input of.room }

  abbrev pub AllOf : (ℕ → Life) → Type 0
  AllOf lives = (m : ℕ) → IsOf (lives m).mount

  pub told_owes : (lives : ℕ → Life) (pending : Pending) (t : MountTold) (epoch by : ℕ) (answer : Answered) → ((m : ℕ) → m < 16 → (lives m).mount.files.mount ≡ m) → AllOf lives → AllOwe lives pending → AllOwe (lived lives t) (pending_after pending (port_event t.mount (lives t.mount).mount epoch by answer t.input))
  told_owes lives pending t epoch by answer number of owe m a low low_a =
      let event = port_event t.mount (lives t.mount).mount epoch by answer t.input in
      by_test (m == t.mount) (λ b. (m == t.mount) ≡ b → Owes v m ((cond b (lives_on (lives m) t.input) (lives m)).waits a) (pending_after pending event m a))
      (λ same is.
      let at = eqb-true m t.mount same in
      subst (λ k. Owes v m (waits_after (lives m) t.input a) (pending_after pending (port_event k (lives k).mount epoch by answer t.input) m a)) at
      (owes_on (lives m) v (of m).volume m a (let at_layout = ap anchors_in (of m).lies.lies in omega (arith, low_a, at_layout)) (number m low) pending (owe m a low low_a) epoch by answer t.input))
      (λ other is. subst (λ o. Owes v m ((lives m).waits a) o) (sym (other_pending pending t.mount m a (lives t.mount).mount epoch by answer t.input other)) (owe m a low low_a))
      refl

  pub told_of_all : (lives : ℕ → Life) (t : MountTold) → AllOf lives → AllOf (lived lives t)
  told_of_all lives t of m =
      by_test (m == t.mount) (λ b. (let l = cond b (lives_on (lives m) t.input) (lives m) in IsOf l.mount))
      (λ same. input_of (lives m).mount t.input (of m))
      (λ other. of m)

  -- Each event can happen

  module _ (lives : ℕ → Life) (k : ℕ) (low : k < 16) (number : (lives k).mount.files.mount ≡ k) (of : AllOf lives) (pending : Pending) where
    pub owed_is : (port : ℕ) → port ≤ anchors_of (lives k).mount.position → CanAsk layout v pending k (lives k).mount port → IfOwed (layout_of layout) v k port (owed_now (lives k).mount port)
    owed_is port low_port can =
        let m = (lives k).mount in
        let same = (of k).lies.lies in
        subst (λ (y : Layout). IfOwed (layout_of y) v k port (owed_now m port)) same
        (subst (λ (x : Extent). IfOwed (layout_of m.position.layout) x k port (owed_now m port)) (of k).volume
        (subst (λ n. IfOwed (layout_of m.position.layout) m.files.volume n port (owed_now m port)) number
        (port_owed m (subst (λ n. n < 16) (sym number) low) (subst (λ (y : Layout). HasPosition (positions_in y) m.task.work m.upto) (sym same) (of k).room) port low_port can.spelled
        (subst (λ (y : Layout). IsDataBehind y m.files.volume port (ask_at m port)) (sym same)
        (subst (λ (x : Extent). IsDataBehind layout x port (ask_at m port)) (sym (of k).volume) can.behind)))))

    asks_can : (port : ℕ) → (o : Option PortOwed) → owed_now (lives k).mount port ≡ o → IfOwed (layout_of layout) v k port o → (o ≢ None → pending k port ≡ None) → CanHappen (layout_of layout) v pending (goes k port o)
    asks_can port None is its free = tt
    asks_can port (Some owed) is its free = (free (λ e. some_none owed e), its.0)
      where
        some_none : (owed : PortOwed) → Some owed ≡ None → ⊥
        some_none owed e = none-some owed (sym e)

    event_can : (epoch by : ℕ) (answer : Answered) (input : Input) → CanTake (lives k).mount input → InputIsServed layout v pending k (lives k).mount answer input → CanHappen (layout_of layout) v pending (port_event k (lives k).mount epoch by answer input)
    event_can epoch by answer (Begins call) can its = tt
    event_can epoch by answer (Asks port) can its = asks_can port (owed_now (lives k).mount port) refl (owed_is port can its) its.free
    event_can epoch by answer (Hears port reply) can its = its

  all_can : (hs : List Happening) (j : BallotJournal) (lives : ℕ → Life) (pending : Pending) → StandThrough layout v j lives (mounts_told hs) → AllOf lives → CanComeFrom lives (mounts_told hs) → AreServedFrom layout v lives pending hs → AreEventsFrom (layout_of layout) v pending (events_with lives hs)
  all_can [] j lives pending stand of can its = tt
  all_can (Brings t epoch by answer ∷ hs) j lives pending stand of can its =
      let l = lives t.mount in
      let event = port_event t.mount l.mount epoch by answer t.input in
      let after = journal_goes_on j (at_anchor l t.input) in
      let begins = began l.mount (mount_after l.mount t.input) in (
        event_can lives t.mount can.0.number ((stand 0).is t.mount can.0.number).number of pending epoch by answer t.input can.0.takes its.0,
        (
          tt,
          all_can hs (journal_goes_on after begins) (lived lives t) (pending_after pending event) (λ k. stand (suc k)) (told_of_all lives t of) can.1 its.1,
        ),
      )
  all_can (HandsOn m port epoch place ∷ hs) j lives pending stand of can its = (tt, all_can hs j lives pending stand of can its)

  -- What goes out is an ask of the layout, and for the superblock the volume's own

  abbrev pub IfGoes : PortEvent → Type 0
  IfGoes (Goes mount port owed) = IfOwed (layout_of layout) v mount port (Some owed)
  IfGoes event = Unit {0}

  abbrev pub AllGo : List PortEvent → Type 0
  AllGo events = (moment : ℕ) (event : PortEvent) → slice_get events moment ≡ Some event → IfGoes event

  asked_goes : (k port : ℕ) (o : Option PortOwed) → IfOwed (layout_of layout) v k port o → IfGoes (goes k port o)
  asked_goes k port None its = tt
  asked_goes k port (Some owed) its = its

  input_goes : (lives : ℕ → Life) (k : ℕ) → k < 16 → (lives k).mount.files.mount ≡ k → AllOf lives → (pending : Pending) (epoch by : ℕ) (answer : Answered) (input : Input) → CanTake (lives k).mount input → InputIsServed layout v pending k (lives k).mount answer input
      → IfGoes (port_event k (lives k).mount epoch by answer input)
  input_goes lives k low number of pending epoch by answer (Begins call) can its = tt
  input_goes lives k low number of pending epoch by answer (Hears port reply) can its = tt
  input_goes lives k low number of pending epoch by answer (Asks port) can its = asked_goes k port (owed_now (lives k).mount port) (owed_is lives k low number of pending port can its)

  all_go : (hs : List Happening) (j : BallotJournal) (lives : ℕ → Life) (pending : Pending) → StandThrough layout v j lives (mounts_told hs) → AllOf lives → CanComeFrom lives (mounts_told hs) → AreServedFrom layout v lives pending hs → AllGo (events_with lives hs)
  all_go [] j lives pending stand of can its moment event at = absurd (none-some event at)
  all_go (Brings t epoch by answer ∷ hs) j lives pending stand of can its zero event at =
      subst IfGoes (same_Some _ event at) (input_goes lives t.mount can.0.number ((stand 0).is t.mount can.0.number).number of pending epoch by answer t.input can.0.takes its.0)
  all_go (Brings t epoch by answer ∷ hs) j lives pending stand of can its (suc zero) event at = subst IfGoes (same_Some Passes event at) tt
  all_go (Brings t epoch by answer ∷ hs) j lives pending stand of can its (suc (suc moment)) event at =
      let l = lives t.mount in
      let after = journal_goes_on j (at_anchor l t.input) in
      all_go hs (journal_goes_on after (began l.mount (mount_after l.mount t.input))) (lived lives t) (pending_after pending (port_event t.mount l.mount epoch by answer t.input)) (λ k. stand (suc k)) (told_of_all lives t of) can.1 its.1 moment event at
  all_go (HandsOn m port epoch place ∷ hs) j lives pending stand of can its zero event at = subst IfGoes (same_Some (Hands m port epoch place) event at) tt
  all_go (HandsOn m port epoch place ∷ hs) j lives pending stand of can its (suc moment) event at = all_go hs j lives pending stand of can its moment event at

  -- Each event is a turn

  module _ (a q : ℕ) (low_a : a < anchors_in layout) where
    module _ (j : BallotJournal) (l : Life) (k : ℕ) (number : l.mount.files.mount ≡ k) (low : k < 16) (lies : Lies layout l.mount) (pending : Pending) (epoch by : ℕ) (answer : Answered) where
      abbrev IsSame : Input → Type 0
      IsSame input = turn_at j a q (at_anchor l input) ≡ event_turn a q pending (port_event k l.mount epoch by answer input)

      abbrev own : Layout
      own = l.mount.position.layout

      here_low : a < anchors_of l.mount.position
      here_low = let same = ap anchors_in lies.lies in omega (arith, low_a, same)

      -- the port is none for file data
      is_anchor : (a == anchors_of l.mount.position) ≡ false
      is_anchor = ne_eqb a (anchors_of l.mount.position) (λ e. absurd (omega (arith, e, here_low)))

      asks_input : (port : ℕ) → j.mounts l.mount.upto l.mount.files.mount ≡ l.mount.position.ballot → turn_at j a q (at_anchor l (Asks port)) ≡ asks_turn a q port (owed_now l.mount port)
      asks_input port here = elim (cases_eq port a) [
        | inl same ↦
            subst (λ p. turn_at j a q (at_anchor l (Asks p)) ≡ asks_turn a q p (owed_now l.mount p)) (sym same)
            (ap (turn_at j a q) (cond-false (a == anchors_of l.mount.position) (no_doing own) (asks_now l.mount a) is_anchor)
            ∙ asks_same j a q l.mount here_low (subst (λ n. n < 16) (sym number) low) here lies.over)
        | inr apart ↦ elsewhere apart (port == anchors_of l.mount.position) ∙ sym (asks_elsewhere a q port (owed_now l.mount port) apart)
      ]
        where
          elsewhere : port ≢ a → (b : Bool) → turn_at j a q (cond b (no_doing own) (asks_now l.mount port)) ≡ idle_turn
          elsewhere apart true = nothing_is j a q own
          elsewhere apart false = asks_now_elsewhere j a q own l.mount.files.mount port apart (is_anchor_free l.mount.errands l.mount.position.ballot.parts port) (work_waits l.mount l.mount.task.work port)

      hears_input : (port : ℕ) (reply : Reply) → Owes v k (l.waits a) (pending k a) → (a ≡ port → l.waits a ≢ None)
          → (a ≡ port → (u : ℕ) → l.waits a ≡ Some (OfBallot u) → ballot_turn (j.mounts u) (Calls k (At a (act_of reply))) ≡ anchor_turn_answered k a (reply_of reply))
          → IsSame (Hears port reply)
      hears_input port reply owes waits turns = elim (cases_eq port a) [
        | inl same ↦
            subst (λ p. IsSame (Hears p reply)) (sym same)
            (ap (turn_at j a q) (cond-false (a == anchors_of l.mount.position) (no_doing own) (hears_for own l.mount.files.mount a reply (l.waits a)) is_anchor)
            ∙ ap (λ n. turn_at j a q (hears_for own n a reply (l.waits a))) number
            ∙ hears_same v own j a q k reply (l.waits a) (pending k a) (waits (sym same)) owes (turns (sym same)))
        | inr apart ↦ elsewhere apart (port == anchors_of l.mount.position) ∙ sym (answered_elsewhere a q port (pending k port) reply apart)
      ]
        where
          elsewhere : port ≢ a → (b : Bool) → turn_at j a q (cond b (no_doing own) (hears_for own l.mount.files.mount port reply (l.waits port))) ≡ idle_turn
          elsewhere apart true = nothing_is j a q own
          elsewhere apart false = hears_elsewhere j a q own l.mount.files.mount port apart reply (l.waits port)

    input_same : (j : BallotJournal) (lives : ℕ → Life) → Stands layout v j lives → (k : ℕ) → k < 16 → (pending : Pending) → Owes v k ((lives k).waits a) (pending k a) → (epoch by : ℕ) (answer : Answered) (input : Input) → CanTake (lives k).mount input
        → turn_at j a q (at_anchor (lives k) input) ≡ event_turn a q pending (port_event k (lives k).mount epoch by answer input)
    input_same j lives stands k low pending owes epoch by answer (Begins call) can = nothing_is j a q (lives k).mount.position.layout
    input_same j lives stands k low pending owes epoch by answer (Asks port) can =
        let number = (stands.is k low).number in
        asks_input j (lives k) k number low (stands.is k low).lies pending epoch by answer port (subst (λ n. j.mounts (lives k).mount.upto n ≡ (lives k).mount.position.ballot) (sym number) (stands.is k low).mount.follows.here)
        ∙ sym (goes_is a q k port pending (owed_now (lives k).mount port))
    input_same j lives stands k low pending owes epoch by answer (Hears port reply) can =
        hears_input j (lives k) k (stands.is k low).number low (stands.is k low).lies pending epoch by answer port reply owes
        (λ same. stands.waits k a reply low low_a (subst (λ p. AnswersPort (lives k).mount p reply) (sym same) can))
        (λ same u waits. stands.turns k a u reply low low_a (subst (λ p. AnswersPort (lives k).mount p reply) (sym same) can) waits)

    abbrev AreSame : List Happening → BallotJournal → (ℕ → Life) → Pending → Type 0
    AreSame hs j lives pending = turns_on a (history_from (j.mounts q) (events_from q j (doings_with layout lives hs))) ≡ port_turns_from a q pending (events_with lives hs)

    cons_same : (x y : Turn) (xs ys : List Turn) → x ≡ y → xs ≡ ys → (x ∷ xs) ≡ (y ∷ ys)
    cons_same x y xs ys head rest = ap₂ (λ t ts. t ∷ ts) head rest

    all_same : (hs : List Happening) (j : BallotJournal) (lives : ℕ → Life) (pending : Pending) → StandThrough layout v j lives (mounts_told hs) → AllOf lives → AllOwe lives pending → CanComeFrom lives (mounts_told hs) → AreSame hs j lives pending
    all_same [] j lives pending stand of owe can = refl
    all_same (Brings t epoch by answer ∷ hs) j lives pending stand of owe can =
        let l = lives t.mount in
        let low = can.0.number in
        let after = journal_goes_on j (at_anchor l t.input) in
        let begins = began l.mount (mount_after l.mount t.input) in
        cons_same _ _ _ _ (input_same j lives (stand 0) t.mount low pending (owe t.mount a low low_a) epoch by answer t.input can.0.takes)
        (cons_same _ _ _ _ (began_is after a q l.mount (mount_after l.mount t.input))
        (all_same hs (journal_goes_on after begins) (lived lives t) (pending_after pending (port_event t.mount l.mount epoch by answer t.input)) (λ k. stand (suc k)) (told_of_all lives t of)
        (told_owes lives pending t epoch by answer (λ m small. ((stand 0).is m small).number) of owe) can.1))
    all_same (HandsOn m port epoch place ∷ hs) j lives pending stand of owe can =
        cons_same _ _ _ _ (nothing_is j a q layout) (subst (λ (x : BallotJournal). AreSame hs x lives pending) (sym (nothing_goes layout j)) (all_same hs j lives pending stand of owe can))

pub events_turn : (layout : Layout) (v : Extent) (hs : List Happening) (a q : ℕ) → MountsAreServed layout v hs → a < anchors_in layout → turns_on a (history_at (anchors_in layout) (layout_of layout).quorum q (doings_of layout v hs)) ≡ port_turns a q (port_events layout v hs)
events_turn layout v hs a q are low_a =
    all_same layout v a q low_a hs (new_journal_of layout) (all_opened layout v) nothing_pending (stand_through layout v (mounts_told hs) are.can_be) (opened_of layout v) (λ m b low low_b. tt) are.can_be

pub events_go : (layout : Layout) (v : Extent) (hs : List Happening) → MountsAreServed layout v hs → AllGo layout v (port_events layout v hs)
events_go layout v hs are =
    all_go layout v hs (new_journal_of layout) (all_opened layout v) nothing_pending (stand_through layout v (mounts_told hs) are.can_be) (opened_of layout v) are.can_be are.served

pub events_can : (layout : Layout) (v : Extent) (hs : List Happening) → MountsAreServed layout v hs → AreEvents (layout_of layout) v (port_events layout v hs)
events_can layout v hs are =
    all_can layout v hs (new_journal_of layout) (all_opened layout v) nothing_pending (stand_through layout v (mounts_told hs) are.can_be) (opened_of layout v) are.can_be are.served
