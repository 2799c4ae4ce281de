-- No mount ever fails.
use Rattle.std.proofs.Common.{◌≡◌, ◌≢◌, ℕ, suc, ◌+◌, ◌<◌, ◌⊎◌, inl, inr, ◌==◌, cond, List, [], ◌∷◌, ◌++◌, length, replicate, Option, Some, None, slice_get, arith, refl, sym, ap, subst, ◌∙◌, append-nil}
use Rattle.std.proofs.Math.Nat.{zero-add, zero-div, zero-mod}
use Rattle.std.proofs.lemmas.Bool.{eqb-false, eqb-true}
use Rattle.pf_base.specs.Asks.{Answers as AnswersAsk, chunk_of}
use Rattle.pf_base.specs.Span.{Span}
use Rattle.pf_base.specs.declared.asks.Ask.{Ask}
use Rattle.pf_base.specs.declared.asks.Reply.{Reply}
use Rattle.pf_base.specs.declared.asks.Reply.TheVariants.{Bytes}
use Rattle.pf_entry.specs.Ops.{Sector, zero_sector}
use Rattle.pf_entry.proofs.Cases.{by_test}
use Rattle.pf_layout.specs.Supers.{super_block}
use Rattle.pf_protocol.specs.Groups.{Answered}
use Rattle.pf_volume.specs.Volumes.{Extent, IsVolume}
use Rattle.pf_paxos.specs.declared.parts.AnchorAsk.{AnchorAsk}
use Rattle.pf_paxos.specs.Parts.{part_at}
use Rattle.pf_law_positions.specs.Deeds.{Deed, Got, Takes}
use Rattle.pf_law_positions.specs.PortDeeds.{no_deed, port_reply}
use Rattle.pf_file_calls.specs.Blocks.{bytes_of}
use Rattle.pf_journal.specs.declared.layouts.Layout.{Layout}
use Rattle.pf_journal.specs.declared.layouts.Layout.TheVariants.{Plain, Three}
use Rattle.pf_journal.specs.Layouts.{VolumeHasRoom, layout_of}
use Rattle.pf_law_lists.specs.Journals.{BallotJournal, journal_goes_on}
use Rattle.pf_mount_errands.specs.Errands.{errand_at}
use Rattle.pf_mount_errands.specs.Places.{reads_super}
use Rattle.pf_mount_errands.specs.Positions.{anchors_of}
use Rattle.pf_mount_errands.specs.declared.errands.Errand.{Errand}
use Rattle.pf_mount_errands.specs.declared.errands.Errand.TheVariants.{OfSuper as SuperErrand}
use Rattle.pf_mount.specs.declared.work.MountWork.{MountWork}
use Rattle.pf_mount.specs.declared.work.MountWork.TheVariants.{Fails, ReadsSuper}
use Rattle.pf_mount.specs.Mounts.{MountIs, first_work}
use Rattle.pf_law_calls.specs.Doings.{at_anchor, began, new_journal_of}
use Rattle.pf_law_calls.specs.Lives.{Asks, Begins, CanComeFrom, CanTake, Hears, Input, Life, OfBallot, OfPause, OfSuper, OfSync, MountTold, Waiting, all_opened, lived, lives, lives_from, lives_on, mount_after}
use Rattle.pf_law_calls.proofs.MountsInJournals.{asked_in}
use Rattle.pf_law_calls.proofs.Layouts.{anchors_in}
use Rattle.pf_law_calls.proofs.AnchorPending.{IsOwed, WaitsAs}
use Rattle.pf_law_homes.specs.Chunks.{ChunkGroups}
use Rattle.pf_law_homes.specs.Ports.{IsAnswerOf, IsReplyTo, PortOwed, Pending, deed_answered, deed_handed, deed_of, deeds_from, deeds_on, nothing_pending, pending_after}
use Rattle.pf_law_homes.specs.Routed.{AreRoutedChunks}
use Rattle.pf_law_events.specs.Events.{MountsAreServed, AreServedFrom, Brings, HandsOn, Happening, InputIsServed, port_event, port_events, events_with, mounts_told}
use Rattle.pf_law_events.proofs.SuperblockFailures.{HearsOwn, IsOwnSuper, ReadsOwn, Works, input_works}
use Rattle.pf_law_events.proofs.AnchorPending.{IsOfSuper, Owes}
use Rattle.pf_law_events.proofs.MountJournals.{StandThrough, Stands, stand_through}
use Rattle.pf_law_events.proofs.Supers.{ReadsFirst, first_sector}
use Rattle.pf_law_events.proofs.EventTurns.{AllOf, AllOwe, opened_of, told_of_all, told_owes}

-- a mount that did nothing yet
first_works : (layout : Layout) → Works (first_work (layout_of layout))
first_works Plain = tt
first_works Three = tt

zeros_are : zero_sector ≡ replicate 512 0
unfolding zero_sector
zeros_are = refl

-- an anchor that waits for the superblock was asked for it
record WasAskedFor (v : Extent) (o : Option PortOwed) : Type 0 where
  owed : PortOwed
  is : o ≡ Some owed
  ask : IsOfSuper v owed.ask

asked_for : (v : Extent) (k upto : ℕ) (w : Option Waiting) (o : Option PortOwed) (old : ℕ → AnchorAsk) → IsOwed upto SuperErrand w old → Owes v k w o → WasAskedFor v o
asked_for v k upto None o old waits owes = absurd waits
asked_for v k upto (Some (OfBallot q)) o old waits owes = absurd waits.1
asked_for v k upto (Some (OfSync q half)) o old waits owes = absurd waits
asked_for v k upto (Some OfPause) o old waits owes = absurd waits
asked_for v k upto (Some OfSuper) None old waits owes = absurd owes
asked_for v k upto (Some OfSuper) (Some owed) old waits owes = record { owed = owed; is = refl; ask = owes.1 }

errand_owed : (upto : ℕ) (e : Errand) (n : AnchorAsk) (w : Option Waiting) (old : ℕ → AnchorAsk) → e ≡ SuperErrand → WaitsAs upto e n w old → IsOwed upto SuperErrand w old
errand_owed upto e n w old same waits = (subst (λ (x : Errand). WaitsAs upto x n w old) same waits).1

-- what answers that is a deed at chunk 0
deed_is : (v : Extent) (o : Option PortOwed) (owed : PortOwed) (epoch by : ℕ) (answer : Answered) (sectors : List Sector) → o ≡ Some owed → owed.ask ≡ reads_super v → deed_answered 0 epoch by answer o (Bytes sectors) ≡ Takes owed.client (Some (Got 0 epoch by answer)) None
deed_is v o owed epoch by answer sectors is reads =
    ap (λ x. deed_answered 0 epoch by answer x (Bytes sectors)) is
    ∙ ap (λ (ask : Ask). cond (chunk_of ask == 0) (Takes owed.client (port_reply ask epoch by answer (Bytes sectors)) None) no_deed) reads
    ∙ ap (λ c. cond (c == 0) (Takes owed.client (Some (Got c epoch by answer)) None) no_deed) (zero-div v.sectors)

module _ (layout : Layout) (v : Extent) (deeds : List Deed) (own : (bytes : Sector) → ReadsFirst deeds bytes → (bytes ≡ super_block v.chunks v.sectors) ⊎ (bytes ≡ zero_sector)) where
  -- what one sector has
  own_bytes : (sectors : List Sector) (client moment epoch by : ℕ) (read : Answered) → slice_get deeds moment ≡ Some (Takes client (Some (Got 0 epoch by read)) None) → read.range.first ≡ 0 → read.bytes ≡ sectors → length sectors ≡ 1 → IsOwnSuper v (bytes_of sectors)
  own_bytes [] client moment epoch by read at first gives one = absurd (omega (arith, one))
  own_bytes (x ∷ y ∷ rest) client moment epoch by read at first gives one = absurd (omega (arith, one))
  own_bytes (bytes ∷ []) client moment epoch by read at first gives one =
      elim (own bytes (record { client = client; moment = moment; epoch = epoch; by = by; read = read; next = None; at = at; first = first; gives = ap (λ (bs : List Sector). slice_get bs 0) gives })) [
        | inl super ↦ inl (append-nil bytes ∙ super)
        | inr zeros ↦ inr (append-nil bytes ∙ zeros ∙ zeros_are)
      ]

  module _ (j : BallotJournal) (lives : ℕ → Life) (stands : Stands layout v j lives) (of : AllOf layout v lives) (pending : Pending) (owe : AllOwe layout v lives pending) (k : ℕ) (low : k < 16) (moment epoch by : ℕ) (answer : Answered) where
    abbrev m : MountIs
    m = (lives k).mount

    module _ (port : ℕ) (low_port : port < anchors_in layout) (errand : errand_at m.errands port ≡ SuperErrand) where
      asked : WasAskedFor v (pending k port)
      asked =
          asked_for v k m.upto ((lives k).waits port) (pending k port) (asked_in j k port)
          (errand_owed m.upto (errand_at m.errands port) (part_at m.position.ballot.parts port).asked ((lives k).waits port) (asked_in j k port) errand ((stands.is k low).mount.waits_are port low_port)) (owe k port low low_port)

      super_own : (sectors : List Sector) → IsReplyTo (pending k port) (Bytes sectors) answer → slice_get deeds moment ≡ Some (deed_answered 0 epoch by answer (pending k port) (Bytes sectors)) → IsOwnSuper v (bytes_of sectors)
      super_own sectors served at = asks asked.ask
        where
          its : AnswersAsk asked.owed.ask (Bytes sectors) × IsAnswerOf asked.owed.ask (Bytes sectors) answer
          its = subst (λ o. IsReplyTo o (Bytes sectors) answer) asked.is served

          asks : IsOfSuper v asked.owed.ask → IsOwnSuper v (bytes_of sectors)
          asks (inr writes) = absurd (subst (λ (a : Ask). AnswersAsk a (Bytes sectors)) writes its.0)
          asks (inl reads) =
              let of_it = subst (λ (a : Ask). IsAnswerOf a (Bytes sectors) answer) reads its.1 in
              own_bytes sectors asked.owed.client moment epoch by answer
              (at ∙ ap (λ (d : Deed). Some d) (deed_is v (pending k port) asked.owed epoch by answer sectors asked.is reads))
              (ap (λ (r : Span). r.first) of_it.0 ∙ zero-mod v.sectors) of_it.1 (subst (λ (a : Ask). AnswersAsk a (Bytes sectors)) reads its.0)

      reads_own : (work : MountWork) (reply : Reply) → IsReplyTo (pending k port) reply answer → slice_get deeds moment ≡ Some (deed_answered 0 epoch by answer (pending k port) reply) → ReadsOwn v SuperErrand work reply
      reads_own ReadsSuper (Bytes sectors) served at = super_own sectors served at
      reads_own work reply served at = tt

    errand_own : (port : ℕ) → port < anchors_in layout → (errand : Errand) → errand_at m.errands port ≡ errand → (work : MountWork) (reply : Reply) → IsReplyTo (pending k port) reply answer → slice_get deeds moment ≡ Some (deed_answered 0 epoch by answer (pending k port) reply)
        → ReadsOwn v errand work reply
    errand_own port low_port SuperErrand is work reply served at = reads_own port low_port is work reply served at
    errand_own port low_port errand is work reply served at = tt

    input_own : (input : Input) → CanTake m input → InputIsServed layout v pending k m answer input → slice_get deeds moment ≡ Some (deed_of 0 pending (port_event k m epoch by answer input)) → HearsOwn m input
    input_own (Begins call) can served at = tt
    input_own (Asks port) can served at = tt
    input_own (Hears port reply) can served at = λ other.
        let same = ap anchors_in (of k).lies.lies in
        let apart = eqb-false port (anchors_of m.position) other in
        let low_port : port < anchors_in layout = omega (arith, can.port_low, same, apart) in
        subst (λ (x : Extent). ReadsOwn x (errand_at m.errands port) m.task.work reply) (sym (of k).volume) (errand_own port low_port (errand_at m.errands port) refl m.task.work reply served at)

  abbrev AllWork : (ℕ → Life) → Type 0
  AllWork lives = (m : ℕ) → Works (lives m).mount.task.work

  told_works : (lives : ℕ → Life) (t : MountTold) → AllWork lives → HearsOwn (lives t.mount).mount t.input → AllWork (lived lives t)
  told_works lives t works own m =
      by_test (m == t.mount) (λ b. (let l = cond b (lives_on (lives m) t.input) (lives m) in Works l.mount.task.work))
      (λ same. input_works (lives m).mount t.input (works m) (subst (λ k. HearsOwn (lives k).mount t.input) (sym (eqb-true m t.mount same)) own))
      (λ other. works m)

  -- from a moment on
  abbrev AreFrom : (moment : ℕ) → List Deed → Type 0
  AreFrom moment rest = (k : ℕ) → slice_get deeds (moment + k) ≡ slice_get rest k

  next_from : (moment : ℕ) (deed : Deed) (rest : List Deed) → AreFrom moment (deed ∷ rest) → AreFrom (suc moment) rest
  next_from moment deed rest from k = let next : suc moment + k ≡ moment + suc k = omega arith in ap (slice_get deeds) next ∙ from (suc k)

  all_work : (hs : List Happening) (j : BallotJournal) (lives : ℕ → Life) (pending : Pending) (moment : ℕ) → AreFrom moment (deeds_from 0 pending (events_with lives hs)) → StandThrough layout v j lives (mounts_told hs) → AllOf layout v lives → AllOwe layout v lives pending → AllWork lives
      → CanComeFrom lives (mounts_told hs) → AreServedFrom layout v lives pending hs → (before after : List MountTold) → mounts_told hs ≡ before ++ after → AllWork (lives_from lives before)
  all_work hs j lives pending moment from stand of owe works can served [] after same = works
  all_work [] j lives pending moment from stand of owe works can served (t ∷ before) after same = absurd (cc)
  all_work (HandsOn m port epoch place ∷ hs) j lives pending moment from stand of owe works can served (t ∷ before) after same =
      all_work hs j lives pending (suc moment) (next_from moment (deed_handed 0 epoch place (pending m port)) (deeds_from 0 pending (events_with lives hs)) from) stand of owe works can served (t ∷ before) after same
  all_work (Brings t epoch by answer ∷ hs) j lives pending moment from stand of owe works can served (u ∷ before) after same =
      let l = lives t.mount in
      let low = can.0.number in
      let here : moment + 0 ≡ moment = omega arith in
      let is : t ≡ u = cc in
      let rest : mounts_told hs ≡ before ++ after = cc in
      let own = input_own j lives (stand 0) of pending owe t.mount low moment epoch by answer t.input can.0.takes served.0 (ap (slice_get deeds) (sym here) ∙ from 0) in
      let event = port_event t.mount l.mount epoch by answer t.input in
      let rest_of = deeds_from 0 (pending_after pending event) (events_with (lived lives t) hs) in
      subst (λ (x : MountTold). AllWork (lives_from (lived lives x) before)) is
      (all_work hs (journal_goes_on (journal_goes_on j (at_anchor l t.input)) (began l.mount (mount_after l.mount t.input))) (lived lives t) (pending_after pending event) (suc (suc moment))
      (next_from (suc moment) no_deed rest_of (next_from moment (deed_of 0 pending event) (no_deed ∷ rest_of) from)) (λ k. stand (suc k)) (told_of_all layout v lives t of)
      (told_owes layout v lives pending t epoch by answer (λ m small. ((stand 0).is m small).number) of owe) (told_works lives t works own) can.1 served.1 before after rest)

-- The work of every mount, whenever

pub never_fail : (layout : Layout) (v : Extent) (hs : List Happening) (groups : (chunk : ℕ) → ChunkGroups) → VolumeHasRoom layout v → IsVolume v → MountsAreServed layout v hs → AreRoutedChunks v groups (port_events layout v hs)
    → (before after : List MountTold) (m : ℕ) → mounts_told hs ≡ before ++ after → (lives layout v before m).mount.task.work ≢ Fails
never_fail layout v hs groups room volume are routed before after m same fails =
    subst Works fails
    (all_work layout v (deeds_on (port_events layout v hs) 0) (first_sector layout v hs groups room volume are routed) hs (new_journal_of layout) (all_opened layout v) nothing_pending 0 (λ k. ap (slice_get (deeds_on (port_events layout v hs) 0)) (zero-add k))
    (stand_through layout v (mounts_told hs) are.can_be) (opened_of layout v) (λ k a low low_a. tt) (λ k. first_works layout) are.can_be are.served before after same m)
