-- What a mount hears at an anchor is a turn of the journal.
use Rattle.std.proofs.Common.{◌≡◌, ◌≢◌, ℕ, zero, suc, ◌<◌, nat_lt, List, [], ◌∷◌, length, Option, Some, None, arith, refl, sym, ap, subst, ◌∙◌}
use Rattle.std.proofs.lemmas.Bool.{cond-true, lt-ltb}
use Rattle.pf_base.specs.declared.asks.Reply.{Reply}
use Rattle.pf_base.specs.declared.asks.Reply.TheVariants.{Written, Bytes}
use Rattle.pf_volume.specs.Volumes.{Extent}
use Rattle.pf_paxos.specs.declared.parts.AnchorAsk.{AnchorAsk}
use Rattle.pf_paxos.specs.declared.parts.AnchorAsk.TheVariants.{Nothing, OwnBlock, Half}
use Rattle.pf_paxos.specs.declared.parts.Part.{Part}
use Rattle.pf_paxos.specs.Parts.{part_at}
use Rattle.pf_paxos.specs.Ballots.{BallotIs}
use Rattle.pf_paxos.specs.BallotRuns.{At, Calls, Mounts, move_at, move_in, anchor_turn_answered, ballot_turn, turn_of_move}
use Rattle.pf_law_lists.specs.Journals.{BallotJournal}
use Rattle.pf_journal.specs.declared.layouts.Layout.{Layout}
use Rattle.pf_mount_errands.specs.declared.errands.Errand.{Errand}
use Rattle.pf_mount_errands.specs.declared.errands.Errand.TheVariants.{Free, FillsSuper, OfSync as SyncErrand, OfPause as PauseErrand, OfSuper as SuperErrand, LateWrite, LateRead}
use Rattle.pf_mount_errands.specs.Errands.{errand_at}
use Rattle.pf_mount.specs.Standing.{AnswersPort, AnswersBallot, AnswersErrand, HasSectors}
use Rattle.pf_law_calls.specs.Doings.{act_of, journal_after, reply_of}
use Rattle.pf_law_calls.specs.Lives.{CanBe, Life, OfBallot, MountTold, Waiting, lives}
use Rattle.pf_law_calls.proofs.MountsInJournals.{asked_in}
use Rattle.pf_law_calls.proofs.Layouts.{anchors_in}
use Rattle.pf_law_calls.proofs.MountLives.{IsMountIn}
use Rattle.pf_law_calls.proofs.AnchorPending.{IsLate, IsOwed, WaitsAs}
use Rattle.pf_law_calls.proofs.Journals.{IsLived, is_lived}

-- there is an anchor where something is asked
asked_low : (parts : List Part) (a : ℕ) (reply : Reply) → AnswersBallot (part_at parts a).asked reply → a < length parts
asked_low [] a reply answers = absurd answers
asked_low (x ∷ parts) zero reply answers = omega arith
asked_low (x ∷ parts) (suc a) reply answers = let less : a < length parts = asked_low parts a reply answers in omega (arith, less)

-- the answer to what a ballot asked
module _ (m a : ℕ) (low : m < 16) (ps : Mounts) where
  acts : (p : BallotIs) (next : AnchorAsk) (reply : Reply) → AnswersBallot next reply → turn_of_move (move_at m a p (act_of reply) next) ≡ anchor_turn_answered m a (reply_of reply)
  acts p OwnBlock Written answers = refl
  acts p OwnBlock (Bytes sectors) answers = absurd answers
  acts p (Half half) Written answers = absurd answers
  acts p (Half half) (Bytes sectors) answers = refl
  acts p Nothing reply answers = absurd answers

  ballot_turns : (reply : Reply) → AnswersBallot (part_at (ps m).parts a).asked reply → ballot_turn ps (Calls m (At a (act_of reply))) ≡ anchor_turn_answered m a (reply_of reply)
  ballot_turns reply answers =
      ap turn_of_move
      (cond-true (nat_lt m 16) (move_in m (ps m) (At a (act_of reply))) None (lt-ltb m 16 low)
      ∙ cond-true (nat_lt a (length (ps m).parts)) (move_at m a (ps m) (act_of reply) (part_at (ps m).parts a).asked) None (lt-ltb a (length (ps m).parts) (asked_low (ps m).parts a reply answers)))
      ∙ acts (ps m) (part_at (ps m).parts a).asked reply answers

-- an errand of earlier work is answered as the ballot's ask
late_answers : (errand : Errand) (next asked : AnchorAsk) (reply : Reply) → IsLate errand next → AnswersErrand errand asked reply → AnswersBallot next reply
late_answers LateWrite OwnBlock asked reply late answers = answers
late_answers (LateRead count) (Half half) asked reply late answers = subst (λ (k : ℕ). HasSectors k reply) late answers
late_answers LateWrite (Half half) asked reply late answers = absurd late
late_answers LateWrite Nothing asked reply late answers = absurd late
late_answers (LateRead count) OwnBlock asked reply late answers = absurd late
late_answers (LateRead count) Nothing asked reply late answers = absurd late
late_answers Free next asked reply late answers = absurd late
late_answers SyncErrand next asked reply late answers = absurd late
late_answers PauseErrand next asked reply late answers = absurd late
late_answers SuperErrand next asked reply late answers = absurd late
late_answers FillsSuper next asked reply late answers = absurd late

-- where an answer is awaited something waits, and where it is of a ballot, this was asked at its position
module _ (upto : ℕ) (old : ℕ → AnchorAsk) (reply : Reply) where
  owed_waits : (errand : Errand) → IsOwed upto errand None old → ⊥
  owed_waits errand owed = owed

  something_waits : (errand : Errand) (asked : AnchorAsk) (w : Option Waiting) → AnswersErrand errand asked reply → WaitsAs upto errand asked w old → w ≢ None
  something_waits Free OwnBlock w answers waits none = absurd (cc)
  something_waits Free (Half half) w answers waits none = absurd (cc)
  something_waits Free Nothing w answers waits none = absurd answers
  something_waits SyncErrand asked w answers waits none = owed_waits SyncErrand (subst (λ (x : Option Waiting). IsOwed upto SyncErrand x old) none waits.1)
  something_waits PauseErrand asked w answers waits none = owed_waits PauseErrand (subst (λ (x : Option Waiting). IsOwed upto PauseErrand x old) none waits.1)
  something_waits SuperErrand asked w answers waits none = owed_waits SuperErrand (subst (λ (x : Option Waiting). IsOwed upto SuperErrand x old) none waits.1)
  something_waits FillsSuper asked w answers waits none = owed_waits FillsSuper (subst (λ (x : Option Waiting). IsOwed upto FillsSuper x old) none waits.1)
  something_waits LateWrite asked w answers waits none = owed_waits LateWrite (subst (λ (x : Option Waiting). IsOwed upto LateWrite x old) none waits.1)
  something_waits (LateRead count) asked w answers waits none = owed_waits (LateRead count) (subst (λ (x : Option Waiting). IsOwed upto (LateRead count) x old) none waits.1)

  owed_asked : (errand : Errand) (asked : AnchorAsk) (w : Option Waiting) (q : ℕ) → AnswersErrand errand asked reply → IsOwed upto errand w old → w ≡ Some (OfBallot q) → AnswersBallot (old q) reply
  owed_asked errand asked w q answers owed is =
      let late : IsOwed upto errand (Some (OfBallot q)) old = subst (λ (x : Option Waiting). IsOwed upto errand x old) is owed in
      late_answers errand (old q) asked reply late.1 answers

  here_asked : (asked : AnchorAsk) (w : Option Waiting) (q : ℕ) → old upto ≡ asked → AnswersBallot asked reply → w ≡ Some (OfBallot upto) → w ≡ Some (OfBallot q) → AnswersBallot (old q) reply
  here_asked asked w q here answers own is =
      let same : upto ≡ q = cc in
      subst (λ (k : ℕ). AnswersBallot (old k) reply) same (subst (λ (n : AnchorAsk). AnswersBallot n reply) (sym here) answers)

  was_asked : (errand : Errand) (asked : AnchorAsk) (w : Option Waiting) (q : ℕ) → old upto ≡ asked → AnswersErrand errand asked reply → WaitsAs upto errand asked w old → w ≡ Some (OfBallot q) → AnswersBallot (old q) reply
  was_asked Free OwnBlock w q here answers waits is = here_asked OwnBlock w q here answers waits is
  was_asked Free (Half half) w q here answers waits is = here_asked (Half half) w q here answers waits is
  was_asked Free Nothing w q here answers waits is = absurd answers
  was_asked SyncErrand asked w q here answers waits is = owed_asked SyncErrand asked w q answers waits.1 is
  was_asked PauseErrand asked w q here answers waits is = owed_asked PauseErrand asked w q answers waits.1 is
  was_asked SuperErrand asked w q here answers waits is = owed_asked SuperErrand asked w q answers waits.1 is
  was_asked FillsSuper asked w q here answers waits is = owed_asked FillsSuper asked w q answers waits.1 is
  was_asked LateWrite asked w q here answers waits is = owed_asked LateWrite asked w q answers waits.1 is
  was_asked (LateRead count) asked w q here answers waits is = owed_asked (LateRead count) asked w q answers waits.1 is

module _ {layout : Layout} (j : BallotJournal) (m : ℕ) (low : m < 16) (l : Life) (lies : l.mount.position.layout ≡ layout) (is : IsMountIn layout j m l.mount l.waits l.decided) (a : ℕ) (low_a : a < anchors_in layout) (reply : Reply) (answers : AnswersPort l.mount a reply) where
  answers_there : AnswersErrand (errand_at l.mount.errands a) (part_at l.mount.position.ballot.parts a).asked reply
  answers_there = let same = ap anchors_in lies in answers.anchor (omega (arith, low_a, same))

  waits_there : l.waits a ≢ None
  waits_there = something_waits l.mount.upto (asked_in j m a) reply (errand_at l.mount.errands a) (part_at l.mount.position.ballot.parts a).asked (l.waits a) answers_there (is.waits_are a low_a)

  turns_there : (q : ℕ) → l.waits a ≡ Some (OfBallot q) → ballot_turn (j.mounts q) (Calls m (At a (act_of reply))) ≡ anchor_turn_answered m a (reply_of reply)
  turns_there q waits =
      ballot_turns m a low (j.mounts q) reply
      (was_asked l.mount.upto (asked_in j m a) reply (errand_at l.mount.errands a) (part_at l.mount.position.ballot.parts a).asked (l.waits a) q
      (ap (λ (p : BallotIs). (part_at p.parts a).asked) is.follows.here) answers_there (is.waits_are a low_a) waits)

module _ (layout : Layout) (v : Extent) (told : List MountTold) (m : ℕ) (can : CanBe layout v told) (low : m < 16) (a : ℕ) (low_a : a < anchors_in layout) (reply : Reply) (answers : AnswersPort (lives layout v told m).mount a reply) where
  abbrev its : IsLived layout v (journal_after layout v told) m (lives layout v told m)
  its = is_lived layout v told m can low

  pub what_waits : (lives layout v told m).waits a ≢ None
  what_waits = waits_there (journal_after layout v told) m low (lives layout v told m) its.lies.lies its.mount a low_a reply answers

  pub answer_turns : (q : ℕ) → (lives layout v told m).waits a ≡ Some (OfBallot q) → ballot_turn ((journal_after layout v told).mounts q) (Calls m (At a (act_of reply))) ≡ anchor_turn_answered m a (reply_of reply)
  answer_turns q waits = turns_there (journal_after layout v told) m low (lives layout v told m) its.lies.lies its.mount a low_a reply answers q waits
