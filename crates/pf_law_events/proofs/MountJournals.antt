-- Mounts that stand in a journal, all along what is told of them.
use Rattle.std.proofs.Common.{◌≡◌, ◌≢◌, ℕ, zero, suc, ◌<◌, List, [], ◌∷◌, Some, None, take}
use Rattle.pf_base.specs.declared.asks.Reply.{Reply}
use Rattle.pf_volume.specs.Volumes.{Extent}
use Rattle.pf_paxos.specs.BallotRuns.{At, Calls, anchor_turn_answered, ballot_turn}
use Rattle.pf_journal.specs.declared.layouts.Layout.{Layout}
use Rattle.pf_law_lists.specs.Journals.{BallotJournal, journal_from}
use Rattle.pf_mount.specs.Standing.{AnswersPort}
use Rattle.pf_law_calls.specs.Doings.{act_of, doings_from, new_journal_of, reply_of}
use Rattle.pf_law_calls.specs.Lives.{CanBe, CanComeFrom, Life, OfBallot, MountTold, all_opened, lived, lives_from}
use Rattle.pf_law_calls.proofs.Layouts.{anchors_in}
use Rattle.pf_law_calls.proofs.Journals.{IsLived, is_lived}
use Rattle.pf_law_calls.proofs.AnchorTurns.{answer_turns, what_waits}

-- each mount is one of the journal. Where an answer is awaited something waits, and where it is of a ballot, it is a turn of its position
pub record Stands (layout : Layout) (v : Extent) (j : BallotJournal) (lives : ℕ → Life) : Type 0 where
  pub is : (m : ℕ) → m < 16 → IsLived layout v j m (lives m)
  pub waits : (m a : ℕ) (reply : Reply) → m < 16 → a < anchors_in layout → AnswersPort (lives m).mount a reply → (lives m).waits a ≢ None
  pub turns : (m a u : ℕ) (reply : Reply) → m < 16 → a < anchors_in layout → AnswersPort (lives m).mount a reply → (lives m).waits a ≡ Some (OfBallot u) → ballot_turn (j.mounts u) (Calls m (At a (act_of reply))) ≡ anchor_turn_answered m a (reply_of reply)

-- now, and after each input
abbrev pub StandThrough : Layout → Extent → BallotJournal → (ℕ → Life) → List MountTold → Type 0
StandThrough layout v j lives told = (k : ℕ) → Stands layout v (journal_from j (doings_from lives (take k told))) (lives_from lives (take k told))

can_take : (told : List MountTold) (lives : ℕ → Life) (k : ℕ) → CanComeFrom lives told → CanComeFrom lives (take k told)
can_take [] lives zero can = tt
can_take [] lives (suc k) can = tt
can_take (t ∷ told) lives zero can = tt
can_take (t ∷ told) lives (suc k) can = (can.0, can_take told (lived lives t) k can.1)

pub stand_through : (layout : Layout) (v : Extent) (told : List MountTold) → CanBe layout v told → StandThrough layout v (new_journal_of layout) (all_opened layout v) told
stand_through layout v told can k =
    let now = take k told in
    let its : CanBe layout v now = can_take told (all_opened layout v) k can in record {
      is = λ m low. is_lived layout v now m its low;
      waits = λ m a reply low low_a answers. what_waits layout v now m its low a low_a reply answers;
      turns = λ m a u reply low low_a answers waits. answer_turns layout v now m its low a low_a reply answers u waits;
    }
