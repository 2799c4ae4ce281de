-- The moves of a mount at an anchor, with what an answered read finds.
use Rattle.std.proofs.Common.{◌≡◌, ℕ, ◌<◌, Bool, true, false, cond, nat_lt, List, length, Some, None, refl, subst}
use Rattle.std.proofs.lemmas.Bool.{ltb-true}
use Rattle.std.proofs.lemmas.Option.{none-some, same_Some}
use Rattle.pf_paxos.specs.declared.block.Block.{Block}
use Rattle.pf_paxos.specs.Blocks.{greatest_mbal}
use Rattle.pf_paxos.specs.Registers.{Written, Gives}
use Rattle.pf_paxos.specs.declared.parts.AnchorAsk.{AnchorAsk}
use Rattle.pf_paxos.specs.declared.parts.AnchorAsk.TheVariants.{OwnBlock, Half}
use Rattle.pf_paxos.specs.declared.ballot.BallotStep.TheVariants.{Go, Abort}
use Rattle.pf_paxos.specs.Parts.{part_at}
use Rattle.pf_paxos.specs.Ballots.{BallotIs, BallotOutcome, asked_next, ballot_ended, is_phase_over, next_at_anchor, passed, phase_ended, read_at, read_in_time, written_at}
use Rattle.pf_paxos.specs.BallotRuns.{Act, Asks, At, GetsRead, IsWritten, Move, move_at, move_in, anchor_turn_answered, turn_asking}
use Rattle.pf_paxos.proofs.BallotSteps.{advanced_at, freed_at}

-- an answered read is late, or finds a greater mbal, or leaves too few anchors done, or ends the phase
pub data ReadsAs (p : BallotIs) (a : ℕ) (blocks : List Block) : BallotOutcome → Type 0 where
  IsLate : (part_at p.parts a).is_late ≡ true → ReadsAs p a blocks (record { ballot = freed_at p a; step = Go })
  IsOutrun : (part_at p.parts a).is_late ≡ false → p.own.mbal < greatest_mbal blocks → ReadsAs p a blocks (ballot_ended (freed_at p a) (Abort (greatest_mbal blocks)))
  GoesOn : (part_at p.parts a).is_late ≡ false → is_phase_over p.quorum (advanced_at p a blocks).parts ≡ false → ReadsAs p a blocks (record { ballot = advanced_at p a blocks; step = Go })
  EndsPhase : (part_at p.parts a).is_late ≡ false → ReadsAs p a blocks (phase_ended p.phase (advanced_at p a blocks))

module _ (p : BallotIs) (a : ℕ) (blocks : List Block) where
  by_count : (part_at p.parts a).is_late ≡ false → (b : Bool) → is_phase_over p.quorum (advanced_at p a blocks).parts ≡ b → ReadsAs p a blocks (cond b (phase_ended p.phase (advanced_at p a blocks)) (record { ballot = advanced_at p a blocks; step = Go }))
  by_count on_time true is = EndsPhase on_time
  by_count on_time false is = GoesOn on_time is

  by_mbal : (part_at p.parts a).is_late ≡ false → (b : Bool) → nat_lt p.own.mbal (greatest_mbal blocks) ≡ b → ReadsAs p a blocks (cond b (ballot_ended (freed_at p a) (Abort (greatest_mbal blocks))) (passed (advanced_at p a blocks)))
  by_mbal on_time true is = IsOutrun on_time (ltb-true p.own.mbal (greatest_mbal blocks) is)
  by_mbal on_time false is = by_count on_time (is_phase_over p.quorum (advanced_at p a blocks).parts) refl

  by_time : (b : Bool) → (part_at p.parts a).is_late ≡ b → ReadsAs p a blocks (cond b (record { ballot = freed_at p a; step = Go }) (read_in_time p a blocks))
  by_time true is = IsLate is
  by_time false is = by_mbal is (nat_lt p.own.mbal (greatest_mbal blocks)) refl

  pub reads_as : ReadsAs p a blocks (read_at p a blocks)
  reads_as = by_time (part_at p.parts a).is_late refl

-- a call that concerns an anchor
pub data ActsAs (m : ℕ) (p : BallotIs) : Move → Type 0 where
  AsksAt : (a : ℕ) → a < length p.parts → ActsAs m p (record { ballot = asked_next p a; turn = turn_asking m a (next_at_anchor p a); step = Go })
  WrittenAt : (a : ℕ) → a < length p.parts → (part_at p.parts a).asked ≡ OwnBlock → ActsAs m p (record { ballot = written_at p a; turn = anchor_turn_answered m a Written; step = Go })
  ReadAt : (a : ℕ) → a < length p.parts → (half : ℕ) → (part_at p.parts a).asked ≡ Half half → (blocks : List Block) → (o : BallotOutcome) → ReadsAs p a blocks o → ActsAs m p (record { ballot = o.ballot; turn = anchor_turn_answered m a (Gives blocks); step = o.step })

at_anchor : (m : ℕ) (p : BallotIs) (a : ℕ) → a < length p.parts → (act : Act) (asked : AnchorAsk) (move : Move) → (part_at p.parts a).asked ≡ asked → move_at m a p act asked ≡ Some move → ActsAs m p move
at_anchor m p a low Asks asked move is same = subst (ActsAs m p) (same_Some _ _ same) (AsksAt a low)
at_anchor m p a low IsWritten OwnBlock move is same = subst (ActsAs m p) (same_Some _ _ same) (WrittenAt a low is)
at_anchor m p a low (GetsRead blocks) (Half half) move is same = subst (ActsAs m p) (same_Some _ _ same) (ReadAt a low half is blocks (read_at p a blocks) (reads_as p a blocks))
at_anchor m p a low act asked move is same = absurd (none-some move same)

pub acts_as : (m : ℕ) (p : BallotIs) (a : ℕ) (act : Act) (move : Move) → move_in m p (At a act) ≡ Some move → ActsAs m p move
acts_as m p a act move same = by (nat_lt a (length p.parts)) refl same
  where
    by : (b : Bool) → nat_lt a (length p.parts) ≡ b → cond b (move_at m a p act (part_at p.parts a).asked) None ≡ Some move → ActsAs m p move
    by true low is = at_anchor m p a (ltb-true a (length p.parts) low) act (part_at p.parts a).asked move refl is
    by false high is = absurd (none-some move is)
