-- The moves of a mount, one by one.
use Rattle.std.proofs.Common.{◌≡◌, ℕ, ◌<◌, ◌≤◌, Bool, true, false, cond, nat_lt, ◌==◌, List, length, Option, Some, None, arith, refl, subst}
use Rattle.std.proofs.lemmas.Bool.{ltb-true, ltb-false}
use Rattle.std.proofs.lemmas.Option.{same_Some}
use Rattle.pf_paxos.specs.declared.block.Block.{Block}
use Rattle.pf_paxos.specs.Blocks.{greatest_mbal}
use Rattle.pf_paxos.specs.Registers.{Written, Gives}
use Rattle.pf_paxos.specs.declared.parts.AnchorAsk.{AnchorAsk}
use Rattle.pf_paxos.specs.declared.parts.AnchorAsk.TheVariants.{OwnBlock, Half}
use Rattle.pf_paxos.specs.declared.ballot.BallotStep.TheVariants.{Go, Abort, NoValue, Decided}
use Rattle.pf_paxos.specs.declared.ballot.Phase.{Phase}
use Rattle.pf_paxos.specs.declared.ballot.Phase.TheVariants.{Resting, Claiming, Proposing}
use Rattle.pf_paxos.specs.Parts.{part_at, with_part, part_freed, part_advanced, best_done}
use Rattle.pf_paxos.specs.Ballots.{BallotIs, BallotOutcome, started, asked_next, next_at_anchor, written_at, is_phase_over, ballot_ended, ballot_proposed, chosen, phase_ended, passed, read_in_time, read_at}
use Rattle.pf_paxos.specs.BallotRuns.{BallotCall, Starts, At, Act, Asks, IsWritten, GetsRead, Move, move_at, move_in, no_turn, turn_asking, anchor_turn_answered}

-- the part of this anchor changed alone
abbrev pub freed_at : BallotIs → ℕ → BallotIs
freed_at p a = record p { parts = with_part p.parts a (part_freed (part_at p.parts a)) }

abbrev pub advanced_at : BallotIs → ℕ → List Block → BallotIs
advanced_at p a blocks = record p { parts = with_part p.parts a (part_advanced (part_at p.parts a) blocks) }

-- what an answered read does
pub data IsReading (p : BallotIs) (a : ℕ) (blocks : List Block) : BallotOutcome → Type 0 where
  Late : (part_at p.parts a).is_late ≡ true → IsReading p a blocks (record { ballot = freed_at p a; step = Go })
  Aborts : (part_at p.parts a).is_late ≡ false → IsReading p a blocks (ballot_ended (freed_at p a) (Abort (greatest_mbal blocks)))
  Goes : (part_at p.parts a).is_late ≡ false → greatest_mbal blocks ≤ p.own.mbal → IsReading p a blocks (record { ballot = advanced_at p a blocks; step = Go })
  Proposes : (part_at p.parts a).is_late ≡ false → greatest_mbal blocks ≤ p.own.mbal → is_phase_over p.quorum (advanced_at p a blocks).parts ≡ true → p.phase ≡ Claiming → IsReading p a blocks (ballot_proposed (advanced_at p a blocks) (best_done (advanced_at p a blocks).parts p.own))
  Lacks : (part_at p.parts a).is_late ≡ false → IsReading p a blocks (ballot_ended (advanced_at p a blocks) NoValue)
  Decides : (part_at p.parts a).is_late ≡ false → greatest_mbal blocks ≤ p.own.mbal → is_phase_over p.quorum (advanced_at p a blocks).parts ≡ true → p.phase ≡ Proposing → IsReading p a blocks (ballot_ended (advanced_at p a blocks) (Decided p.own.value))

module _ (p : BallotIs) (a : ℕ) (blocks : List Block) (on_time : (part_at p.parts a).is_late ≡ false) where
  by_choice : (low : greatest_mbal blocks ≤ p.own.mbal) → is_phase_over p.quorum (advanced_at p a blocks).parts ≡ true → p.phase ≡ Claiming → (i : Option (List ℕ)) → IsReading p a blocks (chosen i (advanced_at p a blocks) (best_done (advanced_at p a blocks).parts p.own))
  by_choice low over is (Some v) = Proposes on_time low over is
  by_choice low over is None = by ((best_done (advanced_at p a blocks).parts p.own).bal == 0)
    where
      by : (b : Bool) → IsReading p a blocks (cond b (ballot_ended (advanced_at p a blocks) NoValue) (ballot_proposed (advanced_at p a blocks) (best_done (advanced_at p a blocks).parts p.own)))
      by true = Lacks on_time
      by false = Proposes on_time low over is

  by_phase : (low : greatest_mbal blocks ≤ p.own.mbal) → is_phase_over p.quorum (advanced_at p a blocks).parts ≡ true → (ph : Phase) → p.phase ≡ ph → IsReading p a blocks (phase_ended ph (advanced_at p a blocks))
  by_phase low over Resting is = Goes on_time low
  by_phase low over Claiming is = by_choice low over is p.input
  by_phase low over Proposing is = Decides on_time low over is

  by_count : (low : greatest_mbal blocks ≤ p.own.mbal) → IsReading p a blocks (passed (advanced_at p a blocks))
  by_count low = by (is_phase_over p.quorum (advanced_at p a blocks).parts) refl
    where
      by : (b : Bool) → is_phase_over p.quorum (advanced_at p a blocks).parts ≡ b → IsReading p a blocks (cond b (phase_ended p.phase (advanced_at p a blocks)) (record { ballot = advanced_at p a blocks; step = Go }))
      by true over = by_phase low over p.phase refl
      by false over = Goes on_time low

  by_mbal : IsReading p a blocks (read_in_time p a blocks)
  by_mbal = by (nat_lt p.own.mbal (greatest_mbal blocks)) refl
    where
      by : (b : Bool) → nat_lt p.own.mbal (greatest_mbal blocks) ≡ b → IsReading p a blocks (cond b (ballot_ended (freed_at p a) (Abort (greatest_mbal blocks))) (passed (advanced_at p a blocks)))
      by true is = Aborts on_time
      by false is = by_count (ltb-false p.own.mbal (greatest_mbal blocks) is)

pub is_reading : (p : BallotIs) (a : ℕ) (blocks : List Block) → IsReading p a blocks (read_at p a blocks)
is_reading p a blocks = by (part_at p.parts a).is_late refl
  where
    by : (b : Bool) → (part_at p.parts a).is_late ≡ b → IsReading p a blocks (cond b (record { ballot = freed_at p a; step = Go }) (read_in_time p a blocks))
    by true is = Late is
    by false is = by_mbal p a blocks is

pub data IsStep (m : ℕ) (p : BallotIs) : Move → Type 0 where
  ByStart : (above : ℕ) (input : Option (List ℕ)) → IsStep m p (record { ballot = started p above input; turn = no_turn; step = Go })
  ByAsk : (a : ℕ) → a < length p.parts → IsStep m p (record { ballot = asked_next p a; turn = turn_asking m a (next_at_anchor p a); step = Go })
  ByWritten : (a : ℕ) → a < length p.parts → (part_at p.parts a).asked ≡ OwnBlock → IsStep m p (record { ballot = written_at p a; turn = anchor_turn_answered m a Written; step = Go })
  ByRead : (a : ℕ) → a < length p.parts → (half : ℕ) → (part_at p.parts a).asked ≡ Half half → (blocks : List Block) → (o : BallotOutcome) → IsReading p a blocks o → IsStep m p (record { ballot = o.ballot; turn = anchor_turn_answered m a (Gives blocks); step = o.step })

at_anchor : (m : ℕ) (p : BallotIs) (a : ℕ) → a < length p.parts → (act : Act) (asked : AnchorAsk) (move : Move) → (part_at p.parts a).asked ≡ asked → move_at m a p act asked ≡ Some move → IsStep m p move
at_anchor m p a low Asks asked move is same = subst (IsStep m p) (same_Some _ _ same) (ByAsk a low)
at_anchor m p a low IsWritten OwnBlock move is same = subst (IsStep m p) (same_Some _ _ same) (ByWritten a low is)
at_anchor m p a low (GetsRead blocks) (Half half) move is same = subst (IsStep m p) (same_Some _ _ same) (ByRead a low half is blocks (read_at p a blocks) (is_reading p a blocks))
at_anchor m p a low act asked move is same = absurd (grind (arith, same))

pub is_step : (m : ℕ) (p : BallotIs) (call : BallotCall) (move : Move) → move_in m p call ≡ Some move → IsStep m p move
is_step m p (Starts above input) move same = subst (IsStep m p) (same_Some _ _ same) (ByStart above input)
is_step m p (At a act) move same = by (nat_lt a (length p.parts)) refl same
  where
    by : (b : Bool) → nat_lt a (length p.parts) ≡ b → cond b (move_at m a p act (part_at p.parts a).asked) None ≡ Some move → IsStep m p move
    by true low is = at_anchor m p a (ltb-true a (length p.parts) low) act (part_at p.parts a).asked move refl is
    by false high is = absurd (grind (arith, is))
