-- A ballot over one anchor beside a proposer.
use Rattle.std.specs.Prelude.{◌≡◌, ◌<◌, ◌≤◌, ◌⊎◌, Bool, false, List, [], ◌∷◌, Option, Some, None}
use Rattle.pf_paxos.specs.declared.block.Block.{Block}
use Rattle.pf_paxos.specs.Blocks.{greatest_mbal, best_of}
use Rattle.pf_paxos.specs.declared.proposer.Next.{Next}
use Rattle.pf_paxos.specs.declared.proposer.Next.TheVariants.{Write as asks_write, Read as asks_read, Abort as is_aborted, Decided as is_decided}
use Rattle.pf_paxos.specs.declared.proposer.ProposerPhase.{ProposerPhase as Place}
use Rattle.pf_paxos.specs.declared.proposer.ProposerPhase.TheVariants.{Idle as NoBallot, Claiming as ClaimWrites, GatheringLow, GatheringHigh, Proposing as ProposalWrites, ConfirmingLow, ConfirmingHigh}
use Rattle.pf_paxos.specs.Proposers.{ProposerIs, ProposerOutcome as Made}
use Rattle.pf_paxos.specs.declared.parts.AnchorAsk.TheVariants.{Nothing, OwnBlock, Half}
use Rattle.pf_paxos.specs.declared.parts.AnchorNext.{AnchorNext}
use Rattle.pf_paxos.specs.declared.parts.AnchorNext.TheVariants.{Write, Read, Idle}
use Rattle.pf_paxos.specs.declared.parts.Stage.{Stage}
use Rattle.pf_paxos.specs.declared.parts.Stage.TheVariants.{Writes, ReadsLow, ReadsHigh}
use Rattle.pf_paxos.specs.declared.parts.Part.{Part}
use Rattle.pf_paxos.specs.declared.ballot.BallotStep.{BallotStep}
use Rattle.pf_paxos.specs.declared.ballot.BallotStep.TheVariants.{Go, Abort, NoValue, Decided}
use Rattle.pf_paxos.specs.declared.ballot.Phase.{Phase}
use Rattle.pf_paxos.specs.declared.ballot.Phase.TheVariants.{Resting, Claiming, Proposing}
use Rattle.pf_paxos.specs.Ballots.{BallotIs, BallotOutcome, asked_next, next_at_anchor}

-- the own block and what was read of greater bals
abbrev pub IsBest : (own best : Block) → Type 0
IsBest own best = (best ≡ own) ⊎ (own.bal < best.bal)

-- A ballot whose ask is not answered stands where a proposer does, by the phase and by what the part of its anchor waits for. Phase 2 has no
-- need of the best block of phase 1, which the proposer keeps.
pub data PartStands : Place → Phase → (best : Block) → Part → (own : Block) → Type 0 where
  Rests : (best own other : Block) (stage : Stage) (late : Bool) → PartStands NoBallot Resting best
      (record { stage = stage; asked = Nothing; is_late = late; best = other }) own
  Claims : (best own : Block) → IsBest own best → PartStands ClaimWrites Claiming best
      (record { stage = Writes; asked = OwnBlock; is_late = false; best = best }) own
  GathersLow : (best own : Block) → IsBest own best → PartStands GatheringLow Claiming best
      (record { stage = ReadsLow; asked = Half 0; is_late = false; best = best }) own
  GathersHigh : (best own : Block) → IsBest own best → PartStands GatheringHigh Claiming best
      (record { stage = ReadsHigh; asked = Half 1; is_late = false; best = best }) own
  Proposes : (best own other : Block) → PartStands ProposalWrites Proposing best (record { stage = Writes; asked = OwnBlock; is_late = false; best = other })
      own
  ConfirmsLow : (best own other : Block) → PartStands ConfirmingLow Proposing best (record { stage = ReadsLow; asked = Half 0; is_late = false; best = other })
      own
  ConfirmsHigh : (best own other : Block) → PartStands ConfirmingHigh Proposing best
      (record { stage = ReadsHigh; asked = Half 1; is_late = false; best = other }) own

-- the ballot of a proposer's mount, with this part of the one anchor
abbrev pub beside : ProposerIs → Phase → Part → BallotIs
beside p phase part = record { mount = p.mount; own = p.own; input = p.input; quorum = 1; phase = phase; parts = part ∷ [] }

pub record BallotFollows (b : BallotIs) (p : ProposerIs) : Type 0 where
  pub phase : Phase
  pub part : Part
  pub is : b ≡ beside p phase part
  pub stands : PartStands p.phase phase p.best part p.own

-- what comes next: the step that ended the ballot, else the next ask. Nothing where phase 1 ended with neither an own input nor a nonzero bal
abbrev pub anchor_asks_next : AnchorNext → Option Next
anchor_asks_next (Write block) = Some (asks_write block)
anchor_asks_next (Read half) = Some (asks_read half)
anchor_asks_next Idle = None

abbrev pub told_next : BallotStep → AnchorNext → Option Next
told_next Go next = anchor_asks_next next
told_next (Abort mbal) next = Some (is_aborted mbal)
told_next NoValue next = None
told_next (Decided value) next = Some (is_decided value)

-- a call and the next ask make of the ballot what the proposer's call makes of that, and what comes next is the same
pub record Matches (o : BallotOutcome) (made : Made) : Type 0 where
  pub follows : BallotFollows (asked_next o.ballot 0) made.proposer
  pub tells : told_next o.step (next_at_anchor o.ballot 0) ≡ Some made.next

-- phase 1 ends with these blocks, and neither they, the blocks read before nor the own one have a nonzero bal, nor is there an own input
pub record LacksValue (p : ProposerIs) (blocks : List Block) : Type 0 where
  pub last : p.phase ≡ GatheringHigh
  pub input : p.input ≡ None
  pub none : (best_of p.best blocks).bal ≡ 0
  pub on_time : greatest_mbal blocks ≤ p.own.mbal

-- then the ballot ends, and none runs
pub record EndsWithNoValue (o : BallotOutcome) : Type 0 where
  pub step : o.step ≡ NoValue
  pub rests : o.ballot.phase ≡ Resting
