-- The phase table of a ballot over some anchors, of which it needs a quorum: what each call makes of a mount's part, and what comes of it.
use Rattle.std.specs.Prelude.{◌≡◌, ℕ, ◌⊎◌, Bool, ◌==◌, nat_lt, nat_le, max, if◌then◌else◌, List, replicate, Option, None, Some}
use Rattle.pf_paxos.specs.declared.block.Block.{Block}
use Rattle.pf_paxos.specs.Blocks.{ballot_after, greatest_mbal}
use Rattle.pf_paxos.specs.Proposers.{value_of}
use Rattle.pf_paxos.specs.declared.parts.AnchorAsk.TheVariants.{Nothing}
use Rattle.pf_paxos.specs.declared.parts.AnchorNext.{AnchorNext}
use Rattle.pf_paxos.specs.declared.parts.AnchorNext.TheVariants.{Idle}
use Rattle.pf_paxos.specs.declared.parts.Stage.TheVariants.{Done}
use Rattle.pf_paxos.specs.declared.parts.Part.{Part}
use Rattle.pf_paxos.specs.declared.ballot.BallotStep.{BallotStep}
use Rattle.pf_paxos.specs.declared.ballot.BallotStep.TheVariants.{Go, Abort, NoValue, Decided}
use Rattle.pf_paxos.specs.declared.ballot.Phase.{Phase}
use Rattle.pf_paxos.specs.declared.ballot.Phase.TheVariants.{Resting, Claiming, Proposing}
use Rattle.pf_paxos.specs.Parts.{fresh, part_at, with_part, renewed, next_where, part_takes, part_freed, part_written, part_advanced, parts_done, best_done}

pub record BallotIs : Type 0 where
  pub mount : ℕ
  pub own : Block  -- what it writes. While a ballot runs, its mbal is the ballot
  pub input : Option (List ℕ)
  pub quorum : ℕ  -- so many of the anchors a phase needs
  pub phase : Phase
  pub parts : List Part  -- one for each anchor

-- what an answered read makes of it, and what comes of it
pub record BallotOutcome : Type 0 where
  pub ballot : BallotIs
  pub step : BallotStep

-- no ballot runs
abbrev pub new_ballot : (anchors quorum mount : ℕ) → (own : Block) → BallotIs
new_ballot anchors quorum mount own = record { mount = mount; own = own; input = None; quorum = quorum; phase = Resting; parts = replicate anchors (fresh own) }

-- in this phase from its beginning, with this own block
abbrev pub in_phase : BallotIs → Phase → (own : Block) → BallotIs
in_phase p phase own = record { mount = p.mount; own = own; input = p.input; quorum = p.quorum; phase = phase; parts = renewed p.parts own }

-- the block that claims the next ballot: the least of the mount above the number and above the own mbal
abbrev pub ballot_claim : BallotIs → (above : ℕ) → Block
ballot_claim p above = record p.own { mbal = ballot_after p.mount (max above p.own.mbal) }

abbrev pub started : BallotIs → (above : ℕ) → (input : Option (List ℕ)) → BallotIs
started p above input = in_phase (record p { input = input }) Claiming (ballot_claim p above)

-- what is to be asked at an anchor
abbrev pub next_in_phase : Phase → Part → (own : Block) → AnchorNext
next_in_phase Resting part own = Idle
next_in_phase _ part own = next_where part.asked part.stage own

abbrev pub next_at_anchor : BallotIs → (anchor : ℕ) → AnchorNext
next_at_anchor p anchor = next_in_phase p.phase (part_at p.parts anchor) p.own

-- no ballot runs, or the anchor has done its part or has an ask that is not answered
abbrev pub AnchorIsIdle : BallotIs → (anchor : ℕ) → Type 0
AnchorIsIdle p anchor = (p.phase ≡ Resting) ⊎ (((part_at p.parts anchor).stage ≡ Done) ⊎ ((part_at p.parts anchor).asked ≡ Nothing → ⊥))

abbrev pub asked_next : BallotIs → (anchor : ℕ) → BallotIs
asked_next p anchor = record p { parts = with_part p.parts anchor (part_takes (part_at p.parts anchor) (next_at_anchor p anchor)) }

abbrev pub written_at : BallotIs → (anchor : ℕ) → BallotIs
written_at p anchor = record p { parts = with_part p.parts anchor (part_written (part_at p.parts anchor)) }

-- a phase ends when a quorum of anchors have done their part
abbrev pub is_phase_over : (quorum : ℕ) → List Part → Bool
is_phase_over quorum parts = nat_le quorum (parts_done parts)

-- the ballot ends
abbrev pub ballot_ended : BallotIs → BallotStep → BallotOutcome
ballot_ended p step = record { ballot = in_phase p Resting p.own; step = step }

-- phase 2 writes the value of the greatest nonzero bal, else the own input
abbrev pub proposal_of : BallotIs → (best : Block) → Block
proposal_of p best = record { mbal = p.own.mbal; bal = p.own.mbal; value = value_of best p.input }

abbrev pub ballot_proposed : BallotIs → (best : Block) → BallotOutcome
ballot_proposed p best = record { ballot = in_phase p Proposing (proposal_of p best); step = Go }

-- where there is neither, the ballot ends
abbrev pub chosen : Option (List ℕ) → BallotIs → (best : Block) → BallotOutcome
chosen None p best = if best.bal == 0 then ballot_ended p NoValue else ballot_proposed p best
chosen (Some input) p best = ballot_proposed p best

abbrev pub phase_ended : Phase → BallotIs → BallotOutcome
phase_ended Claiming p = chosen p.input p (best_done p.parts p.own)
phase_ended Proposing p = ballot_ended p (Decided p.own.value)
phase_ended Resting p = record { ballot = p; step = Go }

abbrev pub passed : BallotIs → BallotOutcome
passed p = if is_phase_over p.quorum p.parts then phase_ended p.phase p else record { ballot = p; step = Go }

-- a greater mbal ends the ballot
abbrev pub read_in_time : BallotIs → (anchor : ℕ) → List Block → BallotOutcome
read_in_time p anchor blocks =
    if nat_lt p.own.mbal (greatest_mbal blocks)
    then ballot_ended (record p { parts = with_part p.parts anchor (part_freed (part_at p.parts anchor)) }) (Abort (greatest_mbal blocks))
    else passed (record p { parts = with_part p.parts anchor (part_advanced (part_at p.parts anchor) blocks) })

abbrev pub read_at : BallotIs → (anchor : ℕ) → List Block → BallotOutcome
read_at p anchor blocks =
    if (part_at p.parts anchor).is_late
    then record { ballot = record p { parts = with_part p.parts anchor (part_freed (part_at p.parts anchor)) }; step = Go }
    else read_in_time p anchor blocks
