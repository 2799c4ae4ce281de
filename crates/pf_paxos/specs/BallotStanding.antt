-- What is true of every ballot, and what its calls give besides the phase table.
use Rattle.std.specs.Prelude.{ℕ, ◌*◌, ◌<◌, ◌≤◌, List, length}
use Rattle.pf_paxos.specs.declared.block.Block.{Block}
use Rattle.pf_paxos.specs.Blocks.{IsBlock}
use Rattle.pf_paxos.specs.Standing.{IsInput, IsOutrunBy}
use Rattle.pf_paxos.specs.declared.parts.AnchorNext.{AnchorNext}
use Rattle.pf_paxos.specs.declared.parts.AnchorNext.TheVariants.{Write}
use Rattle.pf_paxos.specs.declared.parts.Part.{Part}
use Rattle.pf_paxos.specs.declared.ballot.BallotStep.{BallotStep}
use Rattle.pf_paxos.specs.declared.ballot.BallotStep.TheVariants.{Abort}
use Rattle.pf_paxos.specs.declared.ballot.Phase.{Phase}
use Rattle.pf_paxos.specs.declared.ballot.Phase.TheVariants.{Resting}
use Rattle.pf_paxos.specs.Parts.{part_at}
use Rattle.pf_paxos.specs.Ballots.{BallotIs}

abbrev pub IsRunning : Phase → Type 0
IsRunning Resting = ⊥
IsRunning _ = Unit {0}

-- what was read at each anchor has the form of a block
abbrev pub AreBests : List Part → Type 0
AreBests parts = (anchor : ℕ) → IsBlock (part_at parts anchor).best

-- any two quorums of so many anchors share one, and all of them are one
pub record IsQuorum (anchors quorum : ℕ) : Type 0 where
  pub enough : quorum ≤ anchors
  pub meets : anchors < 2 * quorum

pub record IsStanding (p : BallotIs) : Type 0 where
  pub mount : p.mount < 16
  pub own : IsBlock p.own
  pub quorum : IsQuorum (length p.parts) p.quorum
  pub bests : AreBests p.parts
  pub input : IsInput p.input
  pub ballot : IsRunning p.phase → 0 < p.own.mbal

-- what is to be written has the form of a block
abbrev pub IsAsk : AnchorNext → Type 0
IsAsk (Write b) = IsBlock b
IsAsk _ = Unit {0}

-- a ballot is aborted only where a block that was read has this greater mbal
abbrev pub AbortsByBlock : (ballot : ℕ) → List Block → BallotStep → Type 0
AbortsByBlock ballot blocks (Abort mbal) = IsOutrunBy ballot blocks mbal
AbortsByBlock ballot blocks _ = Unit {0}

-- no ballot is aborted
abbrev pub IsNoAbort : BallotStep → Type 0
IsNoAbort (Abort mbal) = ⊥
IsNoAbort _ = Unit {0}
