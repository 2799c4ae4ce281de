-- Histories of one position over some anchors: sixteen mounts, each with its calls, and whoever else reads.
use Rattle.std.specs.Prelude.{ℕ, ◌==◌, nat_lt, if◌then◌else◌, List, [], ◌∷◌, length, Option, Some, None}
use Rattle.pf_paxos.specs.declared.block.Block.{Block}
use Rattle.pf_paxos.specs.Blocks.{zero_block}
use Rattle.pf_paxos.specs.Registers.{AsksWrite, AsksRead, Reply, Written, Gives}
use Rattle.pf_paxos.specs.Runs.{HasCall, after_events, idle_turn}
use Rattle.pf_paxos.specs.declared.parts.AnchorAsk.{AnchorAsk}
use Rattle.pf_paxos.specs.declared.parts.AnchorAsk.TheVariants.{OwnBlock, Half}
use Rattle.pf_paxos.specs.declared.parts.AnchorNext.{AnchorNext}
use Rattle.pf_paxos.specs.declared.parts.AnchorNext.TheVariants.{Write, Read, Idle}
use Rattle.pf_paxos.specs.declared.ballot.BallotStep.{BallotStep}
use Rattle.pf_paxos.specs.declared.ballot.BallotStep.TheVariants.{Go}
use Rattle.pf_paxos.specs.Parts.{part_at}
use Rattle.pf_paxos.specs.Ballots.{BallotIs, new_ballot, started, next_at_anchor, asked_next, written_at, read_at}
use Rattle.pf_paxos.specs.Quorums.{AnchorTurn}

-- a call that concerns an anchor
pub data Act : Type 0 where
  Asks : Act
  IsWritten : Act
  GetsRead : (blocks : List Block) → Act

pub data BallotCall : Type 0 where
  Starts : (above : ℕ) (input : Option (List ℕ)) → BallotCall
  At : (anchor : ℕ) (act : Act) → BallotCall

-- A mount is called, or something else happens at an anchor: a turn of a client from 16 on, as the read of a sync. A mount that is killed
-- has no further event.
pub data BallotEvent : Type 0 where
  Calls : (mount : ℕ) (call : BallotCall) → BallotEvent
  Otherwise : (turn : AnchorTurn) → BallotEvent

-- what a call does: what is answered and asked where, and what comes of it
pub record Move : Type 0 where
  pub ballot : BallotIs
  pub turn : AnchorTurn
  pub step : BallotStep

-- nothing is answered or asked anywhere
abbrev pub no_turn : AnchorTurn
no_turn = record { anchor = 0; turn = idle_turn }

abbrev pub turn_asking : (mount anchor : ℕ) → AnchorNext → AnchorTurn
turn_asking mount anchor (Write block) = record { anchor = anchor; turn = record { client = mount; reply = None; ask = Some (AsksWrite block) } }
turn_asking mount anchor (Read half) = record { anchor = anchor; turn = record { client = mount; reply = None; ask = Some (AsksRead half) } }
turn_asking mount anchor Idle = no_turn

abbrev pub anchor_turn_answered : (mount anchor : ℕ) → Reply → AnchorTurn
anchor_turn_answered mount anchor reply = record { anchor = anchor; turn = record { client = mount; reply = Some reply; ask = None } }

-- an answer must be one of what was asked
abbrev pub move_at : (mount anchor : ℕ) → BallotIs → Act → (asked : AnchorAsk) → Option Move
move_at mount anchor p Asks asked = Some (record { ballot = asked_next p anchor; turn = turn_asking mount anchor (next_at_anchor p anchor); step = Go })
move_at mount anchor p IsWritten OwnBlock = Some (record { ballot = written_at p anchor; turn = anchor_turn_answered mount anchor Written; step = Go })
move_at mount anchor p (GetsRead blocks) (Half half) = Some (record {
  ballot = (read_at p anchor blocks).ballot;
  turn = anchor_turn_answered mount anchor (Gives blocks);
  step = (read_at p anchor blocks).step;
})
move_at mount anchor p act asked = None

abbrev pub move_in : (mount : ℕ) → BallotIs → BallotCall → Option Move
move_in mount p (Starts above input) = Some (record { ballot = started p above input; turn = no_turn; step = Go })
move_in mount p (At anchor act) = if nat_lt anchor (length p.parts) then move_at mount anchor p act (part_at p.parts anchor).asked else None

-- what the mounts have
abbrev pub Mounts : Type 0
Mounts = ℕ → BallotIs

abbrev pub ballots_opening : (anchors quorum : ℕ) → Mounts
ballots_opening anchors quorum mount = new_ballot anchors quorum mount zero_block

abbrev pub ballot_move : Mounts → BallotEvent → Option Move
ballot_move ps (Calls mount call) = if nat_lt mount 16 then move_in mount (ps mount) call else None
ballot_move ps (Otherwise turn) = None

abbrev pub ballot_put : Mounts → (mount : ℕ) → Option Move → Mounts
ballot_put ps mount None k = ps k
ballot_put ps mount (Some move) k = if k == mount then move.ballot else ps k

abbrev pub ballots_after : Mounts → BallotEvent → Mounts
ballots_after ps (Calls mount call) = ballot_put ps mount (ballot_move ps (Calls mount call))
ballots_after ps (Otherwise turn) = ps

abbrev pub run_ballots : Mounts → List BallotEvent → Mounts
run_ballots = after_events ballots_after

abbrev pub turn_of_move : Option Move → AnchorTurn
turn_of_move None = no_turn
turn_of_move (Some move) = move.turn

-- what an event answers and asks. Only the mounts' own calls take turns of the mounts
abbrev pub ballot_turn : Mounts → BallotEvent → AnchorTurn
ballot_turn ps (Calls mount call) = turn_of_move (ballot_move ps (Calls mount call))
ballot_turn ps (Otherwise turn) = if nat_lt turn.turn.client 16 then no_turn else turn

abbrev pub history_from : Mounts → List BallotEvent → List AnchorTurn
history_from ps [] = []
history_from ps (e ∷ es) = ballot_turn ps e ∷ history_from (ballots_after ps e) es

-- what was answered and asked at so many anchors, where a ballot needs so many of them
abbrev pub anchor_history : (anchors quorum : ℕ) → List BallotEvent → List AnchorTurn
anchor_history anchors quorum events = history_from (ballots_opening anchors quorum) events

-- some mount began a ballot with this input
abbrev pub WasPutIn : List BallotEvent → List ℕ → Type 0
WasPutIn events value = HasCall (λ mount above. Calls mount (Starts above (Some value))) events
