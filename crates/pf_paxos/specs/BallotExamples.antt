-- A history over three anchors in which one never answers and a value is decided, and one in which a ballot has no value.
use Rattle.std.specs.Prelude.{ℕ, List, [], ◌∷◌, ◌++◌, Some, None}
use Rattle.pf_paxos.specs.declared.block.Block.{Block}
use Rattle.pf_paxos.specs.Blocks.{zero_block}
use Rattle.pf_paxos.specs.Examples.{half_with, zero_half, claim, proposal}
use Rattle.pf_paxos.specs.BallotRuns.{BallotEvent, Calls, Starts, At, Asks, IsWritten, GetsRead}

-- mount 1 does the part of an anchor in a phase: it writes this block there, and then reads both halves, in which no other block is written
abbrev pub part_done : (anchor : ℕ) → Block → List BallotEvent
part_done anchor block =
    Calls 1 (At anchor Asks)
    ∷ Calls 1 (At anchor IsWritten)
    ∷ Calls 1 (At anchor Asks)
    ∷ Calls 1 (At anchor (GetsRead (half_with block zero_block)))
    ∷ Calls 1 (At anchor Asks)
    ∷ Calls 1 (At anchor (GetsRead zero_half))
    ∷ []

-- Mount 1 begins ballot 17 with the input 7. Anchor 2 never answers its write. It decides by anchors 0 and 1.
abbrev pub silent_events : List BallotEvent
silent_events =
    Calls 1 (Starts 0 (Some (7 ∷ [])))
    ∷ Calls 1 (At 2 Asks)
    ∷ part_done 0 (claim 17)
    ++ part_done 1 (claim 17)
    ++ part_done 0 (proposal 17 (7 ∷ []))
    ++ part_done 1 (proposal 17 (7 ∷ []))

-- Mount 1 begins ballot 17 with no input, and finds no value on anchors 0 and 1.
abbrev pub empty_events : List BallotEvent
empty_events = Calls 1 (Starts 0 None) ∷ part_done 0 (claim 17) ++ part_done 1 (claim 17)
