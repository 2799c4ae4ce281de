-- A mount at a position of the journal, whose layout it knows: its ballots over the anchors there, and how long it pauses after one that was aborted.
use Rattle.std.specs.Prelude.{◌≡◌, ℕ, pred, ◌+◌, ◌*◌, ◌^◌, Bool, nat_lt, max, min, if◌then◌else◌, List, length, Option}
use Rattle.pf_paxos.specs.declared.block.Block.{Block}
use Rattle.pf_paxos.specs.Blocks.{zero_block, ballot_after, greatest_mbal}
use Rattle.pf_paxos.specs.Rivals.{RivalsAre}
use Rattle.pf_paxos.specs.Parts.{part_at}
use Rattle.pf_journal.specs.declared.layouts.Layout.{Layout}
use Rattle.pf_journal.specs.Layouts.{LayoutIs, layout_of}
use Rattle.pf_paxos.specs.Ballots.{BallotIs, new_ballot, started, asked_next, written_at, read_at}

pub record PositionIs : Type 0 where
  pub layout : Layout
  pub ballot : BallotIs
  pub rivals : RivalsAre

abbrev pub journal_of : PositionIs → LayoutIs
journal_of p = layout_of p.layout

abbrev pub anchors_of : PositionIs → ℕ
anchors_of p = length (journal_of p).anchors

-- its ballots are over the anchors of its layout
abbrev pub IsOverAnchors : PositionIs → Type 0
IsOverAnchors p = length p.ballot.parts ≡ anchors_of p

-- nothing was read here yet
abbrev pub new_position : Layout → (mount : ℕ) → PositionIs
new_position layout mount = record {
  layout = layout;
  ballot = new_ballot (length (layout_of layout).anchors) (layout_of layout).quorum mount zero_block;
  rivals = record { seen = 0; aborts = 0 };
}

-- it has read these blocks
abbrev pub having_seen : PositionIs → List Block → PositionIs
having_seen p blocks = record p { rivals = record p.rivals { seen = max p.rivals.seen (greatest_mbal blocks) } }

abbrev pub having_aborted : PositionIs → PositionIs
having_aborted p = record p { rivals = record p.rivals { aborts = min 16 (p.rivals.aborts + 1) } }

-- the reads of a pause after an abort but for the first
abbrev pub rest_of_pause : (mount : ℕ) → PositionIs → ℕ
rest_of_pause mount p = pred (8 * p.rivals.aborts * (mount + 1))

-- there is a ballot left above all that was seen
abbrev pub can_start : PositionIs → Bool
can_start p = nat_lt (ballot_after p.ballot.mount (max p.rivals.seen p.ballot.own.mbal)) (2 ^ 62)

abbrev pub starting_ballot : PositionIs → (input : Option (List ℕ)) → PositionIs
starting_ballot p input = record p { ballot = started p.ballot p.rivals.seen input }

-- the ballot's next ask at an anchor is handed out, its write there is answered
abbrev pub having_asked : PositionIs → (anchor : ℕ) → PositionIs
having_asked p anchor = record p { ballot = asked_next p.ballot anchor }

abbrev pub having_written : PositionIs → (anchor : ℕ) → PositionIs
having_written p anchor = record p { ballot = written_at p.ballot anchor }

-- its read there is answered. Blocks of an earlier phase are not seen
abbrev pub having_read : PositionIs → (anchor : ℕ) → List Block → PositionIs
having_read p anchor blocks =
    let after = record p { ballot = (read_at p.ballot anchor blocks).ballot } in
    if (part_at p.ballot.parts anchor).is_late then after else having_seen after blocks
