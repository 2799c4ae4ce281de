-- Where the positions of a journal lie in a volume, and what all of its positions are to the deeds.
use Rattle.std.specs.Prelude.{◌≡◌, ℕ, ◌+◌, ◌*◌, ◌/◌, ◌%◌, ◌<◌, ◌≤◌, List, length, Some, slice_get}
use Rattle.pf_entry.specs.Ops.{Sector}
use Rattle.pf_paxos.specs.declared.block.Block.{Block}
use Rattle.pf_paxos.specs.Runs.{idle_turn, proposer_turn}
use Rattle.pf_paxos.specs.Journals.{ProposerDoing, proposer_journal_before, proposer_event_at}
use Rattle.pf_law_positions.specs.Deeds.{Groups, Deed}
use Rattle.pf_law_positions.specs.Homes.{PositionHome, turn_in}
use Rattle.pf_law_positions.specs.Hosted.{IsHosted}

-- sector 0 of a volume is its superblock, and the blocks of the positions begin at sector 8
abbrev pub half_at : (position half : ℕ) → ℕ
half_at position half = 8 * (1 + 2 * position + half)

-- the sectors of a volume are numbered through its chunks, each of so many
abbrev pub home_of_position : (sectors position : ℕ) → PositionHome
home_of_position sectors position = record { chunk = λ half. half_at position half / sectors; first = λ half. half_at position half % sectors }

-- At each moment the doing of a journal of so many positions is, in each of these, the turn of the deed, and nobody's past them. (There
-- the sectors hold file data)
pub record IsSameJournal (read : Sector → Block) (sectors count : ℕ) (deeds : List Deed) (doings : List ProposerDoing) : Type 0 where
  pub as_many : length doings ≡ length deeds
  pub same : (position moment : ℕ) (doing : ProposerDoing) (deed : Deed) → position < count → slice_get doings moment ≡ Some doing
      → slice_get deeds moment ≡ Some deed → proposer_turn ((proposer_journal_before doings moment).proposers position)
      (proposer_event_at position (proposer_journal_before doings moment) doing) ≡ turn_in read (home_of_position sectors position) deed
  pub none : (position moment : ℕ) (doing : ProposerDoing) → count ≤ position → slice_get doings moment ≡ Some doing
      → proposer_turn ((proposer_journal_before doings moment).proposers position) (proposer_event_at position (proposer_journal_before doings moment) doing)
      ≡ idle_turn

-- the doings of a journal of so many positions are what the ports did, and each position lies in chunks
pub record IsHostedJournal (groups : Groups) (read : Sector → Block) (sectors count : ℕ) (deeds : List Deed) (doings : List ProposerDoing) : Type 0 where
  pub hosted : (position : ℕ) → position < count → IsHosted groups read (home_of_position sectors position) deeds
  pub same : IsSameJournal read sectors count deeds doings
