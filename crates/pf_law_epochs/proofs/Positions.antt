-- A position whose blocks lie in chunks that move is hosted.
use Rattle.std.proofs.Common.{◌≡◌, ℕ, ◌+◌, ◌*◌, ◌/◌, ◌%◌, ◌<◌, ◌≤◌, inl, inr, List, arith, sym, ap, subst, ◌∙◌}
use Rattle.std.proofs.lemmas.Bool.{cases_lt}
use Rattle.pf_entry.specs.Ops.{Sector}
use Rattle.pf_protocol.specs.Groups.{Answered}
use Rattle.pf_law_registers.specs.Firsts.{IsPorts}
use Rattle.pf_law_registers.specs.Orders.{given}
use Rattle.pf_paxos.specs.declared.block.Block.{Block}
use Rattle.pf_paxos.specs.Deciding.{Decides}
use Rattle.pf_paxos.specs.Journals.{ProposerDoing, AreAllRegisters}
use Rattle.pf_paxos.specs.Registers.{AreRegisters}
use Rattle.pf_paxos.specs.Runs.{ProposerEvent, turns_of}
use Rattle.pf_law_positions.specs.Deeds.{Groups, Deed}
use Rattle.pf_law_positions.specs.Homes.{PositionHome, chunk_of_block, sector_of, turns_in}
use Rattle.pf_law_positions.specs.Hosted.{AreAlone, IsHosted}
use Rattle.pf_law_positions.specs.Moves.{mover_into, ChunkIsMoved}
use Rattle.pf_law_positions.specs.Volumes.{home_of_position}
use Rattle.pf_law_positions.proofs.CopiedBlocks.{registers}
use Rattle.pf_law_positions.proofs.Volumes.{journal, one_value}
use Rattle.pf_law_epochs.specs.Positions.{IsRoutedPosition, IsRoutedJournal}

module _ (groups : Groups) (read : Sector → Block) (home : PositionHome) (deeds : List Deed) (p : IsRoutedPosition groups read home deeds) where
  -- the mover's last reads of the half
  record Last (half : ℕ) : Type 0 where
    read_at : ℕ → Answered
    moved : (epoch : ℕ) → half < 2 → epoch < groups.moves (home.chunk half) → ChunkIsMoved groups deeds (home.chunk half) (home.first half) epoch (read_at epoch)

  last_of : (half : ℕ) → Last half
  last_of half = elim (cases_lt half 2) [
    | inl low ↦ record {
      read_at = λ epoch. (p.routed half low).last epoch;
      moved = λ epoch is lt. subst (λ first. ChunkIsMoved groups deeds (home.chunk half) first epoch ((p.routed half low).last epoch)) (sym (p.at_piece half low)) ((p.routed half low).moved epoch lt);
    }
    | inr high ↦ record { read_at = λ epoch. (p.routed 0 (omega arith)).last epoch; moved = λ epoch is lt. absurd (omega (arith, is, high)) }
  ]

  its_own : (block epoch : ℕ) → block < 16 → epoch ≤ groups.moves (chunk_of_block home block) → AreAlone (groups.history (chunk_of_block home block) epoch) (mover_into groups (chunk_of_block home block) epoch) (groups.writes (chunk_of_block home block) epoch block) (sector_of home block)
  its_own block epoch low le before server op answer bytes made took gives =
      let half_low : block / 8 < 2 = omega (arith, low) in
      let sector : sector_of home block ≡ 8 * p.piece (block / 8) + block % 8 = ap (λ first. first + block % 8) (p.at_piece (block / 8) half_low) in
      elim ((p.routed (block / 8) half_low).of_ports epoch (block % 8) le (omega arith) before server op answer bytes made took (ap (given op) (sym sector) ∙ gives)) [
        | inl movers ↦ inl movers
        | inr (client, q) ↦
            let same = p.own block epoch client q.k q.submission bytes low le q.there (ap (λ o. given o (sector_of home block)) q.has_op ∙ gives) in
            inr (subst (λ n. IsPorts (groups.writes (chunk_of_block home block) epoch n) before server op answer) same q)
      ]

  hosted : IsHosted groups read home deeds
  hosted = record {
    zeros = p.zeros;
    legal = λ half epoch low le. (p.routed half low).legal epoch le;
    inside = λ half epoch low le. omega (arith, (p.routed half low).inside epoch le, p.at_piece half low);
    fits = λ half low. (p.routed half low).fits;
    alone = its_own;
    last = λ half epoch. (last_of half).read_at epoch;
    moved = λ half epoch low lt. (last_of half).moved epoch low lt;
  }

pub position_hosted : (groups : Groups) (read : Sector → Block) (home : PositionHome) (deeds : List Deed) → IsRoutedPosition groups read home deeds → IsHosted groups read home deeds
position_hosted groups read home deeds p = hosted groups read home deeds p

pub position_registers : (groups : Groups) (read : Sector → Block) (home : PositionHome) (deeds : List Deed) → IsRoutedPosition groups read home deeds → AreRegisters (turns_in read home deeds)
position_registers groups read home deeds p = registers groups read home deeds (hosted groups read home deeds p)

pub position_value : (groups : Groups) (read : Sector → Block) (home : PositionHome) (deeds : List Deed) (events : List ProposerEvent) → IsRoutedPosition groups read home deeds → turns_of events ≡ turns_in read home deeds → (a b : ℕ) (v w : List ℕ) → Decides (turns_in read home deeds) a v → Decides (turns_in read home deeds) b w → v ≡ w
position_value groups read home deeds events p same = one_value groups read home deeds events (hosted groups read home deeds p) same

pub routed_journal : (groups : Groups) (read : Sector → Block) (sectors count : ℕ) (deeds : List Deed) (doings : List ProposerDoing) → IsRoutedJournal groups read sectors count deeds doings → AreAllRegisters doings
routed_journal groups read sectors count deeds doings j =
    journal groups read sectors count deeds doings (record { hosted = λ position lt. hosted groups read (home_of_position sectors position) deeds (j.routed position lt); same = j.same })
