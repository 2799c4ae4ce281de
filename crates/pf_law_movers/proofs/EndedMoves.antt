-- Moves of a chunk that have ended, in any run: by what it was carried, and the last read of each of its pieces.
use Rattle.std.proofs.Common.{◌≡◌, ℕ, suc, ◌<◌, ◌≤◌, List, ◌++◌, arith}
use Rattle.pf_protocol.specs.Groups.{Answered}
use Rattle.pf_law_positions.specs.Deeds.{Groups}
use Rattle.pf_law_movers.specs.pf_chunk.specs.Runs.{ChunkRun}
use Rattle.pf_volume.specs.Volumes.{Extent, IsVolume}
use Rattle.pf_law_movers.specs.pf_world_moments.specs.Moments.{Moment}
use Rattle.pf_law_movers.specs.Epochs.{epoch_of}
use Rattle.pf_law_movers.proofs.MovePieces.{last}
use Rattle.pf_law_movers.proofs.OfMoves.{AreGroupsOf, HasGroup, IsOfMoves, begun_first, group_in}
use Rattle.pf_law_movers.proofs.MoverCalls.{IsEnded, is_ended}

module _ (v : Extent) (chunks : List ChunkRun) (whole : List Moment) (run : IsOfMoves v chunks whole) (volume : IsVolume v) (told rest : List Moment) (part : whole ≡ told ++ rest) (upto : ℕ → ℕ) (groups : Groups)
    (are : AreGroupsOf v chunks told upto groups) where
  abbrev group_of : (chunk e : ℕ) → chunk < v.chunks → e ≤ epoch_of told chunk → HasGroup chunks told chunk e
  group_of chunk e small low = group_in v chunks whole run.moves told rest part chunk e small low

  abbrev pub move_of : (chunk e : ℕ) (small : chunk < v.chunks) → e < epoch_of told chunk → IsEnded v.chunks chunk small told e
  move_of chunk e small ended = is_ended v.chunks chunk small told (begun_first v chunks whole run.moves told rest part) e ended

  -- A move that has ended

  module _ (chunk e : ℕ) (small : chunk < v.chunks) (ended : e < epoch_of told chunk) where
    abbrev old : HasGroup chunks told chunk e
    old = group_of chunk e small (omega (arith, ended))

    abbrev new : HasGroup chunks told chunk (suc e)
    new = group_of chunk (suc e) small (omega (arith, ended))

    abbrev move : IsEnded v.chunks chunk small told e
    move = move_of chunk e small ended

    -- the mover's last read of each piece
    abbrev pub last_of : ℕ → Answered
    last_of = last v chunks whole run volume told rest part upto groups are chunk e small old.k new.k old.c new.c old.at new.at old.there new.there move.turns move.at move.switched
