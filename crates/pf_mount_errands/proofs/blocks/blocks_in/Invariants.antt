use Rattle.std.proofs.Common.{◌≡◌, map, take}
use Rattle.pf_journal.specs.Sectors.{block_in}
use Rattle.pf_mount_errands.proofs.blocks.blocks_in.Given as goal

abbrev pub invariant-loop-sector : goal.invariant-loop-sector
invariant-loop-sector l = l.blocks.items ≡ map block_in (take l.sector-index l.sectors)
