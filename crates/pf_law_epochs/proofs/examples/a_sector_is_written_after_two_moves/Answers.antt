use Rattle.std.proofs.Common.{refl}
use Rattle.pf_paxos.specs.Blocks.{zero_block}
use Rattle.pf_law_epochs.proofs.WorkedChunks.{writes_after_moves}
use Rattle.pf_law_epochs.proofs.examples.a_sector_is_written_after_two_moves.Goals as goal

pub returns : goal.returns
returns c = λ first is.
    writes_after_moves first (c.reads_show_the_write_of_the_new_leader.ensures first is)
    (c.a_mount_writes_its_block.ensures.hosted first (λ bytes. zero_block) is refl)
    (c.a_half_is_read_after_a_move.ensures.hosted (λ bytes. zero_block) refl)
