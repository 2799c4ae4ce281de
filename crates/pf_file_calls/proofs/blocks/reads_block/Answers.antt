use Rattle.pf_file_calls.proofs.BlockChunks.{block_fits}
use Rattle.pf_file_calls.proofs.blocks.reads_block.Goals as goal

pub reads-requires : goal.reads-requires
reads-requires c = block_fits c.args.volume.now c.args.block c.laws.ensures.form c.requires
