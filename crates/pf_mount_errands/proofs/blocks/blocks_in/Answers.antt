use Rattle.std.proofs.Common.{◌≡◌, List, map, sym, subst, arith}
use Rattle.std.proofs.lemmas.Grind.{common_steps}
use Rattle.pf_paxos.specs.declared.block.Block.{Block}
use Rattle.pf_paxos.specs.Standing.{AreBlocks}
use Rattle.pf_journal.specs.Sectors.{block_in}
use Rattle.pf_mount_errands.proofs.Forms.{are_blocks}
use Rattle.pf_mount_errands.proofs.blocks.blocks_in.Goals as goal

pub returns-clause-forms : goal.returns-clause-forms
returns-clause-forms c =
    let P : List Block → Type 0 = AreBlocks in
    let is : c.loop-sector.blocks.items ≡ map block_in c.args.sectors.now = grind (arith, common_steps) in
    subst P (sym is) (are_blocks c.spelled_blocks_are_read.ensures.form c.args.sectors.now)
