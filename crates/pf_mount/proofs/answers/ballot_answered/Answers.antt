use Rattle.std.proofs.Common.{List, sym, subst}
use Rattle.pf_paxos.specs.declared.block.Block.{Block}
use Rattle.pf_paxos.specs.Standing.{AreBlocks}
use Rattle.pf_mount.proofs.answers.ballot_answered.Goals as goal

pub on_read-step-requires-clause-forms : goal.on_read-step-requires-clause-forms
on_read-step-requires-clause-forms c =
    let P : List Block → Type 0 = AreBlocks in
    subst P (sym c.deref.ensures.value) c.in_ok-blocks-in-Bytes.ensures.forms
