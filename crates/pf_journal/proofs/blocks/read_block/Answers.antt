use Rattle.std.proofs.Common.{rules, ◌≡◌, Some, None, sym, subst, ◌∙◌, ap}
use Rattle.std.proofs.lemmas.Bool.{iff_false}
use Rattle.pf_paxos.specs.declared.block.Block.{Block}
use Rattle.pf_paxos.specs.Blocks.{IsBlock}
use Rattle.pf_journal.specs.Sectors.{IsBlockSpelling, ReadsBlock, block_bytes}
use Rattle.pf_journal.proofs.BlockSpellings.{its_fields, past, told}
use Rattle.pf_journal.proofs.blocks.read_block.Goals as goal
use Rattle.pf_journal.proofs.blocks.read_block.Goals.{else-is_block-via-then-is_block+else-is_same, else-is_block-via-else-is_block}

pub returns-in_err-block : goal.returns-in_err-block
returns-in_err-block c =
    let reads : ReadsBlock c.args.sector.now c.from_residual.result = subst (ReadsBlock c.args.sector.now) (sym c.from_residual.ensures) (past c.args.sector.now c.in_err-block.ensures) in
    record { exact = reads; told = told c.args.sector.now c.from_residual.result reads }

pub returns-then-is_same-clause-told : goal.returns-then-is_same-clause-told
returns-then-is_same-clause-told c =
    let reads : IsBlockSpelling c.in_ok-block.block c.args.sector.now = search rules in
    told c.args.sector.now (Some c.in_ok-block.block) reads

pub returns-else-is_block : goal.returns-else-is_block
returns-else-is_block c =
    let none : (b : Block) → IsBlockSpelling b c.args.sector.now → ⊥ = (λ b s.
    let same : c.in_ok-block.block ≡ b = c.in_ok-block.ensures.0 ∙ its_fields b c.args.sector.now s in
    elim c.else-is_block.branch [
      | else-is_block-via-then-is_block+else-is_same w ↦ iff_false w.is_same.ensures w.if-is_same.false (sym (w.spell_block.ensures.bytes ∙ ap block_bytes same ∙ s.bytes))
      | else-is_block-via-else-is_block w ↦ iff_false c.is_block.ensures w.if-is_block.false (subst IsBlock (sym same) s.has.form)
    ]) in
    record { exact = none; told = told c.args.sector.now None none }
