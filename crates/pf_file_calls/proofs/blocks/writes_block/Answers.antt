use Rattle.std.proofs.Common.{ℕ, ◌*◌, subst, sym, ap, ◌∙◌, length, List}
use Rattle.pf_file_calls.specs.Blocks.{FitsIn}
use Rattle.pf_file_calls.proofs.BlockChunks.{block_fits}
use Rattle.pf_file_calls.proofs.Cut.{length_cut}
use Rattle.pf_file_calls.proofs.blocks.writes_block.Goals as goal

pub writes-requires : goal.writes-requires
writes-requires c =
    let P : ℕ → Type 0 = λ n. FitsIn c.args.volume.now (8 * c.args.block) n in
    subst P (sym (ap (λ (xs : List (List ℕ)). length xs) c.in_ok-sectors.ensures ∙ length_cut 8 c.args.bytes.now)) (block_fits c.args.volume.now c.args.block c.laws.ensures.form c.requires.block)
