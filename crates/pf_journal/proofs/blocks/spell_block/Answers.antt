use Rattle.std.proofs.Common.{◌≡◌, ℕ, List, ◌+◌, ◌++◌, length, replicate, ap, ◌∙◌, arith}
use Rattle.std.specs.List.{splice}
use Rattle.pf_base.specs.Values.{zero_filled}
use Rattle.pf_journal.specs.Sectors.{head_bytes, block_bytes, block_in}
use Rattle.pf_journal.proofs.BlockSpellings.{filled, back}
use Rattle.pf_journal.proofs.blocks.spell_block.Goals as goal

pub returns-clause-bytes : goal.returns-clause-bytes
unfolding block_bytes head_bytes
returns-clause-bytes c =
    let head : List ℕ = c.spell_head-head.result in
    let value : List ℕ = c.as_slice-value.result.now in
    let count : length head ≡ 18 = ap length c.spell_head-head.ensures in
    let upto : 0 + length head ≡ 18 = omega (arith, count) in
    c.put-2.ensures
    ∙ ap (λ (xs : List ℕ). splice xs 18 (18 + length value) value) (c.put.ensures ∙ ap (λ (n : ℕ). splice (replicate 512 0) 0 n head) upto)
    ∙ filled head value count
    ∙ ap (λ (xs : List ℕ). zero_filled 512 (xs ++ value)) c.spell_head-head.ensures
    ∙ ap (λ (xs : List ℕ). zero_filled 512 (head_bytes c.args.block.now ++ xs)) c.as_slice-value.ensures.value

pub returns-clause-read : goal.returns-clause-read
returns-clause-read c =
    ap block_in (returns-clause-bytes c) ∙ back c.args.block.now (record { form = c.requires; few = c.as_slice-value.ensures.few })
