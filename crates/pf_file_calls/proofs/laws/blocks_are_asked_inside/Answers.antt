use Rattle.std.proofs.Common.{◌*◌, ℕ, subst, sym, refl, arith}
use Rattle.pf_file_calls.specs.Blocks.{FitsIn, sectors_of}
use Rattle.pf_file_calls.proofs.Cut.{length_cut}
use Rattle.pf_file_calls.proofs.BlockChunks.{block_fits, run_inside}
use Rattle.pf_file_calls.proofs.laws.blocks_are_asked_inside.Goals as goal

pub returns-clause-reads : goal.returns-clause-reads
returns-clause-reads c = λ v block is low.
    let fits = block_fits v block is low in
    let r = run_inside v (8 * block) 8 is fits in
    record { valid = r.0; chunk = c.places_are_apart.ensures.chunk v (8 * block) is (omega (arith, low)); sectors = r.1 }

pub returns-clause-writes : goal.returns-clause-writes
returns-clause-writes c = λ v block bytes is low.
    let sectors = sectors_of 8 bytes in
    let eight = length_cut 8 bytes in
    let P : ℕ → Type 0 = λ n. FitsIn v (8 * block) n in
    let fits = subst P (sym eight) (block_fits v block is low) in
    let r = run_inside v (8 * block) _ is fits in
    record { valid = (r.0, refl); chunk = c.places_are_apart.ensures.chunk v (8 * block) is (omega (arith, low)); sectors = r.1 }
