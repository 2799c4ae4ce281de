use Rattle.std.proofs.Common.{◌≡◌, ◌-◌, ◌∙◌, List, ℕ, ap, arith, drop, length, length-drop, replicate, sym, take}
use Rattle.std.proofs.lemmas.Bool.Decides.{Decides-eqb}
use Rattle.std.proofs.lemmas.List.{take_all}
use Rattle.std.proofs.lemmas.Slice.Eq.{slice_eq-Decides}
use Rattle.pf_text.proofs.Stretches.{in_block}
use Rattle.pf_text.proofs.put.is_block.Goals as goal

pub returns-in-Some : goal.returns-in-Some
returns-in-Some c = λ is k low.
    let bytes = c.args.bytes.now in
    let at = c.args.at in
    let rest : take (length bytes - at) (drop at bytes) ≡ drop at bytes = take_all _ _ (omega (arith, length-drop at bytes)) in
    let same : c.in-Some.block.now ≡ replicate 64 c.args.byte = (slice_eq-Decides Decides-eqb _ _ _ c.eq.ensures).0 is in
    in_block 64 bytes at c.args.byte (ap (λ (ys : List ℕ). take 64 ys) (sym rest) ∙ sym c.in-Some.ensures.cases.same ∙ same) k low
