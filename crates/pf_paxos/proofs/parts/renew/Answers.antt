use Rattle.std.proofs.Common.{◌≡◌, ◌<◌, ◌++◌, List, drop, take, length, map, ap, ◌∙◌, arith}
use Rattle.std.proofs.lemmas.List.{length-map, length-take-le}
use lib.ListN.{set, get_or}
use Rattle.pf_paxos.specs.declared.parts.Part.{Part}
use Rattle.pf_paxos.specs.Parts.{phase_begun}
use Rattle.pf_paxos.proofs.BallotForms.{mapped_next, read_next}
use Rattle.pf_paxos.proofs.parts.renew.Goals as goal

pub loop-at-preserved : goal.loop-at-preserved
loop-at-preserved c =
    let xs = c.args.parts.now in
    let at = c.loop-at.at in
    let d = c.index-parts-at.result in
    let less : at < length xs = c.loop-at-test.true in
    let f = phase_begun c.args.own.now in
    let front = map f (take at xs) in
    let long : length front ≡ at = length-map (take at xs) f ∙ length-take-le at xs (omega (arith, less)) in
    let reads : get_or c.loop-at.parts at d ≡ get_or xs at d = ap (λ (parts : List Part). get_or parts at d) c.loop-at.invariant ∙ read_next front xs at d long less in
    ap (λ (parts : List Part). set parts at c.begun.result) c.loop-at.invariant
    ∙ ap (λ (part : Part). set (front ++ drop at xs) at part) (c.begun.ensures ∙ ap f reads)
    ∙ mapped_next f xs at d less
