use Rattle.std.proofs.Common.{◌≡◌, ◌-◌, ◌≤◌, ◌++◌, ◌∷◌, [], ℕ, List, length, arith, ap, ◌∙◌}
use Rattle.std.proofs.Math.ListN.{replicate}
use Rattle.pf_disk.proofs.Writes.{if_ok, grown_more, length-grown}
use Rattle.pf_disk.proofs.files.grow.Goals as goal

pub loop-preserved : goal.loop-preserved
loop-preserved c =
    let old = c.args.file.now.items in
    let past : length old ≤ c.loop.counter = omega (arith, c.args.file.now.ok, c.len-counter.ensures) in
    let size : length c.loop.file.items ≡ c.loop.counter =
    ap length c.loop.invariant.items ∙ length-grown old c.loop.counter ∙ omega arith in
    let ok = c.push.ensures.succeeds (omega (arith, size, c.loop.file.ok, c.loop.invariant.capacity, c.requires)) in
    record {
      items = if_ok c.push.result (c.loop.file.items ++ 0 ∷ []) c.loop.file.items _ ok c.push.ensures.items
          ∙ ap (λ (l : List ℕ). l ++ 0 ∷ []) c.loop.invariant.items ∙ grown_more old c.loop.counter past;
      capacity = omega (arith, c.loop.invariant.capacity, c.push.ensures.capacity);
      bound = omega arith;
    }

pub returns-clause-grown : goal.returns-clause-grown
returns-clause-grown c =
    let e : c.loop.counter - length c.args.file.now.items ≡ c.args.len - length c.args.file.now.items = omega (arith, c.args.file.now.ok, c.len-counter.ensures, c.loop.invariant.bound) in
    c.loop.invariant.items ∙ ap (λ (n : ℕ). c.args.file.now.items ++ replicate n 0) e
